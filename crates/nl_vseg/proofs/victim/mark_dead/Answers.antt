use Rattle.std.proofs.Common.{rules, ◌≡◌, ◌*◌, ◌/◌, ◌<◌, length, sym, ◌∙◌, subst, arith}
use Rattle.std.proofs.lemmas.Nat.{div_below}
use Rattle.nl_blocks.specs.declared.states.PageState.TheVariants.{Dead}
use Rattle.nl_vseg.specs.Copying.{SameStates}
use Rattle.nl_vseg.proofs.Marks.{marked_states, states_then}
use Rattle.nl_vseg.proofs.victim.mark_dead.Goals as goal

pub loop-page-preserved : goal.loop-page-preserved
loop-page-preserved c =
    let i = c.loop-page.invariant in
    let n = i.states.same.numbers in
    let old = c.loop-page.blocks in
    let first = c.args.blocks.now in
    let counted : c.count.result * c.pages.result ≡ length first.blocks * first.size = λ j. c.count.ensures.value j * c.pages.ensures j in
    let below : c.loop-page.page < length first.blocks * first.size = omega (arith, counted, c.loop-page-test.true) in
    let some : 0 < old.size = subst (λ k. 0 < k) (sym n.same_size) c.count.ensures.table.some in
    let within : c.loop-page.page / old.size < length old.blocks = div_below c.loop-page.page old.size (length old.blocks) some (subst (λ k. c.loop-page.page < k) (λ j. sym n.same_count j * sym n.same_size j) below) in
    record {
      states = states_then i.states (subst (SameStates old) (sym c.mark_dead.ensures) (marked_states old c.loop-page.page Dead (n.same_first ∙ c.requires) within));
      rows = search rules;
      dead = search rules;
    }
