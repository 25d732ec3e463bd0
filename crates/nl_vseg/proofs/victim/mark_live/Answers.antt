use Rattle.std.proofs.lemmas.Bool.{cases_eq}
use Rattle.std.proofs.Common.{◌≡◌, inl, inr, ap, ◌≤◌, ℕ, ◌+◌, ◌*◌, ◌<◌, None, IfSome, length, take, cond, sym, ◌∙◌, subst, arith}
use Rattle.std.proofs.lemmas.List.{get_or_read}
use Rattle.nl_blocks.specs.Table.{block_at, dead_count}
use Rattle.nl_blocks.proofs.TableProofs.{row_size}
use Rattle.nl_vseg.specs.Places.{place_of}
use Rattle.nl_vseg.specs.Copying.{is_in, mapped_in}
use Rattle.nl_vseg.proofs.Blocks.{has_block}
use Rattle.nl_vseg.proofs.Marks.{states_same, states_then, block_dead, mapped_more, place_below, page_in_bound}
use Rattle.nl_vseg.proofs.Places.{named_within}
use Rattle.nl_vseg.proofs.victim.mark_live.Goals as goal

pub loop-v-init : goal.loop-v-init
loop-v-init c =
    let t = c.args.blocks.now in
    let rows = λ (block : ℕ) (within : block < length t.blocks). row_size t c.count.ensures.table block (has_block t block c.requires.first within) in
    record {
      states = states_same t;
      rows = rows;
      counted = λ block within.
          let all = block_dead t block (rows block within) (λ k less. c.requires.pages (block * t.size + k) (page_in_bound block (length t.blocks) t.size k within less)) in
          omega (arith, all);
      live = λ u place less named. absurd (omega (arith, less));
    }

pub mark_place-requires-clause-first : goal.mark_place-requires-clause-first
mark_place-requires-clause-first c = c.loop-v.invariant.states.same.numbers.same_first ∙ c.requires.first

pub mark_place-requires-clause-some : goal.mark_place-requires-clause-some
mark_place-requires-clause-some c = subst (λ n. 0 < n) (sym c.loop-v.invariant.states.same.numbers.same_size) c.count.ensures.table.some

pub mark_place-requires-clause-rows : goal.mark_place-requires-clause-rows
mark_place-requires-clause-rows c block within =
    let n = c.loop-v.invariant.states.same.numbers in
    c.loop-v.invariant.rows block (subst (λ k. block < k) n.same_count within) ∙ sym n.same_size

pub mark_place-requires-clause-below : goal.mark_place-requires-clause-below
mark_place-requires-clause-below c =
    let n = c.loop-v.invariant.states.same.numbers in
    let within : c.loop-v.v < length c.args.places.now.items = omega (arith, c.loop-v-test.true, c.len-v-end.ensures) in
    subst (λ k. IfSome c.index.result.now (λ p. p.page < k)) (λ i. sym n.same_count i * sym n.same_size i)
    (place_below c.args.places.now.items c.loop-v.v (length c.args.blocks.now.blocks * c.args.blocks.now.size) c.index.result.now
    (sym (get_or_read c.args.places.now.items c.loop-v.v c.index.result.now within c.index.ensures None)) c.requires.below)

pub loop-v-preserved : goal.loop-v-preserved
loop-v-preserved c =
    let i = c.loop-v.invariant in
    let n = i.states.same.numbers in
    let e = c.mark_place.ensures in
    let within : c.loop-v.v < length c.args.places.now.items = omega (arith, c.loop-v-test.true, c.len-v-end.ensures) in
    let named : place_of c.args.places.now.items c.loop-v.v ≡ c.index.result.now = sym (get_or_read c.args.places.now.items c.loop-v.v c.index.result.now within c.index.ensures None) in
    record {
      states = states_then i.states e.states;
      rows = λ block below. e.rows block ∙ i.rows block below;
      counted = λ block below.
          let was = i.counted block below in
          let dead = subst (λ s. dead_count (block_at c.loop-v.blocks block) ≤ dead_count (block_at c.mark_place.new.blocks block) + cond (is_in s block c.index.result.now) 1 0) n.same_size (e.dead block) in
          let more = mapped_more c.args.blocks.now.size block c.loop-v.v c.args.places.now.items within in
          let more_is = subst (λ x. mapped_in c.args.blocks.now.size block (take (c.loop-v.v + 1) c.args.places.now.items) ≡ mapped_in c.args.blocks.now.size block (take c.loop-v.v c.args.places.now.items) + cond (is_in c.args.blocks.now.size block x) 1 0) named more in
          omega (arith, was, dead, more_is);
      live = λ u place less named_u. elim (cases_eq u c.loop-v.v) [
        | inl is ↦ e.here place (sym named ∙ (ap (place_of c.args.places.now.items) (sym is) ∙ named_u))
        | inr ne ↦ e.live place.page (subst (λ k. place.page < k) (λ j. sym n.same_count j * sym n.same_size j) (c.requires.below u place named_u)) (i.live u place (omega (arith, less, ne)) named_u)
      ];
    }

pub returns-clause-live : goal.returns-clause-live
returns-clause-live c v place named =
    let within = named_within c.args.places.now.items v place named in
    c.loop-v.invariant.live v place (omega (arith, within, c.len-v-end.ensures, c.loop-v-test.false)) named
