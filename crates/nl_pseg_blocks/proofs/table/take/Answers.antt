use Rattle.std.proofs.Common.{false, sym, ◌∙◌, ap, subst}
use Rattle.nl_blocks.specs.declared.states.BlockState.TheVariants.{Active}
use Rattle.std.proofs.Math.ListN.{get_or-map}
use Rattle.nl_blocks.specs.declared.states.Page.{Page}
use Rattle.nl_blocks.specs.Table.{Table, new_page, unmarked, block_at, taken}
use Rattle.nl_blocks.specs.Used.{SameUsed, first_unmarked, is_active_state, is_target_state, used_in}
use Rattle.nl_blocks.proofs.UsedLaws.{first-taken, risen-taken, used-each, used-here}
use Rattle.std.proofs.lemmas.Bool.{cond-false, true≢false}
use Rattle.nl_pseg_blocks.specs.Uses.{Use, use_in, use_with, SetsUse}
use Rattle.nl_pseg_blocks.proofs.Tables.{restated, shut_free, use_here}
use Rattle.nl_pseg_blocks.proofs.table.take.Goals as goal

pub returns-clause-was_free : goal.returns-clause-was_free
returns-clause-was_free c =
    let t = c.args.blocks.now in
    ap (λ (u : Use). u.is_free) (use_here t c.in-Some.block c.in-Some.ensures.chosen.has) ∙ c.in-Some.ensures.chosen.chosen.passes

pub returns-clause-taken : goal.returns-clause-taken
returns-clause-taken c =
    let t = c.args.blocks.now in
    let block = c.in-Some.block in
    let has = c.in-Some.ensures.chosen.has in
    subst (SetsUse block false (use_in t block).wear t) (sym c.in-Some.ensures.taken)
    (restated t block (taken (block_at t block) Active) false (use_in t block).wear has (ap (λ (u : Use). use_with false u.wear) (sym (use_here t block has)))
    (λ k. ap (λ (p : Page). p.state) (get_or-map unmarked (block_at t block).pages k new_page))
    (λ rising. record { active = λ e. risen-taken (block_at t block).pages; target = λ e. absurd (true≢false (sym e)) }))

pub returns-clause-used : goal.returns-clause-used
returns-clause-used c =
    let t = c.args.blocks.now in
    let block = c.in-Some.block in
    ap (λ (n : Table). used_in is_active_state n block) c.in-Some.ensures.taken ∙ (used-here is_active_state t block (taken (block_at t block) Active) c.in-Some.ensures.chosen.has ∙ first-taken (block_at t block).pages)

pub returns-clause-filled : goal.returns-clause-filled
returns-clause-filled c other has_other =
    let t = c.args.blocks.now in
    let block = c.in-Some.block in
    let has = c.in-Some.ensures.chosen.has in
    let row = taken (block_at t block) Active in
    let was = shut_free (block_at t block).state c.in-Some.ensures.chosen.chosen.passes in
    subst (λ (n : Table). SameUsed is_target_state other t n) (sym c.in-Some.ensures.taken)
    (used-each is_target_state t block row has (sym (cond-false (is_target_state (block_at t block).state) (first_unmarked (block_at t block).pages) t.size was.target)) other has_other)
