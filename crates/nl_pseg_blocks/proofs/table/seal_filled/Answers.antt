use Rattle.std.proofs.Common.{◌≡◌, ℕ, not, refl, sym, ◌∙◌, ap, subst, arith}
use Rattle.std.proofs.lemmas.Bool.{cond-false, cond-true}
use Rattle.nl_blocks.specs.declared.states.BlockState.{BlockState}
use Rattle.nl_blocks.specs.declared.states.BlockState.TheVariants.{Sealed, Target}
use Rattle.nl_blocks.specs.Table.{Table, HasBlock, block_at, in_state, with_block}
use Rattle.nl_blocks.specs.Used.{first_unmarked, is_active_state, is_target_state, used_in}
use Rattle.nl_blocks.proofs.UsedLaws.{full-used, used-each, used-open}
use Rattle.nl_pseg_blocks.specs.Uses.{use_of, SameFill, SameMarks, SameUse}
use Rattle.nl_pseg_blocks.proofs.Marking.{next_left}
use Rattle.nl_pseg_blocks.proofs.Tables.{same_marks, same_row, shut_risen, shut_sealed}
use Rattle.nl_pseg_blocks.proofs.table.seal_filled.Goals as goal

-- a block that is full counts as full when it is Sealed
full_sealed : (t : Table) (block : ℕ) → HasBlock t block → (block_at t block).state ≡ Target → used_in is_target_state t block ≡ t.size → SameFill t (with_block t block (in_state (block_at t block) Sealed))
full_sealed t block has state full = record {
  filled = used-each is_target_state t block (in_state (block_at t block) Sealed) has
      (sym (cond-true (is_target_state (block_at t block).state) (first_unmarked (block_at t block).pages) t.size (ap is_target_state state) ∙ (sym (used-open is_target_state t block (ap is_target_state state)) ∙ full)));
  used = used-each is_active_state t block (in_state (block_at t block) Sealed) has
      (sym (cond-false (is_active_state (block_at t block).state) (first_unmarked (block_at t block).pages) t.size (ap is_active_state state)));
}

pub returns-then-is_none-clause-same : goal.returns-then-is_none-clause-same
returns-then-is_none-clause-same c =
    let t = c.args.blocks.now in
    let row = block_at t c.args.block in
    subst (SameUse t) (sym c.seal.ensures) (same_row t c.args.block (in_state row Sealed) c.requires.has
    (ap (λ (s : BlockState). use_of (in_state row s)) (sym c.requires.target)))

pub returns-then-is_none-clause-marks : goal.returns-then-is_none-clause-marks
returns-then-is_none-clause-marks c =
    let t = c.args.blocks.now in
    subst (SameMarks t) (sym c.seal.ensures)
    (same_marks t c.args.block (in_state (block_at t c.args.block) Sealed) c.requires.has (λ k. refl) (λ rising. shut_risen (in_state (block_at t c.args.block) Sealed) (shut_sealed Sealed refl)))

pub returns-then-is_none-clause-fill : goal.returns-then-is_none-clause-fill
returns-then-is_none-clause-fill c =
    let t = c.args.blocks.now in
    let full = full-used is_target_state t c.count.ensures.table c.args.block c.requires.has (ap is_target_state c.requires.target) (c.next_page.ensures.full.0 (c.is_none.ensures ∙ ap not c.if-is_none.true)) in
    subst (SameFill t) (sym c.seal.ensures) (full_sealed t c.args.block c.requires.has c.requires.target full)

pub returns-then-is_none-clause-more : goal.returns-then-is_none-clause-more
returns-then-is_none-clause-more c room =
    let t = c.args.blocks.now in
    let full = full-used is_target_state t c.count.ensures.table c.args.block c.requires.has (ap is_target_state c.requires.target) (c.next_page.ensures.full.0 (c.is_none.ensures ∙ ap not c.if-is_none.true)) in
    absurd (omega (arith, room, full))

pub returns-else-is_none-clause-sealed : goal.returns-else-is_none-clause-sealed
returns-else-is_none-clause-sealed c full =
    let t = c.args.blocks.now in
    let room = next_left is_target_state t c.count.ensures.table c.args.block c.requires.has (ap is_target_state c.requires.target) c.next_page.result c.next_page.ensures.some (c.is_none.ensures ∙ ap not c.if-is_none.false) in
    absurd (omega (arith, room, full))
