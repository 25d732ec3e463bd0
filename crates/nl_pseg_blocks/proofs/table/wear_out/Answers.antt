use Rattle.std.proofs.Common.{◌≡◌, ℕ, false, refl, sym, ◌∙◌, ap, subst}
use Rattle.nl_blocks.specs.Table.{BlockRow, Table, HasBlock, block_at, worn, worn_row}
use Rattle.nl_blocks.specs.Used.{is_active_state, is_target_state}
use Rattle.nl_blocks.proofs.UsedLaws.{used-each}
use Rattle.nl_pseg_blocks.specs.Uses.{ActiveAndTargetAreRisen, use_in, use_of, use_with, SetsUse, SameFill}
use Rattle.nl_pseg_blocks.proofs.Tables.{IsRowRisen, restated, row_here, use_here}
use Rattle.nl_pseg_blocks.proofs.Tables.{used_free}
use Rattle.nl_pseg_blocks.proofs.table.wear_out.Goals as goal

worn_risen : (t : Table) (b : ℕ) → HasBlock t b → ActiveAndTargetAreRisen t → IsRowRisen (worn_row (block_at t b))
worn_risen t b has rising = record { active = rising.active.each b has; target = rising.target.each b has }

pub returns-clause-fill : goal.returns-clause-fill
returns-clause-fill c =
    let t = c.args.blocks.now in
    let b = c.args.block in
    let row = worn_row (block_at t b) in
    subst (SameFill t) (sym c.reerased.ensures) (record { used = used-each is_active_state t b row c.requires.has refl; filled = used-each is_target_state t b row c.requires.has refl })

pub returns-clause-worn : goal.returns-clause-worn
returns-clause-worn c =
    let t = c.args.blocks.now in
    let b = c.args.block in
    let has = c.requires.has in
    let was = use_here t b has in
    let use_is : use_of (worn_row (block_at t b)) ≡ use_with false (worn (use_in t b).wear) =
    (λ i. record { is_free = (sym was i).is_free; is_kept = (sym was i).is_kept; wear = worn (sym was i).wear }) ∙ (λ i. record { is_free = used_free t b c.requires.used i; is_kept = c.requires.used i; wear = worn (use_in t b).wear }) in
    subst (SetsUse b false (worn (use_in t b).wear) t) (sym c.reerased.ensures)
    (restated t b (worn_row (block_at t b)) false (worn (use_in t b).wear) has use_is (λ k. refl) (λ rising. worn_risen t b has rising))

pub returns-clause-state : goal.returns-clause-state
returns-clause-state c = ap (λ n. (block_at n c.args.block).state) c.reerased.ensures ∙ ap (λ (r : BlockRow). r.state) (row_here c.args.blocks.now c.args.block _ c.requires.has)
