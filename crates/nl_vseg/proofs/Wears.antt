-- How often the blocks of a table were erased, where one block is replaced.
use Rattle.std.proofs.Common.{◌≡◌, ℕ, ◌-◌, set, ◌∙◌, ap, arith}
use Rattle.std.proofs.Math.Seq.{map-set_same}
use Rattle.std.proofs.lemmas.List.{map-set}
use Rattle.nl_blocks.specs.Table.{BlockRow, Table, block_at, no_row, wear_of, with_block}
use Rattle.nl_vseg.specs.Layout.{wears_of}

-- a block that was erased as often
pub wears_kept : (t : Table) (block : ℕ) (row : BlockRow) → row.wear ≡ (block_at t block).wear → wears_of (with_block t block row) ≡ wears_of t
unfolding wears_of
wears_kept t block row same = map-set_same wear_of t.blocks (block - t.first) row no_row same

-- a block with another wear
pub wears_with : (t : Table) (block : ℕ) (row : BlockRow) → t.first ≡ 0 → wears_of (with_block t block row) ≡ set (wears_of t) block row.wear
unfolding wears_of
wears_with t block row first = map-set wear_of t.blocks (block - t.first) row ∙ ap (λ n. set (wears_of t) n row.wear) (omega (arith, first))
