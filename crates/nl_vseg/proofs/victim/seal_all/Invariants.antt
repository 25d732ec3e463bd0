use Rattle.std.proofs.Common.{◌≡◌, ℕ, ◌<◌, true, false}
use Rattle.nl_blocks.specs.Table.{block_at, is_sealed}
use Rattle.nl_vseg.specs.Layout.{block_is_free, wears_of}
use Rattle.nl_vseg.specs.Copying.{SameFreeBlocks}
use Rattle.nl_vseg.proofs.victim.seal_all.Given as goal

abbrev pub invariant-loop-block : goal.invariant-loop-block
invariant-loop-block l = record {
  states : SameFreeBlocks l.initial.blocks l.blocks;
  wears : wears_of l.blocks ≡ wears_of l.initial.blocks;
  sealed : (block : ℕ) → block < l.block → block_is_free l.blocks block ≡ false → is_sealed (block_at l.blocks block) ≡ true;
}
