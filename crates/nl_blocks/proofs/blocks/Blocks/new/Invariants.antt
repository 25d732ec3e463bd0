use Rattle.std.proofs.Common.{◌≡◌, ◌<◌, ℕ, length, replicate, Some}
use Rattle.nl_blocks.specs.Table.{new_row}
use Rattle.nl_blocks.specs.Tournament.{key_at}
use Rattle.nl_blocks.proofs.blocks.Blocks.new.Given as goal

abbrev pub invariant-made : goal.invariant-made
invariant-made l = record {
  blocks : l.blocks.items ≡ replicate l.at (new_row l.pages);
  places : length l.waiting ≡ l.count;
  waiting : (k : ℕ) → k < l.at → key_at l.waiting k ≡ Some 0;
}
