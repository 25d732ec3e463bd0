use Rattle.std.proofs.Common.{◌≡◌, ℕ, ◌+◌, ◌<◌, ◌≤◌, Some, length, take}
use Rattle.nl_blocks.specs.declared.states.PageState.TheVariants.{Live}
use Rattle.nl_blocks.specs.Table.{block_at, dead_count, page_at}
use Rattle.nl_vseg.specs.Places.{place_of}
use Rattle.nl_vseg.specs.Copying.{SameStates, mapped_in}
use Rattle.nl_vseg.specs.declared.place.Place.{Place}
use Rattle.nl_vseg.proofs.victim.mark_live.Given as goal

abbrev pub invariant-loop-v : goal.invariant-loop-v
invariant-loop-v l = record {
  states : SameStates l.initial.blocks l.blocks;
  rows : (block : ℕ) → block < length l.initial.blocks.blocks → length (block_at l.blocks block).pages ≡ l.initial.blocks.size;
  counted : (block : ℕ) → block < length l.initial.blocks.blocks → l.initial.blocks.size ≤ mapped_in l.initial.blocks.size block (take l.v l.places.items) + dead_count (block_at l.blocks block);
  live : (u : ℕ) (place : Place) → u < l.v → place_of l.places.items u ≡ Some place → (page_at l.blocks place.page).state ≡ Live;
}
