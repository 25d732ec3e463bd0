use Rattle.std.proofs.Common.{◌≡◌, ℕ, ◌<◌, length}
use Rattle.nl_blocks.specs.declared.states.PageState.TheVariants.{Dead}
use Rattle.nl_blocks.specs.Table.{block_at, page_at}
use Rattle.nl_vseg.specs.Copying.{SameStates}
use Rattle.nl_vseg.proofs.victim.mark_dead.Given as goal

abbrev pub invariant-loop-page : goal.invariant-loop-page
invariant-loop-page l = record {
  states : SameStates l.initial.blocks l.blocks;
  rows : (block : ℕ) → block < length l.initial.blocks.blocks → length (block_at l.blocks block).pages ≡ l.initial.blocks.size;
  dead : (page : ℕ) → page < l.page → (page_at l.blocks page).state ≡ Dead;
}
