-- What the program of the next page of the active block does.
use Rattle.std.specs.Prelude.{◌≡◌, ℕ, ◌+◌, List}
use Rattle.nl_field.specs.CrashStates.{Rose}
use Rattle.nl_blocks.specs.Table.{block_at}
use Rattle.nl_nand.specs.declared.answers.WriteAnswer.{WriteAnswer}
use Rattle.nl_nand.specs.declared.answers.WriteAnswer.TheVariants as write
use Rattle.nl_nand.specs.declared.nand.Nand.{Ghosts}
use Rattle.nl_vseg.specs.Cleaning.{IsStateOfMedium}
use Rattle.nl_vseg.specs.Copying.{SameFreeBlocks}
use Rattle.nl_vseg.specs.Effects.{BlockIsProgrammed}
use Rattle.nl_vseg.specs.Layout.{LayoutHasUnmapped, SameLayoutShape, bound, room}
use Rattle.nl_vseg.specs.Seen.{seen, segment_of}
use Rattle.nl_vseg.specs.Tries.{SpendsNext}
use Rattle.nl_vseg.specs.Writes.{WritesValueAt}
use Rattle.nl_vseg.specs.declared.state.State.{State}

-- All else of the state: as many addresses and blocks, the blocks that are Free, and the active one, which was erased as often.
pub record KeepsRestOfState (s t : State) : Type 0 where
  pub shape : SameLayoutShape (seen s) (seen t)
  pub states : SameFreeBlocks s.blocks t.blocks
  pub same_active : t.active ≡ s.active
  pub wear : (block_at t.blocks s.active).wear ≡ (block_at s.blocks s.active).wear

-- The address is written to the next page of the active block, which is used now, whether or not the program failed. The state stands
-- on the medium, and some block holds no page of the map.
pub record PutsAtAddress {M : Type 0} (g : Ghosts M) (v stamp : ℕ) (main : List ℕ) (answer : WriteAnswer) (s t : State) (old new : M) : Type 0 where
  pub stands : IsStateOfMedium g t new
  pub spare : LayoutHasUnmapped (seen t)
  pub rest : KeepsRestOfState s t
  pub less : room (seen t) + 1 ≡ room (seen s)
  pub tried : SpendsNext (seen s) (seen t)
  pub writes : WritesValueAt g v stamp main (answer ≡ write.Done) (answer ≡ write.Failed) (segment_of s) (segment_of t) old new
  pub programmed : g.tells → answer ≡ write.Done
      → BlockIsProgrammed s.blocks.size (bound (seen s)) s.active v stamp (block_at t.blocks s.active).wear main (g.contents old) (g.contents new)
  pub failed : answer ≡ write.Failed → t.places.items ≡ s.places.items
  pub write_fault : answer ≡ write.Failed → Rose (g.write_faults old) (g.write_faults new)
