-- What a round of reclaiming does to a core.
use Rattle.std.specs.Prelude.{◌≡◌, ◌≢◌, ◌⊎◌, ℕ, ◌<◌, ◌≤◌, ⊤, [], None}
use Rattle.nl_field.specs.CrashStates.{top}
use Rattle.nl_core_clean.specs.declared.cleaning.Cleaned.TheVariants as cleaned
use Rattle.nl_core_callbacks.specs.Handled.{AllHandled}
use Rattle.nl_iface.specs.Names.{Has, Names, led}
use Rattle.nl_iface.specs.Numbered.{IsNumberedAbove}
use Rattle.nl_iface.specs.Rounds.{Empties, GainsByPass, IsReclaimPass}
use Rattle.nl_iface.specs.declared.Callback.{Callback}
use Rattle.nl_iface.specs.declared.counts.Counts.{Ghosts}
use Rattle.nl_iface.specs.declared.moving_pages.MovingPages.{Ghosts as Moving}
use Rattle.nl_core.specs.Cleaning.{CleansDevice}
use Rattle.nl_core.specs.Core.{names_of}
use Rattle.nl_core.specs.declared.rounds.Rounded.{Rounded}
use Rattle.nl_core.specs.declared.rounds.Rounded.TheVariants as rounded
use Rattle.nl_core.specs.declared.state.Core.{Core}

-- Each callback is handled.
pub record HandlesAll {D : Type 0} (g : Ghosts D) (old new : Core D) : Type 0 where
  pub handled : AllHandled (names_of g new)
  pub space : Empties (names_of g old).space (names_of g new).space
  pub runs : new.stopped ≡ 0

-- Each callback is handled and acknowledged, so that no old name is left, and no page awaits its free.
pub record EmptiesTable {D : Type 0} (g : Ghosts D) (old new : Core D) : Type 0 where
  pub no_pairs : (names_of g new).space.pairs ≡ 0
  pub freed : new.freeing.items ≡ []
  pub space : Empties (names_of g old).space (names_of g new).space
  pub runs : new.stopped ≡ 0

-- A victim was cleaned: the one in hand, or else a block with the most dead pages. Or nothing was, and then no block has a dead page.
abbrev pub CleansOne : {D : Type 0} → Ghosts D → Moving D → Core D → Core D → Type 0
CleansOne g m old new =
    CleansDevice g m old new cleaned.Done ⊎ (CleansDevice g m old new cleaned.Nothing × ((names_of g new).space.dead ≡ 0))

-- Each pending callback was posted after the callback of this number: its own number is above it, as long as numbers last, and no
-- transaction has handled it.
pub record ArePostedAfter (last : ℕ) (names : Names) : Type 0 where
  pub unhandled : (c : Callback) → Has names.pending c → names.handled c.number ≡ None
  pub numbered : names.posted < top → IsNumberedAbove last names

-- The table of old names was emptied, and one victim cleaned, where there was one. Such a round gives a Free block more than are kept for
-- the cleaner, or finishes a victim that was in hand, or brings more pages within reach. No victim is in hand afterwards, and no page
-- awaits its free. Each callback that is pending afterwards was posted in the round, and each old name belongs to one of them.
pub record ReclaimPassIsDone {D : Type 0} (g : Ghosts D) (m : Moving D) (old new : Core D) : Type 0 where
  pub between : Core D
  pub emptied : EmptiesTable g old between
  pub cleans : CleansOne g m between new
  pub round : IsReclaimPass (names_of g old).space (names_of g new).space
  pub gains : GainsByPass (names_of g old).space (names_of g new).space
  pub none_in_hand : (names_of g new).space.victim ≡ 0
  pub few_wait : (names_of g new).space.waiting ≤ 1
  pub freed : new.freeing.items ≡ []
  pub callbacks : ArePostedAfter (names_of g old).posted (names_of g new)
  pub told : (name : ℕ) → led (names_of g new) name ≢ name → (c : Callback) × Has (names_of g new).pending c × (c.before ≡ name)

-- what a round does by its answer, where P holds once it is done: a page is lost only with another number found, and never where the medium
-- tells what it stores
abbrev pub IfRounded : Type 0 → Type 0 → Rounded → Type 0
IfRounded tells P rounded.Done = P
IfRounded tells P (rounded.Lost w f) = (f ≢ w) × (tells → ⊥)
IfRounded tells P rounded.Fault = ⊤
