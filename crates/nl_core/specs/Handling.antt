-- How the callback of a number is handled: by one try, and by the call that makes room before a second one.
use Rattle.std.specs.Prelude.{◌≡◌, ℕ, ⊤, Option, Some, None, IfNone, IfSome, option_and_then}
use Rattle.nl_tree.specs.declared.turn.DutyAnswer.{DutyAnswer}
use Rattle.nl_tree.specs.declared.turn.DutyAnswer.TheVariants as duty
use Rattle.nl_core_callbacks.specs.Blocked.{IsBlocked, drained_stop}
use Rattle.nl_core_callbacks.specs.Handled.{HandlesSome, Volume, volume}
use Rattle.nl_core_callbacks.specs.declared.draining.Drained.{Drained}
use Rattle.nl_core_callbacks.specs.declared.draining.Drained.TheVariants as drained
use Rattle.nl_iface.specs.Moves.{IsUnhandled, MarksHandled}
use Rattle.nl_iface.specs.Names.{Has, Names}
use Rattle.nl_iface.specs.Rounds.{Empties}
use Rattle.nl_iface.specs.declared.Callback.{Callback}
use Rattle.nl_iface.specs.declared.counts.Counts.{Ghosts}
use Rattle.nl_meta_running.specs.Reading.{ReadsExplainStop}
use Rattle.nl_meta_running.specs.Running.{RunningIsRight}
use Rattle.nl_core.specs.Core.{names_of}
use Rattle.nl_core.specs.declared.state.Core.{Core}

-- the volume as those see it that handle callbacks
abbrev pub volume_of : {D : Type 0} → Core D → Volume D
volume_of v = volume v.device v.meta v.flight v.freeing.items

-- a callback of this number is pending
abbrev pub CallbackIsPending : Names → ℕ → Type 0
CallbackIsPending names number = (c : Callback) × Has names.pending c × (c.number ≡ number)

-- ---- one try

-- Where a try was done, the callback counts as handled by this transaction, or by the earlier one that it had. Else no name changed, and
-- there is `NoRoom` only where the metadata has the pointer in a page that cannot be made dirty.
pub record TriesCallback {D : Type 0} (g : Ghosts D) (mark : ℕ) (old new : Core D) (c : Callback) (answer : Drained) : Type 0 where
  pub done : answer ≡ drained.Done → MarksHandled c mark (names_of g old) (names_of g new)
  pub same : (answer ≡ drained.Done → ⊥) → (names_of g new ≡ names_of g old) × (new.meta.dirty ≡ old.meta.dirty)
  pub no_room : answer ≡ drained.NoRoom → IsBlocked g (volume_of new) c

-- The pending callback of the number was tried; or there is none, and all is as before.
pub record TriesNumber {D : Type 0} (g : Ghosts D) (mark number : ℕ) (old new : Core D) (answer : Option Drained) : Type 0 where
  pub others : new ≡ record old { device = new.device; meta = new.meta; flight = new.flight; freeing = new.freeing }
  pub runs : RunningIsRight g new.device new.meta
  pub handles : HandlesSome g mark (volume_of old) (volume_of new)
  pub room : new.freeing.room ≡ old.freeing.room
  pub reads : ReadsExplainStop g old.device new.device (option_and_then drained_stop answer)
  pub none : IfNone answer ((CallbackIsPending (names_of g old) number → ⊥) × (new ≡ old))
  pub some : IfSome answer (λ d. (c : Callback) × Has (names_of g old).pending c × (c.number ≡ number) × TriesCallback g mark old new c d)

-- ---- the whole call

-- The callback of the number is pending no longer, or counts as handled. Those that are unhandled then were, and none was posted, so that
-- handling one after the other ends with all handled. Where no write has failed, the space is as after a commit at most.
pub record HandlesNumber {D : Type 0} (g : Ghosts D) (number : ℕ) (old new : Core D) : Type 0 where
  pub handled : IsUnhandled (names_of g new) number → ⊥
  pub others : (c : Callback) → Has (names_of g new).pending c → (names_of g new).handled c.number ≡ None
      → Has (names_of g old).pending c × ((names_of g old).handled c.number ≡ None)
  pub posted : (names_of g new).posted ≡ (names_of g old).posted
  pub space : new.stopped ≡ 0 → Empties (names_of g old).space (names_of g new).space

-- What the call does once room was made. A page is lost only with another number found, and never where the medium tells what it stores.
abbrev pub HandlesWithRoom : {D : Type 0} → Ghosts D → ℕ → Core D → Core D → DutyAnswer → Type 0
HandlesWithRoom g number old new duty.Did = HandlesNumber g number old new
HandlesWithRoom g number old new duty.Nothing = ⊥
HandlesWithRoom g number old new duty.Fault = ⊤
HandlesWithRoom g number old new (duty.Lost w f) = (f ≡ w → ⊥) × (g.tells → ⊥)

-- what the task of handling answers after a try: a callback that is pending no longer was handled before
abbrev pub duty_of : Option Drained → DutyAnswer
duty_of None = duty.Did
duty_of (Some drained.Done) = duty.Did
duty_of (Some drained.NoRoom) = duty.Did
duty_of (Some drained.Fault) = duty.Fault
duty_of (Some (drained.Lost w f)) = duty.Lost w f

-- `Nothing` exactly where no callback of the number is pending; then all is as before.
abbrev pub HandlesCallback : {D : Type 0} → Ghosts D → ℕ → Core D → Core D → DutyAnswer → Type 0
HandlesCallback g number old new duty.Did = CallbackIsPending (names_of g old) number × HandlesNumber g number old new
HandlesCallback g number old new duty.Nothing = (CallbackIsPending (names_of g old) number → ⊥) × (new ≡ old)
HandlesCallback g number old new duty.Fault = CallbackIsPending (names_of g old) number
HandlesCallback g number old new (duty.Lost w f) = CallbackIsPending (names_of g old) number × (f ≡ w → ⊥) × (g.tells → ⊥)
