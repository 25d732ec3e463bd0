-- What the calls of a core do beside what all of them keep.
use Rattle.std.specs.Prelude.{◌≡◌, ◌≢◌, ◌⊎◌, ℕ, ◌+◌, ◌≤◌, [], map, None}
use Rattle.nl_field.specs.CrashStates.{Earlier, Rose, saturated}
use Rattle.nl_core_callbacks.specs.Handled.{nameless_line}
use Rattle.nl_iface.specs.Names.{Has, Names}
use Rattle.nl_iface.specs.Rounds.{Empties}
use Rattle.nl_iface.specs.declared.Callback.{Callback}
use Rattle.nl_iface.specs.declared.counts.Counts.{Ghosts}
use Rattle.nl_journal.specs.Progress.{next_after}
use Rattle.nl_journal.specs.declared.answers.Committing.{Committing}
use Rattle.nl_journal.specs.declared.answers.Committing.TheVariants as commits
use Rattle.nl_core.specs.Core.{begun_of, names_of}
use Rattle.nl_core.specs.declared.state.Core.{Core}

-- the core with one call more
abbrev pub counted : {D : Type 0} → Core D → Core D
counted v = record v { count = saturated (v.count + 1) }

-- a count of failures rose where the call failed
abbrev pub FailureIsCounted : {D : Type 0} → Ghosts D → Type 0 → Core D → Core D → Type 0
FailureIsCounted g failed old new =
    failed → Rose (g.read_faults old.device) (g.read_faults new.device) ⊎ Rose (g.write_faults old.device) (g.write_faults new.device)

-- the lines in flight are those of before, but for the names of their pages
abbrev pub KeepsLines : {D : Type 0} → Core D → Core D → Type 0
KeepsLines old new = map nameless_line new.flight ≡ map nameless_line old.flight

-- Callbacks that are pending then were pending before, and unhandled.
pub record Acknowledged (old new : Names) : Type 0 where
  pub pending : (c : Callback) → Has new.pending c → Has old.pending c × (old.handled c.number ≡ None) × (new.handled c.number ≡ None)
  pub posted : new.posted ≡ old.posted

-- All calls so far are committed. Nothing is frozen or dirty, no page awaits its free, and each callback that was handled is acknowledged.
pub record CommitsAll {D : Type 0} (g : Ghosts D) (old new : Core D) (number : ℕ) : Type 0 where
  pub is_next : number ≡ next_after (begun_of old)
  pub clean : new.meta.dirty ≡ []
  pub thawed : new.meta.frozen.addresses ≡ []
  pub freed : new.freeing.items ≡ []
  pub same_flight : new.flight ≡ old.flight
  pub same_nodes : new.nodes ≡ old.nodes
  pub committed : new.committed ≡ old.count
  pub decided : Earlier (g.clock old.device) new.moment
  pub from : g.clock old.device ≤ new.moment
  pub acknowledged : Acknowledged (names_of g old) (names_of g new)
  pub space : new.stopped ≡ 0 → Empties (names_of g old).space (names_of g new).space

-- Where a commit was not done, pages and callbacks are as before, and the metadata is as it runs.
pub record CommitsNot {D : Type 0} (g : Ghosts D) (old new : Core D) : Type 0 where
  pub same_flight : new.flight ≡ old.flight
  pub same_nodes : new.nodes ≡ old.nodes
  pub same_freeing : new.freeing ≡ old.freeing

abbrev pub CommitsByAnswer : {D : Type 0} → Ghosts D → Core D → Core D → Committing → Type 0
CommitsByAnswer g old new (commits.Done number) = CommitsAll g old new number
CommitsByAnswer g old new (commits.Lost w f) = CommitsNot g old new × (f ≢ w) × (g.tells → ⊥)
CommitsByAnswer g old new commits.Fault = CommitsNot g old new
