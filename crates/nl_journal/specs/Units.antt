-- What a unit writes and answers.
use Rattle.std.specs.Prelude.{◌≡◌, ◌⊎◌, ⊤, ℕ, ◌+◌, ◌≤◌, nat_lt, if◌then◌else◌, [], List, length, Some, slice_index}
use Rattle.nl_field.specs.Journal.{header_of, commit_of}
use Rattle.nl_meta.specs.Pages.{Frozen, Pages, dirty_pages, none_frozen}
use Rattle.nl_journal.specs.Progress.{Progress, begun, next, next_after, raised, units_left}
use Rattle.nl_journal.specs.Transaction.{header, main_at}
use Rattle.nl_journal.specs.declared.answers.Phase.{Phase}
use Rattle.nl_journal.specs.declared.answers.Phase.TheVariants.{Header, Image, Commit, Home}
use Rattle.nl_journal.specs.declared.answers.Unit.{Unit as Answer}
use Rattle.nl_journal.specs.declared.answers.Unit.TheVariants as unit
use Rattle.nl_journal.specs.declared.answers.Committing.{Committing as Commits}
use Rattle.nl_journal.specs.declared.answers.Committing.TheVariants as commits

-- the address and the main bytes that are due
abbrev pub IsDue : Phase → ℕ → Frozen → ℕ → List ℕ → Type 0
IsDue Header number frozen v main = (v ≡ 1) × (header_of main ≡ Some (header (next_after number) frozen))
IsDue (Image i) number frozen v main = (v ≡ 2 + i) × (main ≡ main_at frozen.images i)
IsDue Commit number frozen v main = (v ≡ 66) × (commit_of main ≡ Some (record { number = next_after number }))
IsDue (Home i) number frozen v main = (v ≡ slice_index frozen.addresses i) × (main ≡ main_at frozen.images i)

-- the unit was done
abbrev pub UnitIsDone : Answer → Type 0
UnitIsDone unit.Programmed = ⊤
UnitIsDone (unit.Decided number) = ⊤
UnitIsDone unit.AllHome = ⊤
UnitIsDone (unit.Lost wanted found) = ⊥
UnitIsDone unit.Fault = ⊥

-- what a unit that was done answers
abbrev pub answer_in : Phase → ℕ → ℕ → Answer
answer_in Header number pages = unit.Programmed
answer_in (Image i) number pages = unit.Programmed
answer_in Commit number pages = unit.Decided (next_after number)
answer_in (Home i) number pages = if nat_lt (i + 1) pages then unit.Programmed else unit.AllHome

abbrev pub answer : Progress → ℕ → Answer
answer p pages = answer_in p.phase p.number pages

-- what is frozen after it: nothing once all pages are home
abbrev pub frozen_after : Phase → Frozen → Frozen
frozen_after Header frozen = frozen
frozen_after (Image i) frozen = frozen
frozen_after Commit frozen = frozen
frozen_after (Home i) frozen = if nat_lt (i + 1) (length frozen.addresses) then frozen else none_frozen

-- The journal goes on where the unit was done. Of the metadata only the frozen pages change.
pub record Advances (result : Answer) (old new : Progress) (old_pages new_pages : Pages) : Type 0 where
  pub done : UnitIsDone result
      → (result ≡ answer old (length old_pages.frozen.addresses)) × (new ≡ next old (length old_pages.frozen.addresses))
      × (new_pages ≡ record old_pages { frozen = frozen_after old.phase old_pages.frozen })
  pub waits : (UnitIsDone result → ⊥) → (new ≡ old) × (new_pages ≡ old_pages)

-- the stamp that is wanted and the one that was found, where a unit was lost
abbrev pub IfLostUnit : Answer → (ℕ → ℕ → Type 0) → Type 0
IfLostUnit unit.Programmed P = ⊤
IfLostUnit (unit.Decided number) P = ⊤
IfLostUnit unit.AllHome P = ⊤
IfLostUnit (unit.Lost w f) P = P w f
IfLostUnit unit.Fault P = ⊤

abbrev pub CommitIsDone : Commits → Type 0
CommitIsDone (commits.Done n) = ⊤
CommitIsDone (commits.Lost w f) = ⊥
CommitIsDone commits.Fault = ⊥

abbrev pub IfCommitted : Commits → (ℕ → Type 0) → Type 0
IfCommitted (commits.Done n) P = P n
IfCommitted (commits.Lost w f) P = ⊤
IfCommitted commits.Fault P = ⊤

abbrev pub IfCommitLost : Commits → (ℕ → ℕ → Type 0) → Type 0
IfCommitLost (commits.Done n) P = ⊤
IfCommitLost (commits.Lost w f) P = P w f
IfCommitLost commits.Fault P = ⊤

-- Nothing is frozen and nothing dirty any more, and the number is that of the transaction of the dirty pages: two more than the last where
-- one was frozen that was not decided, and else one more.
pub record EndsCommit (number : ℕ) (old new : Progress) (old_pages new_pages : Pages) : Type 0 where
  pub next : number ≡ next_after (begun old (length old_pages.frozen.addresses))
  pub kept : new.number ≡ raised (begun old (length old_pages.frozen.addresses))
  pub idle : new.phase ≡ Header
  pub thawed : new_pages.frozen.addresses ≡ []
  pub clean : new_pages.dirty ≡ []

-- The pages in memory after a commit that was not done: as before, or the dirty ones are frozen, since all that was frozen before is home.
abbrev pub Waits : Pages → Pages → Type 0
Waits old new = (new ≡ old) ⊎ (new ≡ record old { dirty = []; frozen = dirty_pages old })

-- Where nothing was frozen, the dirty pages are: they began the next transaction, and all of it is done, or it waits.
pub record CommitsDirty (result : Commits) (old new : Progress) (old_pages new_pages : Pages) : Type 0 where
  pub begun_next : begun new (length new_pages.frozen.addresses) ≡ raised old.number
  pub done : IfCommitted result (λ n. EndsCommit n old new old_pages new_pages)
  pub waits : (CommitIsDone result → ⊥) → new_pages ≡ record old_pages { dirty = []; frozen = dirty_pages old_pages }
  pub running : new_pages.running ≡ old_pages.running

-- Units were done until at most so many are left, and never are more left than before. Of the metadata only the frozen pages change: all of
-- them are home, or they stay. The number of the last transaction that was begun stays.
pub record Finishes (until : ℕ) (done : Type 0) (old new : Progress) (old_pages new_pages : Pages) : Type 0 where
  pub left : done → units_left new.phase (length new_pages.frozen.addresses) ≤ until
  pub more : (done → ⊥) → until + 1 ≤ units_left new.phase (length new_pages.frozen.addresses)
  pub fewer : units_left new.phase (length new_pages.frozen.addresses) ≤ units_left old.phase (length old_pages.frozen.addresses)
  pub begun_stays : begun new (length new_pages.frozen.addresses) ≡ begun old (length old_pages.frozen.addresses)
  pub number : (new.number ≡ old.number) ⊎ (new.number ≡ begun old (length old_pages.frozen.addresses))
  pub kept : new_pages ≡ record old_pages { frozen = new_pages.frozen }
  pub waits : (done → ⊥) → new_pages.frozen ≡ old_pages.frozen
  pub frozen : (new_pages.frozen ≡ old_pages.frozen) ⊎ ((new.phase ≡ Header) × (new_pages.frozen ≡ none_frozen))
  pub none : old_pages.frozen.addresses ≡ [] → done
