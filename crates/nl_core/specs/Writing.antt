-- The two parts of a commit: the transactions are written, and what they gave up is freed and acknowledged.
use Rattle.std.specs.Prelude.{◌≡◌, ℕ, ◌+◌, ◌-◌, ◌≤◌, ◌^◌, ◌==◌, ◌&&◌, nat_le, min, Bool, if◌then◌else◌, length, take, drop, Option, Some, None, IfSome}
use Rattle.nl_field.specs.CrashStates.{saturated}
use Rattle.nl_field.specs.declared.answers.VirtualWrite.{VirtualWrite}
use Rattle.nl_field.specs.declared.answers.VirtualWrite.TheVariants as write
use Rattle.nl_iface.specs.Answers.{LosesStamp}
use Rattle.nl_iface.specs.Calls.{CallCounted, KeepsMedium}
use Rattle.nl_iface.specs.Moves.{Acknowledges}
use Rattle.nl_spec_holders.specs.Laws.{OldNamesDiffer}
use Rattle.nl_iface.specs.Names.{IsTableOfNames}
use Rattle.nl_iface.specs.declared.counts.Counts.{Ghosts}
use Rattle.nl_journal.specs.Left.{CommitWrites}
use Rattle.nl_journal.specs.Passes.{ChangesAddressesOnly}
use Rattle.nl_journal.specs.Progress.{HasNumber}
use Rattle.nl_meta.specs.Pages.{Pages}
use Rattle.nl_journal_commit.specs.Committing.{ChangesAt, CommitsWhole, EarlierAt}
use Rattle.nl_journal_commit.specs.Counting.{with_count}
use Rattle.nl_journal_commit.specs.Freeing.{FreesEach}
use Rattle.nl_journal_commit.specs.Standing.{PreservesGraph}
use Rattle.nl_spec_commits.specs.Held.{leaving_after}
use Rattle.nl_spec_commits.specs.TreeLaws.{last_commit_moment}
use Rattle.nl_core.specs.Core.{names_of}
use Rattle.nl_core.specs.declared.state.Core.{Core}

-- the greatest count of calls that is spelled
abbrev pub last_count : ℕ
last_count = 2 ^ 63 - 1

abbrev pub stored_count : {D : Type 0} → Core D → ℕ
stored_count v = min v.count last_count

-- the pages in memory with this count in the super page
abbrev pub counted_pages : {D : Type 0} → Core D → Pages
counted_pages v = with_count v.shape (stored_count v) v.meta

-- what is committed once these commit pages were finished: that of the frozen transaction, and that of all calls
abbrev pub committed_by : ℕ → ℕ → ℕ → Option ℕ → Option ℕ → ℕ
committed_by before frozen count earlier (Some moment) = count
committed_by before frozen count (Some moment) None = frozen
committed_by before frozen count None None = before

abbrev pub committed_count : {D : Type 0} → Core D → Option ℕ → Option ℕ → ℕ
committed_count v earlier decided = committed_by v.committed v.frozen v.count earlier decided

-- what is committed once the frozen transaction is: all calls where the dirty pages were frozen, and else what was
abbrev pub frozen_then : {D : Type 0} → Core D → Bool → ℕ
frozen_then v froze = if froze then v.count else v.frozen

-- the core with what is known of a commit that froze the dirty pages, or not, and finished these commit pages
abbrev pub noted : {D : Type 0} → Core D → Bool → Option ℕ → Option ℕ → Core D
noted v froze earlier decided = record v {
  leaving = leaving_after froze earlier decided (length v.freeing.items) v.leaving;
  committed = committed_count v earlier decided;
  frozen = frozen_then v froze;
  moment = last_commit_moment v.moment earlier decided;
}

-- the sum of both fault counts once a write failed
abbrev pub stopped_by : ℕ → ℕ → ℕ → ℕ → ℕ
stopped_by stopped reads writes_before writes =
    if stopped == 0 && nat_le (saturated (writes_before + 1)) writes then saturated (reads + writes) else stopped

abbrev pub stopped_on : {D : Type 0} → Ghosts D → ℕ → Core D → Core D → ℕ
stopped_on g writes_before old new = stopped_by old.stopped (g.read_faults new.device) writes_before (g.write_faults new.device)

-- all but the device, the journal and the pages in memory, and what is known of the last commit and the first failure
pub record KeepsRestOfCore {D : Type 0} (old new : Core D) : Type 0 where
  pub shape : new.shape ≡ old.shape
  pub nodes : new.nodes ≡ old.nodes
  pub flight : new.flight ≡ old.flight
  pub freeing : new.freeing ≡ old.freeing
  pub count : new.count ≡ old.count

-- The frozen transaction was completed, and that of the dirty pages written; or a write or a read ended that.
pub record WritesAll {D : Type 0} (g : Ghosts D) (old new : Core D) (answer : VirtualWrite) : Type 0 where
  pub froze : Bool
  pub earlier : Option ℕ
  pub decided : Option ℕ
  pub rest : KeepsRestOfCore old new
  pub committed : new.committed ≡ committed_count old earlier decided
  pub frozen : new.frozen ≡ frozen_then old froze
  pub leaving : new.leaving ≡ leaving_after froze earlier decided (length old.freeing.items) old.leaving
  pub moment : new.moment ≡ last_commit_moment old.moment earlier decided
  pub stopped : new.stopped ≡ stopped_on g (g.write_faults old.device) old new
  pub stands : PreservesGraph g old.device old.meta new.device new.journal new.meta
  pub commits : CommitsWhole g (answer ≡ write.Done) froze earlier decided old.device old.journal (counted_pages old) new.device new.journal new.meta
  pub earlier_at : IfSome earlier (EarlierAt g old.device new.device old.journal new.journal (counted_pages old) new.meta)
  pub decided_at : IfSome decided (ChangesAt g old.device new.device old.journal new.journal (counted_pages old) new.meta)
  pub writes : g.tells → HasNumber new.journal (length new.meta.frozen.addresses)
      → CommitWrites g (answer ≡ write.Done) old.journal new.journal (counted_pages old) new.meta old.device new.device
  pub passes : ChangesAddressesOnly g (answer ≡ write.Done) 512 old.device new.device
  pub lost : LosesStamp g.tells (g.stamps new.device) answer
  pub clock : g.clock old.device ≤ g.clock new.device
  pub faults : CallCounted g (answer ≡ write.Fault) old.device new.device

-- The first of the pages that await their free are freed, so many, and callbacks are acknowledged that were handled under a mark up to this
-- one. No transaction gives up a page then.
pub record Settles {D : Type 0} (g : Ghosts D) (due mark : ℕ) (old new : Core D) : Type 0 where
  pub between : D
  pub frees : FreesEach (take due old.freeing.items) (names_of g old) (g.names between)
  pub first_kept : KeepsMedium g old.device between
  pub acknowledges : Acknowledges mark (g.names between) (names_of g new)
  pub then_kept : KeepsMedium g between new.device
  pub read_faults : g.read_faults new.device ≡ g.read_faults old.device
  pub items : new.freeing.items ≡ drop due old.freeing.items
  pub room : new.freeing.room ≡ old.freeing.room + length (take due old.freeing.items)
  pub others : new ≡ record old { device = new.device; freeing = new.freeing; leaving = 0 }

-- The tables of a device before it: old names and callbacks are in order, and no old name stands twice.
pub record HasTable {D : Type 0} (g : Ghosts D) (s : D) : Type 0 where
  pub table : IsTableOfNames (g.names s)
  pub differ : OldNamesDiffer (g.names s)
