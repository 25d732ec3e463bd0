-- What committed pages stand for, and that what a stop within a commit leaves stands for it.
use Rattle.std.specs.Prelude.{◌≡◌, ◌⊎◌, ℕ, ◌<◌, true, List, length, Option, Some}
use Rattle.nl_field.specs.Members as members
use Rattle.nl_field.specs.Virtual.{map_bytes}
use Rattle.nl_field.specs.declared.shape.Shape.{Shape}
use Rattle.nl_tree.specs.Tree.{Tree}
use Rattle.nl_iface.specs.Calls.{StoresPages, stored}
use Rattle.nl_iface.specs.Device.{IsVolumeShape}
use Rattle.nl_iface.specs.Names.{LivePage, Names}
use Rattle.nl_iface.specs.Stored.{NamedAgree, NoneFailed, Stored, Value}
use Rattle.nl_iface.specs.declared.counts.Counts.{Ghosts}
use Rattle.nl_spec_holders.specs.Holding.{Holding, HoldsPages, KeepsCommitted}
use Rattle.nl_journal.specs.Committing.{ahead_on, committed_now, committed_on, finished_on}
use Rattle.nl_journal.specs.Left.{LeavesEither, LeavesOne, LeavesOneOf}
use Rattle.nl_journal.specs.Outcomes.{Agrees, IsHome}
use Rattle.nl_journal.specs.Progress.{HasNumber, Progress}
use Rattle.nl_journal.specs.Transaction.{IsTransaction}
use Rattle.nl_meta.specs.Committed.{VirtualMap, committed}
use Rattle.nl_meta.specs.Consistent.{PageOfStamp}
use Rattle.nl_meta.specs.Nodes.{Held, held_in}
use Rattle.nl_meta.specs.Pages.{IsPages, Pages, dirty_pages}
use Rattle.nl_meta_running.specs.Running.{running_on}
use Rattle.nl_spec_image.specs.CrashConsistency.{IsLiveFor, LeavesTree, MapRepresents}
use Rattle.nl_journal_commit.specs.Completing.{AwaitsCommitPage}
use Rattle.nl_journal_commit.specs.Holding.{IsHoldingOf}
use Rattle.nl_journal_commit.specs.Standing.{IsJournaled}
use Rattle.nl_spec_commits.specs.Committed.{IsHoldingOn, read_as}

-- The committed pages of a device read so, whether the inode pages that were never written are given their zeros before or after.
abbrev pub CommittedReads : Type 0
CommittedReads =
    (shape : Shape) (values : ℕ → Option Value) (v : ℕ) → IsVolumeShape shape → v < shape.vaddrs
    → committed shape (map_bytes shape values) v ≡ read_as shape (committed_now shape values) v

-- Where the dirty pages are a transaction, what a commit puts in place is what runs.
abbrev pub AheadIsRunning : {D : Type 0} → Ghosts D → Type 0
AheadIsRunning {D} g =
    (s : D) (p : Progress) (pages : Pages) → IsJournaled g s p pages → IsPages pages → IsTransaction (g.shape s).vaddrs (dirty_pages pages)
    → g.tells → HasNumber p (length pages.frozen.addresses)
    → (v : ℕ) → IsHome (g.shape s).vaddrs v → read_as (g.shape s) (ahead_on g s p pages) v ≡ running_on g s pages v

-- Pages that agree stand for the same.
abbrev pub AgreeingRepresentSame : Type 0
AgreeingRepresentSame =
    (shape : Shape) (old new : VirtualMap) (page_of_stamp : ℕ → Option PageOfStamp) (count : ℕ) (tree : Tree) → Agrees shape.vaddrs new old
    → MapRepresents shape old page_of_stamp count tree
    → MapRepresents shape new page_of_stamp count tree

-- The pages stand for this tree after so many calls, and each of their pointers leads to the live page of its stamp.
pub record RepresentsAndLeads {D : Type 0} (g : Ghosts D) (s : D) (pages : VirtualMap) (page_of_stamp : ℕ → Option PageOfStamp) (count : ℕ)
    (tree : Tree) : Type 0 where
  pub map : MapRepresents (g.shape s) (read_as (g.shape s) pages) page_of_stamp count tree
  pub lead : (h : Held) → members.Has (held_in (g.shape s) (read_as (g.shape s) pages)) h
      → IsLiveFor (g.names s) (g.bytes s) page_of_stamp h

-- each live page is the page of its stamp
abbrev pub ShowsPages : Names → (ℕ → List ℕ) → (ℕ → Option PageOfStamp) → Type 0
ShowsPages names bytes page_of_stamp =
    (p : ℕ) (page : LivePage) → names.live p ≡ Some page → page_of_stamp page.stamp ≡ Some (record { tag = page.tag; bytes = bytes p })

-- Where pages are held for what is committed and frozen, and these maps stand for trees, their pointers lead.
pub record LeadsCommitted {D : Type 0} (g : Ghosts D) (s : D) (p : Progress) (pages : Pages)
    (page_of_stamp : ℕ → Option PageOfStamp) : Type 0 where
  pub committed : (count : ℕ) (tree : Tree) → MapRepresents (g.shape s) (read_as (g.shape s) (committed_on g s)) page_of_stamp count tree
      → RepresentsAndLeads g s (committed_on g s) page_of_stamp count tree
  pub frozen : AwaitsCommitPage p pages.frozen → (count : ℕ) (tree : Tree)
      → MapRepresents (g.shape s) (read_as (g.shape s) (finished_on g s p pages)) page_of_stamp count tree
      → RepresentsAndLeads g s (finished_on g s p pages) page_of_stamp count tree

abbrev pub HeldLead : {D : Type 0} → Ghosts D → Type 0
HeldLead {D} g =
    (s : D) (p : Progress) (pages : Pages) (v : Holding) (page_of_stamp : ℕ → Option PageOfStamp) → g.tells
    → HasNumber p (length pages.frozen.addresses) → IsHoldingOn g s p pages v → KeepsCommitted v
    → ShowsPages (g.names s) (g.bytes s) page_of_stamp → LeadsCommitted g s p pages page_of_stamp

-- Where each live page is held once, the pointers of the running metadata lead.
abbrev pub RunningLead : {D : Type 0} → Ghosts D → Type 0
RunningLead {D} g =
    (s : D) (p : Progress) (pages : Pages) (v : Holding) (page_of_stamp : ℕ → Option PageOfStamp) (count : ℕ) (tree : Tree) → g.tells
    → HasNumber p (length pages.frozen.addresses)
    → IsVolumeShape (g.shape s) → IsJournaled g s p pages → IsPages pages → IsTransaction (g.shape s).vaddrs (dirty_pages pages)
    → IsHoldingOf g s pages v → HoldsPages v
    → ShowsPages (g.names s) (g.bytes s) page_of_stamp → MapRepresents (g.shape s) (running_on g s pages) page_of_stamp count tree
    → RepresentsAndLeads g s (ahead_on g s p pages) page_of_stamp count tree

-- What is stored can be opened: its virtual segment is firm, no write failed at an address, its pages under names are those of the device,
-- and pages of one stamp agree.
pub record IsFirm {D : Type 0} (g : Ghosts D) (s : D) : Type 0 where
  pub firm : (stored g s).firm ≡ true
  pub none_failed : NoneFailed (g.shape s).vaddrs (g.failed s)
  pub pages : StoresPages g s
  pub agree : NamedAgree (stored g s)

-- A stop within a call of the journal leaves a tree, where the pages stand for it that are committed then.
pub record LeavesRepresented {D : Type 0} (g : Ghosts D) (s : D) : Type 0 where
  pub one : (a : VirtualMap) (page_of_stamp : ℕ → Option PageOfStamp) (c : Stored) (count : ℕ) (tree : Tree) → LeavesOne g s a c
      → RepresentsAndLeads g s a page_of_stamp count tree
      → LeavesTree (g.shape s) (g.names s) (g.bytes s) page_of_stamp c count tree
  -- before its commit page is finished, one of two
  pub either : (a b : VirtualMap) (page_of_stamp : ℕ → Option PageOfStamp) (c : Stored) (count after : ℕ) (tree later : Tree)
      → LeavesEither g s a b c
      → RepresentsAndLeads g s a page_of_stamp count tree → RepresentsAndLeads g s b page_of_stamp after later
      → LeavesTree (g.shape s) (g.names s) (g.bytes s) page_of_stamp c count tree
      ⊎ LeavesTree (g.shape s) (g.names s) (g.bytes s) page_of_stamp c after later
  -- in a whole commit one of three: the pages of before, those with the frozen ones, or those with the dirty ones too
  pub one_of : (a b d : VirtualMap) (page_of_stamp : ℕ → Option PageOfStamp) (c : Stored) (count after last : ℕ) (tree later newest : Tree)
      → LeavesOneOf g s a b d c
      → RepresentsAndLeads g s a page_of_stamp count tree → RepresentsAndLeads g s b page_of_stamp after later → RepresentsAndLeads g s d page_of_stamp last newest
      → LeavesTree (g.shape s) (g.names s) (g.bytes s) page_of_stamp c count tree
      ⊎ (LeavesTree (g.shape s) (g.names s) (g.bytes s) page_of_stamp c after later
      ⊎ LeavesTree (g.shape s) (g.names s) (g.bytes s) page_of_stamp c last newest)

abbrev pub CrashStatesRepresent : {D : Type 0} → Ghosts D → Type 0
CrashStatesRepresent {D} g = (s : D) → IsVolumeShape (g.shape s) → IsFirm g s → LeavesRepresented g s
