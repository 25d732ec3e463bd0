-- How the trees of a volume go on through a commit, and what a stop within it opens as.
use Rattle.std.specs.Prelude.{◌≡◌, ℕ, ◌<◌, ◌≤◌, ◌^◌, Bool, if◌then◌else◌, List, length, Option, Some, None, IfSome}
use Rattle.nl_field.specs.Members.{Has}
use Rattle.nl_field.specs.SuperPage.{super_bytes}
use Rattle.nl_field.specs.declared.answers.VirtualWrite.{VirtualWrite}
use Rattle.nl_field.specs.declared.answers.VirtualWrite.TheVariants as write
use Rattle.nl_field.specs.declared.pointer.Pointer.{Pointer}
use Rattle.nl_field.specs.declared.pointer.Tag.{Tag}
use Rattle.nl_iface.specs.Calls.{CrashStatesHave}
use Rattle.nl_iface.specs.Device.{IsVolumeShape}
use Rattle.nl_iface.specs.Stored.{Stored}
use Rattle.nl_iface.specs.declared.counts.Counts.{Ghosts}
use Rattle.nl_journal.specs.Left.{CommitWrites, UnitWrites}
use Rattle.nl_journal.specs.Progress.{HasNumber, Progress}
use Rattle.nl_journal.specs.declared.answers.Phase.TheVariants.{Commit}
use Rattle.nl_meta.specs.Consistent.{PageOfStamp}
use Rattle.nl_meta.specs.Pages.{IsPages, Pages, page_of}
use Rattle.nl_journal_commit.specs.Committing.{ChangesAt, CommitsInParts, EarlierAt}
use Rattle.nl_journal_commit.specs.Completing.{Completes, IsDecided}
use Rattle.nl_journal_commit.specs.Counting.{record_of, with_count, with_frozen}
use Rattle.nl_journal_commit.specs.Standing.{CanFreeze, IsJournaled}
use Rattle.nl_journal_commit.specs.Stepping.{TakesUnit}
use Rattle.nl_spec_commits.specs.Held.{IsHeldVolume}
use Rattle.nl_spec_commits.specs.Standing.{IsFirm, ShowsPages}
use Rattle.nl_spec_commits.specs.Trees.{StoredOpensAs, Prefix, RepresentsTrees, Trees, prefixes}
use Rattle.nl_field.specs.declared.shape.Shape.{Shape}

-- what a part of a commit leaves committed: the frozen transaction, where its commit page was finished
abbrev pub decided_tree : Option ℕ → Trees → Prefix
decided_tree None t = t.committed
decided_tree (Some moment) t = t.frozen

abbrev pub completed : Option ℕ → Trees → Trees
completed decided t = record t { committed = decided_tree decided t }

-- the dirty pages are frozen
abbrev pub frozen_now : ℕ → Trees → Trees
frozen_now count t = record t { frozen = (count, t.running) }

abbrev pub CompletingPreservesTrees : {D : Type 0} → Ghosts D → Type 0
CompletingPreservesTrees {D} g =
    (answer : VirtualWrite) (s t : D) (p q : Progress) (pages now : Pages) (count : ℕ) (page_of_stamp : ℕ → Option PageOfStamp) (x : Trees)
    (decided : Option ℕ) → IsVolumeShape (g.shape s) → g.tells
    → HasNumber p (length pages.frozen.addresses) → IsJournaled g s p pages → Completes g (answer ≡ write.Done) s p pages t q now
    → IsDecided decided p q pages.frozen now.frozen
    → RepresentsTrees g s p pages count page_of_stamp x → RepresentsTrees g t q now count page_of_stamp (completed decided x)

abbrev pub FreezingPreservesTrees : {D : Type 0} → Ghosts D → Type 0
FreezingPreservesTrees {D} g =
    (s : D) (p : Progress) (pages : Pages) (count : ℕ) (page_of_stamp : ℕ → Option PageOfStamp) (x : Trees) → IsVolumeShape (g.shape s)
    → g.tells → HasNumber p (length pages.frozen.addresses)
    → IsJournaled g s p pages → IsPages pages → CanFreeze (g.shape s).vaddrs p pages
    → page_of pages 0 ≡ Some (super_bytes (record_of (g.shape s) count)) → count < 2 ^ 63
    → RepresentsTrees g s p pages count page_of_stamp x → RepresentsTrees g s p (with_frozen pages) count page_of_stamp (frozen_now count x)

-- Another count in the super page changes none of the trees for which a volume stands.
abbrev pub SuperPagePreservesTrees : {D : Type 0} → Ghosts D → Type 0
SuperPagePreservesTrees {D} g =
    (s : D) (p : Progress) (pages : Pages) (shape : Shape) (stored count : ℕ) (page_of_stamp : ℕ → Option PageOfStamp) (x : Trees)
    → IsVolumeShape (g.shape s) → IsJournaled g s p pages
    → RepresentsTrees g s p pages count page_of_stamp x → RepresentsTrees g s p (with_count shape stored pages) count page_of_stamp x

-- what a whole commit leaves
abbrev pub committed_by : ℕ → Option ℕ → Option ℕ → Trees → Prefix
committed_by count earlier None t = decided_tree earlier t
committed_by count earlier (Some moment) t = (count, t.running)

-- what is frozen then: all calls where the dirty pages were, and else what was
abbrev pub frozen_by : ℕ → Bool → Trees → Prefix
frozen_by count froze t = if froze then (count, t.running) else t.frozen

-- The volume goes on to stand for the tree of all calls. What is committed is what was committed before, or frozen, or all calls.
pub record CommitsTrees {D : Type 0} (g : Ghosts D) (t : D) (r : Progress) (now : Pages) (count : ℕ)
    (page_of_stamp : ℕ → Option PageOfStamp) (froze : Bool) (earlier decided : Option ℕ) (x : Trees) : Type 0 where
  pub trees : Trees
  pub stands : RepresentsTrees g t r now count page_of_stamp trees
  pub running : trees.running ≡ x.running
  pub committed : trees.committed ≡ committed_by count earlier decided x
  pub frozen : trees.frozen ≡ frozen_by count froze x

abbrev pub CommitPreservesTrees : {D : Type 0} → Ghosts D → Type 0
CommitPreservesTrees {D} g =
    (answer : VirtualWrite) (s t : D) (p r : Progress) (pages now : Pages) (count : ℕ) (page_of_stamp : ℕ → Option PageOfStamp) (x : Trees)
    (froze : Bool) (earlier decided : Option ℕ) → IsVolumeShape (g.shape s) → g.tells
    → HasNumber r (length now.frozen.addresses) → count < 2 ^ 63 → IsJournaled g s p pages
    → CommitsInParts g (answer ≡ write.Done) froze earlier decided s p (with_count (g.shape s) count pages) t r now
    → RepresentsTrees g s p pages count page_of_stamp x → CommitsTrees g t r now count page_of_stamp froze earlier decided x

-- the moment of the last commit page that was finished
abbrev pub last_commit_moment : ℕ → Option ℕ → Option ℕ → ℕ
last_commit_moment before earlier (Some moment) = moment
last_commit_moment before (Some moment) None = moment
last_commit_moment before None None = before

-- What a stop leaves opens as one of the trees, from that moment on as none earlier than what is committed then.
abbrev pub OpensFrom : Shape → ℕ → ℕ → Trees → Prefix → ℕ → Stored → Type 0
OpensFrom shape count moment x committed m c =
    (z : Prefix) × Has (prefixes count x) z × StoredOpensAs shape c z × (moment ≤ m → committed.0 ≤ z.0)

abbrev pub CommitLeaves : {D : Type 0} → Ghosts D → Type 0
CommitLeaves {D} g =
    (answer : VirtualWrite) (s t : D) (p r : Progress) (pages now : Pages) (count before : ℕ) (page_of_stamp : ℕ → Option PageOfStamp)
    (x : Trees) (earlier decided : Option ℕ) (flight : List (Tag × Pointer)) (freeing : List Pointer) (leaving : ℕ)
    → IsVolumeShape (g.shape s) → g.tells → HasNumber p (length pages.frozen.addresses) → HasNumber r (length now.frozen.addresses)
    → count < 2 ^ 63 → g.clock t < 2 ^ 63
    → IsJournaled g s p pages → IsPages pages → IsHeldVolume g s p pages flight freeing leaving → IsFirm g s
    → ShowsPages (g.names s) (g.bytes s) page_of_stamp
    → CommitWrites g (answer ≡ write.Done) p r (with_count (g.shape s) count pages) now s t
    → IfSome earlier (EarlierAt g s t p r (with_count (g.shape s) count pages) now)
    → IfSome decided (ChangesAt g s t p r (with_count (g.shape s) count pages) now)
    → RepresentsTrees g s p pages count page_of_stamp x
    → CrashStatesHave g (OpensFrom (g.shape s) count (last_commit_moment before earlier decided) x (committed_by count earlier decided x)) s t

-- ---- unit by unit

-- A unit leaves the trees; once it was the commit page, what was frozen is committed.
pub record UnitTrees {D : Type 0} (g : Ghosts D) (decides : Type 0) (t : D) (q : Progress) (now : Pages) (count : ℕ)
    (page_of_stamp : ℕ → Option PageOfStamp) (x : Trees) : Type 0 where
  pub decided : decides → RepresentsTrees g t q now count page_of_stamp (record x { committed = x.frozen })
  pub same : (decides → ⊥) → RepresentsTrees g t q now count page_of_stamp x

abbrev pub UnitPreservesTrees : {D : Type 0} → Ghosts D → Type 0
UnitPreservesTrees {D} g =
    (answer : VirtualWrite) (s t : D) (p q : Progress) (pages now : Pages) (count : ℕ) (page_of_stamp : ℕ → Option PageOfStamp) (x : Trees)
    → IsVolumeShape (g.shape s) → g.tells → HasNumber p (length pages.frozen.addresses) → IsJournaled g s p pages
    → 1 ≤ length pages.frozen.addresses → TakesUnit g (answer ≡ write.Done) s p pages t q now → RepresentsTrees g s p pages count page_of_stamp x
    → UnitTrees g ((answer ≡ write.Done) × (p.phase ≡ Commit)) t q now count page_of_stamp x

-- What a stop within a unit leaves opens as what is committed, or where the commit page is due as what is frozen: once that page was
-- written, as nothing earlier from the moment on at which it was finished.
abbrev pub UnitLeaves : {D : Type 0} → Ghosts D → Type 0
UnitLeaves {D} g =
    (answer : VirtualWrite) (s t : D) (p q : Progress) (pages now : Pages) (count before : ℕ) (page_of_stamp : ℕ → Option PageOfStamp)
    (x : Trees) (flight : List (Tag × Pointer)) (freeing : List Pointer) (leaving : ℕ) → IsVolumeShape (g.shape s) → g.tells
    → HasNumber p (length pages.frozen.addresses) → g.clock t < 2 ^ 63 → IsJournaled g s p pages
    → IsHeldVolume g s p pages flight freeing leaving → IsFirm g s → ShowsPages (g.names s) (g.bytes s) page_of_stamp
    → UnitWrites g (answer ≡ write.Done) p q pages now s t → RepresentsTrees g s p pages count page_of_stamp x
    → ((answer ≡ write.Done) × (p.phase ≡ Commit) → CrashStatesHave g (OpensFrom (g.shape s) count (g.clock t) x x.frozen) s t)
    × (((answer ≡ write.Done) × (p.phase ≡ Commit) → ⊥) → CrashStatesHave g (OpensFrom (g.shape s) count before x x.committed) s t)
