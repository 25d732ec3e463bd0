-- What an opening answers.
use Rattle.std.specs.Prelude.{◌≡◌, ⊤, ℕ, ◌+◌, ◌<◌, ◌≤◌, List, [], map, Option, Some, None, IsSome}
use Rattle.nl_field.specs.declared.place.Place.{Place}
use Rattle.nl_field.specs.declared.seen.Seen.{Seen}
use Rattle.nl_field.specs.declared.shape.Shape.{Shape}
use Rattle.nl_field.specs.declared.super_page.SuperRec.{SuperRec}
use Rattle.nl_iface.specs.Stored.{NoneFailed}
use Rattle.nl_iface.specs.declared.counts.Counts.{Ghosts}
use Rattle.nl_inode.specs.Nodes.{AreFree}
use Rattle.nl_journal.specs.Outcomes.{bytes_of}
use Rattle.nl_journal.specs.Progress.{Progress}
use Rattle.nl_journal.specs.Restoring.{HasRestored}
use Rattle.nl_journal.specs.Standing.{JournalInOrder}
use Rattle.nl_meta.specs.Committed.{committed, next_number}
use Rattle.nl_meta.specs.Consistent.{ConsistentOver}
use Rattle.nl_meta.specs.Nodes.{held_in, super_of_pages}
use Rattle.nl_meta.specs.Pages.{Pages, page_of}
use Rattle.nl_meta.specs.Walk.{walk_over}
use Rattle.nl_meta_running.specs.Running.{IsNeeded, RunningIsRight, running_on, stored_on}
use Rattle.nl_recover.specs.Freeing.{SpacesOf}
use Rattle.nl_recover.specs.Reading.{MetadataIsRead}
use Rattle.nl_recover.specs.declared.metadata.Metadata.{Metadata}
use Rattle.nl_recover.specs.declared.opening.Recovered.{Recovered}
use Rattle.nl_recover.specs.declared.opening.Recovered.TheVariants.{Ready, Damaged, Fault, Memory}
use Rattle.nl_recover.specs.declared.opening.Walked.{Walked}

-- What a volume is begun with over a device, beside what a scan saw.
pub record IsWalked {D : Type 0} (g : Ghosts D) (s : D) (seen : List Seen) (w : Walked) : Type 0 where
  -- the running pages, with the list of the scan, are consistent
  pub consistent : ConsistentOver (g.shape s) (running_on g s w.meta) seen
  -- the running pages are the committed ones, none of them is dirty, and each that is needed is resident
  pub same : g.tells → (v : ℕ) → running_on g s w.meta v ≡ committed (g.shape s) (stored_on g s) v
  pub clean : w.meta.dirty ≡ []
  pub resident : (v : ℕ) → IsNeeded (g.shape s) (running_on g s w.meta) v → IsSome (page_of w.meta v)
  pub super_resident : IsSome (page_of w.meta 0)
  -- none of the journal's addresses is resident
  pub apart : (v : ℕ) → 1 ≤ v → v < 67 → page_of w.meta v ≡ None
  pub runs : RunningIsRight g s w.meta
  -- what the running pages do not use is free
  pub free : AreFree (g.shape s) (running_on g s w.meta) w.nodes
  pub spaces : SpacesOf (g.shape s) w.nodes
  -- the count of calls is the one that the super page tells, and the pointers are those of files in the order of nodes and indexes
  pub count : (rec : SuperRec) × (super_of_pages (running_on g s w.meta) ≡ Some rec) × (rec.count ≡ w.count)
  pub kept : w.kept.items ≡ map (λ h. h.pointer) (held_in (g.shape s) (running_on g s w.meta))
  -- the transaction that counts is restored, and the next one has the next number. Where no write of an address failed before, the journal
  -- is in order.
  pub restored : HasRestored w.journal w.meta
  pub number : g.tells → w.journal.number + 1 ≡ next_number (g.shape s) (bytes_of (g.map s))
  pub order : (g.tells → NoneFailed (g.shape s).vaddrs (g.failed s)) → JournalInOrder g s w.journal w.meta.frozen

abbrev pub IfRecovered : Recovered → (Walked → Type 0) → Type 0
IfRecovered (Ready w) P = P w
IfRecovered (Damaged place) P = ⊤
IfRecovered Fault P = ⊤
IfRecovered Memory P = ⊤

abbrev pub IfDamaged : Recovered → (Place → Type 0) → Type 0
IfDamaged (Ready w) P = ⊤
IfDamaged (Damaged place) P = P place
IfDamaged Fault P = ⊤
IfDamaged Memory P = ⊤

-- A walk over pages as they can have been read from the device, beside the list of the scan, finds its first fault there.
abbrev pub IsFirstFault : {D : Type 0} → Ghosts D → D → Shape → List Seen → Place → Type 0
IsFirstFault g s shape seen place = (m : Metadata) × MetadataIsRead g s m × (walk_over shape (page_of m.meta) seen ≡ Some place)

-- An opening that reads all it needs is ready exactly where a walk finds no fault, and else damaged at the first one.
abbrev pub FindsFault : Option Place → Recovered → Type 0
FindsFault fault (Ready w) = fault ≡ None
FindsFault fault (Damaged place) = fault ≡ Some place
FindsFault fault Fault = ⊤
FindsFault fault Memory = ⊤

abbrev pub IsRecoverFault : Recovered → Type 0
IsRecoverFault (Ready w) = ⊥
IsRecoverFault (Damaged place) = ⊥
IsRecoverFault Fault = ⊤
IsRecoverFault Memory = ⊥

abbrev pub count_in : Option SuperRec → ℕ
count_in None = 0
count_in (Some rec) = rec.count

-- A walk over the pages that are resident found no fault, and this is what they tell.
pub record BeginsFromWalk (shape : Shape) (seen : List Seen) (journal : Progress) (p : Pages) (w : Walked) : Type 0 where
  pub sound : walk_over shape (page_of p) seen ≡ None
  pub same_journal : w.journal ≡ journal
  pub same_pages : w.meta ≡ p
  pub free : AreFree shape (page_of p) w.nodes
  pub spaces : SpacesOf shape w.nodes
  pub count : w.count ≡ count_in (super_of_pages (page_of p))
  pub kept : w.kept.items ≡ map (λ h. h.pointer) (held_in shape (page_of p))

abbrev pub Walks : Shape → List Seen → Progress → Pages → Recovered → Type 0
Walks shape seen journal p (Ready w) = BeginsFromWalk shape seen journal p w
Walks shape seen journal p (Damaged place) = walk_over shape (page_of p) seen ≡ Some place
Walks shape seen journal p Fault = ⊥
Walks shape seen journal p Memory = ⊥
