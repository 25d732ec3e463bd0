-- What stands at a path, and the directory that has its last name.
use Rattle.std.specs.Prelude.{◌≡◌, ℕ, ⊤, List, Some, None}
use Rattle.nl_field.specs.declared.entry.EntryRec.{EntryRec}
use Rattle.nl_iface.specs.declared.counts.Counts.{Ghosts}
use Rattle.nl_meta.specs.Nodes.{graph_of}
use Rattle.nl_meta.specs.Pages.{Pages}
use Rattle.nl_inode.specs.Nodes.{Spaces}
use Rattle.nl_meta_running.specs.Running.{IsNodeOf, running_on}
use Rattle.nl_namespace.specs.Entering.{FitsBehind, PutsIn, TakesOut}
use Rattle.nl_namespace.specs.Paths.{walk_refusal}
use Rattle.nl_namespace.specs.Placing.{DirectoryIsResident, IsPlaceOfPath}
use Rattle.nl_namespace.specs.declared.finding.Found.{Found}
use Rattle.nl_namespace.specs.declared.finding.Found.TheVariants as found
use Rattle.nl_namespace.specs.declared.finding.There.{There}
use Rattle.nl_namespace.specs.declared.place.Place.{Place}

-- where the name of a node stands
abbrev pub place_of : There → Place
place_of x = record { dir = x.dir; rec = x.rec; entry = Some x.entry }

-- The name stands there, for a node of this record.
pub record NameIsThere {D : Type 0} (g : Ghosts D) (s : D) (p : Pages) (path : List (List ℕ)) (x : There) : Type 0 where
  pub place : IsPlaceOfPath g s p path (place_of x)
  pub is_node : IsNodeOf g s p x.entry.ino x.node

abbrev pub IsFoundName : {D : Type 0} → Ghosts D → D → Pages → List (List ℕ) → Found → Type 0
IsFoundName g s p path (found.At x) = NameIsThere g s p path x
IsFoundName g s p path (found.Free place) = IsPlaceOfPath g s p path place × (place.entry ≡ None)
IsFoundName g s p path (found.No refusal) = walk_refusal (graph_of (g.shape s) (running_on g s p)) 0 path ≡ Some refusal

-- the pages of the directory and of its record are resident
abbrev pub FoundIsResident : {D : Type 0} → Ghosts D → D → Pages → Pages → Found → Type 0
FoundIsResident g s p q (found.At x) = DirectoryIsResident g s p q x.dir x.rec
FoundIsResident g s p q (found.Free place) = DirectoryIsResident g s p q place.dir place.rec
FoundIsResident g s p q (found.No refusal) = ⊤

-- ---- an entry moved

-- the entry under another name
abbrev pub renamed : EntryRec → List ℕ → EntryRec
renamed entry name = record entry { name = name }

-- Once the entry is out of the one directory, it fits behind those of the other under the new name.
abbrev pub FitsAfter : ℕ → EntryRec → ℕ → List ℕ → Pages → Spaces → Type 0
FitsAfter dir entry to name p free =
    (q : Pages) (after : Spaces) → TakesOut dir entry.name p q free after → FitsBehind to (renamed entry name) q after

-- An entry is out of one directory, and stands in another under a new name.
pub record MovesIn (dir : ℕ) (entry : EntryRec) (to : ℕ) (name : List ℕ) (old new : Pages) (s t : Spaces) : Type 0 where
  pub between : Pages
  pub free : Spaces
  pub takes : TakesOut dir entry.name old between s free
  pub puts : PutsIn to (renamed entry name) between new free t
