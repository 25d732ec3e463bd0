-- Where a path has its last name, and what stands there in memory.
use Rattle.std.specs.Prelude.{◌≡◌, ℕ, ◌-◌, ⊤, List, [], ◌∷◌, length, slice_get, Some, None, Option, IsSome}
use Rattle.nl_field.specs.declared.inode.InodeRec.{InodeRec}
use Rattle.nl_field.specs.declared.inode.Kind.TheVariants.{Dir, File}
use Rattle.nl_iface.specs.declared.counts.Counts.{Ghosts}
use Rattle.nl_inode.specs.Nodes.{page_of_node}
use Rattle.nl_meta.specs.Nodes.{entry_named, graph_of}
use Rattle.nl_meta.specs.Pages.{Pages, page_of}
use Rattle.nl_namespace.specs.Holding.{HasEntries}
use Rattle.nl_namespace.specs.Naming.{NameIn}
use Rattle.nl_namespace.specs.Paths.{walk_refusal}
use Rattle.nl_meta_running.specs.Running.{IsNodeOf, IsUsedNode, running_on}
use Rattle.nl_namespace.specs.declared.place.Parent.{Parent}
use Rattle.nl_namespace.specs.declared.place.Parent.TheVariants as parent
use Rattle.nl_namespace.specs.declared.place.Place.{Place}
use Rattle.nl_namespace.specs.declared.place.Spot.{Spot}
use Rattle.nl_namespace.specs.declared.place.Spot.TheVariants as spot

-- The directory that the names before the last lead to, its record, and its entry of the last name.
pub record IsPlaceOfPath {D : Type 0} (g : Ghosts D) (s : D) (p : Pages) (path : List (List ℕ)) (place : Place) : Type 0 where
  pub name : List ℕ
  pub named : NameIn (graph_of (g.shape s) (running_on g s p)) path place.dir name
  pub walked : walk_refusal (graph_of (g.shape s) (running_on g s p)) 0 path ≡ None
  pub is_node : IsNodeOf g s p place.dir place.rec
  pub is_dir : place.rec.kind ≡ Dir
  pub entry : entry_named (running_on g s p) place.rec name ≡ place.entry

abbrev pub IsNameSpot : {D : Type 0} → Ghosts D → D → Pages → List (List ℕ) → Spot → Type 0
IsNameSpot g s p path (spot.At place) = IsPlaceOfPath g s p path place
IsNameSpot g s p path (spot.No refusal) = walk_refusal (graph_of (g.shape s) (running_on g s p)) 0 path ≡ Some refusal

-- The names before the last lead to a used node, or the walk is refused before it.
pub record IsParentAt {D : Type 0} (g : Ghosts D) (s : D) (p : Pages) (path : List (List ℕ)) (n : ℕ) : Type 0 where
  pub name : List ℕ
  pub last : slice_get path (length path - 1) ≡ Some name
  pub named : NameIn (graph_of (g.shape s) (running_on g s p)) path n name
  pub walked : walk_refusal (graph_of (g.shape s) (running_on g s p)) 0 path
      ≡ walk_refusal (graph_of (g.shape s) (running_on g s p)) n (name ∷ [])
  pub used : IsUsedNode g s p n

abbrev pub IsParent : {D : Type 0} → Ghosts D → D → Pages → List (List ℕ) → Parent → Type 0
IsParent g s p path (parent.At n) = IsParentAt g s p path n
IsParent g s p path (parent.No refusal) = walk_refusal (graph_of (g.shape s) (running_on g s p)) 0 path ≡ Some refusal

-- The node is a directory with this record, and has this entry of the name.
pub record EntersAt {D : Type 0} (g : Ghosts D) (s : D) (p : Pages) (n : ℕ) (name : List ℕ) (place : Place) : Type 0 where
  pub dir : place.dir ≡ n
  pub is_node : IsNodeOf g s p n place.rec
  pub is_dir : place.rec.kind ≡ Dir
  pub entry : entry_named (running_on g s p) place.rec name ≡ place.entry

abbrev pub Enters : {D : Type 0} → Ghosts D → D → Pages → ℕ → List ℕ → Option Place → Type 0
Enters g s p n name (Some place) = EntersAt g s p n name place
Enters g s p n name None = (rec : InodeRec) × IsNodeOf g s p n rec × (rec.kind ≡ File)

-- The pages of the directory and of its record are resident.
pub record DirectoryIsResident {D : Type 0} (g : Ghosts D) (s : D) (p q : Pages) (n : ℕ) (rec : InodeRec) : Type 0 where
  pub node : IsSome (page_of q (page_of_node n))
  pub entries : HasEntries g s p q rec

abbrev pub IfHeld : {D : Type 0} → Ghosts D → D → Pages → Pages → Spot → Type 0
IfHeld g s p q (spot.At place) = DirectoryIsResident g s p q place.dir place.rec
IfHeld g s p q (spot.No refusal) = ⊤

abbrev pub IfEntered : {D : Type 0} → Ghosts D → D → Pages → Pages → Option Place → Type 0
IfEntered g s p q (Some place) = DirectoryIsResident g s p q place.dir place.rec
IfEntered g s p q None = ⊤
