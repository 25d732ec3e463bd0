-- A name less, from the directory that was found to what is left.
use Rattle.std.proofs.Common.{◌≡◌, ◌≢◌, ℕ, suc, ◌+◌, ◌/◌, ◌≤◌, ◌<◌, Bool, true, false, nat_lt, List, [], ◌∷◌, length, map, refl, ap, subst, ◌∙◌, Option, Some, None, option_map, is_none, is_some, IsSome, ◌⊎◌, inl, inr, arith, bytes_eq}
use Rattle.std.proofs.lemmas.Bool.{ltb-false}
use Rattle.std.specs.Option.{option_map_or}
use Rattle.nl_field.specs.Graph.{Graph, GraphNode, unused}
use Rattle.nl_field.specs.declared.entry.EntryRec.{EntryRec}
use Rattle.nl_field.specs.declared.inode.InodeRec.{InodeRec}
use Rattle.nl_field.specs.declared.inode.Kind.{Kind}
use Rattle.nl_field.specs.declared.inode.Kind.TheVariants.{Dir, File, Unused}
use Rattle.nl_iface.specs.Device.{IsVolumeShape}
use Rattle.nl_iface.specs.declared.counts.Counts.{Ghosts}
use Rattle.nl_meta.specs.Committed.{VirtualMap}
use Rattle.nl_meta.specs.Nodes.{address_of_place, body_of, entries_of_inode, entry_named, graph_of}
use Rattle.nl_meta.specs.Pages.{Pages, besides_0, page_of}
use Rattle.nl_meta.proofs.Lists.{member-find}
use Rattle.nl_inode.specs.Nodes.{Spaces, page_of_node}
use Rattle.nl_dir.specs.Directory.{HasRoomForDirty}
use Rattle.nl_dir.proofs.EntryLists.{named-same}
use Rattle.nl_dir.proofs.LawProofs.{entries_in_order}
use Rattle.nl_tree.specs.Represents.{node_reached}
use Rattle.nl_tree.specs.Step.{first_of, is_too_long, when}
use Rattle.nl_tree.specs.Tree.{is_root}
use Rattle.nl_tree.specs.declared.reply.Refusal.{Refusal}
use Rattle.nl_tree.specs.declared.reply.Refusal.TheVariants.{Enametoolong, Enoent, Enotempty}
use Rattle.nl_meta_running.specs.Running.{IsNodeOf, IsUsedNode, RunningIsRight, PreservesRunning, running_on}
use Rattle.nl_meta_running.proofs.Holds.{bounds-of}
use Rattle.nl_namespace.specs.Changing.{Changes, FreeFits}
use Rattle.nl_namespace.specs.Entering.{HasNamed, TakesOut}
use Rattle.nl_namespace.specs.Naming.{LosesName, body_at, refusal_of_kind, refusal_of_record, refusal_of_removal, root_refusal}
use Rattle.nl_namespace.specs.Paths.{walk_refusal}
use Rattle.nl_namespace.specs.Placing.{DirectoryIsResident, IsPlaceOfPath}
use Rattle.nl_namespace.specs.declared.place.Place.{Place}
use Rattle.nl_namespace.proofs.Chains.{then-graph, then-node, then-runs}
use Rattle.nl_namespace.proofs.Graphs.{entry-used}
use Rattle.nl_namespace.proofs.MakeReady.{changes-after, fits-then, has-directory, named-there, not-root-path, placed-then, reached-is}
use Rattle.nl_namespace.proofs.MakeSteps.{lists}
use Rattle.nl_namespace.proofs.NodeChanges.{graph-at, place-at}
use Rattle.nl_namespace.proofs.RemoveSteps.{loses-name, removed-changes}

-- what refuses a removal, from its five tests
pub removal-is : (kind : Kind) (graph : Graph) (path : List (List ℕ)) (a b c : Bool) (w r : Option Refusal) → is_too_long path ≡ a → is_root path ≡ b → walk_refusal graph 0 path ≡ w → is_none (node_reached graph 0 path) ≡ c
    → refusal_of_kind kind (body_at graph path) ≡ r
    → refusal_of_removal kind graph path ≡ first_of (when a Enametoolong ∷ when b (root_refusal kind) ∷ w ∷ when c Enoent ∷ r ∷ [])
removal-is kind graph path a b c w r ea eb ew ec er = λ i. first_of (when (ea i) Enametoolong ∷ when (eb i) (root_refusal kind) ∷ ew i ∷ when (ec i) Enoent ∷ er i ∷ [])

pub length-map : {X Y : Type 0} (f : X → Y) (xs : List X) → length (map f xs) ≡ length xs
length-map f [] = refl
length-map f (x ∷ xs) = ap (λ (n : ℕ). suc n) (length-map f xs)

-- the refusal of a node is that of its record
kind-refusal : (kind : Kind) (pages : VirtualMap) (rec : InodeRec) (k : Kind) → rec.kind ≡ k → (k ≡ Dir → length (entries_of_inode pages rec) ≡ rec.size) → refusal_of_kind kind (body_of pages rec k) ≡ refusal_of_record kind k rec.size
kind-refusal Unused pages rec Unused e count = refl
kind-refusal Unused pages rec File e count = refl
kind-refusal Unused pages rec Dir e count = refl
kind-refusal File pages rec Unused e count = refl
kind-refusal File pages rec File e count = refl
kind-refusal File pages rec Dir e count = refl
kind-refusal Dir pages rec Unused e count = refl
kind-refusal Dir pages rec File e count = refl
kind-refusal Dir pages rec Dir e count = ap (λ (n : ℕ). when (nat_lt 0 n) Enotempty) (length-map (λ (e : EntryRec). (e.name, e.ino)) (entries_of_inode pages rec) ∙ count refl)

-- a node that is not refused is a file, or a directory without entries
bare-of : (kind k : Kind) (size : ℕ) → kind ≢ Unused → k ≢ Unused → refusal_of_record kind k size ≡ None → (k ≡ File) ⊎ ((k ≡ Dir) × (size ≡ 0))
bare-of Unused k size used there e = absurd (used refl)
bare-of kind Unused size used there e = absurd (there refl)
bare-of File File size used there e = inl refl
bare-of Dir File size used there e = absurd (some-none e)
  where
    some-none : refusal_of_record Dir File size ≡ None → ⊥
    some-none e = cc
bare-of File Dir size used there e = absurd (some-none e)
  where
    some-none : refusal_of_record File Dir size ≡ None → ⊥
    some-none e = cc
bare-of Dir Dir size used there e = by (nat_lt 0 size) refl e
  where
    none : Some Enotempty ≡ None → ⊥
    none e = cc

    by : (b : Bool) → nat_lt 0 size ≡ b → when b Enotempty ≡ None → (Dir ≡ File) ⊎ ((Dir ≡ Dir) × (size ≡ 0))
    by true f e = absurd (none e)
    by false f e = let h = ltb-false 0 size f in inr (refl, omega (arith, h))

module _ {D : Type 0} (g : Ghosts D) (s : D) (p : Pages) (volume : IsVolumeShape (g.shape s)) (runs : RunningIsRight g s p) (path : List (List ℕ)) (place : Place) (at : IsPlaceOfPath g s p path place) where
  abbrev graph : Graph
  graph = graph_of (g.shape s) (running_on g s p)

  pub no-target : (kind : Kind) → place.entry ≡ None → is_too_long path ≡ false → refusal_of_removal kind graph path ≡ Some Enoent
  no-target kind absent short =
      removal-is kind graph path false false true None (refusal_of_kind kind (body_at graph path)) short (not-root-path g s p volume runs path place at) at.walked
      (ap is_none (reached-is g s p volume runs path place at ∙ ap (option_map (λ (e : EntryRec). e.ino)) absent)) refl

  module _ (entry : EntryRec) (named : place.entry ≡ Some entry) where
    pub target-used : IsUsedNode g s p entry.ino
    target-used = entry-used g s p place.dir at.name runs entry (record { rec = place.rec; is_node = at.is_node; is_dir = at.is_dir; named = at.entry ∙ named })

    pub entry-name : entry.name ≡ at.name
    unfolding entry_named
    entry-name = named-same at.name entry (member-find (λ (e : EntryRec). bytes_eq e.name at.name) (entries_of_inode (running_on g s p) place.rec) entry (at.entry ∙ named)).1

    reached : node_reached graph 0 path ≡ Some entry.ino
    reached = reached-is g s p volume runs path place at ∙ ap (option_map (λ (e : EntryRec). e.ino)) named

    pub with-target : (kind : Kind) (target : InodeRec) → IsNodeOf g s p entry.ino target → is_too_long path ≡ false
        → refusal_of_removal kind graph path ≡ first_of (None ∷ None ∷ None ∷ None ∷ refusal_of_record kind target.kind target.size ∷ [])
    with-target kind target is short =
        removal-is kind graph path false false false None (refusal_of_record kind target.kind target.size) short (not-root-path g s p volume runs path place at) at.walked (ap is_none reached)
        (ap (λ (o : Option ℕ). refusal_of_kind kind (option_map_or (λ n. (graph n).body) o unused)) reached
        ∙ ap (λ (n : GraphNode). refusal_of_kind kind n.body) (graph-at (g.shape s) (running_on g s p) entry.ino target is.below is.spelled)
        ∙ kind-refusal kind (running_on g s p) target target.kind refl (λ dir. (entries_in_order (running_on g s p) target ((lists g s p runs).directories entry.ino target is dir)).count))

pub one-of : (o : Option Refusal) → first_of (o ∷ []) ≡ o
one-of None = refl
one-of (Some r) = refl

module _ {D : Type 0} (g : Ghosts D) (s : D) (p : Pages) (t : D) (q : Pages) (volume : IsVolumeShape (g.shape s)) (later : IsVolumeShape (g.shape t)) (runs : RunningIsRight g s p) (on : PreservesRunning g s p t q) (free : Spaces) (fits : FreeFits g s p free) (path : List (List ℕ)) (place : Place)
    (at : IsPlaceOfPath g s p path place) (held : DirectoryIsResident g s p p place.dir place.rec) (entry : EntryRec) (named : place.entry ≡ Some entry) where
  at-later : IsPlaceOfPath g t q path place
  at-later = placed-then g s p volume runs path place at t q on

  runs-later : RunningIsRight g t q
  runs-later = then-runs g s p t q volume on runs

  fits-later : FreeFits g t q free
  fits-later = fits-then g s p t q volume on free fits

  kept-there : (v : ℕ) → IsSome (page_of p v) → IsSome (page_of q v)
  kept-there v h = ap is_some (on.stays v h) ∙ h

  name-later : entry.name ≡ at-later.name
  name-later = entry-name g t q later runs-later path place at-later entry named

  pub has-named : HasRoomForDirty 8 p → HasNamed place.dir entry.name q free
  has-named room = record {
    rec = place.rec;
    has = has-directory g t q later runs-later path place at-later q node-there there 3 room-later;
    there = ap (λ (x : List ℕ). is_some (entry_named (page_of q) place.rec x)) name-later ∙ ap is_some (named-there g t q later runs-later path place at-later q node-there there ∙ named);
    of_pool = of-pool;
  }
    where
      node-there : IsSome (page_of q (page_of_node place.dir))
      node-there = kept-there (page_of_node place.dir) held.node

      there : (i : ℕ) → i < place.rec.size → IsSome (page_of q (address_of_place place.rec i))
      there i h = kept-there (address_of_place place.rec i) (held.entries.directory.places.there i h)

      room-later : HasRoomForDirty 3 q
      room-later = let e = ap (λ (ds : List ℕ). length (besides_0 ds)) on.dirty in omega (arith, e, room)

      of-pool : (i : ℕ) → i < place.rec.size → (free.first ≤ address_of_place place.rec i) × (address_of_place place.rec i < free.first + length free.pool)
      of-pool i h =
          let good = runs.addresses.good place.dir (i / 64) (address_of_place place.rec i) (place-at (g.shape s) (running_on g s p) place.dir place.rec at.is_node at.is_dir i h) in
          let low = good.from_pool in
          let high = good.in_pool in
          let f = fits.pool.first in
          let c = fits.count_pool in
          let v = (bounds-of (g.shape s) volume).addresses in
          (omega (arith, low, f), omega (arith, high, f, c, v))

  module _ (target : InodeRec) (is : IsNodeOf g s p entry.ino target) (kind : Kind) (used : kind ≢ Unused) (unrefused : refusal_of_record kind target.kind target.size ≡ None) (r : Pages) (after : Spaces) (takes : TakesOut place.dir entry.name q r free after) where
    is-later : IsNodeOf g t q entry.ino target
    is-later = then-node g s p t q volume on entry.ino target is

    bare : (target.kind ≡ File) ⊎ ((target.kind ≡ Dir) × (target.size ≡ 0))
    bare = bare-of kind target.kind target.size used is.used unrefused

    takes-later : TakesOut place.dir at-later.name q r free after
    takes-later = subst (λ (x : List ℕ). TakesOut place.dir x q r free after) name-later takes

    pub lost-name : LosesName (graph_of (g.shape s) (running_on g s p)) (graph_of (g.shape t) (running_on g t r)) path entry.ino
    lost-name = subst (λ (z : Graph). LosesName z (graph_of (g.shape t) (running_on g t r)) path entry.ino) (then-graph g s p t q volume on)
        (loses-name g t q r free after later runs-later fits-later path place at-later entry named target is-later bare takes-later)

    pub lost-changes : Changes g s p free t r after (Some entry.ino)
    lost-changes = changes-after g s p t q volume on t r free after (Some entry.ino)
        (removed-changes g t q r free after later runs-later fits-later path place at-later entry named target is-later bare takes-later)
