-- A new name, from the directory that was found to what is left.
use Rattle.std.proofs.Common.{◌≡◌, ◌≢◌, ℕ, zero, suc, ◌-◌, ◌≤◌, ◌<◌, Bool, true, false, ◌||◌, ◌&&◌, nat_le, nat_lt, IsTrue, List, [], ◌∷◌, length, refl, sym, ap, subst, ◌∙◌, Some, None, is_some, IsSome, ◌⊎◌, inl, inr, arith}
use Rattle.std.proofs.lemmas.Bool.{cases_lt, le-leb, lt-ltb}
use Rattle.std.proofs.lemmas.List.Elements.{All-get_or}
use Rattle.std.proofs.lemmas.Option.{get_or_from_slice_get}
use Rattle.std.specs.Prelude.{slice_get}
use Rattle.nl_field.specs.Graph.{Graph}
use Rattle.nl_field.specs.Members.{Has}
use Rattle.nl_field.specs.Names.{is_name}
use Rattle.nl_field.specs.Numbers.{max_name}
use Rattle.nl_field.specs.declared.inode.InodeRec.{InodeRec}
use Rattle.nl_field.specs.declared.inode.Kind.{Kind}
use Rattle.nl_field.specs.declared.inode.Kind.TheVariants.{Dir, Unused}
use Rattle.nl_iface.specs.Device.{IsVolumeShape}
use Rattle.nl_iface.specs.declared.counts.Counts.{Ghosts}
use Rattle.nl_meta.specs.Nodes.{address_of_place, graph_of}
use Rattle.nl_meta.proofs.Lists.{any-none, none_some, some_in, true_false}
use Rattle.nl_meta.specs.Pages.{Pages, besides_0, page_of}
use Rattle.nl_inode.specs.Nodes.{Spaces, page_of_node}
use Rattle.nl_dir.specs.Directory.{HasRoomForDirty}
use Rattle.nl_tree.specs.Calls.{AreNames}
use Rattle.nl_tree.specs.Step.{is_too_long}
use Rattle.nl_tree.specs.Tree.{is_root}
use Rattle.nl_meta_running.specs.Running.{IsNodeOf, RunningIsRight, PreservesRunning, running_on}
use Rattle.nl_meta_running.proofs.Holds.{bounds-of}
use Rattle.nl_meta_running.proofs.SameNeeded.{own}
use Rattle.nl_namespace.specs.Changing.{Changes, FreeFits}
use Rattle.nl_namespace.specs.Making.{FitsNew, HasRoomForNode, MakesIn, empty_node}
use Rattle.nl_namespace.specs.Naming.{MakesName}
use Rattle.nl_namespace.specs.Placing.{DirectoryIsResident, IsPlaceOfPath}
use Rattle.nl_namespace.specs.declared.place.Place.{Place}
use Rattle.nl_namespace.proofs.Chains.{then-graph, then-runs}
use Rattle.nl_namespace.proofs.MakeReady.{changes-after, fits-new, fits-then, placed-then, same-last}
use Rattle.nl_namespace.proofs.MakeSteps.{changes, makes-name}

-- the last name of the path
pub last-name : {D : Type 0} (g : Ghosts D) (s : D) (p : Pages) (path : List (List ℕ)) (place : Place) (at : IsPlaceOfPath g s p path place) (other : List ℕ) → slice_get path (length path - 1) ≡ Some other → at.name ≡ other
last-name g s p path place at other e = same-last at.named.parent at.name other (sym (ap (λ (z : List (List ℕ)). slice_get z (length z - 1)) at.named.split) ∙ e)

module _ {D : Type 0} (g : Ghosts D) (s : D) (p : Pages) (t : D) (q : Pages) (volume : IsVolumeShape (g.shape s)) (later : IsVolumeShape (g.shape t)) (runs : RunningIsRight g s p) (on : PreservesRunning g s p t q) (free : Spaces) (fits : FreeFits g s p free) (path : List (List ℕ)) (place : Place)
    (at : IsPlaceOfPath g s p path place) (held : DirectoryIsResident g s p p place.dir place.rec) (absent : place.entry ≡ None) (other : List ℕ) (last : slice_get path (length path - 1) ≡ Some other) (m : ℕ) (spare : HasRoomForNode free place.rec.size m) (there : IsSome (page_of q (page_of_node m))) where
  at-later : IsPlaceOfPath g t q path place
  at-later = placed-then g s p volume runs path place at t q on

  runs-later : RunningIsRight g t q
  runs-later = then-runs g s p t q volume on runs

  fits-later : FreeFits g t q free
  fits-later = fits-then g s p t q volume on free fits

  kept-there : (v : ℕ) → IsSome (page_of p v) → IsSome (page_of q v)
  kept-there v h = ap is_some (on.stays v h) ∙ h

  pub made-fits : HasRoomForDirty 8 p → FitsNew place.dir m other q free
  made-fits room =
      subst (λ (x : List ℕ). FitsNew place.dir m x q free) (last-name g t q path place at-later other last)
      (fits-new g t q later runs-later path place at-later q (kept-there (page_of_node place.dir) held.node) (λ i h. kept-there (address_of_place place.rec i) (held.entries.directory.places.there i h)) free fits-later absent (room-later room) m spare there)
    where
      room-later : HasRoomForDirty 8 p → HasRoomForDirty 3 q
      room-later r = let e = ap (λ (ds : List ℕ). length (besides_0 ds)) on.dirty in omega (arith, e, r)

  module _ (kind : Kind) (used : kind ≢ Unused) (r : Pages) (after : Spaces) (makes : MakesIn place.dir m kind other q r free after) where
    makes-later : MakesIn place.dir m kind at-later.name q r free after
    makes-later = subst (λ (x : List ℕ). MakesIn place.dir m kind x q r free after) (sym (last-name g t q path place at-later other last)) makes

    pub made-name : MakesName (graph_of (g.shape s) (running_on g s p)) (graph_of (g.shape t) (running_on g t r)) path m (empty_node kind)
    made-name = subst (λ (z : Graph). MakesName z (graph_of (g.shape t) (running_on g t r)) path m (empty_node kind)) (then-graph g s p t q volume on)
        (makes-name g t q r free after later runs-later fits-later path place at-later absent m kind used spare.least there makes-later)

    pub made-changes : Changes g s p free t r after None
    made-changes = changes-after g s p t q volume on t r free after None (changes g t q r free after later runs-later fits-later path place at-later absent m kind used spare.least there makes-later)

-- ---- names of a path

has-at : (xs : List (List ℕ)) (i : ℕ) (x : List ℕ) → slice_get xs i ≡ Some x → Has xs x
has-at [] i x e = absurd (none_some x e)
has-at (y ∷ xs) zero x e = inl (some_in y x e)
has-at (y ∷ xs) (suc i) x e = inr (has-at xs i x e)

below-at : (xs : List (List ℕ)) (i : ℕ) (x : List ℕ) → slice_get xs i ≡ Some x → i < length xs
below-at [] i x e = absurd (none_some x e)
below-at (y ∷ xs) zero x e = omega arith
below-at (y ∷ xs) (suc i) x e = let h = below-at xs i x e in omega (arith, h)

second-false : (a b : Bool) → (a || b) ≡ false → b ≡ false
second-false true b e = absurd (true_false e)
second-false false b e = e

both-true : (a b : Bool) → a ≡ true → b ≡ true → (a && b) ≡ true
both-true true b e f = f
both-true false b e f = absurd (true_false (sym e))

not-above : (n : ℕ) → nat_lt 55 n ≡ false → nat_le n 55 ≡ true
not-above n e = le-leb n 55 (by (cases_lt 55 n))
  where
    by : (55 < n) ⊎ (n ≤ 55) → n ≤ 55
    by (inr h) = h
    by (inl h) = absurd (true_false (sym (lt-ltb 55 n h) ∙ e))

-- the last name is one
pub last-is-name : (path : List (List ℕ)) (i : ℕ) (name : List ℕ) → AreNames path → is_too_long path ≡ false → slice_get path i ≡ Some name → (is_name name && nat_le (length name) max_name) ≡ true
unfolding is_too_long
last-is-name path i name names short at =
    both-true (is_name name) (nat_le (length name) 55)
    (subst (λ (x : List ℕ). is_name x ≡ true) (get_or_from_slice_get path i name [] at) (All-get_or (λ (x : List ℕ). IsTrue (is_name x)) path i [] (below-at path i name at) names))
    (not-above (length name) (any-none (λ (x : List ℕ). nat_lt 55 (length x)) path (second-false _ _ short) name (has-at path i name at)))

pub empty-path : (path : List (List ℕ)) → length path ≡ 0 → path ≡ []
empty-path [] e = refl
empty-path (x ∷ path) e = absurd (none e)
  where
    none : suc (length path) ≡ 0 → ⊥
    none e = cc

pub not-empty-root : (path : List (List ℕ)) → path ≢ [] → is_root path ≡ false
not-empty-root [] far = absurd (far refl)
not-empty-root (x ∷ path) far = refl

-- a directory that is held after a call was held for the volume as it is then
pub held-then : {D : Type 0} (g : Ghosts D) (s : D) (p : Pages) (t : D) (q : Pages) → IsVolumeShape (g.shape s) → (on : PreservesRunning g s p t q) → (n : ℕ) (rec : InodeRec) → IsNodeOf g s p n rec → rec.kind ≡ Dir → DirectoryIsResident g s p q n rec → DirectoryIsResident g t q q n rec
held-then g s p t q volume on n rec is dir held = record {
  node = held.node;
  entries = record {
    directory = held.entries.directory;
    entries = held.entries.entries ∙ sym (own (g.shape s) (bounds-of (g.shape s) volume) (running_on g s p) (running_on g t q) on.needed n rec is dir).entries;
  };
}
