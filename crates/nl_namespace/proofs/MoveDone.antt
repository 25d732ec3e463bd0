-- A name that is moved, from what was found to what is left.
use Rattle.std.proofs.Common.{◌≡◌, ◌≢◌, ℕ, ◌-◌, Bool, true, false, nat_lt, List, [], ◌∷◌, ◌++◌, drop, length, refl, sym, ap, subst, ◌∙◌, Option, Some, None, option_and_then, option_map, is_some, IsSome, ◌⊎◌, inl, inr, arith}
use Rattle.std.proofs.lemmas.Bool.{ltb-false}
use Rattle.std.proofs.lemmas.List.{append-nil, append_assoc}
use Rattle.std.specs.Prelude.{slice_get}
use Rattle.nl_field.specs.Graph.{Graph}
use Rattle.nl_field.specs.Numbers.{ShapeBounds}
use Rattle.nl_field.specs.declared.entry.EntryRec.{EntryRec}
use Rattle.nl_field.specs.declared.inode.InodeRec.{InodeRec}
use Rattle.nl_field.specs.declared.inode.Kind.{Kind}
use Rattle.nl_field.specs.declared.inode.Kind.TheVariants.{Dir, File, Unused}
use Rattle.nl_field.specs.declared.shape.Shape.{Shape}
use Rattle.nl_iface.specs.Device.{IsVolumeShape}
use Rattle.nl_iface.specs.declared.counts.Counts.{Ghosts}
use Rattle.nl_meta.specs.Committed.{VirtualMap}
use Rattle.nl_meta.specs.Consistent.{GoodEntry}
use Rattle.nl_meta.specs.Nodes.{address_of_place, graph_of, inode_at}
use Rattle.nl_meta.specs.Pages.{Pages, besides_0, page_of}
use Rattle.nl_meta.specs.Running.{running_over}
use Rattle.nl_meta.proofs.Lists.{none_some, some_in}
use Rattle.nl_inode.specs.Nodes.{Spaces, page_of_node}
use Rattle.nl_dir.specs.Directory.{HasRoomForDirty}
use Rattle.nl_dir.proofs.LawProofs.{only_own_pages}
use Rattle.nl_tree.specs.GraphLaws.{entry_at}
use Rattle.nl_tree.specs.Represents.{node_reached}
use Rattle.nl_tree.specs.Step.{when}
use Rattle.nl_tree.specs.Tree.{is_at_or_under, paths_eq}
use Rattle.nl_tree.specs.declared.reply.Refusal.TheVariants.{Enotempty}
use Rattle.nl_tree.proofs.ChangeProofs.{Ends, ends}
use Rattle.nl_tree.proofs.GraphProofs.{from_back, from_turned_all, reached-append, tail_eq, turned-append, turned_onto}
use Rattle.nl_tree.proofs.TreeProofs.{path_eq, under_parts}
use Rattle.nl_meta_running.specs.Running.{RunningIsRight, PreservesRunning, running_on, stored_on}
use Rattle.nl_meta_running.proofs.Holds.{bounds-of}
use Rattle.nl_namespace.specs.Changing.{Changes, FreeFits}
use Rattle.nl_namespace.specs.Entering.{HasNamed, PutsIn, TakesOut}
use Rattle.nl_namespace.specs.Finding.{FitsAfter, NameIsThere, MovesIn, place_of, renamed}
use Rattle.nl_namespace.specs.Moving.{CanTake, MovesName, refusal_over_record}
use Rattle.nl_namespace.specs.Placing.{DirectoryIsResident, IsPlaceOfPath}
use Rattle.nl_namespace.specs.declared.finding.There.{There}
use Rattle.nl_namespace.specs.declared.place.Place.{Place}
use Rattle.nl_namespace.proofs.Chains.{then-graph, then-node, then-runs}
use Rattle.nl_namespace.proofs.EntrySteps.{EntryStep, absent-step, taken-step}
use Rattle.nl_namespace.proofs.HeldDirectories.{Held, Ready, held-then, named-fits, ready-here}
use Rattle.nl_namespace.proofs.MakeDone.{last-name}
use Rattle.nl_namespace.proofs.MakeReady.{changes-after, fits-then, placed-then, reached-is}
use Rattle.nl_namespace.proofs.MakeSteps.{state-of}
use Rattle.nl_namespace.proofs.MoveFits.{HasPlaceIn, fits-after, listed-good, origin-named}
use Rattle.nl_namespace.proofs.MoveSteps.{differ, moved-changes, moved-name, stood, stood-to}
use Rattle.nl_namespace.proofs.RemoveDone.{entry-name}
use Rattle.nl_namespace.proofs.RemoveSteps.{bare-childless}
use Rattle.nl_namespace.proofs.States.{State}
use Rattle.nl_namespace.proofs.TakeSteps.{take-good, take-state}
use Rattle.nl_namespace.proofs.Taking.{gives-none, gives-of}

false-true : false ≡ true → ⊥
false-true e = cc

-- a directory that is held stays so
pub held-stays : {D : Type 0} (g : Ghosts D) (s : D) (p q : Pages) (t u : D) (r : Pages) → PreservesRunning g t q u r → (n : ℕ) (rec : InodeRec) → DirectoryIsResident g s p q n rec → DirectoryIsResident g s p r n rec
held-stays g s p q t u r on n rec held =
    let own = only_own_pages rec (page_of q) (page_of r) (λ i h. on.stays (address_of_place rec i) (held.entries.directory.places.there i h)) in
    record {
      node = ap is_some (on.stays (page_of_node n) held.node) ∙ held.node;
      entries = record { directory = own.directory held.entries.directory; entries = own.entries ∙ held.entries.entries };
    }

-- what another node may take the place of is a file, or a directory without entries
bare-over : (kind k : Kind) (size : ℕ) → kind ≢ Unused → k ≢ Unused → refusal_over_record kind k size ≡ None → (k ≡ File) ⊎ ((k ≡ Dir) × (size ≡ 0))
bare-over Unused k size used there e = absurd (used refl)
bare-over kind Unused size used there e = absurd (there refl)
bare-over File File size used there e = inl refl
bare-over File Dir size used there e = absurd (none_some _ (sym e))
bare-over Dir File size used there e = absurd (none_some _ (sym e))
bare-over Dir Dir size used there e = by (nat_lt 0 size) refl e
  where
    none : Some Enotempty ≡ None → ⊥
    none e = cc

    by : (b : Bool) → nat_lt 0 size ≡ b → when b Enotempty ≡ None → (Dir ≡ File) ⊎ ((Dir ≡ Dir) × (size ≡ 0))
    by true f e = absurd (none e)
    by false f e = let h = ltb-false 0 size f in inr (refl, omega (arith, h))

-- a path without its last name
same-parent : (p q : List (List ℕ)) (x y : List ℕ) → p ++ x ∷ [] ≡ q ++ y ∷ [] → p ≡ q
same-parent p q x y e =
    let turned = sym (turned-append p x []) ∙ ap (λ (r : List (List ℕ)). turned_onto r []) e ∙ turned-append q y [] in
    sym (from_turned_all p) ∙ ap from_back (tail_eq x y _ _ turned) ∙ from_turned_all q

-- ---- before the call

module _ {D : Type 0} (g : Ghosts D) (s : D) (p : Pages) (volume : IsVolumeShape (g.shape s)) (runs : RunningIsRight g s p) (from to : List (List ℕ)) (old : There) (there : NameIsThere g s p from old) where
  abbrev graph : Graph
  graph = graph_of (g.shape s) (running_on g s p)

  -- nothing lies under a file
  pub not-under-file : old.node.kind ≡ File → paths_eq from to ≡ false → (target : Place) → IsPlaceOfPath g s p to target → is_at_or_under from to ≡ false
  unfolding node_reached
  not-under-file file other target at = by (is_at_or_under from to) refl
    where
      none : (x : List ℕ) → entry_at graph old.entry.ino x ≡ None
      none = bare-childless (g.shape s) (running_on g s p) old.entry.ino old.node there.is_node (inl file)

      not-the-file : old.entry.ino ≡ target.dir → ⊥
      not-the-file e = dir-file (sym at.is_dir ∙ ap (λ (r : InodeRec). r.kind) (some_in target.rec old.node (sym at.is_node.spelled ∙ ap (inode_at (running_on g s p)) (sym e) ∙ there.is_node.spelled)) ∙ file)
        where
          dir-file : Dir ≡ File → ⊥
          dir-file e = cc

      behind : (r : List (List ℕ)) → node_reached graph old.entry.ino r ≡ Some target.dir → ⊥
      behind [] e = not-the-file (some_in old.entry.ino target.dir e)
      behind (x ∷ r) e = none_some target.dir (sym (ap (option_and_then (λ k. node_reached graph k r)) (none x)) ∙ e)

      reached : (r : List (List ℕ)) → at.named.parent ≡ from ++ r → node_reached graph old.entry.ino r ≡ Some target.dir
      reached r e =
          sym (ap (option_and_then (λ k. node_reached graph k r)) (reached-is g s p volume runs from (place_of old) there.place))
          ∙ sym (reached-append graph 0 from r) ∙ ap (node_reached graph 0) (sym e) ∙ at.named.leads

      under : (r : List (List ℕ)) → Ends r → from ++ r ≡ to → ⊥
      under r (Ends.empty e) h = false-true (sym other ∙ path_eq from to (sym (append-nil from) ∙ ap (λ (z : List (List ℕ)). from ++ z) (sym e) ∙ h))
      under r (Ends.ended q y e) h =
          behind q (reached q (same-parent at.named.parent (from ++ q) at.name y (sym at.named.split ∙ sym h ∙ ap (λ (z : List (List ℕ)). from ++ z) e ∙ sym (append_assoc from q (y ∷ [])))))

      by : (b : Bool) → is_at_or_under from to ≡ b → is_at_or_under from to ≡ false
      by false e = e
      by true e = absurd (under (drop (length from) to) (ends (drop (length from) to)) (under_parts from to e))

  pub apart-of : paths_eq from to ≡ false → (old.node.kind ≡ Dir → is_at_or_under from to ≡ false) → (target : Place) → IsPlaceOfPath g s p to target → is_at_or_under from to ≡ false
  apart-of other not-under target at = by old.node.kind refl
    where
      by : (k : Kind) → old.node.kind ≡ k → is_at_or_under from to ≡ false
      by Dir e = not-under e
      by File e = not-under-file e other target at
      by Unused e = absurd (there.is_node.used e)

-- ---- the steps

module _ {D : Type 0} (g : Ghosts D) (s : D) (p : Pages) (t : D) (q : Pages) (volume : IsVolumeShape (g.shape s)) (later : IsVolumeShape (g.shape t)) (runs : RunningIsRight g s p) (on : PreservesRunning g s p t q) (free : Spaces) (fits : FreeFits g s p free) (room : HasRoomForDirty 8 p) (from to : List (List ℕ))
    (old : There) (there : NameIsThere g s p from old) (held : DirectoryIsResident g s p p old.dir old.rec) where
  abbrev shape : Shape
  shape = g.shape t

  bounds : ShapeBounds shape
  bounds = bounds-of (g.shape t) later

  abbrev device : VirtualMap
  device = stored_on g t

  abbrev n : ℕ
  n = old.dir

  abbrev over : Pages → Graph
  over r = graph_of shape (running_over device r)

  at-later : IsPlaceOfPath g t q from (place_of old)
  at-later = placed-then g s p volume runs from (place_of old) there.place t q on

  runs-later : RunningIsRight g t q
  runs-later = then-runs g s p t q volume on runs

  state : State shape device q free
  state = state-of g t q runs-later free (fits-then g s p t q volume on free fits)

  kept-there : (v : ℕ) → IsSome (page_of p v) → IsSome (page_of q v)
  kept-there v h = ap is_some (on.stays v h) ∙ h

  held-origin : Held shape device q n old.rec
  held-origin = record {
    is_node = at-later.is_node;
    is_dir = at-later.is_dir;
    node_there = kept-there (page_of_node n) held.node;
    there = λ i h. kept-there (address_of_place old.rec i) (held.entries.directory.places.there i h);
  }

  held-target : (target : Place) → IsPlaceOfPath g s p to target → DirectoryIsResident g s p q target.dir target.rec → Held shape device q target.dir target.rec
  held-target target at h = record {
    is_node = then-node g s p t q volume on target.dir target.rec at.is_node;
    is_dir = at.is_dir;
    node_there = h.node;
    there = h.entries.directory.places.there;
  }

  name-is : old.entry.name ≡ at-later.name
  name-is = entry-name g t q later runs-later from (place_of old) at-later old.entry refl

  room-later : HasRoomForDirty 8 q
  room-later = let e = ap (λ (ds : List ℕ). length (besides_0 ds)) on.dirty in omega (arith, e, room)

  good : GoodEntry shape (running_over device q) old.entry
  good = listed-good shape device q free state n old.rec held-origin at-later.name old.entry at-later.entry

  module _ (target : Place) (at : IsPlaceOfPath g s p to target) (target-held : DirectoryIsResident g s p q target.dir target.rec) (apart : is_at_or_under from to ≡ false) where
    abbrev l : ℕ
    l = target.dir

    at-target : IsPlaceOfPath g t q to target
    at-target = placed-then g s p volume runs to target at t q on

    abbrev name_to : List ℕ
    name_to = at-target.name

    held-there : Held shape device q l target.rec
    held-there = held-target target at target-held

    stood-origin : entry_at (over q) n old.entry.name ≡ Some old.entry.ino
    stood-origin = ap (entry_at (over q) n) name-is ∙ stood g t q later runs-later from to (place_of old) target at-later at-target old.entry refl apart

    stood-target : entry_at (over q) l name_to ≡ option_map (λ (e : EntryRec). e.ino) target.entry
    stood-target = stood-to g t q later runs-later from to (place_of old) target at-later at-target old.entry refl apart

    differ-here : n ≡ l → old.entry.name ≢ name_to
    differ-here e same = differ g t q later runs-later from to (place_of old) target at-later at-target old.entry refl apart e (sym name-is ∙ same)

    -- nothing stands at the new name
    module _ (absent : target.entry ≡ None) (can : CanTake free n old.rec.size l target.rec.size) (other : List ℕ) (last : slice_get to (length to - 1) ≡ Some other) where
      last-is : name_to ≡ other
      last-is = last-name g t q to target at-target other last

      none-there : entry_at (over q) l name_to ≡ None
      none-there = stood-target ∙ ap (option_map (λ (e : EntryRec). e.ino)) absent

      pub free-named : HasNamed n old.entry.name q free
      free-named = origin-named shape bounds device n l old.entry name_to differ-here q free state old.rec held-origin held-there.is_node.below stood-origin (let r = room-later in omega (arith, r))

      pub free-fits : FitsAfter n old.entry l other q free
      free-fits =
          subst (λ (x : List ℕ). FitsAfter n old.entry l x q free) last-is
          (fits-after shape bounds device n l old.entry name_to differ-here q free state old.rec held-origin held-there.is_node.below (let r = room-later in omega (arith, r)) none-there place)
        where
          place : HasPlaceIn shape device q free n old.rec l
          place = by can
            where
              by : CanTake free n old.rec.size l target.rec.size → HasPlaceIn shape device q free n old.rec l
              by (inl e) = inl e
              by (inr x) = inr (target.rec, held-there, x.0, x.1)

      module _ (r : Pages) (after : Spaces) (moves : MovesIn n old.entry l other q r free after) where
        abbrev takes : TakesOut n at-later.name q moves.between free moves.free
        takes = subst (λ (x : List ℕ). TakesOut n x q moves.between free moves.free) name-is moves.takes

        abbrev puts : PutsIn l (renamed old.entry name_to) moves.between r moves.free after
        puts = subst (λ (x : List ℕ). PutsIn l (renamed old.entry x) moves.between r moves.free after) (sym last-is) moves.puts

        bare : (k : ℕ) (x : List ℕ) → entry_at (over q) l name_to ≡ Some k → entry_at (over q) k x ≡ None
        bare k x e = absurd (none_some k (sym none-there ∙ e))

        pub free-moved : MovesName (graph_of (g.shape s) (running_on g s p)) (over r) from to None
        free-moved =
            subst (λ (o : Option ℕ). MovesName (graph_of (g.shape s) (running_on g s p)) (over r) from to o) (ap (option_map (λ (e : EntryRec). e.ino)) absent)
            (subst (λ (z : Graph). MovesName z (over r) from to (option_map (λ (e : EntryRec). e.ino) target.entry)) (then-graph g s p t q volume on)
            (moved-name g t q later runs-later from to (place_of old) target at-later at-target old.entry refl apart bare q moves.between r free moves.free after 0 (omega arith) (absent-step shape device l name_to q none-there) state good takes puts))

        pub free-changes : Changes g s p free t r after None
        free-changes =
            subst (λ (o : Option ℕ). Changes g s p free t r after o) (ap (option_map (λ (e : EntryRec). e.ino)) absent)
            (changes-after g s p t q volume on t r free after (option_map (λ (e : EntryRec). e.ino) target.entry)
            (moved-changes g t q later runs-later from to (place_of old) target at-later at-target old.entry refl apart bare q moves.between r free moves.free after 0 (omega arith) (absent-step shape device l name_to q none-there) state good takes puts free
            (gives-none free)))

  -- a file or an empty directory stands there
  module _ (lost : There) (lost-there : NameIsThere g s p to lost) (lost-held : DirectoryIsResident g s p q lost.dir lost.rec) (apart : is_at_or_under from to ≡ false) where
    abbrev place : Place
    place = place_of lost

    abbrev at-lost : IsPlaceOfPath g t q to place
    at-lost = at-target place lost-there.place lost-held apart

    lost-name : lost.entry.name ≡ at-lost.name
    lost-name = entry-name g t q later runs-later to place at-lost lost.entry refl

    held-lost : Held shape device q lost.dir lost.rec
    held-lost = held-target place lost-there.place lost-held

    pub over-named : HasNamed lost.dir lost.entry.name q free
    over-named =
        named-fits shape bounds device q free state lost.dir lost.rec held-lost lost.entry.name lost.entry.ino
        (ap (entry_at (over q) lost.dir) lost-name ∙ stood-target place lost-there.place lost-held apart) (let r = room-later in omega (arith, r))

    module _ (p1 : Pages) (s1 : Spaces) (out : TakesOut lost.dir lost.entry.name q p1 free s1) where
      takes-over : TakesOut lost.dir at-lost.name q p1 free s1
      takes-over = subst (λ (x : List ℕ). TakesOut lost.dir x q p1 free s1) lost-name out

      first : EntryStep shape device lost.dir at-lost.name None 3 q p1
      first = taken-step shape bounds device lost.dir q p1 free s1 state held-lost.is_node.below at-lost.name takes-over

      state1 : State shape device p1 s1
      state1 = take-state shape bounds device lost.dir at-lost.name q p1 free s1 state held-lost.is_node.below takes-over

      origin1 : (rec : InodeRec) × Held shape device p1 n rec
      origin1 = held-then shape bounds device lost.dir at-lost.name q p1 free s1 state held-lost.is_node.below takes-over n old.rec held-origin

      room1 : HasRoomForDirty 5 p1
      room1 = let f = first.follows.few in let r = room-later in omega (arith, f, r)

      good1 : GoodEntry shape (running_over device p1) old.entry
      good1 = take-good shape bounds device lost.dir at-lost.name q p1 free s1 state held-lost.is_node.below takes-over old.entry good

      differ-lost : n ≡ lost.dir → old.entry.name ≢ at-lost.name
      differ-lost = differ-here place lost-there.place lost-held apart

      stood1 : entry_at (over p1) n old.entry.name ≡ Some old.entry.ino
      stood1 = first.elsewhere n old.entry.name differ-lost ∙ stood-origin place lost-there.place lost-held apart

      pub over-origin : HasNamed n old.entry.name p1 s1
      over-origin = origin-named shape bounds device n lost.dir old.entry at-lost.name differ-lost p1 s1 state1 origin1.0 origin1.1 held-lost.is_node.below stood1 room1

      pub over-fits : FitsAfter n old.entry lost.dir lost.entry.name p1 s1
      over-fits =
          subst (λ (x : List ℕ). FitsAfter n old.entry lost.dir x p1 s1) (sym lost-name)
          (fits-after shape bounds device n lost.dir old.entry at-lost.name differ-lost p1 s1 state1 origin1.0 origin1.1 held-lost.is_node.below room1 first.at has-place)
        where
          ready : Ready shape device p1 s1 lost.dir
          ready = ready-here shape bounds device lost.dir at-lost.name q p1 free s1 state held-lost.is_node.below takes-over

          has-place : HasPlaceIn shape device p1 s1 n origin1.0 lost.dir
          has-place = inr (ready.rec, ready.held, ready.few, λ e. inl (ready.address e))

      module _ (unrefused : refusal_over_record old.node.kind lost.node.kind lost.node.size ≡ None) (r : Pages) (after : Spaces) (moves : MovesIn n old.entry lost.dir lost.entry.name p1 r s1 after) where
        abbrev takes-old : TakesOut n at-later.name p1 moves.between s1 moves.free
        takes-old = subst (λ (x : List ℕ). TakesOut n x p1 moves.between s1 moves.free) name-is moves.takes

        abbrev puts-new : PutsIn lost.dir (renamed old.entry at-lost.name) moves.between r moves.free after
        puts-new = subst (λ (x : List ℕ). PutsIn lost.dir (renamed old.entry x) moves.between r moves.free after) lost-name moves.puts

        bare-lost : (k : ℕ) (x : List ℕ) → entry_at (over q) lost.dir at-lost.name ≡ Some k → entry_at (over q) k x ≡ None
        bare-lost k x e =
            let same = some_in lost.entry.ino k (sym (stood-target place lost-there.place lost-held apart) ∙ e) in
            subst (λ (i : ℕ). entry_at (over q) i x ≡ None) same
            (bare-childless shape (running_over device q) lost.entry.ino lost.node (then-node g s p t q volume on lost.entry.ino lost.node lost-there.is_node)
            (bare-over old.node.kind lost.node.kind lost.node.size there.is_node.used lost-there.is_node.used unrefused) x)

        pub over-moved : MovesName (graph_of (g.shape s) (running_on g s p)) (over r) from to (Some lost.entry.ino)
        over-moved =
            subst (λ (z : Graph). MovesName z (over r) from to (Some lost.entry.ino)) (then-graph g s p t q volume on)
            (moved-name g t q later runs-later from to (place_of old) place at-later at-lost old.entry refl apart bare-lost p1 moves.between r s1 moves.free after 3 (omega arith) first state1 good1 takes-old puts-new)

        pub over-changes : Changes g s p free t r after (Some lost.entry.ino)
        over-changes =
            changes-after g s p t q volume on t r free after (Some lost.entry.ino)
            (moved-changes g t q later runs-later from to (place_of old) place at-later at-lost old.entry refl apart bare-lost p1 moves.between r s1 moves.free after 3 (omega arith) first state1 good1 takes-old puts-new free
            (gives-of out.given free s1 out.gives))
