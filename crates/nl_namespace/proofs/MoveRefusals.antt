-- What refuses a rename, from what was found.
use Rattle.std.proofs.Common.{◌≡◌, ◌≢◌, ℕ, Bool, true, false, ◌||◌, ◌&&◌, cond, nat_lt, List, [], ◌∷◌, length, refl, sym, ap, subst, ◌∙◌, Option, Some, None, option_map, is_none, arith}
use Rattle.std.specs.Prelude.{MatchBool}
use Rattle.std.specs.Option.{option_map_or}
use Rattle.nl_field.specs.Graph.{Graph, GraphNode, NodeBody, directory_node, file_node, unused}
use Rattle.nl_field.specs.declared.entry.EntryRec.{EntryRec}
use Rattle.nl_field.specs.declared.inode.InodeRec.{InodeRec}
use Rattle.nl_field.specs.declared.inode.Kind.{Kind}
use Rattle.nl_field.specs.declared.inode.Kind.TheVariants.{Dir, File, Unused}
use Rattle.nl_iface.specs.Device.{IsVolumeShape}
use Rattle.nl_iface.specs.declared.counts.Counts.{Ghosts}
use Rattle.nl_meta.specs.Committed.{VirtualMap}
use Rattle.nl_meta.specs.Nodes.{body_of, entries_of_inode, graph_of}
use Rattle.nl_meta.specs.Pages.{Pages, besides_0}
use Rattle.nl_dir.proofs.LawProofs.{entries_in_order}
use Rattle.nl_inode.specs.Nodes.{Spaces}
use Rattle.nl_tree.specs.Represents.{entries_in, node_reached}
use Rattle.nl_tree.specs.Step.{first_of, is_too_long, when}
use Rattle.nl_tree.specs.Tree.{is_at_or_under, is_root, paths_eq}
use Rattle.nl_tree.specs.declared.reply.Refusal.{Refusal}
use Rattle.nl_tree.specs.declared.reply.Refusal.TheVariants.{Einval, Enametoolong, Enoent, Enospc, Enotempty}
use Rattle.nl_tree.specs.declared.reply.Space.{Space}
use Rattle.nl_meta.proofs.Lists.{none_some}
use Rattle.nl_meta.proofs.PageProofs.{loaded}
use Rattle.nl_meta_running.proofs.Kept.{loads-on}
use Rattle.nl_meta_running.specs.Running.{RunningIsRight, PreservesRunning, running_on}
use Rattle.nl_namespace.specs.Changing.{Changes, FreeFits}
use Rattle.nl_namespace.specs.Finding.{NameIsThere, place_of}
use Rattle.nl_namespace.specs.Moving.{CanTake, CannotTake, HasRoomForMove, LacksRoomForMove, LacksRoomIn, MovesName, MovesOrStays, is_directory_body, refusal_of_place, refusal_of_rename, refusal_over, refusal_over_record}
use Rattle.nl_namespace.specs.Naming.{body_at}
use Rattle.nl_namespace.specs.Paths.{walk_refusal}
use Rattle.nl_namespace.specs.Placing.{IsPlaceOfPath}
use Rattle.nl_namespace.specs.declared.finding.There.{There}
use Rattle.nl_namespace.specs.declared.place.Place.{Place}
use Rattle.nl_namespace.proofs.PointersStay.{tagged-read}
use Rattle.nl_namespace.proofs.Chains.{then-graph, then-node, then-runs}
use Rattle.nl_namespace.proofs.MakeReady.{count-is, fits-then, not-root-path, placed-then, reached-is}
use Rattle.nl_namespace.proofs.MakeSteps.{lists}
use Rattle.nl_namespace.proofs.NodeChanges.{graph-at}
use Rattle.nl_namespace.proofs.RemoveDone.{length-map, one-of}
use Rattle.nl_namespace.proofs.Taking.{takes-none}
use Rattle.nl_namespace.proofs.DirectorySteps.{dir-entry}

-- what refuses a rename, from its five tests
pub rename-is : (graph : Graph) (from to : List (List ℕ)) (a b c : Bool) (w r : Option Refusal) → (is_too_long from || is_too_long to) ≡ a → (is_root from || is_root to) ≡ b → walk_refusal graph 0 from ≡ w → is_none (node_reached graph 0 from) ≡ c
    → cond (paths_eq from to) None (refusal_of_place graph from to) ≡ r
    → refusal_of_rename graph from to ≡ first_of (when a Enametoolong ∷ when b Einval ∷ w ∷ when c Enoent ∷ r ∷ [])
rename-is graph from to a b c w r ea eb ew ec er = λ i. first_of (when (ea i) Enametoolong ∷ when (eb i) Einval ∷ ew i ∷ when (ec i) Enoent ∷ er i ∷ [])

-- what refuses the new path, from its three tests
place-is : (graph : Graph) (from to : List (List ℕ)) (a : Bool) (w r : Option Refusal) → (is_directory_body (body_at graph from) && is_at_or_under from to) ≡ a → walk_refusal graph 0 to ≡ w → refusal_over (body_at graph from) (body_at graph to) ≡ r
    → refusal_of_place graph from to ≡ first_of (when a Einval ∷ w ∷ r ∷ [])
place-is graph from to a w r ea ew er = λ i. first_of (when (ea i) Einval ∷ ew i ∷ er i ∷ [])

over-nothing : (b : NodeBody) → refusal_over b unused ≡ None
over-nothing unused = refl
over-nothing (directory_node entries) = refl
over-nothing (file_node size pointers) = refl

-- the refusal of two nodes is that of their records
over-refusal : (pages : VirtualMap) (rec other : InodeRec) (k j : Kind) → k ≢ Unused → j ≢ Unused → (j ≡ Dir → length (entries_of_inode pages other) ≡ other.size) → refusal_over (body_of pages rec k) (body_of pages other j) ≡ refusal_over_record k j other.size
over-refusal pages rec other Unused j used there count = absurd (used refl)
over-refusal pages rec other k Unused used there count = absurd (there refl)
over-refusal pages rec other File File used there count = refl
over-refusal pages rec other File Dir used there count = refl
over-refusal pages rec other Dir File used there count = refl
over-refusal pages rec other Dir Dir used there count = ap (λ (n : ℕ). when (nat_lt 0 n) Enotempty) (length-map (λ (e : EntryRec). (e.name, e.ino)) (entries_of_inode pages other) ∙ count refl)

-- a directory is one in the nodes, and a file is none
dir-body-of : (pages : VirtualMap) (rec : InodeRec) (k : Kind) → k ≡ Dir → is_directory_body (body_of pages rec k) ≡ true
dir-body-of pages rec k e = ap (λ (k : Kind). is_directory_body (body_of pages rec k)) e

no-under : (pages : VirtualMap) (rec : InodeRec) (k : Kind) (b : Bool) → (k ≡ Dir → b ≡ false) → (is_directory_body (body_of pages rec k) && b) ≡ false
no-under pages rec Dir b not = not refl
no-under pages rec File b not = refl
no-under pages rec Unused b not = refl

module _ {D : Type 0} (g : Ghosts D) (s : D) (p : Pages) (volume : IsVolumeShape (g.shape s)) (runs : RunningIsRight g s p) where
  abbrev graph : Graph
  graph = graph_of (g.shape s) (running_on g s p)

  body-there : (path : List (List ℕ)) (x : There) → NameIsThere g s p path x → body_at graph path ≡ body_of (running_on g s p) x.node x.node.kind
  body-there path x at =
      ap (λ (o : Option ℕ). option_map_or (λ n. (graph n).body) o unused) (reached-is g s p volume runs path (place_of x) at.place)
      ∙ ap (λ (n : GraphNode). n.body) (graph-at (g.shape s) (running_on g s p) x.entry.ino x.node at.is_node.below at.is_node.spelled)

  body-free : (path : List (List ℕ)) (place : Place) → IsPlaceOfPath g s p path place → place.entry ≡ None → body_at graph path ≡ unused
  body-free path place at absent =
      ap (λ (o : Option ℕ). option_map_or (λ n. (graph n).body) o unused) (reached-is g s p volume runs path place at ∙ ap (option_map (λ (e : EntryRec). e.ino)) absent)

  -- nothing stands at the old path
  pub missing-old : (from to : List (List ℕ)) (place : Place) → IsPlaceOfPath g s p from place → place.entry ≡ None → is_too_long from ≡ false → is_too_long to ≡ false → is_root to ≡ false → refusal_of_rename graph from to ≡ Some Enoent
  missing-old from to place at absent short short_to not-root =
      rename-is graph from to false false true None (cond (paths_eq from to) None (refusal_of_place graph from to)) ((λ i. short i || short_to i)) ((λ i. not-root-path g s p volume runs from place at i || not-root i)) at.walked
      (ap is_none (reached-is g s p volume runs from place at ∙ ap (option_map (λ (e : EntryRec). e.ino)) absent)) refl

  pub there-then : (t : D) (q : Pages) → PreservesRunning g s p t q → (path : List (List ℕ)) (x : There) → NameIsThere g s p path x → NameIsThere g t q path x
  there-then t q on path x there = record { place = placed-then g s p volume runs path (place_of x) there.place t q on; is_node = then-node g s p t q volume on x.entry.ino x.node there.is_node }

  module _ (from to : List (List ℕ)) (old : There) (there : NameIsThere g s p from old) (short : is_too_long from ≡ false) (short_to : is_too_long to ≡ false) (not-root : is_root to ≡ false) where
    -- a node that is there has only the new path to ask about
    found-old : (r : Option Refusal) → cond (paths_eq from to) None (refusal_of_place graph from to) ≡ r → refusal_of_rename graph from to ≡ r
    found-old r e =
        rename-is graph from to false false false None r ((λ i. short i || short_to i)) ((λ i. not-root-path g s p volume runs from (place_of old) there.place i || not-root i)) there.place.walked
        (ap is_none (reached-is g s p volume runs from (place_of old) there.place)) e
        ∙ one-of r

    pub same-path : paths_eq from to ≡ true → refusal_of_rename graph from to ≡ None
    same-path e = found-old None (ap (λ (b : Bool). cond b None (refusal_of_place graph from to)) e)

    module _ (other : paths_eq from to ≡ false) where
      other-path : (r : Option Refusal) → refusal_of_place graph from to ≡ r → refusal_of_rename graph from to ≡ r
      other-path r e = found-old r (ap (λ (b : Bool). cond b None (refusal_of_place graph from to)) other ∙ e)

      pub under-itself : old.node.kind ≡ Dir → is_at_or_under from to ≡ true → refusal_of_rename graph from to ≡ Some Einval
      under-itself dir under =
          other-path (Some Einval)
          (place-is graph from to true (walk_refusal graph 0 to) (refusal_over (body_at graph from) (body_at graph to))
          ((λ i. is_directory_body (body-there from old there i) && under i) ∙ ap (λ (b : Bool). b && true) (dir-body-of (running_on g s p) old.node old.node.kind dir)) refl refl)

      module _ (not-under : old.node.kind ≡ Dir → is_at_or_under from to ≡ false) where
        fits-under : (is_directory_body (body_at graph from) && is_at_or_under from to) ≡ false
        fits-under = ap (λ (b : NodeBody). is_directory_body b && is_at_or_under from to) (body-there from old there) ∙ no-under (running_on g s p) old.node old.node.kind (is_at_or_under from to) not-under

        pub walk-refused : (r : Refusal) → walk_refusal graph 0 to ≡ Some r → refusal_of_rename graph from to ≡ Some r
        walk-refused r e = other-path (Some r) (place-is graph from to false (Some r) (refusal_over (body_at graph from) (body_at graph to)) fits-under e refl)

        pub free-unrefused : (place : Place) → IsPlaceOfPath g s p to place → place.entry ≡ None → refusal_of_rename graph from to ≡ None
        free-unrefused place at absent =
            other-path None (place-is graph from to false None None fits-under at.walked (ap (refusal_over (body_at graph from)) (body-free to place at absent) ∙ over-nothing (body_at graph from)))

        pub over-refused : (lost : There) → NameIsThere g s p to lost → refusal_of_rename graph from to ≡ refusal_over_record old.node.kind lost.node.kind lost.node.size
        over-refused lost at =
            other-path (refusal_over_record old.node.kind lost.node.kind lost.node.size)
            (place-is graph from to false None (refusal_over_record old.node.kind lost.node.kind lost.node.size) fits-under at.place.walked
            ((λ i. refusal_over (body-there from old there i) (body-there to lost at i))
            ∙ over-refusal (running_on g s p) old.node lost.node old.node.kind lost.node.kind there.is_node.used at.is_node.used
            (λ dir. (entries_in_order (running_on g s p) lost.node ((lists g s p runs).directories lost.entry.ino lost.node at.is_node dir)).count))
            ∙ one-of (refusal_over_record old.node.kind lost.node.kind lost.node.size))

      -- nothing stands at the new path, and its directory has no room
      pub lacks-place : (free : Spaces) (place : Place) (at : IsPlaceOfPath g s p to place) → is_at_or_under from to ≡ false → place.entry ≡ None → (space : Space) → LacksRoomIn free old.dir old.rec.size place.dir place.rec.size space → LacksRoomForMove free graph from to (Enospc space)
      lacks-place free place at apart absent space lacks = record {
        n = old.dir;
        l = place.dir;
        name = there.place.name;
        name_to = at.name;
        place = there.place.named;
        place_to = at.named;
        apart = apart;
        absent = dir-entry (g.shape s) (running_on g s p) place.dir place.rec at.is_node at.is_dir at.name ∙ ap (option_map (λ (e : EntryRec). e.ino)) (at.entry ∙ absent);
        other = lacks.0;
        space = space;
        is_space = refl;
        full = subst (λ (c : ℕ). CannotTake free c (length (entries_in (graph place.dir).body)) space) (sym (count-is g s p volume runs from (place_of old) there.place)) (subst (λ (c : ℕ). CannotTake free old.rec.size c space) (sym (count-is g s p volume runs to place at)) lacks.1);
      }

      -- nothing stands at the new path, and its directory has room
      pub has-place-to : (free : Spaces) (place : Place) (at : IsPlaceOfPath g s p to place) → CanTake free old.dir old.rec.size place.dir place.rec.size → HasRoomForMove free graph from to
      has-place-to free place at can = record {
        n = old.dir;
        l = place.dir;
        name = there.place.name;
        name_to = at.name;
        place = there.place.named;
        place_to = at.named;
        room = λ absent.
            subst (λ (c : ℕ). CanTake free old.dir c place.dir (length (entries_in (graph place.dir).body))) (sym (count-is g s p volume runs from (place_of old) there.place)) (subst (λ (c : ℕ). CanTake free old.dir old.rec.size place.dir c) (sym (count-is g s p volume runs to place at)) can);
      }

      -- or something stands there
      pub over-place-to : (free : Spaces) (lost : There) → NameIsThere g s p to lost → HasRoomForMove free graph from to
      over-place-to free lost at = record {
        n = old.dir;
        l = lost.dir;
        name = there.place.name;
        name_to = at.place.name;
        place = there.place.named;
        place_to = at.place.named;
        room = λ absent. absurd (none_some lost.entry.ino (sym absent ∙ dir-entry (g.shape s) (running_on g s p) lost.dir lost.rec at.place.is_node at.place.is_dir at.place.name ∙ ap (option_map (λ (e : EntryRec). e.ino)) at.place.entry));
      }

-- ---- both paths, or two

if-false : (b : Bool) (P Q : Type 0) → b ≡ false → Q → MatchBool b P Q
if-false b P Q e q = subst (λ (c : Bool). MatchBool c P Q) (sym e) q

if-true : (b : Bool) (P Q : Type 0) → b ≡ true → P → MatchBool b P Q
if-true b P Q e p = subst (λ (c : Bool). MatchBool c P Q) (sym e) p

pub moves-other : (old new : Graph) (from to : List (List ℕ)) (gone : Option ℕ) → paths_eq from to ≡ false → MovesName old new from to gone → MovesOrStays old new from to gone
moves-other old new from to gone e m = if-false (paths_eq from to) ((gone ≡ None) × (new ≡ old)) (MovesName old new from to gone) e m

pub stays-one : (old new : Graph) (from to : List (List ℕ)) (gone : Option ℕ) → gone ≡ None → paths_eq from to ≡ true → new ≡ old → MovesOrStays old new from to gone
stays-one old new from to gone none e same = if-true (paths_eq from to) ((gone ≡ None) × (new ≡ old)) (MovesName old new from to gone) e (none, same)

pub no-other-path : (free : Spaces) (graph : Graph) (from to : List (List ℕ)) → paths_eq from to ≡ true → paths_eq from to ≡ false → HasRoomForMove free graph from to
no-other-path free graph from to e far = absurd (true-false (sym e ∙ far))
  where
    true-false : true ≡ false → ⊥
    true-false h = cc

-- ---- nothing changed

pub kept-changes : {D : Type 0} (g : Ghosts D) (s : D) (p : Pages) (t : D) (q : Pages) → IsVolumeShape (g.shape s) → RunningIsRight g s p → PreservesRunning g s p t q → (free : Spaces) → FreeFits g s p free → Changes g s p free t q free None
kept-changes g s p t q volume runs on free fits = record {
  reads = on.reads;
  frozen = on.frozen;
  pages = loaded p q (loads-on g s p t q on);
  few = let e = ap (λ (ds : List ℕ). length (besides_0 ds)) on.dirty in omega (arith, e);
  runs = record { count = later.count; nodes = later.nodes; addresses = later.addresses; entries = later.entries; absent = later.absent; clean = later.clean };
  fits = fits-then g s p t q volume on free fits;
  takes = takes-none free _ _ (λ k. ap (λ (z : Graph). (z k).generation) (then-graph g s p t q volume on));
  files = λ n rec is file. record { is_node = then-node g s p t q volume on n rec is; graph = ap (λ (z : Graph). z n) (then-graph g s p t q volume on) };
  pointers = tagged-read g s p t q volume on;
}
  where
    later : RunningIsRight g t q
    later = then-runs g s p t q volume on runs
