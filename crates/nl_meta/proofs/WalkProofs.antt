-- The walk finds no fault exactly where the image is consistent.
use Rattle.std.proofs.Common.{◌≡◌, ℕ, ◌≤◌, ◌<◌, Bool, true, false, not, cond, List, [], ◌∷◌, map, refl, sym, ap, ◌∙◌, Option, Some, None, arith, ◌*◌, nat_lt, is_none, length, IsTrue, IsSome, count_by}
use Rattle.std.proofs.lemmas.Bool.{cond-false, not_from_true, not-false, le-ltb, ltb-false}
use Rattle.std.specs.List.{AllByRecursion}
use Rattle.std.specs.Prelude.{◌↔◌}
use Rattle.nl_field.specs.Numbers.{is_legal, shape_for}
use Rattle.nl_field.specs.ScanList.{seen_in, virtual_seen, physical_seen, owns_seen, is_lost_seen, virtual_spare_seen, physical_spare_seen}
use Rattle.nl_field.specs.declared.place.Place.{Place}
use Rattle.nl_field.specs.declared.place.What.{What}
use Rattle.nl_field.specs.declared.seen.Seen.{Seen}
use Rattle.nl_field.specs.declared.shape.Shape.{Shape}
use Rattle.nl_field.specs.declared.super_page.SuperRec.{SuperRec}
use Rattle.nl_field.proofs.Bounds.{bounds}
use Rattle.nl_meta.specs.Committed.{VirtualMap, committed_of}
use Rattle.nl_meta.specs.Consistent.{NumbersRight, NodesRight, AddressesRight, AllAgree, MetadataListed, OwnNamesListed, RoomListed, ConsistentOver}
use Rattle.nl_meta.specs.Nodes.{Held, held_in}
use Rattle.nl_meta.specs.Walk.{zero_where, inode_fault, fault_in, first_fault, all_phases, walk_over, walk, name_fault, crowded_fault}
use Rattle.nl_meta.specs.WalkLaw.{WalkIsConsistency, WalkIsConsistencyOver}
use Rattle.nl_meta.proofs.AddressProofs.{addresses, places_there}
use Rattle.nl_meta.proofs.Lists.{true_false, none_some, find-none, none-find, map_none, none_map, zero_none}
use Rattle.nl_meta.proofs.NodeProofs.{numbers, inodes}
use Rattle.nl_meta.proofs.PlaceProofs.{entries}
use Rattle.nl_meta.proofs.PointerProofs.{pointers}
use Rattle.nl_meta.proofs.StampProofs.{stamps}

-- ---- the numbers of a legal geometry

pub nodes_some : (blocks pages : ℕ) → IsTrue (is_legal blocks pages) → 0 < (shape_for blocks pages).nodes
nodes_some blocks pages legal = let b = (bounds blocks pages legal).some_nodes in omega (arith, b)

pub nodes_fit : (blocks pages : ℕ) → IsTrue (is_legal blocks pages) → (shape_for blocks pages).nodes ≤ 16 * (shape_for blocks pages).inode_pages
nodes_fit blocks pages legal = (bounds blocks pages legal).places

-- ---- phases

pub names : (shape : Shape) (seen : List Seen) (held : List Held) → (name_fault shape seen held ≡ None) ↔ OwnNamesListed shape seen held
unfolding name_fault
names shape seen held = (
  (λ e h m. not-false _ (find-none (λ h. not (owns_seen shape seen h.pointer)) held (map_none (λ h. h.pointer.name) _ e) h m)),
  (λ f. none_map (λ h. h.pointer.name) _ (none-find (λ h. not (owns_seen shape seen h.pointer)) held (λ h m. not_from_true _ (f h m)))),
)

pub fits : (cap count : ℕ) → (zero_where (nat_lt cap count) ≡ None) ↔ (count ≤ cap)
fits cap count = ((λ e. ltb-false cap count (zero_none _ e)), (λ h. cond-false _ (Some 0) None (le-ltb cap count h)))

abbrev first_of_three : Option ℕ → Option ℕ → ℕ → ℕ → Option ℕ
first_of_three v p bound count = cond (is_none v) (Some 0) (cond (is_none p) (Some 1) (cond (nat_lt bound count) (Some 2) None))

three : (v p : Option ℕ) (bound count : ℕ) → (first_of_three v p bound count ≡ None) ↔ (IsSome v × IsSome p × (count ≤ bound))
three None p bound count = ((λ e. absurd (none_some 0 (sym e))), (λ h. absurd (true_false (sym h.0))))
three (Some v) None bound count = ((λ e. absurd (none_some 1 (sym e))), (λ h. absurd (true_false (sym h.1))))
three (Some v) (Some p) bound count = ((λ e. (refl, refl, ltb-false bound count (last (nat_lt bound count) e))), (λ h. cond-false _ (Some 2) None (le-ltb bound count h.2)))
  where
    last : (b : Bool) → cond {A = Option ℕ} b (Some 2) None ≡ None → b ≡ false
    last true e = absurd (none_some 2 (sym e))
    last false e = refl

pub crowded : (shape : Shape) (seen : List Seen) (held : List Held) → (crowded_fault shape seen held ≡ None) ↔ RoomListed shape seen held
unfolding crowded_fault
crowded shape seen held = ((λ e. let r = parts.0 e in record { virtual_room = r.0; physical_room = r.1; few_lost = r.2 }), (λ r. parts.1 (r.virtual_room, r.physical_room, r.few_lost)))
  where
    parts : (crowded_fault shape seen held ≡ None) ↔ (IsSome (virtual_spare_seen shape seen) × IsSome (physical_spare_seen shape seen (map (λ h. h.pointer.stamp) held)) × (count_by (λ h. is_lost_seen shape seen h.pointer) held ≤ 3 * shape.pages))
    parts = three (virtual_spare_seen shape seen) (physical_spare_seen shape seen (map (λ h. h.pointer.stamp) held)) (3 * shape.pages) (count_by (λ h. is_lost_seen shape seen h.pointer) held)

-- ---- the walk

module _ (fault : What → Option ℕ) where
  abbrev pub NoFaults : List What → Type 0
  NoFaults ws = AllByRecursion (λ w. fault w ≡ None) ws

  pub no_faults : (ws : List What) → first_fault fault ws ≡ None → NoFaults ws
  no_faults [] e = tt
  no_faults (w ∷ ws) e =
      elim (fault w) as (λ o. fault w ≡ o → (elim o as (λ o. Option Place) [ None ↦ first_fault fault ws | Some place ↦ Some (record { place = place; what = w }) ]) ≡ None → NoFaults (w ∷ ws)) [
        | None ↦ λ p e. (p, no_faults ws e)
        | Some place ↦ λ p e. absurd (none_some _ (sym e))
      ] refl e

  faults_none : (ws : List What) → NoFaults ws → first_fault fault ws ≡ None
  faults_none [] h = refl
  faults_none (w ∷ ws) h =
      ap (λ (o : Option ℕ). elim o as (λ o. Option Place) [ None ↦ first_fault fault ws | Some place ↦ Some (record { place = place; what = w }) ]) h.0 ∙ faults_none ws h.1

module _ (blocks in_block : ℕ) (pages : VirtualMap) (seen : List Seen) where
  abbrev shape : Shape
  shape = shape_for blocks in_block

  abbrev Faultless : Type 0
  Faultless = NoFaults (fault_in (shape_for blocks in_block) pages seen) all_phases

  walk_faults : walk_over (shape_for blocks in_block) pages seen ≡ None → Faultless
  unfolding walk_over
  walk_faults e = no_faults (fault_in (shape_for blocks in_block) pages seen) all_phases e

  faults_walk : Faultless → walk_over (shape_for blocks in_block) pages seen ≡ None
  unfolding walk_over
  faults_walk h = faults_none (fault_in (shape_for blocks in_block) pages seen) all_phases h

  own_numbers : IsTrue (is_legal (shape_for blocks in_block).blocks (shape_for blocks in_block).pages) → IsTrue (is_legal blocks in_block)
  unfolding shape_for
  own_numbers h = h

  node_law : IsTrue (is_legal (shape_for blocks in_block).blocks (shape_for blocks in_block).pages) → (inode_fault (shape_for blocks in_block) pages ≡ None) ↔ NodesRight (shape_for blocks in_block) pages
  node_law legal = inodes shape pages (nodes_some blocks in_block (own_numbers legal)) (nodes_fit blocks in_block (own_numbers legal))

  consistent_of : Faultless → ConsistentOver (shape_for blocks in_block) pages seen
  unfolding fault_in
  consistent_of h = record {
    metadata = record {
      super_rec = n.0;
      numbers = n.1;
      virtual_stamps = s.0;
      physical_stamps = s.1;
      tree = record {
        nodes = (node_law n.1.legal).0 h.1.1.0;
        addresses = a;
        entries = (entries shape pages (places_there shape pages a)).0 h.1.1.1.1.0;
        pointers = (pointers shape pages (physical_seen shape seen)).0 h.1.1.1.1.1.0;
      };
    };
    own_names = (names shape seen (held_in shape pages)).0 h.1.1.1.1.1.1.0;
    data_fits = (fits shape.cap (length (held_in shape pages))).0 h.1.1.1.1.1.1.1.0;
    room = (crowded shape seen (held_in shape pages)).0 h.1.1.1.1.1.1.1.1.0;
  }
    where
      n : (rec : SuperRec) × NumbersRight (shape_for blocks in_block) pages rec
      n = (numbers shape pages).0 h.0

      s : AllAgree (virtual_seen (shape_for blocks in_block) seen) × AllAgree (physical_seen (shape_for blocks in_block) seen)
      s = (stamps shape seen).0 h.1.0

      a : AddressesRight (shape_for blocks in_block) pages
      a = (addresses shape pages).0 h.1.1.1.0

  of_consistent : ConsistentOver (shape_for blocks in_block) pages seen → Faultless
  unfolding fault_in
  of_consistent c = (
    (numbers shape pages).1 (m.super_rec, m.numbers),
    (
      (stamps shape seen).1 (m.virtual_stamps, m.physical_stamps),
      (
        (node_law m.numbers.legal).1 m.tree.nodes,
        (
          (addresses shape pages).1 m.tree.addresses,
          (
            (entries shape pages (places_there shape pages m.tree.addresses)).1 m.tree.entries,
            (
              (pointers shape pages (physical_seen shape seen)).1 m.tree.pointers,
              (
                (names shape seen (held_in shape pages)).1 c.own_names,
                ((fits shape.cap (length (held_in shape pages))).1 c.data_fits, ((crowded shape seen (held_in shape pages)).1 c.room, tt)),
              ),
            ),
          ),
        ),
      ),
    ),
  )
    where
      m : MetadataListed (shape_for blocks in_block) pages seen
      m = c.metadata

pub walk_over_is_consistency : WalkIsConsistencyOver
walk_over_is_consistency blocks in_block pages seen = ((λ e. consistent_of blocks in_block pages seen (walk_faults blocks in_block pages seen e)), (λ c. faults_walk blocks in_block pages seen (of_consistent blocks in_block pages seen c)))

pub walk_is_consistency : WalkIsConsistency
unfolding walk
walk_is_consistency image = walk_over_is_consistency image.blocks image.pages (committed_of image) (seen_in image)
