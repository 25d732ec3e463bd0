-- A walk over two maps of pages that are alike where it looks.
use Rattle.std.proofs.Common.{◌≡◌, ◌≢◌, ℕ, zero, suc, ◌+◌, ◌*◌, ◌/◌, ◌%◌, ◌<◌, ◌≤◌, Bool, true, false, not, ◌&&◌, ◌||◌, cond, List, [], ◌∷◌, ◌++◌, length, map, filter, filter_map, flat_map, find, replicate, refl, sym, ap, ◌∙◌, Option, Some, None, option_map, is_none, is_some, unwrap_or, ◌⊎◌, inl, inr, arith, ◌==◌, nat_le, nat_lt}
use Rattle.std.proofs.lemmas.Bool.{and_parts, cases_Bool, eqb-false, leb-true, ltb-true, not-true}
use Rattle.std.specs.Int.{div_ceil}
use Rattle.std.specs.List.{cons_option, enumerate_from, list_any, range_with_len}
use Rattle.std.specs.Prelude.{bytes_eq, option_and_then, slice_get, slice_index}
use Rattle.nl_field.specs.Bytes.{all_zero}
use Rattle.nl_field.specs.EntryRecord.{entry_of}
use Rattle.nl_field.specs.Inode.{are_filled, inode_of}
use Rattle.nl_field.specs.Members.{Has}
use Rattle.nl_field.specs.Numbers.{ShapeBounds}
use Rattle.nl_field.specs.Pointers.{indirect_of, is_none_pointer, no_pointer, pointers}
use Rattle.nl_field.specs.SuperPage.{super_of}
use Rattle.nl_field.specs.declared.entry.EntryRec.{EntryRec}
use Rattle.nl_field.specs.declared.inode.InodeRec.{InodeRec}
use Rattle.nl_field.specs.declared.inode.Kind.{Kind}
use Rattle.nl_field.specs.declared.inode.Kind.TheVariants.{Dir, File, Unused}
use Rattle.nl_field.specs.declared.pointer.Pointer.{Pointer}
use Rattle.nl_field.specs.declared.place.What.{What}
use Rattle.nl_field.specs.declared.place.What.TheVariants.{Super, Stamp, Inode, Pages as PagesPhase, Entry, Pointer as PointerPhase, Names, Charges, Crowded}
use Rattle.nl_field.specs.declared.seen.Seen.{Seen}
use Rattle.nl_field.specs.declared.shape.Shape.{Shape}
use Rattle.nl_field.specs.ScanList.{physical_seen}
use Rattle.nl_meta.specs.Committed.{VirtualMap}
use Rattle.nl_meta.specs.Consistent.{AddressAt, AddressesRight, IsNode}
use Rattle.nl_meta.specs.Nodes.{Held, address_of_place, body_of, bytes_at, bytes_of_node, bytes_of_place, held_by, held_in, inode_at, node_from, pointers_at, pointers_of_inode, slot_in, slots_of, super_of_pages}
use Rattle.nl_meta.specs.Walk.{EntryPlace, addresses_of, all_places, crowded_fault, entry_fault, fault_in, first_after, first_fault, has_generation, inode_fault, is_bad_address, is_bad_naming, is_bad_place, is_dir_kind, is_file_kind, is_good_indirect, is_good_inode, is_reached, is_super_of, is_used_kind, name_fault, naming_of, or_then, pages_fault, places_of, pointer_fault, reach_fault, used_nodes, walk_over, zero_where}
use Rattle.nl_meta.proofs.AddressProofs.{addresses, filled_of, inode_spelled, member_address}
use Rattle.nl_meta.proofs.Lists.{member-filter, member-range, true_false}
use Rattle.nl_meta.proofs.NodeProofs.{dir_kind, used_is}
use Rattle.nl_recover.specs.Held.{pointers_at_node, held_entry}
use Rattle.nl_recover.specs.Looking.{LooksAlike, WalksAlike}
use Rattle.nl_recover.proofs.HeldFacts.{all-held}
use Rattle.nl_recover.proofs.WalkFacts.{first, or-later}

-- ---- lists

find-same : {X : Type 0} (t u : X → Bool) (xs : List X) → ((x : X) → Has xs x → t x ≡ u x) → find t xs ≡ find u xs
find-same t u [] same = refl
find-same {X} t u (x ∷ xs) same = λ i. cond (same x (inl refl) i) (Some x) (find-same t u xs (λ y m. same y (inr m)) i)

some-same : {X Y : Type 0} (f g : X → Option Y) (xs : List X) → ((x : X) → Has xs x → f x ≡ g x) → filter_map f xs ≡ filter_map g xs
some-same f g [] same = refl
some-same {X} {Y} f g (x ∷ xs) same = λ i. cons_option (same x (inl refl) i) (some-same f g xs (λ y m. same y (inr m)) i)

filter-same : {X : Type 0} (t u : X → Bool) (xs : List X) → ((x : X) → Has xs x → t x ≡ u x) → filter t xs ≡ filter u xs
filter-same t u [] same = refl
filter-same {X} t u (x ∷ xs) same = λ i. cond (same x (inl refl) i) (x ∷ filter-same t u xs (λ y m. same y (inr m)) i) (filter-same t u xs (λ y m. same y (inr m)) i)

map-same : {X Y : Type 0} (f g : X → Y) (xs : List X) → ((x : X) → Has xs x → f x ≡ g x) → map f xs ≡ map g xs
map-same f g [] same = refl
map-same {X} {Y} f g (x ∷ xs) same = λ i. same x (inl refl) i ∷ map-same f g xs (λ y m. same y (inr m)) i

flat-same : {X Y : Type 0} (f g : X → List Y) (xs : List X) → ((x : X) → Has xs x → f x ≡ g x) → flat_map f xs ≡ flat_map g xs
flat-same f g [] same = refl
flat-same {X} {Y} f g (x ∷ xs) same = λ i. same x (inl refl) i ++ flat-same f g xs (λ y m. same y (inr m)) i

after-same : {X : Type 0} (t u : List X → X → Bool) (e xs : List X) → ((e : List X) (x : X) → Has xs x → t e x ≡ u e x) → first_after t e xs ≡ first_after u e xs
after-same t u e [] same = refl
after-same {X} t u e (x ∷ xs) same = λ i. cond (same e x (inl refl) i) (Some x) (after-same t u (x ∷ e) xs (λ e y m. same e y (inr m)) i)

has-slot : (xs : List ℕ) (a : ℕ) → Has xs a → (k : ℕ) × (slice_get xs k ≡ Some a)
has-slot [] a m = absurd m
has-slot (x ∷ xs) a (inl e) = (0, ap (λ (n : ℕ). Some n) e)
has-slot (x ∷ xs) a (inr m) = let r = has-slot xs a m in (suc r.0, r.1)

filled-slot : (n : ℕ) (addresses : List ℕ) (k : ℕ) → are_filled n addresses ≡ true → k < n → (slice_get addresses k ≡ Some (slice_index addresses k)) × (slice_index addresses k ≢ 0)
unfolding are_filled
filled-slot zero addresses k e h = absurd (omega (arith, h))
filled-slot (suc n) [] k e h = absurd (true_false (sym e))
filled-slot (suc n) (a ∷ rest) zero e h = (refl, eqb-false a 0 (not-true _ (and_parts _ _ e).0))
filled-slot (suc n) (a ∷ rest) (suc k) e h = filled-slot n rest k (and_parts _ _ e).1 (omega (arith, h))

-- ---- the phases

module _ (shape : Shape) (old new : VirtualMap) (bounds : ShapeBounds shape) (same : LooksAlike shape old new) where
  node-page : (n : ℕ) → n < 16 * shape.inode_pages → new (67 + n / 16) ≡ old (67 + n / 16)
  node-page n h = same.tables (67 + n / 16) (inr (omega arith, omega (arith, h)))

  node-bytes : (n : ℕ) → n < 16 * shape.inode_pages → bytes_of_node new n ≡ bytes_of_node old n
  unfolding bytes_of_node
  node-bytes n h = ap (λ (o : Option (List ℕ)). slot_in 256 (n % 16) (unwrap_or o [])) (node-page n h)

  node-same : (n : ℕ) → n < 16 * shape.inode_pages → inode_at new n ≡ inode_at old n
  unfolding inode_at
  node-same n h = ap inode_of (node-bytes n h)

  below : (n : ℕ) → n < shape.nodes → n < 16 * shape.inode_pages
  below n h = let places = bounds.places in omega (arith, h, places)

  pub super-same : super_of_pages new ≡ super_of_pages old
  unfolding super_of_pages
  super-same = ap (option_and_then super_of) (same.tables 0 (inl refl))

  inodes-same : inode_fault shape new ≡ inode_fault shape old
  unfolding inode_fault
  inodes-same =
      find-same (λ n. not (cond (nat_lt n shape.nodes) (is_good_inode shape n (inode_at new n)) (all_zero (bytes_of_node new n))))
      (λ n. not (cond (nat_lt n shape.nodes) (is_good_inode shape n (inode_at old n)) (all_zero (bytes_of_node old n)))) (range_with_len 0 (16 * shape.inode_pages)) (λ n m. at n (member-range n 0 _ m).1)
    where
      at : (n : ℕ) → n < 0 + 16 * shape.inode_pages
          → not (cond (nat_lt n shape.nodes) (is_good_inode shape n (inode_at new n)) (all_zero (bytes_of_node new n))) ≡ not (cond (nat_lt n shape.nodes) (is_good_inode shape n (inode_at old n)) (all_zero (bytes_of_node old n)))
      at n h = λ i. not (cond (nat_lt n shape.nodes) (is_good_inode shape n (node-same n (omega (arith, h)) i)) (all_zero (node-bytes n (omega (arith, h)) i)))

  used-same : used_nodes shape new ≡ used_nodes shape old
  unfolding used_nodes
  used-same =
      ap (filter (λ (x : ℕ × InodeRec). is_used_kind x.1.kind))
      (some-same (λ n. option_map (λ rec. (n, rec)) (inode_at new n)) (λ n. option_map (λ rec. (n, rec)) (inode_at old n)) (range_with_len 0 shape.nodes)
      (λ n m. ap (option_map {U = ℕ × InodeRec} (λ rec. (n, rec))) (node-same n (below n (omega (arith, (member-range n 0 shape.nodes m).1))))))

  -- ---- addresses

  address-same : (y : Bool × ℕ) → Has (flat_map addresses_of (used_nodes shape old)) y → 67 + shape.inode_pages ≤ y.1 → y.1 < shape.vaddrs → new y.1 ≡ old y.1
  address-same y m low high = by (member_address shape old y m)
    where
      by : (n : ℕ) × (rec : InodeRec) × (a : ℕ) × IsNode shape old n rec × Has rec.addresses a × (a ≢ 0) × ((is_file_kind rec.kind, a) ≡ y) → new y.1 ≡ old y.1
      by r =
          let k = has-slot r.1.addresses r.2 r.4 in
          let e : r.2 ≡ y.1 = ap (λ (z : Bool × ℕ). z.1) r.6 in
          same.slots r.0 k.0 y.1 (record { rec = r.1; is_node = r.3; in_slot = k.1 ∙ ap (λ (n : ℕ). Some n) e; not_zero = λ z. r.5 (e ∙ z) }) low high

  outside : (p l n f : Bool) → p ≡ false → (not p || l || n || f) ≡ true
  outside p l n f e = ap (λ (b : Bool). not b || l || n || f) e

  tests-same : (e : List (Bool × ℕ)) (y : Bool × ℕ) → Has (flat_map addresses_of (used_nodes shape old)) y → is_bad_address shape new e y ≡ is_bad_address shape old e y
  tests-same e y m = by (cases_Bool (nat_le (67 + shape.inode_pages) y.1 && nat_lt y.1 shape.vaddrs))
    where
      by : ((nat_le (67 + shape.inode_pages) y.1 && nat_lt y.1 shape.vaddrs) ≡ true) ⊎ ((nat_le (67 + shape.inode_pages) y.1 && nat_lt y.1 shape.vaddrs) ≡ false) → is_bad_address shape new e y ≡ is_bad_address shape old e y
      by (inl pool) =
          let p = and_parts _ _ pool in
          ap (λ (o : Option (List ℕ)). not (nat_le (67 + shape.inode_pages) y.1 && nat_lt y.1 shape.vaddrs) || list_any (λ x. x.1 == y.1) e || is_none o || (y.0 && not (is_good_indirect shape (indirect_of (unwrap_or o [])))))
          (address-same y m (leb-true _ _ p.0) (ltb-true _ _ p.1))
      by (inr out) = outside _ _ (is_none (new y.1)) _ out ∙ sym (outside _ _ (is_none (old y.1)) _ out)

  pages-same : pages_fault shape new ≡ pages_fault shape old
  unfolding pages_fault
  pages-same =
      ap (λ (l : List (ℕ × InodeRec)). option_map (λ e. e.1) (first_after (is_bad_address shape new) [] (flat_map addresses_of l))) used-same
      ∙ ap (option_map (λ e. e.1)) (after-same (is_bad_address shape new) (is_bad_address shape old) [] (flat_map addresses_of (used_nodes shape old)) tests-same)

  -- ---- entries, where the addresses are right

  module _ (right : AddressesRight shape old) where
    slot-same : (n slot a : ℕ) → AddressAt shape old n slot a → new a ≡ old a
    slot-same n slot a at = let good = right.good n slot a at in same.slots n slot a at good.from_pool good.in_pool

    place-same : (n : ℕ) (rec : InodeRec) (i : ℕ) → IsNode shape old n rec → rec.kind ≡ Dir → i < 64 * div_ceil rec.size 64 → new (address_of_place rec i) ≡ old (address_of_place rec i)
    place-same n rec i is dir h =
        let f = filled-slot (div_ceil rec.size 64) rec.addresses (i / 64) (filled_of rec (inode_spelled shape old n rec is) dir) (omega (arith, h)) in
        slot-same n (i / 64) (address_of_place rec i) (record { rec = rec; is_node = is; in_slot = f.0; not_zero = f.1 })

    bytes-same : (rec : InodeRec) (i : ℕ) → new (address_of_place rec i) ≡ old (address_of_place rec i) → bytes_of_place new rec i ≡ bytes_of_place old rec i
    unfolding bytes_of_place
    bytes-same rec i e = ap (λ (o : Option (List ℕ)). slot_in 64 (i % 64) (unwrap_or o [])) e

    dir-places : (n : ℕ) (rec : InodeRec) → IsNode shape old n rec → rec.kind ≡ Dir
        → map (λ i. record { dir = n; is_entry = nat_lt i rec.size; bytes = bytes_of_place new rec i }) (filter (λ i. is_some (new (address_of_place rec i))) (range_with_len 0 (64 * div_ceil rec.size 64)))
        ≡ map {B = EntryPlace} (λ i. record { dir = n; is_entry = nat_lt i rec.size; bytes = bytes_of_place old rec i }) (filter (λ i. is_some (old (address_of_place rec i))) (range_with_len 0 (64 * div_ceil rec.size 64)))
    dir-places n rec is dir =
        ap (map {B = EntryPlace} (λ i. record { dir = n; is_entry = nat_lt i rec.size; bytes = bytes_of_place new rec i }))
        (filter-same (λ i. is_some (new (address_of_place rec i))) (λ i. is_some (old (address_of_place rec i))) (range_with_len 0 (64 * div_ceil rec.size 64)) (λ i m. ap is_some (at i (member-range i 0 _ m).1)))
        ∙ map-same {Y = EntryPlace} (λ i. record { dir = n; is_entry = nat_lt i rec.size; bytes = bytes_of_place new rec i }) (λ i. record { dir = n; is_entry = nat_lt i rec.size; bytes = bytes_of_place old rec i }) _
        (λ i m. λ j. record { dir = n; is_entry = nat_lt i rec.size; bytes = bytes-same rec i (at i (member-range i 0 _ (member-filter (λ i. is_some (old (address_of_place rec i))) _ i m).0).1) j })
      where
        at : (i : ℕ) → i < 0 + 64 * div_ceil rec.size 64 → new (address_of_place rec i) ≡ old (address_of_place rec i)
        at i h = place-same n rec i is dir (omega (arith, h))

    abbrev listed : VirtualMap → ℕ → InodeRec → List EntryPlace
    listed pages n rec = map {B = EntryPlace} (λ i. record { dir = n; is_entry = nat_lt i rec.size; bytes = bytes_of_place pages rec i }) (filter (λ i. is_some (pages (address_of_place rec i))) (range_with_len 0 (64 * div_ceil rec.size 64)))

    node-places : (x : ℕ × InodeRec) → Has (used_nodes shape old) x → places_of new x ≡ places_of old x
    node-places x m = by (cases_Bool (is_dir_kind x.1.kind))
      where
        by : (is_dir_kind x.1.kind ≡ true) ⊎ (is_dir_kind x.1.kind ≡ false) → cond (is_dir_kind x.1.kind) (listed new x.0 x.1) [] ≡ cond (is_dir_kind x.1.kind) (listed old x.0 x.1) []
        by (inl e) = ap (λ (ps : List EntryPlace). cond (is_dir_kind x.1.kind) ps []) (dir-places x.0 x.1 (used_is shape old x m) (dir_kind x.1.kind e))
        by (inr e) = ap (λ b. cond b (listed new x.0 x.1) []) e ∙ sym (ap (λ b. cond b (listed old x.0 x.1) []) e)

    places-same : all_places shape new ≡ all_places shape old
    unfolding all_places
    places-same = ap (flat_map (places_of new)) used-same ∙ flat-same (places_of new) (places_of old) (used_nodes shape old) node-places

    far-node : (z l g n : Bool) → l ≡ false → (z || not l || g || n) ≡ true
    far-node true l g n e = refl
    far-node false l g n e = ap (λ b. not b || g || n) e

    naming-same : (e : List _) (d : ℕ) (o : Option EntryRec) → is_bad_naming shape new e d o ≡ is_bad_naming shape old e d o
    naming-same e d None = refl
    naming-same e d (Some r) = by (cases_Bool (nat_lt r.ino shape.nodes))
      where
        by : (nat_lt r.ino shape.nodes ≡ true) ⊎ (nat_lt r.ino shape.nodes ≡ false) → is_bad_naming shape new e d (Some r) ≡ is_bad_naming shape old e d (Some r)
        by (inl inside) =
            ap (λ (o : Option InodeRec). r.ino == 0 || not (nat_lt r.ino shape.nodes) || not (has_generation r.generation o) || list_any (λ x. x.1.ino == r.ino || (x.0 == d && bytes_eq x.1.name r.name)) e)
            (node-same r.ino (below r.ino (ltb-true _ _ inside)))
        by (inr out) = far-node (r.ino == 0) (nat_lt r.ino shape.nodes) _ _ out ∙ sym (far-node (r.ino == 0) (nat_lt r.ino shape.nodes) _ _ out)

    entries-same : entry_fault shape new ≡ entry_fault shape old
    unfolding entry_fault
    entries-same =
        ap (λ (l : List EntryPlace). option_map (λ p. p.dir) (first_after (is_bad_place shape new) [] l)) places-same
        ∙ ap (option_map (λ p. p.dir)) (after-same (is_bad_place shape new) (is_bad_place shape old) [] (all_places shape old)
        (λ e p m. ap (λ b. cond p.is_entry b (not (all_zero p.bytes))) (naming-same (filter_map naming_of e) p.dir (entry_of p.bytes))))

    reach-same : reach_fault shape new ≡ reach_fault shape old
    unfolding reach_fault
    reach-same = λ i. find (λ n. not (is_reached (filter_map naming_of (places-same i)) shape.nodes n)) (map (λ (x : ℕ × InodeRec). x.0) (used-same i))

    -- ---- pointers

    page-pointers : (n : ℕ) (rec : InodeRec) → IsNode shape old n rec → (v : ℕ) → Has (slots_of rec) v → pointers_at new v ≡ pointers_at old v
    page-pointers n rec is v m = by (cases_Bool (v == 0))
      where
        by : ((v == 0) ≡ true) ⊎ ((v == 0) ≡ false) → pointers_at new v ≡ pointers_at old v
        by (inl z) = ap (λ b. cond b (replicate 256 no_pointer) (pointers 256 (bytes_at new v))) z ∙ sym (ap (λ b. cond b (replicate 256 no_pointer) (pointers 256 (bytes_at old v))) z)
        by (inr far) =
            let k = has-slot rec.addresses v m in
            ap (λ (o : Option (List ℕ)). cond (v == 0) (replicate 256 no_pointer) (pointers 256 (unwrap_or o [])))
            (slot-same n k.0 v (record { rec = rec; is_node = is; in_slot = k.1; not_zero = eqb-false v 0 far }))

    file-pointers : (n : ℕ) (rec : InodeRec) → IsNode shape old n rec → pointers_of_inode new rec ≡ pointers_of_inode old rec
    unfolding pointers_of_inode
    file-pointers n rec is =
        ap (λ (l : List Pointer). filter (λ p. not (is_none_pointer p.1)) (enumerate_from 0 (rec.direct ++ l))) (flat-same (pointers_at new) (pointers_at old) (slots_of rec) (page-pointers n rec is))

    held-record : (n : ℕ) (rec : InodeRec) → n < shape.nodes → inode_at old n ≡ Some rec → held_by n (node_from new (Some rec)) ≡ held_by n (node_from old (Some rec))
    held-record n rec h is = by rec.kind refl
      where
        file-used : File ≡ Unused → ⊥
        file-used e = cc

        by : (k : Kind) → rec.kind ≡ k → held_by n (record { generation = rec.generation; body = body_of new rec rec.kind }) ≡ held_by n (record { generation = rec.generation; body = body_of old rec rec.kind })
        by Unused e = ap (λ (k : Kind). held_by n (record { generation = rec.generation; body = body_of new rec k })) e ∙ sym (ap (λ (k : Kind). held_by n (record { generation = rec.generation; body = body_of old rec k })) e)
        by Dir e = ap (λ (k : Kind). held_by n (record { generation = rec.generation; body = body_of new rec k })) e ∙ sym (ap (λ (k : Kind). held_by n (record { generation = rec.generation; body = body_of old rec k })) e)
        by File e =
            ap (λ (k : Kind). held_by n (record { generation = rec.generation; body = body_of new rec k })) e
            ∙ ap (map (λ (p : ℕ × Pointer). held_entry n rec p.0 p.1)) (file-pointers n rec (record { below = h; spelled = is; used = λ f. file-used (sym e ∙ f) }))
            ∙ sym (ap (λ (k : Kind). held_by n (record { generation = rec.generation; body = body_of old rec k })) e)

    held-node : (n : ℕ) → n < shape.nodes → pointers_at_node new n ≡ pointers_at_node old n
    held-node n h = ap (λ (o : Option InodeRec). held_by n (node_from new o)) (node-same n (below n h)) ∙ by (inode_at old n) refl
      where
        by : (o : Option InodeRec) → inode_at old n ≡ o → held_by n (node_from new o) ≡ held_by n (node_from old o)
        by None is = refl
        by (Some rec) is = held-record n rec h is

    pub held-same : held_in shape new ≡ held_in shape old
    held-same = all-held shape new ∙ flat-same (pointers_at_node new) (pointers_at_node old) (range_with_len 0 shape.nodes) (λ n m. held-node n (omega (arith, (member-range n 0 shape.nodes m).1))) ∙ sym (all-held shape old)

  -- ---- the walk

  module _ (seen : List Seen) where
    abbrev f : What → Option ℕ
    f w = fault_in shape new seen w

    abbrev g : What → Option ℕ
    g w = fault_in shape old seen w

    next-same : (w : What) (ws : List What) → f w ≡ g w → (g w ≡ None → first_fault f ws ≡ first_fault g ws) → first_fault f (w ∷ ws) ≡ first_fault g (w ∷ ws)
    next-same w ws e rest = first f w ws ∙ ap (λ (o : Option ℕ). or-later w o (first_fault f ws)) e ∙ by (g w) refl ∙ sym (first g w ws)
      where
        by : (o : Option ℕ) → g w ≡ o → or-later w (g w) (first_fault f ws) ≡ or-later w (g w) (first_fault g ws)
        by None is = ap (or-later w (g w)) (rest is)
        by (Some n) is = ap (λ (o : Option ℕ). or-later w o (first_fault f ws)) is ∙ sym (ap (λ (o : Option ℕ). or-later w o (first_fault g ws)) is)

    super-phase : f Super ≡ g Super
    unfolding fault_in
    super-phase = ap (λ o. zero_where (not (is_super_of shape o))) super-same

    stamp-phase : f Stamp ≡ g Stamp
    unfolding fault_in
    stamp-phase = refl

    inode-phase : f Inode ≡ g Inode
    unfolding fault_in
    inode-phase = inodes-same

    pages-phase : f PagesPhase ≡ g PagesPhase
    unfolding fault_in
    pages-phase = pages-same

    right-of : g PagesPhase ≡ None → AddressesRight shape old
    unfolding fault_in
    right-of e = (addresses shape old).0 e

    entry-phase : AddressesRight shape old → f Entry ≡ g Entry
    unfolding fault_in
    entry-phase right = λ i. or_then (entries-same right i) (reach-same right i)

    pointer-phase : AddressesRight shape old → f PointerPhase ≡ g PointerPhase
    unfolding fault_in
    pointer-phase right = ap (pointer_fault (physical_seen shape seen)) (held-same right)

    name-phase : AddressesRight shape old → f Names ≡ g Names
    unfolding fault_in
    name-phase right = ap (name_fault shape seen) (held-same right)

    charge-phase : AddressesRight shape old → f Charges ≡ g Charges
    unfolding fault_in
    charge-phase right = ap (λ (h : List Held). zero_where (nat_lt shape.cap (length h))) (held-same right)

    crowded-phase : AddressesRight shape old → f Crowded ≡ g Crowded
    unfolding fault_in
    crowded-phase right = ap (crowded_fault shape seen) (held-same right)

    walk-same : walk_over shape new seen ≡ walk_over shape old seen
    unfolding walk_over
    walk-same =
        next-same Super (Stamp ∷ Inode ∷ PagesPhase ∷ Entry ∷ PointerPhase ∷ Names ∷ Charges ∷ Crowded ∷ []) super-phase (λ _.
        next-same Stamp (Inode ∷ PagesPhase ∷ Entry ∷ PointerPhase ∷ Names ∷ Charges ∷ Crowded ∷ []) stamp-phase (λ _.
        next-same Inode (PagesPhase ∷ Entry ∷ PointerPhase ∷ Names ∷ Charges ∷ Crowded ∷ []) inode-phase (λ _.
        next-same PagesPhase (Entry ∷ PointerPhase ∷ Names ∷ Charges ∷ Crowded ∷ []) pages-phase (λ e. rest (right-of e)))))
      where
        rest : AddressesRight shape old → first_fault f (Entry ∷ PointerPhase ∷ Names ∷ Charges ∷ Crowded ∷ []) ≡ first_fault g (Entry ∷ PointerPhase ∷ Names ∷ Charges ∷ Crowded ∷ [])
        rest right =
            next-same Entry (PointerPhase ∷ Names ∷ Charges ∷ Crowded ∷ []) (entry-phase right) (λ _.
            next-same PointerPhase (Names ∷ Charges ∷ Crowded ∷ []) (pointer-phase right) (λ _.
            next-same Names (Charges ∷ Crowded ∷ []) (name-phase right) (λ _.
            next-same Charges (Crowded ∷ []) (charge-phase right) (λ _. next-same Crowded [] (crowded-phase right) (λ _. refl)))))

pub walks_alike : WalksAlike
walks_alike shape old new seen bounds same = walk-same shape old new bounds same seen
