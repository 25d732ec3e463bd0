-- The pages that formatting leaves are consistent, and stand for the tree with only the root.
use Rattle.std.proofs.Common.{◌≡◌, ℕ, zero, suc, ◌+◌, ◌≤◌, ◌<◌, Bool, true, false, not, ◌&&◌, ◌||◌, cond, List, [], ◌∷◌, map, filter, flat_map, find, refl, sym, ap, subst, ◌∙◌, Option, Some, None, option_map, is_some, ◌⊎◌, inl, inr, arith, ◌≢◌, ◌-◌, ◌*◌, nat_lt, ◌==◌, unwrap_or, length, IsTrue, IsSome, count_by, mul-le-mul, ◌/◌, option_and_then, ◌%◌, ◌^◌}
use Rattle.std.proofs.Math.Seq.{drop-append-add}
use Rattle.std.proofs.lemmas.Bool.{cond-false, cases_eq, and_parts, and_from, cond-true, not_from_false, eqb-true, eq-eqb, ne_eqb, leb-true, lt-ltb, le-ltb, le-leb, cases_lt}
use Rattle.std.proofs.lemmas.Grind.{div_ceil_times}
use Rattle.std.proofs.lemmas.List.{take-replicate, drop-replicate}
use Rattle.std.specs.Int.{div_ceil}
use Rattle.std.specs.List.{list_any, list_all, range_with_len}
use Rattle.std.specs.Prelude.{slice_get, drop, replicate, take}
use Rattle.nl_field.proofs.OnLiterals.{field_on_literals}
use Rattle.nl_field.proofs.SuperPage.{super-spelled}
use Rattle.nl_field.specs.Bytes.{all_zero, zeros}
use Rattle.nl_field.specs.Examples.{root_inode}
use Rattle.nl_field.specs.Graph.{GraphNode, directory_node}
use Rattle.nl_field.specs.Inode.{inode_of, inode_bytes}
use Rattle.nl_field.specs.Journal.{header_of}
use Rattle.nl_field.specs.Medium.{Readable, stamp_on, virtual_pages, physical_pages, shape_of_image, readable_pages, is_virtual_rec, address_on, first_physical, address_of}
use Rattle.nl_field.specs.Numbers.{is_legal, shape_for}
use Rattle.nl_field.specs.Page.{Image}
use Rattle.nl_field.specs.Pointers.{no_pointer}
use Rattle.nl_field.specs.Scan.{without_wear}
use Rattle.nl_field.specs.ScanList.{seen_in, physical_seen, is_lost_seen}
use Rattle.nl_field.proofs.ScanLists.{virtual_spare_is, physical_spare_is}
use Rattle.nl_meta.proofs.StampProofs.{same_virtual, same_physical}
use Rattle.nl_field.specs.Space.{virtual_spare, physical_spare, has_greatest_stamp, spare_block, is_outside}
use Rattle.nl_field.specs.SpareRecord.{spare_bytes, stamp_of}
use Rattle.nl_field.specs.SuperPage.{super_of, fits_super}
use Rattle.nl_field.specs.Virtual.{newest, virtual_bytes, or_first_in, is_inode_address}
use Rattle.nl_field.specs.declared.entry.EntryRec.{EntryRec}
use Rattle.nl_field.specs.declared.header.HeaderRec.{HeaderRec}
use Rattle.nl_field.specs.declared.inode.InodeRec.{InodeRec}
use Rattle.nl_field.specs.declared.inode.Kind.TheVariants.{Unused}
use Rattle.nl_field.specs.declared.pointer.Pointer.{Pointer}
use Rattle.nl_field.specs.declared.shape.Shape.{Shape}
use Rattle.nl_field.specs.declared.spare.SpareRec.{SpareRec}
use Rattle.nl_field.specs.declared.spare.SpareRec.TheVariants.{Virtual, Physical}
use Rattle.nl_tree.specs.Represents.{entries_in, node_named, node_reached, node_of, Represents}
use Rattle.nl_tree.specs.Tree.{empty_tree}
use Rattle.nl_meta.specs.Committed.{VirtualMap, committed_of, counting, committed, place_in, home_or_image, counts, header_at, commit_at, within_volume}
use Rattle.nl_field.specs.Members.{Has}
use Rattle.nl_meta.specs.Consistent.{NumbersRight, NamesPhysical, IsNode, NodesRight, PointersRight, AddressAt, AddressesRight, at_root, EntryAt, Reached, EntriesRight, IsListed, StampsRight, MetadataRight, ImageHasRoom}
use Rattle.nl_meta.specs.Nodes.{inode_at, bytes_of_node, bytes_at, Held, super_of_pages, is_physical_name, held_in, held_by, size_of, pointers_in, node_from, graph_of, pointers_of, entries_of_inode}
use Rattle.nl_meta.proofs.Lists.{some_in, true_false, none_some, none-any, each-all, member-find, find-some, range-member, member-filter, filter-member, member-flat}
use Rattle.nl_meta.proofs.WalkProofs.{nodes_some, nodes_fit, names}
use Rattle.nl_spec_image.specs.Fresh.{FewFreshAreConsistent, IsFreshPage, HasFreshPages, root_page, fresh_super, FreshIsConsistent}
use Rattle.nl_spec_image.specs.Stands.{bytes_found, ConsistentAs}
use Rattle.nl_spec_image.proofs.SpareProofs.{spare_by_few_pages}
use Rattle.nl_spec_image.proofs.EmptyTree.{empty_at_root, empty_below, no_data_in, empty_is_tree}

-- ---- the geometry

pub limits : (blocks pages : ℕ) → is_legal blocks pages ≡ true → (32 ≤ blocks) × (blocks ≤ 4096) × (32 ≤ pages) × (pages ≤ 256)
limits blocks pages legal =
    let a = and_parts _ _ legal in
    let b = and_parts _ _ a.0 in
    let c = and_parts _ _ b.0 in
    let d = and_parts _ _ c.0 in
    (leb-true 32 blocks d.0, leb-true blocks 4096 d.1, leb-true 32 pages c.1, leb-true pages 256 b.1)

-- there is a physical block
pub has_physical : (blocks pages : ℕ) → is_legal blocks pages ≡ true → 0 < (shape_for blocks pages).pblocks
unfolding shape_for
has_physical blocks pages legal = fewer blocks (div_ceil (67 + div_ceil (blocks * pages / 16) 16 + blocks * pages / 32) pages) (few (limits blocks pages legal))
  where
    fewer : (b v : ℕ) → v + 5 ≤ b → 0 < b - (v + 4)
    fewer b v h = omega arith

    five : (b q : ℕ) → (b ≤ q + 4 → ⊥) → q + 5 ≤ b
    five b q f = omega (arith, f)

    apart : (q p : ℕ) → (q + 4) * p ≡ q * p + 4 * p
    apart q p = omega arith

    large : (x p qp : ℕ) → 32 ≤ p → 32 * p ≤ x → qp < 67 + div_ceil (x / 16) 16 + x / 32 + p → x ≤ qp + 4 * p → ⊥
    large x p qp a b c d = omega arith

    same : (p : ℕ) → p ≤ p
    same p = omega arith

    few : (32 ≤ blocks) × (blocks ≤ 4096) × (32 ≤ pages) × (pages ≤ 256) → div_ceil (67 + div_ceil (blocks * pages / 16) 16 + blocks * pages / 32) pages + 5 ≤ blocks
    few r =
        let v : ℕ = 67 + div_ceil (blocks * pages / 16) 16 + blocks * pages / 32 in
        let q : ℕ = div_ceil v pages in
        five blocks q (λ h. large (blocks * pages) pages (q * pages) r.2 (mul-le-mul r.0 (same pages)) (div_ceil_times v pages (omega (arith, r.2))).1
        (subst (λ (k : ℕ). blocks * pages ≤ k) (apart q pages) (mul-le-mul h (same pages))))

-- ---- lists

no_member : {X : Type 0} (xs : List X) → ((x : X) → Has xs x → ⊥) → xs ≡ []
no_member [] none = refl
no_member (x ∷ xs) none = absurd (none x (inl refl))

none_kept : {X : Type 0} (t : X → Bool) (xs : List X) → ((x : X) → Has xs x → t x ≡ false) → filter t xs ≡ []
none_kept t xs off = no_member (filter t xs) (λ x m. let q = member-filter t xs x m in true_false (sym q.1 ∙ off x q.0))

picked : (t : Readable → Bool) (xs : List Readable) (x : Readable) → Has xs x → (r : Readable) × Has xs r × (or_first_in xs (find t xs) ≡ Some r)
picked t xs x m = by (find t xs) refl
  where
    first : (ys : List Readable) → Has ys x → (r : Readable) × Has ys r × (or_first_in ys None ≡ Some r)
    first [] m = absurd m
    first (y ∷ ys) m = (y, inl refl, refl)

    by : (o : Option Readable) → find t xs ≡ o → (r : Readable) × Has xs r × (or_first_in xs (find t xs) ≡ Some r)
    by None e = let f = first xs m in (f.0, f.1, ap (or_first_in xs) e ∙ f.2)
    by (Some r) e = (r, (member-find t xs r e).0, ap (or_first_in xs) e)

zeros_within : (a b n : ℕ) → b + a ≤ n → take a (drop b (zeros n)) ≡ zeros a
unfolding zeros
zeros_within a b n h = ap (take a) (drop-replicate b n 0) ∙ take-replicate a (n - b) 0 (omega (arith, h))

-- ---- on literals

abbrev pub unused_inode : InodeRec
unused_inode = record { kind = Unused; generation = 0; size = 0; direct = replicate 8 no_pointer; addresses = replicate 16 0 }

root_spelled : inode_of (take 256 (drop 0 root_page)) ≡ Some root_inode
unfolding field_on_literals
root_spelled = refl

zeros_spelled : inode_of (zeros 256) ≡ Some unused_inode
unfolding field_on_literals
zeros_spelled = refl

root_length : length (inode_bytes root_inode) ≡ 256
unfolding field_on_literals
root_length = refl

zeros_zero : all_zero (zeros 256) ≡ true
unfolding field_on_literals
zeros_zero = refl

-- ---- the pages of a fresh volume

module _ (image : Image) (fresh : HasFreshPages image) where
  abbrev all_virtual : List Readable
  all_virtual = virtual_pages image

  abbrev shape : Shape
  shape = shape_of_image image

  abbrev pages : VirtualMap
  pages = committed_of image

  -- pages of one address have one stamp and one content
  alike : (r q : Readable) → Has all_virtual r → Has all_virtual q → address_on r ≡ address_on q → (stamp_on r ≡ stamp_on q) × (r.main ≡ q.main)
  alike r q m n e = by (fresh.no_other r m) (fresh.no_other q n)
    where
      apart : (a b : ℕ) → a ≡ 67 → b ≡ 0 → a ≡ b → ⊥
      apart a b x y z = omega arith

      by : IsFreshPage image r → IsFreshPage image q → (stamp_on r ≡ stamp_on q) × (r.main ≡ q.main)
      by (inl a) (inl b) = (a.1 ∙ sym b.1, a.2 ∙ sym b.2)
      by (inr a) (inr b) = (a.1 ∙ sym b.1, a.2 ∙ sym b.2)
      by (inl a) (inr b) = absurd (apart (address_on r) (address_on q) a.0 b.0 e)
      by (inr a) (inl b) = absurd (apart (address_on q) (address_on r) b.0 a.0 (sym e))

  is_greatest : (r : Readable) → Has all_virtual r → has_greatest_stamp all_virtual r ≡ true
  is_greatest r m = not_from_false _ (none-any _ all_virtual (λ q n. by q n (cases_eq (address_on q) (address_on r))))
    where
      not_less : (a b : ℕ) → a ≡ b → nat_lt b a ≡ false
      not_less a b e = le-ltb b a (omega arith)

      by : (q : Readable) → Has all_virtual q → (address_on q ≡ address_on r) ⊎ (address_on q ≡ address_on r → ⊥) → (address_on q == address_on r && nat_lt (stamp_on r) (stamp_on q)) ≡ false
      by q n (inl e) = ap (λ t. address_on q == address_on r && t) (not_less (stamp_on q) (stamp_on r) (alike q r n m e).0) ∙ elim (address_on q == address_on r) as (λ t. (t && false) ≡ false) [ true ↦ refl | false ↦ refl ]
      by q n (inr far) = ap (λ t. t && nat_lt (stamp_on r) (stamp_on q)) (ne_eqb _ _ far)

  newest_there : (v : ℕ) (main : List ℕ) (r : Readable) → Has all_virtual r → address_on r ≡ v → r.main ≡ main → option_map (λ r. r.main) (newest image v) ≡ Some main
  unfolding newest
  newest_there v main r m e f =
      let xs = filter (λ r. address_on r == v && has_greatest_stamp all_virtual r) all_virtual in
      let p = picked (λ r. is_outside image.pages (virtual_spare image) r.page) xs r (filter-member (λ r. address_on r == v && has_greatest_stamp all_virtual r) all_virtual r m (and_from _ _ (eq-eqb _ _ e) (is_greatest r m))) in
      let q = member-filter (λ r. address_on r == v && has_greatest_stamp all_virtual r) all_virtual p.0 p.1 in
      ap (option_map (λ r. r.main)) p.2 ∙ ap (λ (l : List ℕ). Some l) ((alike p.0 r q.0 m (eqb-true _ _ (and_parts _ _ q.1).0 ∙ sym e)).1 ∙ f)

  newest_not : (v : ℕ) → v ≢ 67 → v ≢ 0 → newest image v ≡ None
  unfolding newest
  newest_not v a b =
      ap (λ (xs : List Readable). or_first_in xs (find (λ r. is_outside image.pages (virtual_spare image) r.page) xs))
      (none_kept (λ r. address_on r == v && has_greatest_stamp all_virtual r) all_virtual (λ r m. by r (fresh.no_other r m)))
    where
      by : (r : Readable) → IsFreshPage image r → (address_on r == v && has_greatest_stamp all_virtual r) ≡ false
      by r (inl h) = ap (λ t. t && has_greatest_stamp all_virtual r) (ne_eqb (address_on r) v (λ e. a (sym e ∙ h.0)))
      by r (inr h) = ap (λ t. t && has_greatest_stamp all_virtual r) (ne_eqb (address_on r) v (λ e. b (sym e ∙ h.0)))

  bytes_there : (v : ℕ) (main : List ℕ) → option_map (λ r. r.main) (newest image v) ≡ Some main → virtual_bytes image v ≡ Some main
  unfolding virtual_bytes
  bytes_there v main e =
      elim (is_inode_address shape v) as (λ b. cond b (Some (unwrap_or (option_map (λ r. r.main) (newest image v)) (zeros 4096))) (option_map (λ r. r.main) (newest image v)) ≡ Some main)
      [ true ↦ ap (λ (o : Option (List ℕ)). Some (unwrap_or o (zeros 4096))) e | false ↦ e ]

  bytes_not : (v : ℕ) → v ≢ 67 → v ≢ 0 → is_inode_address shape v ≡ false → virtual_bytes image v ≡ None
  unfolding virtual_bytes
  bytes_not v a b e = cond-false (is_inode_address shape v) _ _ e ∙ ap (option_map (λ r. r.main)) (newest_not v a b)

  bytes_zero : (v : ℕ) → v ≢ 67 → v ≢ 0 → is_inode_address shape v ≡ true → virtual_bytes image v ≡ Some (zeros 4096)
  unfolding virtual_bytes
  bytes_zero v a b e = cond-true (is_inode_address shape v) _ _ e ∙ ap (λ (o : Option Readable). Some (unwrap_or (option_map (λ r. r.main) o) (zeros 4096))) (newest_not v a b)

  no_transaction : counting shape (virtual_bytes image) ≡ None
  unfolding counting header_at
  no_transaction = ap (λ (o : Option (List ℕ)). option_and_then (λ header. option_and_then (λ commit. cond (counts (virtual_bytes image) header commit) (Some header) None) (commit_at (virtual_bytes image))) (option_and_then (within_volume shape) (option_and_then header_of o))) (bytes_not 1 (not_67 1 refl) (not_0 1 refl) refl)
    where
      not_67 : (a : ℕ) → a ≡ 1 → a ≡ 67 → ⊥
      not_67 a x e = omega arith

      not_0 : (a : ℕ) → a ≡ 1 → a ≡ 0 → ⊥
      not_0 a x e = omega arith

  committed_is : (v : ℕ) → pages v ≡ virtual_bytes image v
  unfolding committed
  committed_is v = ap (λ (o : Option HeaderRec). home_or_image (virtual_bytes image) v (place_in o v)) no_transaction

  super_there : pages 0 ≡ Some (fresh_super image.blocks image.pages)
  super_there = committed_is 0 ∙ bytes_there 0 _ (newest_there 0 (fresh_super image.blocks image.pages) fresh.super_page.0 fresh.super_page.1 fresh.super_page.2 (by (fresh.no_other fresh.super_page.0 fresh.super_page.1)))
    where
      apart : (a : ℕ) → a ≡ 67 → a ≡ 0 → ⊥
      apart a x y = omega arith

      by : IsFreshPage image fresh.super_page.0 → fresh.super_page.0.main ≡ fresh_super image.blocks image.pages
      by (inl a) = absurd (apart (address_on fresh.super_page.0) a.0 fresh.super_page.2)
      by (inr a) = a.2

  root_there : pages 67 ≡ Some root_page
  root_there = committed_is 67 ∙ bytes_there 67 _ (newest_there 67 root_page fresh.root.0 fresh.root.1 fresh.root.2 (by (fresh.no_other fresh.root.0 fresh.root.1)))
    where
      apart : (a : ℕ) → a ≡ 67 → a ≡ 0 → ⊥
      apart a x y = omega arith

      by : IsFreshPage image fresh.root.0 → fresh.root.0.main ≡ root_page
      by (inl a) = a.2
      by (inr a) = absurd (apart (address_on fresh.root.0) fresh.root.2 a.0)

  -- ---- nodes

  some_nodes : 0 < shape.nodes
  some_nodes = nodes_some image.blocks image.pages fresh.legal

  nodes_within : shape.nodes ≤ 16 * shape.inode_pages
  nodes_within = nodes_fit image.blocks image.pages fresh.legal

  zero_page : (k : ℕ) → 0 < k → k < shape.inode_pages → pages (67 + k) ≡ Some (zeros 4096)
  zero_page k some below = committed_is (67 + k) ∙ bytes_zero (67 + k) (λ e. off e some) (λ e. past e) (and_from _ _ (le-leb 67 (67 + k) (omega arith)) (lt-ltb (67 + k) (67 + shape.inode_pages) (omega (arith, below))))
    where
      off : 67 + k ≡ 67 → 0 < k → ⊥
      off e h = omega arith

      past : 67 + k ≡ 0 → ⊥
      past e = omega arith

  zero_bytes : (n : ℕ) → 0 < n → n < 16 * shape.inode_pages → bytes_of_node pages n ≡ zeros 256
  unfolding bytes_of_node
  zero_bytes n some below = by (cases_lt (n / 16) 1)
    where
      behind_root : (m : ℕ) → 0 < m → m < 16 → take 256 (drop (256 * m) root_page) ≡ zeros 256
      behind_root m some few =
          ap (take 256) (ap (λ (k : ℕ). drop k root_page) (split m some) ∙ drop-append-add (inode_bytes root_inode) (zeros 3840) (256 * (m - 1)))
          ∙ zeros_within 256 (256 * (m - 1)) 3840 (room m some few)
        where
          split : (m : ℕ) → 0 < m → 256 * m ≡ length (inode_bytes root_inode) + 256 * (m - 1)
          split m some = sum m some ∙ ap (λ (k : ℕ). k + 256 * (m - 1)) (sym root_length)
            where
              sum : (m : ℕ) → 0 < m → 256 * m ≡ 256 + 256 * (m - 1)
              sum m some = omega arith

          room : (m : ℕ) → 0 < m → m < 16 → 256 * (m - 1) + 256 ≤ 3840
          room m some few = omega arith

      in_zeros : (m : ℕ) → m < 16 → take 256 (drop (256 * m) (zeros 4096)) ≡ zeros 256
      in_zeros m few = zeros_within 256 (256 * m) 4096 (room m few)
        where
          room : (m : ℕ) → m < 16 → 256 * m + 256 ≤ 4096
          room m few = omega arith

      first : n / 16 < 1 → (n / 16 ≡ 0) × (0 < n % 16)
      first h = (omega arith, omega (arith, some, h))

      by : (n / 16 < 1) ⊎ (1 ≤ n / 16) → take 256 (drop (256 * (n % 16)) (bytes_at pages (67 + n / 16))) ≡ zeros 256
      by (inl h) =
          let f = first h in
          ap (λ (k : ℕ). take 256 (drop (256 * (n % 16)) (bytes_at pages (67 + k)))) f.0
          ∙ ap (λ (o : Option (List ℕ)). take 256 (drop (256 * (n % 16)) (unwrap_or o []))) root_there ∙ behind_root (n % 16) f.1 (omega arith)
      by (inr h) =
          ap (λ (o : Option (List ℕ)). take 256 (drop (256 * (n % 16)) (unwrap_or o []))) (zero_page (n / 16) (omega (arith, h)) (omega (arith, below)))
          ∙ in_zeros (n % 16) (omega arith)

  root_at : inode_at pages 0 ≡ Some root_inode
  unfolding inode_at bytes_of_node
  root_at = ap (λ (o : Option (List ℕ)). inode_of (take 256 (drop 0 (unwrap_or o [])))) root_there ∙ root_spelled

  unused_at : (n : ℕ) → 0 < n → n < shape.nodes → inode_at pages n ≡ Some unused_inode
  unfolding inode_at
  unused_at n some below = ap inode_of (zero_bytes n some (omega (arith, below, nodes_within))) ∙ zeros_spelled

  only_root : (n : ℕ) (rec : InodeRec) → IsNode shape pages n rec → (n ≡ 0) × (root_inode ≡ rec)
  only_root n rec is = by (cases_lt 0 n)
    where
      zero_or : n ≤ 0 → n ≡ 0
      zero_or h = omega arith

      by : (0 < n) ⊎ (n ≤ 0) → (n ≡ 0) × (root_inode ≡ rec)
      by (inl h) = absurd (is.used (ap (λ (r : InodeRec). r.kind) (some_in rec unused_inode (sym is.spelled ∙ unused_at n h is.below))))
      by (inr h) = let z = zero_or h in (z, some_in root_inode rec (sym root_at ∙ ap (inode_at pages) (sym z) ∙ is.spelled))

  -- ---- the parts of consistency

  no_size : (n : ℕ) (rec : InodeRec) (i : ℕ) → IsNode shape pages n rec → i < rec.size → ⊥
  no_size n rec i is h = none i (subst (λ (r : InodeRec). i < r.size) (sym (only_root n rec is).1) h)
    where
      none : (i : ℕ) → i < 0 → ⊥
      none i h = omega arith

  no_place : (n : ℕ) (rec : InodeRec) (i : ℕ) → IsNode shape pages n rec → i < 64 * div_ceil rec.size 64 → ⊥
  no_place n rec i is h = none i (subst (λ (r : InodeRec). i < 64 * div_ceil r.size 64) (sym (only_root n rec is).1) h)
    where
      none : (i : ℕ) → i < 64 * div_ceil 0 64 → ⊥
      none i h = omega arith

  no_entry : (d i : ℕ) (e : EntryRec) → EntryAt shape pages d i e → ⊥
  no_entry d i e a = no_size d a.rec i a.is_node a.below

  super_rec_of : super_of_pages pages ≡ Some (record { version = 1; blocks = image.blocks; pages = image.pages; count = 0 })
  unfolding super_of_pages fits_super
  super_rec_of = ap (option_and_then super_of) super_there ∙ super-spelled _ fits refl
    where
      fits : IsTrue (fits_super (record { version = 1; blocks = image.blocks; pages = image.pages; count = 0 }))
      fits = let r = limits image.blocks image.pages fresh.legal in and_from _ _ (lt-ltb image.blocks (2 ^ 32) (omega (arith, r.1))) (lt-ltb image.pages (2 ^ 32) (omega (arith, r.3)))

  numbers_right : NumbersRight shape pages (record { version = 1; blocks = image.blocks; pages = image.pages; count = 0 })
  unfolding shape_for
  numbers_right = record { spelled = super_rec_of; same_blocks = refl; same_pages = refl; legal = fresh.legal }

  virtual_kind : (r : Readable) → Has all_virtual r → is_virtual_rec shape r.rec ≡ true
  unfolding virtual_pages
  virtual_kind r m = (and_parts _ _ (member-filter (λ r. nat_lt r.page (first_physical shape) && is_virtual_rec shape r.rec) (readable_pages image) r m).1).1

  virtual_right : StampsRight all_virtual
  virtual_right r q m n s = record { main = both.1; rec = ap spare_bytes (records r.rec q.rec (virtual_kind r m) (virtual_kind q n) both.0 s) }
    where
      apart : (a b : ℕ) → a ≡ 1 → b ≡ 2 → a ≡ b → ⊥
      apart a b x y z = omega arith

      by : IsFreshPage image r → IsFreshPage image q → (address_on r ≡ address_on q) × (r.main ≡ q.main)
      by (inl a) (inl b) = (a.0 ∙ sym b.0, a.2 ∙ sym b.2)
      by (inr a) (inr b) = (a.0 ∙ sym b.0, a.2 ∙ sym b.2)
      by (inl a) (inr b) = absurd (apart (stamp_on r) (stamp_on q) a.1 b.1 s)
      by (inr a) (inl b) = absurd (apart (stamp_on q) (stamp_on r) b.1 a.1 (sym s))

      both : (address_on r ≡ address_on q) × (r.main ≡ q.main)
      both = by (fresh.no_other r m) (fresh.no_other q n)

      records : (a b : SpareRec) → is_virtual_rec shape a ≡ true → is_virtual_rec shape b ≡ true → address_of a ≡ address_of b → stamp_of a ≡ stamp_of b → without_wear a ≡ without_wear b
      records (Virtual v s w) (Virtual u t x) k l e f = λ i. Virtual (e i) (f i) 0
      records (Virtual v s w) (Physical u t x) k l e f = absurd (true_false (sym l))
      records (Physical v s w) b k l e f = absurd (true_false (sym k))

  nodes_right : NodesRight shape pages
  nodes_right = record {
    spelled = λ n below. spelled n below (cases_lt 0 n);
    rest = λ n past inside. zero_all n (omega (arith, some_nodes, past)) inside;
    root = λ rec is. ap (λ (r : InodeRec). r.kind) (some_in rec root_inode (sym is ∙ root_at));
  }
    where
      zero_all : (n : ℕ) → 0 < n → n < 16 * shape.inode_pages → all_zero (bytes_of_node pages n) ≡ true
      zero_all n some inside = ap all_zero (zero_bytes n some inside) ∙ zeros_zero

      none_named : (ps : List Pointer) → ps ≡ replicate 8 no_pointer → NamesPhysical shape ps
      none_named ps e = subst (λ (qs : List Pointer). NamesPhysical shape qs) (sym e) (λ p m. eight p m)
        where
          none_ok : (p : Pointer) → no_pointer ≡ p → is_physical_name shape p ≡ true
          none_ok p e = ap (is_physical_name shape) (sym e)

          eight : (p : Pointer) → Has (replicate 8 no_pointer) p → is_physical_name shape p ≡ true
          eight p m = none_ok p (all_same 8 p m)
            where
              all_same : (k : ℕ) (p : Pointer) → Has (replicate k no_pointer) p → no_pointer ≡ p
              all_same zero p m = absurd m
              all_same (suc k) p (inl e) = e
              all_same (suc k) p (inr m) = all_same k p m

      spelled : (n : ℕ) → n < shape.nodes → (0 < n) ⊎ (n ≤ 0) → (rec : InodeRec) × (inode_at pages n ≡ Some rec) × NamesPhysical shape rec.direct
      spelled n below (inl h) = (unused_inode, unused_at n h below, none_named unused_inode.direct refl)
      spelled n below (inr h) = (root_inode, ap (inode_at pages) (zero_is n h) ∙ root_at, none_named root_inode.direct refl)
        where
          zero_is : (n : ℕ) → n ≤ 0 → n ≡ 0
          zero_is n h = omega arith

  no_address : (n slot a : ℕ) → AddressAt shape pages n slot a → ⊥
  no_address n slot a at = at.not_zero (all_zeros 16 slot a (ap (λ (r : InodeRec). slice_get r.addresses slot) (only_root n at.rec at.is_node).1 ∙ at.in_slot))
    where
      all_zeros : (k slot a : ℕ) → slice_get (replicate k 0) slot ≡ Some a → a ≡ 0
      all_zeros zero slot a e = absurd (none_some a e)
      all_zeros (suc k) zero a e = sym (some_in 0 a e)
      all_zeros (suc k) (suc slot) a e = all_zeros k slot a e

  addresses_right : AddressesRight shape pages
  addresses_right = record {
    good = λ n slot a at. absurd (no_address n slot a at);
    one_use = λ n slot m slot' a at b. absurd (no_address n slot a at);
  }

  entries_right : EntriesRight shape pages
  entries_right = record {
    spelled = λ d rec i is dir below. absurd (no_size d rec i is below);
    rest = λ d rec i is dir past inside. absurd (no_place d rec i is inside);
    names_differ = λ d i j e f a b same. absurd (no_entry d i e a);
    named = λ n rec is far. absurd (far (only_root n rec is).0);
    one_name = λ d i c j e f a b same. absurd (no_entry d i e a);
    reached = λ n rec is. subst (λ (k : ℕ). Reached shape pages k) (sym (only_root n rec is).0) at_root;
  }

  root_node : graph_of shape pages 0 ≡ record { generation = 0; body = directory_node [] }
  unfolding graph_of entries_of_inode
  root_node = ap (node_from pages) (cond-true (nat_lt 0 shape.nodes) _ _ (lt-ltb 0 shape.nodes some_nodes) ∙ root_at)

  no_pointers_in : (n : ℕ) → pointers_in (graph_of shape pages n).body ≡ []
  unfolding graph_of
  no_pointers_in n = by (cases_lt n shape.nodes) (cases_lt 0 n)
    where
      zero_is : n ≤ 0 → n ≡ 0
      zero_is h = omega arith

      of : Option InodeRec → List (ℕ × Pointer)
      of o = pointers_in (node_from pages o).body

      by : (n < shape.nodes) ⊎ (shape.nodes ≤ n) → (0 < n) ⊎ (n ≤ 0) → of (cond (nat_lt n shape.nodes) (inode_at pages n) None) ≡ []
      by (inr h) _ = ap of (cond-false (nat_lt n shape.nodes) _ _ (le-ltb _ _ h))
      by (inl h) (inl k) = ap of (cond-true (nat_lt n shape.nodes) _ _ (lt-ltb _ _ h) ∙ unused_at n k h)
      by (inl h) (inr k) = ap of (cond-true (nat_lt n shape.nodes) _ _ (lt-ltb _ _ h) ∙ ap (inode_at pages) (zero_is k) ∙ root_at)

  no_pointers : held_in shape pages ≡ []
  unfolding pointers_of
  no_pointers = no_member (flat_map (λ n. held_by n (graph_of shape pages n)) (range_with_len 0 shape.nodes)) (λ h m. by h (member-flat (λ n. held_by n (graph_of shape pages n)) (range_with_len 0 shape.nodes) h m))
    where
      by : (h : Held) → (n : ℕ) × Has (range_with_len 0 shape.nodes) n × Has (held_by n (graph_of shape pages n)) h → ⊥
      by h r =
          subst (λ (ps : List (ℕ × Pointer)). Has (map (λ p. record { size = size_of (graph_of shape pages r.0).body; tag = record { ino = r.0; generation = (graph_of shape pages r.0).generation; index = p.0 }; pointer = p.1 }) ps) h)
          (no_pointers_in r.0) r.2

  no_held : (h : Held) → Has (held_in shape pages) h → ⊥
  no_held h m = subst (λ (hs : List Held). Has hs h) no_pointers m

  pointers_right : PointersRight (held_in shape pages) (IsListed (physical_seen shape (seen_in image)))
  pointers_right = record {
    below = λ h m. absurd (no_held h m);
    there = λ h m. absurd (no_held h m);
    stamps_differ = λ h k m n e. absurd (no_held h m);
    names_differ = λ h k m n e. absurd (no_held h m);
  }

  metadata_right : MetadataRight image
  metadata_right = record {
    super_rec = record { version = 1; blocks = image.blocks; pages = image.pages; count = 0 };
    numbers = numbers_right;
    virtual_stamps = (same_virtual image).1 virtual_right;
    physical_stamps = (same_physical image).1 (λ r q m n s. absurd (fresh.no_data r m));
    tree = record { nodes = nodes_right; addresses = addresses_right; entries = entries_right; pointers = pointers_right };
  }

  -- ---- room, and the tree

  data_spare : (stamps : List ℕ) → IsSome (physical_spare image stamps)
  unfolding physical_spare spare_block
  data_spare stamps =
      ap is_some (find-some (λ block. list_all (λ r. not (r.page / image.pages == block && list_any (λ s. s == stamp_on r) stamps) || list_any (λ q. not (q.page / image.pages == block) && stamp_on q == stamp_on r) (physical_pages image)) (physical_pages image))
      (range_with_len shape.vblocks shape.pblocks) shape.vblocks (range-member shape.vblocks shape.vblocks shape.pblocks (omega arith) (omega (arith, has_physical image.blocks image.pages fresh.legal)))
      (each-all _ (physical_pages image) (λ r m. absurd (fresh.no_data r m)))).1

  room : IsSome (virtual_spare image) → ImageHasRoom image
  room spare = record {
    virtual_room = subst IsSome (sym (virtual_spare_is image)) spare;
    physical_room = subst IsSome (sym (physical_spare_is image (map (λ h. h.pointer.stamp) (held_in shape pages)))) (data_spare (map (λ h. h.pointer.stamp) (held_in shape pages)));
    few_lost = subst (λ (hs : List Held). count_by (λ h. is_lost_seen shape (seen_in image) h.pointer) hs ≤ 3 * shape.pages) (sym no_pointers) (omega arith);
  }

  empty_depicted : Represents (bytes_found image) (graph_of shape pages) empty_tree
  unfolding node_reached
  empty_depicted [] = empty_at_root ∙ ap (λ (g : GraphNode). node_of (bytes_found image) g.body) (sym root_node)
  empty_depicted (name ∷ names) = empty_below name names ∙ ap (λ (g : GraphNode). option_and_then (λ n. node_of (bytes_found image) (graph_of shape pages n).body) (option_and_then (λ m. node_reached (graph_of shape pages) m names) (node_named name (entries_in g.body)))) (sym root_node)

  sound_with : IsSome (virtual_spare image) → ConsistentAs image 0 empty_tree
  unfolding metadata_right
  sound_with spare = record {
    stands = record { pages_whole = fresh.whole; metadata = metadata_right; count_of_calls = refl; is_tree = empty_is_tree; depicts = empty_depicted };
    own_names = λ h m. absurd (no_held h m);
    data_fits = subst (λ (n : ℕ). n ≤ shape.cap) (sym no_data_in) (omega arith);
    room = room spare;
  }

pub fresh_is_consistent : FreshIsConsistent
fresh_is_consistent image fresh spare = sound_with image fresh spare

-- there are more than four virtual blocks
many_blocks : (blocks pages : ℕ) → is_legal blocks pages ≡ true → 4 < (shape_for blocks pages).vblocks
unfolding shape_for
many_blocks blocks pages legal = by (cases_lt 0 (div_ceil v pages))
  where
    v : ℕ
    v = 67 + div_ceil (blocks * pages / 16) 16 + blocks * pages / 32

    none : (q p a : ℕ) → q ≤ 0 → 67 + a ≤ q * p → ⊥
    none zero p a h e = omega arith
    none (suc q) p a h e = omega (arith, h)

    at_least : 67 + (div_ceil (blocks * pages / 16) 16 + blocks * pages / 32) ≤ v
    at_least = omega arith

    by : (0 < div_ceil v pages) ⊎ (div_ceil v pages ≤ 0) → 4 < div_ceil v pages + 4
    by (inl h) = omega (arith, h)
    by (inr h) =
        absurd (none (div_ceil v pages) pages (div_ceil (blocks * pages / 16) 16 + blocks * pages / 32) h
        (omega (arith, at_least, (div_ceil_times v pages (omega (arith, (limits blocks pages legal).2))).0)))

pub few_fresh_are_consistent : FewFreshAreConsistent
few_fresh_are_consistent image fresh few = fresh_is_consistent image fresh (spare_by_few_pages image (omega (arith, few, many_blocks image.blocks image.pages fresh.legal)))
