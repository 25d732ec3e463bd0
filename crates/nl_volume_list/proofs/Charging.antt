-- What is not free is what the tree takes.
use Rattle.std.proofs.Common.{◌≡◌, ◌≢◌, ◌==◌, ℕ, zero, suc, ◌+◌, ◌-◌, ◌*◌, ◌<◌, ◌≤◌, Bool, true, false, not, ◌&&◌, cond, nat_le, List, [], ◌∷◌, length, map, filter, get_or, refl, sym, ap, subst, ◌∙◌, Option, Some, ◌⊎◌, inl, inr, ⊎_elim, arith}
use Rattle.std.proofs.lemmas.Bool.{and_right, cases_eq, ne_eqb, not_from_false, not-true, le-leb}
use Rattle.std.proofs.lemmas.List.Filters.{length-filter_both}
use Rattle.std.proofs.lemmas.List.FromFn.{length-range_with_len}
use Rattle.std.proofs.lemmas.List.Sums.{length-filter}
use Rattle.std.specs.List.{flat_map, range_with_len}
use Rattle.std.specs.Prelude.{slice_get}
use Rattle.nl_field.specs.Members.{Has}
use Rattle.nl_field.specs.Numbers.{ShapeBounds}
use Rattle.nl_field.specs.declared.inode.InodeRec.{InodeRec}
use Rattle.nl_field.specs.declared.inode.Kind.{Kind}
use Rattle.nl_field.specs.declared.inode.Kind.TheVariants.{Dir, File, Unused}
use Rattle.nl_field.specs.declared.shape.Shape.{Shape}
use Rattle.nl_field.proofs.Bounds.{bounds}
use Rattle.nl_spec_commits.specs.Trees.{RepresentsTree}
use Rattle.nl_inode.specs.Free.{count_free, is_free}
use Rattle.nl_inode.specs.FreeLaws.{NodesAreFree, PoolIsFree, UsesAddress}
use Rattle.nl_inode.specs.Nodes.{Spaces}
use Rattle.nl_meta.specs.Committed.{VirtualMap}
use Rattle.nl_meta.specs.Consistent.{IsNode, NodesRight, PageOfStamp}
use Rattle.nl_meta.specs.Nodes.{inode_at}
use Rattle.nl_meta.specs.Walk.{addresses_of, is_file_kind, used_nodes}
use Rattle.nl_meta.proofs.AddressProofs.{addresses_listed, member_address}
use Rattle.nl_meta.proofs.Facts.{EachTwo}
use Rattle.nl_meta.proofs.Lists.{filter-member, flat-member, map-member, member-filter, member-map, member-range, range-member, some_in}
use Rattle.nl_meta.proofs.NodeProofs.{is_used, used_is, used_rise}
use Rattle.nl_meta.proofs.Pairs.{mapped_two, range_rises, two_filtered, two_map}
use Rattle.nl_spec_image.proofs.SoundProofs.{right_charges}
use Rattle.nl_spec_image.proofs.Sums.{differ_rising, length_mapped}
use Rattle.nl_tree.specs.Charges.{meta_charge, node_charge}
use Rattle.nl_tree.specs.CountLaws.{Differ}
use Rattle.nl_tree.specs.Tree.{Tree}
use Rattle.nl_tree.proofs.CountProofs.{count_laws}

false-true : false ≡ true → ⊥
false-true e = cc

not-yes : (b : Bool) → (b ≡ true → ⊥) → b ≡ false
not-yes true h = absurd (h refl)
not-yes false h = refl

differ-two : (ns : List ℕ) → EachTwo (λ a b. a ≢ b) ns → Differ ns
differ-two [] two = tt
differ-two (n ∷ ns) two = ((λ h. two.0 n h refl), differ-two ns two.1)

rising-differ : (a k : ℕ) (t : ℕ → Bool) → Differ (filter t (range_with_len a k))
rising-differ a k t = differ-two (filter t (range_with_len a k)) (two_filtered (λ a b. a ≢ b) t (range_with_len a k) (two_map (λ i j. i < j) (λ i j. i ≢ j) (λ i j h e. off i j h e) (range_with_len a k) (range_rises a k)))
  where
    off : (i j : ℕ) → i < j → i ≡ j → ⊥
    off i j h e = omega (arith, h, e)

-- the free ones, counted over their numbers
counted : (f : ℕ → Bool) (a : ℕ) (xs : List Bool) → ((k : ℕ) → k < length xs → f (a + k) ≡ get_or xs k false) → length (filter f (range_with_len a (length xs))) ≡ length (filter (λ b. b) xs)
counted f a [] same = refl
counted f a (x ∷ xs) same = by (f a) x first (counted f (a + 1) xs later)
  where
    first : f a ≡ x
    first = ap f (let e : a ≡ a + 0 = omega arith in e) ∙ same 0 (omega arith)

    later : (k : ℕ) → k < length xs → f (a + 1 + k) ≡ get_or xs k false
    later k h = ap f (let e : a + 1 + k ≡ a + suc k = omega arith in e) ∙ same (suc k) (omega (arith, h))

    by : (b c : Bool) → b ≡ c → length (filter f (range_with_len (a + 1) (length xs))) ≡ length (filter (λ b. b) xs)
        → length (cond b (a ∷ filter f (range_with_len (a + 1) (length xs))) (filter f (range_with_len (a + 1) (length xs)))) ≡ length (cond c (x ∷ filter (λ b. b) xs) (filter (λ b. b) xs))
    by true true e rest = ap suc rest
    by false false e rest = rest
    by true false e rest = absurd (false-true (sym e))
    by false true e rest = absurd (false-true e)

-- as many are free as those used leave
left-free : (f : ℕ → Bool) (a : ℕ) (xs : List Bool) (used : List ℕ) → ((k : ℕ) → k < length xs → f (a + k) ≡ get_or xs k false) → Differ used
    → ((n : ℕ) → Has used n → Has (filter (λ k. not (f k)) (range_with_len a (length xs))) n) → ((n : ℕ) → Has (filter (λ k. not (f k)) (range_with_len a (length xs))) n → Has used n)
    → length used + count_free xs ≡ length xs
left-free f a xs used same differ there back =
    let n = count_laws.length_of_members used (filter (λ k. not (f k)) (range_with_len a (length xs))) differ (rising-differ a (length xs) (λ k. not (f k))) there back in
    let all = length-filter_both f (λ k. not (f k)) (λ k. refl) (range_with_len a (length xs)) in
    let c = counted f a xs same in
    let d = length-filter (λ b. b) xs in
    let e = length-range_with_len a (length xs) in
    omega (arith, n, all, c, d, e)

has-or-not : (xs : List ℕ) (n : ℕ) → Has xs n ⊎ (Has xs n → ⊥)
has-or-not [] n = inr (λ h. h)
has-or-not (x ∷ xs) n = by (cases_eq x n) (has-or-not xs n)
  where
    by : (x ≡ n) ⊎ (x ≡ n → ⊥) → Has xs n ⊎ (Has xs n → ⊥) → ((x ≡ n) ⊎ Has xs n) ⊎ ((x ≡ n) ⊎ Has xs n → ⊥)
    by (inl e) rest = inl (inl e)
    by (inr far) (inl h) = inl (inr h)
    by (inr far) (inr none) = inr (⊎_elim far none)

slot-of : (xs : List ℕ) (a : ℕ) → Has xs a → (i : ℕ) × (slice_get xs i ≡ Some a)
slot-of [] a h = absurd h
slot-of (x ∷ xs) a (inl e) = (zero, ap (λ (y : ℕ). Some y) e)
slot-of (x ∷ xs) a (inr h) = let r = slot-of xs a h in (suc r.0, r.1)

slot-has : (xs : List ℕ) (i a : ℕ) → slice_get xs i ≡ Some a → Has xs a
slot-has [] i a e = absurd (none e)
  where
    none : slice_get [] i ≡ Some a → ⊥
    none e = cc
slot-has (x ∷ xs) zero a e = inl (some_in x a e)
slot-has (x ∷ xs) (suc i) a e = inr (slot-has xs i a e)

module _ (shape : Shape) (pages : VirtualMap) (page_of_stamp : ℕ → Option PageOfStamp) (tree : Tree) (runs : RepresentsTree shape pages page_of_stamp tree) (s : Spaces) where
  numbers : List ℕ
  numbers = map (λ (x : ℕ × InodeRec). x.0) (used_nodes shape pages)

  number-used : (n : ℕ) → Has numbers n → (rec : InodeRec) × IsNode shape pages n rec
  unfolding numbers
  number-used n h =
      let r = member-map (λ (x : ℕ × InodeRec). x.0) (used_nodes shape pages) n h in
      (r.0.1, subst (λ (k : ℕ). IsNode shape pages k r.0.1) r.2 (used_is shape pages r.0 r.1))

  used-number : (n : ℕ) (rec : InodeRec) → IsNode shape pages n rec → Has numbers n
  unfolding numbers
  used-number n rec is = map-member (λ (x : ℕ × InodeRec). x.0) (used_nodes shape pages) (n, rec) (is_used shape pages n rec is)

  -- a number that is not free is used
  not-free : NodesRight shape pages → NodesAreFree shape pages s → (n : ℕ) → n < shape.nodes → is_free s.nodes n ≡ false → (rec : InodeRec) × IsNode shape pages n rec
  not-free right are n below out = by (right.spelled n below).0 (right.spelled n below).1 (right.spelled n below).0.kind refl
    where
      unused : (rec : InodeRec) → inode_at pages n ≡ Some rec → rec.kind ≡ Unused → ⊥
      unused rec is e =
          false-true (sym out ∙ (are.each n below).1 (λ other at. at.used (ap (λ (r : InodeRec). r.kind) (some_in other rec (sym at.spelled ∙ is)) ∙ e)))

      by : (rec : InodeRec) → inode_at pages n ≡ Some rec → (k : Kind) → rec.kind ≡ k → (rec : InodeRec) × IsNode shape pages n rec
      by rec is Unused e = absurd (unused rec is e)
      by rec is Dir e = (rec, record { below = below; spelled = is; used = λ u. dir-unused (sym e ∙ u) })
        where
          dir-unused : Dir ≡ Unused → ⊥
          dir-unused e = cc
      by rec is File e = (rec, record { below = below; spelled = is; used = λ u. file-unused (sym e ∙ u) })
        where
          file-unused : File ≡ Unused → ⊥
          file-unused e = cc

  pub nodes-charged : NodesAreFree shape pages s → length s.nodes ≡ shape.nodes → node_charge tree + count_free s.nodes ≡ shape.nodes
  unfolding numbers
  nodes-charged are many =
      let c = (right_charges shape pages page_of_stamp tree runs.right runs.represents).used in
      let l = length_mapped (λ (x : ℕ × InodeRec). x.0) (used_nodes shape pages) in
      let r = left-free (is_free s.nodes) 0 s.nodes numbers (λ k h. ap (is_free s.nodes) (let e : 0 + k ≡ k = omega arith in e)) (differ_rising (used_nodes shape pages) (used_rise shape pages)) there back in
      omega (arith, c, l, r, many)
    where
      there : (n : ℕ) → Has numbers n → Has (filter (λ k. not (is_free s.nodes k)) (range_with_len 0 (length s.nodes))) n
      there n h =
          let u = number-used n h in
          let low = u.1.below in
          filter-member (λ k. not (is_free s.nodes k)) (range_with_len 0 (length s.nodes)) n (range-member n 0 (length s.nodes) (omega arith) (omega (arith, low, many)))
          (not_from_false _ (not-yes _ (λ free. (are.each n low).0 free u.0 u.1)))

      back : (n : ℕ) → Has (filter (λ k. not (is_free s.nodes k)) (range_with_len 0 (length s.nodes))) n → Has numbers n
      back n h =
          let m = member-filter (λ k. not (is_free s.nodes k)) (range_with_len 0 (length s.nodes)) n h in
          let low = (member-range n 0 (length s.nodes) m.0).1 in
          let u = not-free runs.right.tree.nodes are n (omega (arith, low, many)) (not-true _ m.1) in
          used-number n u.0 u.1

  -- ---- addresses

  all : List ℕ
  all = map (λ (y : Bool × ℕ). y.1) (flat_map addresses_of (used_nodes shape pages))

  listed : (a : ℕ) → UsesAddress shape pages a → Has all a
  unfolding all
  listed a u =
      let at = u.2 in
      map-member (λ (y : Bool × ℕ). y.1) (flat_map addresses_of (used_nodes shape pages)) (is_file_kind at.rec.kind, a)
      (flat-member addresses_of (used_nodes shape pages) (u.0, at.rec) (is_file_kind at.rec.kind, a) (is_used shape pages u.0 at.rec at.is_node)
      (map-member (λ a. (is_file_kind at.rec.kind, a)) (filter (λ a. not (a == 0)) at.rec.addresses) a (filter-member (λ a. not (a == 0)) at.rec.addresses a (slot-has at.rec.addresses u.1 a at.in_slot) (not_from_false _ (ne_eqb a 0 at.not_zero)))))

  used : (a : ℕ) → Has all a → UsesAddress shape pages a
  unfolding all
  used a h =
      let y = member-map (λ (y : Bool × ℕ). y.1) (flat_map addresses_of (used_nodes shape pages)) a h in
      let m = member_address shape pages y.0 y.1 in
      let slot = slot-of m.1.addresses m.2 m.4 in
      let same = ap (λ (z : Bool × ℕ). z.1) m.6 ∙ y.2 in
      subst (UsesAddress shape pages) same (m.0, slot.0, record { rec = m.1; is_node = m.3; in_slot = slot.1; not_zero = m.5 })

  all-differ : Differ all
  unfolding all
  all-differ = differ-two all (mapped_two (λ a b. a ≢ b) (λ (y : Bool × ℕ). y.1) (flat_map addresses_of (used_nodes shape pages)) (addresses_listed shape pages runs.right.tree.addresses).differ)

  bounds-here : ShapeBounds shape
  bounds-here = subst ShapeBounds (sym runs.right.numbers) (bounds shape.blocks shape.pages runs.right.legal)

  pub pool-charged : PoolIsFree shape pages s → length s.pool ≡ shape.meta → meta_charge tree + count_free s.pool ≡ shape.meta
  unfolding all
  pool-charged are many =
      let c = (right_charges shape pages page_of_stamp tree runs.right runs.represents).meta_pages in
      let l = length_mapped (λ (y : Bool × ℕ). y.1) (flat_map addresses_of (used_nodes shape pages)) in
      let r = left-free (λ a. is_free s.pool (a - s.first)) s.first s.pool all (λ k h. ap (is_free s.pool) (let e : s.first + k - s.first ≡ k = omega arith in e)) all-differ there back in
      omega (arith, c, l, r, many)
    where
      last : s.first + length s.pool ≡ shape.vaddrs
      last = let f = are.first in let b = bounds-here.addresses in omega (arith, f, b, many)

      there : (a : ℕ) → Has all a → Has (filter (λ k. not (is_free s.pool (k - s.first))) (range_with_len s.first (length s.pool))) a
      there a h =
          let u = used a h in
          let good = runs.right.tree.addresses.good u.0 u.1 a u.2 in
          let low = good.from_pool in
          let high = good.in_pool in
          let f = are.first in
          let l = last in
          let from : s.first ≤ a = omega (arith, f, low) in
          filter-member (λ k. not (is_free s.pool (k - s.first))) (range_with_len s.first (length s.pool)) a (range-member a s.first (length s.pool) from (omega (arith, high, l)))
          (not_from_false _ (not-yes _ (λ free. (are.each a from high).0 (ap (λ (b : Bool). b && is_free s.pool (a - s.first)) (le-leb s.first a from) ∙ free) u)))

      back : (a : ℕ) → Has (filter (λ k. not (is_free s.pool (k - s.first))) (range_with_len s.first (length s.pool))) a → Has all a
      back a h = by (has-or-not all a)
        where
          m : Has (range_with_len s.first (length s.pool)) a × (not (is_free s.pool (a - s.first)) ≡ true)
          m = member-filter (λ k. not (is_free s.pool (k - s.first))) (range_with_len s.first (length s.pool)) a h

          by : Has all a ⊎ (Has all a → ⊥) → Has all a
          by (inl h) = h
          by (inr far) =
              let p = member-range a s.first (length s.pool) m.0 in
              let l = last in
              absurd (false-true (sym (and_right (nat_le s.first a) (is_free s.pool (a - s.first)) (not-true _ m.1)) ∙ (are.each a p.0 (omega (arith, l, p.1))).1 (λ u. far (listed a u))))

-- ---- the numbers of a volume are small

pub few-nodes : (shape : Shape) → ShapeBounds shape → shape.nodes < 4294967296
few-nodes shape b =
    let all = b.all_pages in
    let seg = b.segments in
    let some = b.least_pages in
    let held = b.data_pages in
    let within = b.nodes_within_cap in
    let part : shape.pblocks * shape.pages ≤ shape.blocks * shape.pages = subst (λ (k : ℕ). shape.pblocks * shape.pages ≤ k * shape.pages) seg (parts shape.vblocks shape.pblocks shape.pages) in
    omega (arith, all, part, held, within)
  where
    parts : (a b c : ℕ) → b * c ≤ (a + b) * c
    parts a b c = grind arith

pub few-meta : (shape : Shape) → ShapeBounds shape → shape.meta < 4294967296
few-meta shape b =
    let all = b.all_pages in
    let seg = b.segments in
    let fit = b.addresses_fit in
    let is = b.addresses in
    let part : shape.vblocks * shape.pages ≤ shape.blocks * shape.pages = subst (λ (k : ℕ). shape.vblocks * shape.pages ≤ k * shape.pages) seg (parts shape.vblocks shape.pblocks shape.pages) in
    omega (arith, all, part, fit, is)
  where
    parts : (a b c : ℕ) → a * c ≤ (a + b) * c
    parts a b c = grind arith
