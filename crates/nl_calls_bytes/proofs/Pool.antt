-- The free addresses and the used ones are all of the pool.
use Rattle.std.proofs.Common.{◌≡◌, ◌≢◌, ℕ, zero, suc, ◌+◌, ◌-◌, ◌<◌, ◌≤◌, Bool, true, false, not, cond, List, [], ◌∷◌, length, map, filter, get_or, ◌==◌, Some, count_by, flat_map, refl, sym, ap, subst, ◌∙◌, arith, ◌⊎◌, inl, inr}
use Rattle.std.specs.List.{range_with_len}
use Rattle.std.proofs.lemmas.Bool.{and_from, and_parts, cases_eq, le-leb, ne_eqb, not_from_false}
use Rattle.std.specs.Prelude.{slice_get}
use Rattle.std.proofs.lemmas.List.Sums.{length-filter, sum_by-cons}
use Rattle.nl_field.specs.Members.{Has}
use Rattle.nl_field.specs.Numbers.{ShapeBounds}
use Rattle.nl_field.specs.declared.shape.Shape.{Shape}
use Rattle.nl_tree.specs.CountLaws.{Differ}
use Rattle.nl_tree.proofs.CountProofs.{count_laws}
use Rattle.nl_calls_bytes.proofs.Counted.{count_same}
use Rattle.nl_calls_files.specs.LineNeeds.{free_addresses}
use Rattle.nl_inode.specs.FreeLaws.{PoolIsFree, UsesAddress}
use Rattle.nl_inode.specs.Nodes.{Spaces}
use Rattle.nl_meta.specs.Committed.{VirtualMap}
use Rattle.nl_meta.specs.Consistent.{AddressesRight}
use Rattle.nl_meta.specs.Walk.{addresses_of, is_file_kind, used_nodes}
use Rattle.nl_meta.proofs.AddressProofs.{addresses_listed, member_address}
use Rattle.nl_meta.proofs.Facts.{EachTwo}
use Rattle.nl_meta.proofs.Lists.{filter-member, flat-member, map-member, none_some, some_in, member-filter, member-map, member-range, range-member}
use Rattle.nl_meta.proofs.NodeProofs.{is_used}
use Rattle.nl_spec_image.proofs.Sums.{length_mapped}

-- ---- numbers that are free, and those that are not

abbrev taken : List Bool → ℕ → ℕ → Bool
taken pool first a = not (get_or pool (a - first) false)

both : (pool : List Bool) (first : ℕ) → count_by (λ (f : Bool). f) pool + count_by (taken pool first) (range_with_len first (length pool)) ≡ length pool
both [] first = refl
both (b ∷ pool) first =
    let x = sum_by-cons (λ (f : Bool). cond f 1 0) b pool in
    let y = sum_by-cons (λ a. cond (taken (b ∷ pool) first a) 1 0) first (range_with_len (first + 1) (length pool)) in
    let z = count_same (taken pool (first + 1)) (taken (b ∷ pool) first) (first + 1) (length pool) (λ a low high. next a low) in
    let r = both pool (first + 1) in
    let o = one b first in
    omega (arith, x, y, z, r, o)
  where
    next : (a : ℕ) → first + 1 ≤ a → taken (b ∷ pool) first a ≡ taken pool (first + 1) a
    next a low = ap (λ (k : ℕ). not (get_or (b ∷ pool) k false)) (let e : a - first ≡ suc (a - (first + 1)) = omega (arith, low) in e)

    one : (b : Bool) (first : ℕ) → cond {A = ℕ} b 1 0 + cond (taken (b ∷ pool) first first) 1 0 ≡ 1
    one b first = ap (λ (k : ℕ). cond {A = ℕ} b 1 0 + cond (not (get_or (b ∷ pool) k false)) 1 0) (let e : first - first ≡ 0 = omega arith in e) ∙ by b
      where
        by : (b : Bool) → cond {A = ℕ} b 1 0 + cond (not b) 1 0 ≡ 1
        by true = refl
        by false = refl

-- ---- lists of numbers that differ

differ-range : (n a : ℕ) → Differ (range_with_len a n)
differ-range zero a = tt
differ-range (suc n) a = (λ has. let r = member-range a (a + 1) n has in omega (arith, r.0), differ-range n (a + 1))

differ-filter : (t : ℕ → Bool) (xs : List ℕ) → Differ xs → Differ (filter t xs)
differ-filter t [] d = tt
differ-filter t (x ∷ xs) d = by (t x) (differ-filter t xs d.1)
  where
    by : (b : Bool) → Differ (filter t xs) → Differ (cond b (x ∷ filter t xs) (filter t xs))
    by true rest = (λ has. d.0 (member-filter t xs x has).0, rest)
    by false rest = rest

differ-each : (xs : List (Bool × ℕ)) → EachTwo (λ x y. x.1 ≢ y.1) xs → Differ (map (λ (y : Bool × ℕ). y.1) xs)
differ-each [] d = tt
differ-each (x ∷ xs) d = (λ has. let m = member-map (λ (y : Bool × ℕ). y.1) xs x.1 has in d.0 m.0 m.1 (sym m.2), differ-each xs d.1)

-- ---- the addresses that nodes have

has-or-not : (xs : List ℕ) (a : ℕ) → Has xs a ⊎ (Has xs a → ⊥)
has-or-not [] a = inr (λ h. h)
has-or-not (x ∷ xs) a = by (cases_eq x a) (has-or-not xs a)
  where
    neither : (x ≡ a → ⊥) → (Has xs a → ⊥) → (x ≡ a) ⊎ Has xs a → ⊥
    neither f g (inl e) = f e
    neither f g (inr h) = g h

    by : (x ≡ a) ⊎ (x ≡ a → ⊥) → Has xs a ⊎ (Has xs a → ⊥) → Has (x ∷ xs) a ⊎ (Has (x ∷ xs) a → ⊥)
    by (inl e) _ = inl (inl e)
    by (inr f) (inl h) = inl (inr h)
    by (inr f) (inr g) = inr (neither f g)

slot-of : (xs : List ℕ) (a : ℕ) → Has xs a → (i : ℕ) × (slice_get xs i ≡ Some a)
slot-of [] a h = absurd h
slot-of (x ∷ xs) a (inl e) = (zero, ap (λ (y : ℕ). Some y) e)
slot-of (x ∷ xs) a (inr h) = let r = slot-of xs a h in (suc r.0, r.1)

place-has : (ps : List ℕ) (i p : ℕ) → slice_get ps i ≡ Some p → Has ps p
place-has [] i p e = absurd (none_some p e)
place-has (q ∷ ps) zero p e = inl (some_in q p e)
place-has (q ∷ ps) (suc i) p e = inr (place-has ps i p e)

module _ (shape : Shape) (pages : VirtualMap) where
  -- the addresses that nodes have
  unfoldable all : List ℕ
  all = map (λ (y : Bool × ℕ). y.1) (flat_map addresses_of (used_nodes shape pages))

  listed : (a : ℕ) → UsesAddress shape pages a → Has all a
  unfolding all
  listed a u =
      let at = u.2 in
      map-member (λ (y : Bool × ℕ). y.1) (flat_map addresses_of (used_nodes shape pages)) (is_file_kind at.rec.kind, a)
      (flat-member addresses_of (used_nodes shape pages) (u.0, at.rec) (is_file_kind at.rec.kind, a) (is_used shape pages u.0 at.rec at.is_node)
      (map-member (λ a. (is_file_kind at.rec.kind, a)) (filter (λ a. not (a == 0)) at.rec.addresses) a (filter-member (λ a. not (a == 0)) at.rec.addresses a (place-has at.rec.addresses u.1 a at.in_slot) (not_from_false _ (ne_eqb a 0 at.not_zero)))))

  used : (a : ℕ) → Has all a → UsesAddress shape pages a
  unfolding all
  used a h =
      let y = member-map (λ (y : Bool × ℕ). y.1) (flat_map addresses_of (used_nodes shape pages)) a h in
      let m = member_address shape pages y.0 y.1 in
      let slot = slot-of m.1.addresses m.2 m.4 in
      let same = ap (λ (z : Bool × ℕ). z.1) m.6 ∙ y.2 in
      subst (UsesAddress shape pages) same (m.0, slot.0, record { rec = m.1; is_node = m.3; in_slot = slot.1; not_zero = m.5 })

module _ (shape : Shape) (pages : VirtualMap) (bounds : ShapeBounds shape) (right : AddressesRight shape pages) (s : Spaces) (free : PoolIsFree shape pages s) (count : length s.pool ≡ shape.meta) where
  in-use : List ℕ
  in-use = filter (taken s.pool s.first) (range_with_len s.first (length s.pool))

  differ-all : Differ (all shape pages)
  unfolding all
  differ-all = differ-each (flat_map addresses_of (used_nodes shape pages)) (addresses_listed shape pages right).differ

  length-all : length (all shape pages) ≡ length (flat_map addresses_of (used_nodes shape pages))
  unfolding all
  length-all = length_mapped (λ (y : Bool × ℕ). y.1) (flat_map addresses_of (used_nodes shape pages))

  test-taken : (b : Bool) → (b ≡ true → ⊥) → not b ≡ true
  test-taken true off = absurd (off refl)
  test-taken false off = refl

  to : (a : ℕ) → Has (all shape pages) a → Has in-use a
  unfolding in-use
  to a has =
      let u = used shape pages a has in
      let good = right.good u.0 u.1 a u.2 in
      let low : s.first ≤ a = let f = free.first in let g = good.from_pool in omega (arith, f, g) in
      let high : a < s.first + length s.pool = let f = free.first in let h = good.in_pool in let b = bounds.addresses in omega (arith, f, h, b, count) in
      filter-member (taken s.pool s.first) (range_with_len s.first (length s.pool)) a (range-member a s.first (length s.pool) low high)
      (test-taken (get_or s.pool (a - s.first) false) (λ is. (free.each a low good.in_pool).0 (and_from _ _ (le-leb s.first a low) is) u))

  from : (a : ℕ) → Has in-use a → Has (all shape pages) a
  unfolding in-use
  from a has =
      let m = member-filter (taken s.pool s.first) (range_with_len s.first (length s.pool)) a has in
      let r = member-range a s.first (length s.pool) m.0 in
      let high : a < shape.vaddrs = let f = free.first in let b = bounds.addresses in let n = r.1 in omega (arith, f, b, count, n) in
      by m.1 r.0 high (has-or-not (all shape pages) a)
    where
      clash : (b : Bool) → not b ≡ true → b ≡ true → ⊥
      clash true e f = cc
      clash false e f = cc

      by : taken s.pool s.first a ≡ true → s.first ≤ a → a < shape.vaddrs → Has (all shape pages) a ⊎ (Has (all shape pages) a → ⊥) → Has (all shape pages) a
      by e low high (inl has) = has
      by e low high (inr far) = absurd (clash (get_or s.pool (a - s.first) false) e (and_parts _ _ ((free.each a low high).1 (λ u. far (listed shape pages a u)))).1)

  pub pool-counted : free_addresses s + length (flat_map addresses_of (used_nodes shape pages)) ≡ shape.meta
  unfolding in-use
  pool-counted =
      let a = both s.pool s.first in
      let b = length-filter (taken s.pool s.first) (range_with_len s.first (length s.pool)) in
      let c = count_laws.length_of_members (all shape pages) in-use differ-all (differ-filter (taken s.pool s.first) (range_with_len s.first (length s.pool)) (differ-range (length s.pool) s.first)) to from in
      let d = length-all in
      omega (arith, a, b, c, d, count)
