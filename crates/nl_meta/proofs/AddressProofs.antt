-- The addresses of nodes.
use Rattle.std.proofs.Common.{◌≡◌, ℕ, zero, suc, ◌+◌, ◌<◌, Bool, true, false, not, ◌&&◌, ◌||◌, cond, List, [], ◌∷◌, filter, flat_map, refl, sym, ap, subst, ◌∙◌, Option, Some, None, option_map, is_some, ◌⊎◌, inl, inr, arith, ◌≢◌, nat_le, nat_lt, ◌==◌, is_none, unwrap_or, bytes_eq, ◌/◌}
use Rattle.std.proofs.lemmas.Bool.{or_parts, or_from, not_from_true, not-false, and_parts, and_from, not_from_false, not-true, eqb-false, ne_eqb, ltb-true, leb-true, lt-ltb, le-leb, cases_Bool, cases_order}
use Rattle.std.specs.Int.{div_ceil}
use Rattle.std.specs.List.{list_any}
use Rattle.std.specs.Prelude.{◌↔◌, slice_get, slice_index}
use Rattle.nl_field.specs.Inode.{are_filled, is_inode_of_kind, inode_of, inode_fields, inode_bytes, is_inode}
use Rattle.nl_field.specs.Pointers.{indirect_of}
use Rattle.nl_field.specs.declared.inode.InodeRec.{InodeRec}
use Rattle.nl_field.specs.declared.inode.Kind.{Kind}
use Rattle.nl_field.specs.declared.inode.Kind.TheVariants.{File, Dir}
use Rattle.nl_field.specs.declared.pointer.Pointer.{Pointer}
use Rattle.nl_field.specs.declared.shape.Shape.{Shape}
use Rattle.nl_meta.specs.Committed.{VirtualMap}
use Rattle.nl_field.specs.Members.{Has}
use Rattle.nl_meta.specs.Consistent.{NamesPhysical, IsNode, GoodAddress, AddressAt, AddressesRight}
use Rattle.nl_meta.specs.Nodes.{inode_at, bytes_of_node, bytes_at, is_physical_name}
use Rattle.nl_meta.specs.Walk.{first_after, is_file_kind, used_nodes, addresses_of, is_good_indirect, is_bad_address, pages_fault}
use Rattle.nl_meta.proofs.Facts.{EachTwo, AddressesListed, PlacesThere}
use Rattle.nl_meta.proofs.Lists.{some_in, true_false, none_some, all-each, each-all, map_none, none_map, member-filter, filter-member, member-map, map-member, member-flat, flat-member}
use Rattle.nl_meta.proofs.NodeProofs.{file_kind, used_is, is_used, used_rise, same_rec}
use Rattle.nl_meta.proofs.Pairs.{FaultParts, first_none, none_first, two_map, two_within, rising_two, two_flat, flat_two, two_mapped, mapped_two, itself}

shuffle : (p l n f : Bool) → (p || l || n || f) ≡ (not (not (p || n || f)) || l)
shuffle true true true true = refl
shuffle true true true false = refl
shuffle true true false true = refl
shuffle true true false false = refl
shuffle true false true true = refl
shuffle true false true false = refl
shuffle true false false true = refl
shuffle true false false false = refl
shuffle false true true true = refl
shuffle false true true false = refl
shuffle false true false true = refl
shuffle false true false false = refl
shuffle false false true true = refl
shuffle false false true false = refl
shuffle false false false true = refl
shuffle false false false false = refl

module _ (shape : Shape) (pages : VirtualMap) where
  abbrev in_pool : ℕ → Bool
  in_pool a = nat_le (67 + shape.inode_pages) a && nat_lt a shape.vaddrs

  abbrev own_address : Bool → ℕ → Bool
  own_address of_file a = not (not (in_pool a) || is_none (pages a) || (of_file && not (is_good_indirect shape (indirect_of (bytes_at pages a)))))

  abbrev own_part : Bool × ℕ → Bool
  own_part x = own_address x.0 x.1

  abbrev address_clash : Bool × ℕ → Bool × ℕ → Bool
  address_clash e x = e.1 == x.1

  address_parts : FaultParts (is_bad_address shape pages) own_part address_clash
  address_parts = record {
    parts = λ earlier x. shuffle (not (in_pool x.1)) (list_any (λ e. e.1 == x.1) earlier) (is_none (pages x.1)) (x.0 && not (is_good_indirect shape (indirect_of (bytes_at pages x.1))));
  }

  good_address : (k : Kind) (a : ℕ) → own_address (is_file_kind k) a ≡ true → GoodAddress shape pages k a
  good_address k a e = by (pages a) refl (or_parts _ _ parts.0).1
    where
      parts : ((not (in_pool a) || is_none (pages a)) ≡ false) × ((is_file_kind k && not (is_good_indirect shape (indirect_of (bytes_at pages a)))) ≡ false)
      parts = or_parts _ _ (not-true _ e)

      pool : (nat_le (67 + shape.inode_pages) a ≡ true) × (nat_lt a shape.vaddrs ≡ true)
      pool = and_parts _ _ (not-false _ (or_parts _ _ parts.0).0)

      spelled : (bytes : List ℕ) → pages a ≡ Some bytes → k ≡ File → (ps : List Pointer) × (indirect_of bytes ≡ Some ps) × NamesPhysical shape ps
      spelled bytes at is_file = of (indirect_of bytes) refl (sym (ap (λ (o : Option (List ℕ)). is_good_indirect shape (indirect_of (unwrap_or o []))) at) ∙ good)
        where
          good : is_good_indirect shape (indirect_of (bytes_at pages a)) ≡ true
          good = not-false _ (sym (ap (λ (k : Kind). is_file_kind k && not (is_good_indirect shape (indirect_of (bytes_at pages a)))) is_file) ∙ parts.1)

          of : (o : Option (List Pointer)) → indirect_of bytes ≡ o → is_good_indirect shape o ≡ true → (ps : List Pointer) × (indirect_of bytes ≡ Some ps) × NamesPhysical shape ps
          of None e h = absurd (true_false (sym h))
          of (Some ps) e h = (ps, e, all-each (is_physical_name shape) ps h)

      by : (o : Option (List ℕ)) → pages a ≡ o → is_none o ≡ false → GoodAddress shape pages k a
      by None at h = absurd (true_false h)
      by (Some bs) at h = record { from_pool = leb-true _ _ pool.0; in_pool = ltb-true _ _ pool.1; bytes = bs; committed = at; spelled = spelled bs at }

  address_good : (k : Kind) (a : ℕ) → GoodAddress shape pages k a → own_address (is_file_kind k) a ≡ true
  address_good k a good =
      not_from_false _ (or_from _ _ (or_from _ _ (not_from_true _ (and_from _ _ (le-leb _ _ good.from_pool) (lt-ltb _ _ good.in_pool))) (ap is_none good.committed)) (file (cases_Bool (is_file_kind k))))
    where
      spelled : (ps : List Pointer) × (indirect_of good.bytes ≡ Some ps) × NamesPhysical shape ps → is_good_indirect shape (indirect_of (bytes_at pages a)) ≡ true
      spelled r =
          ap (λ (o : Option (List ℕ)). is_good_indirect shape (indirect_of (unwrap_or o []))) good.committed ∙ ap (is_good_indirect shape) r.1
          ∙ each-all (is_physical_name shape) r.0 r.2

      file : (is_file_kind k ≡ true) ⊎ (is_file_kind k ≡ false) → (is_file_kind k && not (is_good_indirect shape (indirect_of (bytes_at pages a)))) ≡ false
      file (inl e) =
          ap (λ t. is_file_kind k && not t) (spelled (good.spelled (file_kind k e)))
          ∙ elim (is_file_kind k) as (λ t. (t && false) ≡ false) [ true ↦ refl | false ↦ refl ]
      file (inr e) = ap (λ t. t && not (is_good_indirect shape (indirect_of (bytes_at pages a)))) e

  address_member : (n : ℕ) (rec : InodeRec) (a : ℕ) → IsNode shape pages n rec → Has rec.addresses a → a ≢ 0 → Has (flat_map addresses_of (used_nodes shape pages)) (is_file_kind rec.kind, a)
  address_member n rec a is m far =
      flat-member addresses_of (used_nodes shape pages) (n, rec) (is_file_kind rec.kind, a) (is_used shape pages n rec is)
      (map-member (λ a. (is_file_kind rec.kind, a)) (filter (λ a. not (a == 0)) rec.addresses) a (filter-member (λ a. not (a == 0)) rec.addresses a m (not_from_false _ (ne_eqb a 0 far))))

  pub member_address : (y : Bool × ℕ) → Has (flat_map addresses_of (used_nodes shape pages)) y
      → (n : ℕ) × (rec : InodeRec) × (a : ℕ) × IsNode shape pages n rec × Has rec.addresses a × (a ≢ 0) × ((is_file_kind rec.kind, a) ≡ y)
  member_address y m =
      let r = member-flat addresses_of (used_nodes shape pages) y m in
      let b = member-map (λ a. (is_file_kind r.0.1.kind, a)) (filter (λ a. not (a == 0)) r.0.1.addresses) y r.2 in
      let c = member-filter (λ a. not (a == 0)) r.0.1.addresses b.0 b.1 in
      (r.0.0, r.0.1, b.0, used_is shape pages r.0 r.1, c.0, eqb-false b.0 0 (not-true _ c.1), b.2)

  listed : (pages_fault shape pages ≡ None) ↔ (AddressesListed shape pages)
  unfolding pages_fault
  listed = (there, back)
    where
      there : option_map (λ e. e.1) (first_after (is_bad_address shape pages) [] (flat_map addresses_of (used_nodes shape pages))) ≡ None → AddressesListed shape pages
      there e =
          let r = first_none (is_bad_address shape pages) own_part address_clash address_parts [] (flat_map addresses_of (used_nodes shape pages)) (map_none _ _ e) in
          record {
            good = λ n rec a is m far. good_address rec.kind a (r.0 (is_file_kind rec.kind, a) (address_member n rec a is m far));
            differ = two_map (λ x y. address_clash x y ≡ false) (λ x y. x.1 ≢ y.1) (λ x y e. eqb-false x.1 y.1 e) _ r.2;
          }

      back : AddressesListed shape pages → option_map (λ e. e.1) (first_after (is_bad_address shape pages) [] (flat_map addresses_of (used_nodes shape pages))) ≡ None
      back h =
          none_map (λ e. e.1) _
          (none_first (is_bad_address shape pages) own_part address_clash address_parts [] (flat_map addresses_of (used_nodes shape pages))
          (λ y m. let r = member_address y m in sym (ap own_part r.6) ∙ sym (sym (address_good r.1.kind r.2 (h.good r.0 r.1 r.2 r.3 r.4 r.5))))
          (λ x m e n. absurd n)
          (two_map (λ x y. x.1 ≢ y.1) (λ x y. address_clash x y ≡ false) (λ x y f. ne_eqb x.1 y.1 f) _ h.differ))

two_kept : {X : Type 0} (r : X → X → Type 0) (t : X → Bool) (xs : List X) → EachTwo r (filter t xs) → EachTwo (λ x y. t x ≡ true → t y ≡ true → r x y) xs
two_kept r t [] h = tt
two_kept {X} r t (x ∷ xs) h =
    elim (t x) as (λ b. t x ≡ b → EachTwo r (cond b (x ∷ filter t xs) (filter t xs)) → EachTwo (λ x y. t x ≡ true → t y ≡ true → r x y) (x ∷ xs)) [
      | true ↦ λ e h. ((λ y m a b. h.0 y (filter-member t xs y m b)), two_kept r t xs h.1)
      | false ↦ λ e h. ((λ y m a b. absurd (true_false (sym a ∙ e))), two_kept r t xs h)
    ] refl h

kept_two : {X : Type 0} (r : X → X → Type 0) (t : X → Bool) (xs : List X) → EachTwo (λ x y. t x ≡ true → t y ≡ true → r x y) xs → EachTwo r (filter t xs)
kept_two r t [] h = tt
kept_two {X} r t (x ∷ xs) h =
    elim (t x) as (λ b. t x ≡ b → EachTwo r (cond b (x ∷ filter t xs) (filter t xs))) [
      | true ↦ λ e. ((λ y m. let q = member-filter t xs y m in h.0 y q.0 e q.1), kept_two r t xs h.1)
      | false ↦ λ e. kept_two r t xs h.1
    ] refl

at_member : (xs : List ℕ) (i x : ℕ) → slice_get xs i ≡ Some x → Has xs x
at_member [] i x h = absurd (none_some x h)
at_member (y ∷ ys) zero x h = inl (some_in y x h)
at_member (y ∷ ys) (suc i) x h = inr (at_member ys i x h)

member_at : (xs : List ℕ) (x : ℕ) → Has xs x → (i : ℕ) × (slice_get xs i ≡ Some x)
member_at [] x h = absurd h
member_at (y ∷ ys) x (inl e) = (zero, ap (λ (z : ℕ). Some z) e)
member_at (y ∷ ys) x (inr h) = let r = member_at ys x h in (suc r.0, r.1)

two_at : (r : ℕ → ℕ → Type 0) (xs : List ℕ) → EachTwo r xs → (i j x y : ℕ) → slice_get xs i ≡ Some x → slice_get xs j ≡ Some y → i < j → r x y
two_at r [] two i j x y a b h = absurd (none_some x a)
two_at r (z ∷ xs) two zero zero x y a b h = absurd (itself 0 0 refl h)
two_at r (z ∷ xs) two zero (suc j) x y a b h = subst (λ (w : ℕ). r w y) (some_in z x a) (two.0 y (at_member xs j y b))
two_at r (z ∷ xs) two (suc i) zero x y a b h = absurd (none i h)
  where
    none : (i : ℕ) → suc i < 0 → ⊥
    none i h = omega arith
two_at r (z ∷ xs) two (suc i) (suc j) x y a b h = two_at r xs two.1 i j x y a b (less i j h)
  where
    less : (i j : ℕ) → suc i < suc j → i < j
    less i j h = omega arith

at_two : (r : ℕ → ℕ → Type 0) (xs : List ℕ) → ((i j x y : ℕ) → slice_get xs i ≡ Some x → slice_get xs j ≡ Some y → i < j → r x y) → EachTwo r xs
at_two r [] f = tt
at_two r (z ∷ xs) f = ((λ y m. let q = member_at xs y m in f 0 (suc q.0) z y refl q.1 (omega arith)), at_two r xs (λ i j x y a b h. f (suc i) (suc j) x y a b (omega (arith, h))))

module _ (shape : Shape) (pages : VirtualMap) where
  abbrev other_address : Bool × ℕ → Bool × ℕ → Type 0
  other_address x y = x.1 ≢ y.1

  abbrev other_addresses : ℕ × InodeRec → ℕ × InodeRec → Type 0
  other_addresses x y = (u v : Bool × ℕ) → Has (addresses_of x) u → Has (addresses_of y) v → other_address u v

  abbrev is_used_address : ℕ → Bool
  is_used_address a = not (a == 0)

  address_in : (n slot a : ℕ) (at : AddressAt shape pages n slot a) → Has (addresses_of (n, at.rec)) (is_file_kind at.rec.kind, a)
  address_in n slot a at =
      map-member (λ a. (is_file_kind at.rec.kind, a)) (filter is_used_address at.rec.addresses) a
      (filter-member is_used_address at.rec.addresses a (at_member at.rec.addresses slot a at.in_slot) (not_from_false _ (ne_eqb a 0 at.not_zero)))

  one_address : AddressesListed shape pages → (n slot m slot' a : ℕ) → AddressAt shape pages n slot a → AddressAt shape pages m slot' a → (n ≡ m) × (slot ≡ slot')
  one_address right n slot m slot' a p q = by (cases_order n m)
    where
      parts : EachTwo other_addresses (used_nodes shape pages) × ((x : ℕ × InodeRec) → Has (used_nodes shape pages) x → EachTwo other_address (addresses_of x))
      parts = two_flat other_address addresses_of (used_nodes shape pages) right.differ

      apart : (n slot m slot' : ℕ) → AddressAt shape pages n slot a → AddressAt shape pages m slot' a → n < m → ⊥
      apart n slot m slot' p q h =
          rising_two (λ (x : ℕ × InodeRec). x.0) other_addresses (used_nodes shape pages) (used_rise shape pages) parts.0 (n, p.rec) (m, q.rec) (is_used shape pages n p.rec p.is_node) (is_used shape pages m q.rec q.is_node) h
          (is_file_kind p.rec.kind, a) (is_file_kind q.rec.kind, a) (address_in n slot a p) (address_in m slot' a q) refl

      slots : (n slot slot' : ℕ) → AddressAt shape pages n slot a → AddressAt shape pages n slot' a → slot < slot' → ⊥
      slots n slot slot' p q h =
          two_at (λ x y. is_used_address x ≡ true → is_used_address y ≡ true → x ≢ y) p.rec.addresses
          (two_kept (λ x y. x ≢ y) is_used_address p.rec.addresses
          (two_mapped other_address (λ a. (is_file_kind p.rec.kind, a)) (filter is_used_address p.rec.addresses) (parts.1 (n, p.rec) (is_used shape pages n p.rec p.is_node))))
          slot slot' a a p.in_slot (subst (λ (z : InodeRec). slice_get z.addresses slot' ≡ Some a) (same_rec shape pages n q.rec p.rec q.is_node p.is_node) q.in_slot) h
          (not_from_false _ (ne_eqb a 0 p.not_zero)) (not_from_false _ (ne_eqb a 0 p.not_zero)) refl

      same_slot : (q : AddressAt shape pages n slot' a) → (slot ≡ slot') ⊎ ((slot < slot') ⊎ (slot' < slot)) → slot ≡ slot'
      same_slot q (inl e) = e
      same_slot q (inr (inl h)) = absurd (slots n slot slot' p q h)
      same_slot q (inr (inr h)) = absurd (slots n slot' slot q p h)

      by : (n ≡ m) ⊎ ((n < m) ⊎ (m < n)) → (n ≡ m) × (slot ≡ slot')
      by (inl e) = (e, same_slot (subst (λ (k : ℕ). AddressAt shape pages k slot' a) (sym e) q) (cases_order slot slot'))
      by (inr (inl h)) = absurd (apart n slot m slot' p q h)
      by (inr (inr h)) = absurd (apart m slot' n slot q p h)

  each_address : ((n slot m slot' a : ℕ) → AddressAt shape pages n slot a → AddressAt shape pages m slot' a → (n ≡ m) × (slot ≡ slot')) → EachTwo other_address (flat_map addresses_of (used_nodes shape pages))
  each_address one =
      flat_two other_address addresses_of (used_nodes shape pages)
      (two_within (λ x y. x.0 < y.0) other_addresses (used_nodes shape pages) (used_rise shape pages)
      (λ x y m n h u v mu mv e.
      let p = at x (used_is shape pages x m) u mu in
      let q = at y (used_is shape pages y n) v mv in
      itself x.0 y.0 (one x.0 p.0 y.0 q.0 u.1 p.1 (subst (λ (k : ℕ). AddressAt shape pages y.0 q.0 k) (sym e) q.1)).0 h))
      (λ x m. inner x (used_is shape pages x m))
    where
      at : (x : ℕ × InodeRec) → IsNode shape pages x.0 x.1 → (u : Bool × ℕ) → Has (addresses_of x) u → (slot : ℕ) × AddressAt shape pages x.0 slot u.1
      at x is u m =
          let q = member-map (λ (a : ℕ). (is_file_kind x.1.kind, a)) (filter is_used_address x.1.addresses) u m in
          let f = member-filter is_used_address x.1.addresses q.0 q.1 in
          let s = member_at x.1.addresses q.0 f.0 in
          (s.0, subst (λ (k : ℕ). AddressAt shape pages x.0 s.0 k) (ap (λ (z : Bool × ℕ). z.1) q.2) (record { rec = x.1; is_node = is; in_slot = s.1; not_zero = eqb-false q.0 0 (not-true _ f.1) }))

      inner : (x : ℕ × InodeRec) → IsNode shape pages x.0 x.1 → EachTwo other_address (addresses_of x)
      inner x is =
          mapped_two other_address (λ a. (is_file_kind x.1.kind, a)) (filter is_used_address x.1.addresses)
          (kept_two (λ a b. a ≢ b) is_used_address x.1.addresses
          (at_two (λ a b. is_used_address a ≡ true → is_used_address b ≡ true → a ≢ b) x.1.addresses
          (λ i j a b p q h ua ub e. itself i j
          (one x.0 i x.0 j a (record { rec = x.1; is_node = is; in_slot = p; not_zero = eqb-false a 0 (not-true _ ua) })
          (record { rec = x.1; is_node = is; in_slot = subst (λ (k : ℕ). slice_get x.1.addresses j ≡ Some k) (sym e) q; not_zero = eqb-false a 0 (not-true _ ua) })).1 h)))

  plain : (AddressesListed shape pages) ↔ (AddressesRight shape pages)
  plain = (
    (λ r. record { good = λ n slot a at. r.good n at.rec a at.is_node (at_member at.rec.addresses slot a at.in_slot) at.not_zero; one_use = one_address r }),
    (λ p. record {
      good = λ n rec a is m far. let s = member_at rec.addresses a m in p.good n s.0 a (record { rec = rec; is_node = is; in_slot = s.1; not_zero = far });
      differ = each_address p.one_use;
    }),
  )

  pub addresses_listed : AddressesRight shape pages → AddressesListed shape pages
  addresses_listed r = plain.1 r

  pub addresses : (pages_fault shape pages ≡ None) ↔ AddressesRight shape pages
  addresses = ((λ e. plain.0 ((listed shape pages).0 e)), (λ r. (listed shape pages).1 (plain.1 r)))

-- ---- the places of a directory

filled_slot : (n : ℕ) (addresses : List ℕ) (k : ℕ) → are_filled n addresses ≡ true → k < n → (a : ℕ) × (slice_get addresses k ≡ Some a) × (slice_index addresses k ≡ a) × (a ≢ 0)
unfolding are_filled
filled_slot zero addresses k e h = absurd (none h)
  where
    none : k < 0 → ⊥
    none h = omega arith
filled_slot (suc n) [] k e h = absurd (true_false (sym e))
filled_slot (suc n) (a ∷ rest) zero e h = (a, refl, refl, eqb-false a 0 (not-true _ (and_parts _ _ e).0))
filled_slot (suc n) (a ∷ rest) (suc k) e h = filled_slot n rest k (and_parts _ _ e).1 (omega (arith, h))

pub filled_of : (rec : InodeRec) → is_inode rec ≡ true → rec.kind ≡ Dir → are_filled (div_ceil rec.size 64) rec.addresses ≡ true
unfolding is_inode_of_kind
filled_of rec e dir = (and_parts _ _ (sym (ap (λ (k : Kind). is_inode_of_kind k rec) dir) ∙ (and_parts _ _ e).1)).1

spelled_inode : (bytes : List ℕ) (rec : InodeRec) → inode_of bytes ≡ Some rec → is_inode rec ≡ true
unfolding inode_of
spelled_inode bytes rec e =
    elim (is_inode (inode_fields bytes) && bytes_eq (inode_bytes (inode_fields bytes)) bytes) as (λ b. (is_inode (inode_fields bytes) && bytes_eq (inode_bytes (inode_fields bytes)) bytes) ≡ b → cond b (Some (inode_fields bytes)) None ≡ Some rec → is_inode rec ≡ true) [
      | true ↦ λ b e. ap is_inode (sym (some_in (inode_fields bytes) rec e)) ∙ (and_parts _ _ b).0
      | false ↦ λ b e. absurd (none_some rec e)
    ] refl e

module _ (shape : Shape) (pages : VirtualMap) where
  pub inode_spelled : (n : ℕ) (rec : InodeRec) → IsNode shape pages n rec → is_inode rec ≡ true
  unfolding inode_at
  inode_spelled n rec is = spelled_inode (bytes_of_node pages n) rec is.spelled

  -- In a node of a good address list each place of a directory has its page.
  pub places_there : AddressesRight shape pages → PlacesThere shape pages
  places_there right n rec i is dir below =
      let f = filled_slot (div_ceil rec.size 64) rec.addresses (i / 64) (filled_of rec (inode_spelled n rec is) dir) (omega (arith, below)) in
      ap (λ (a : ℕ). is_some (pages a)) f.2 ∙ ap is_some (right.good n (i / 64) f.0 (record { rec = rec; is_node = is; in_slot = f.1; not_zero = f.3 })).committed
