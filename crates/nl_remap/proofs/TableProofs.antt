-- Facts about the table of pairs, kept by old name and turned round by target.
use Rattle.std.proofs.Common.{◌≡◌, ℕ, suc, ◌+◌, ◌-◌, ◌*◌, ◌^◌, ◌<◌, ◌≤◌, ◌⊎◌, inl, inr, ⊎_elim, Bool, true, false, cond, eqb, eq-eqb, nat_lt, List, [], ◌∷◌, length, get_or, set, insert, remove, map, refl, sym, ◌∙◌, ap, subst, arith, ◌==◌}
use Rattle.std.specs.List.{count_by}
use Rattle.std.proofs.Math.Seq.{map-set_same}
use Rattle.std.proofs.lemmas.Bool.{cases_lt, cases_order, cases_eq, lt-ltb, le-ltb, ne_eqb}
use Rattle.std.proofs.lemmas.List.{length-set}
use Rattle.std.proofs.lemmas.List.Sums.{sum_by-set}
use Rattle.std.proofs.lemmas.List.Edits.{length-insert, length-remove, get_or-remove_below, get_or-remove_above}
use Rattle.nl_remap.specs.declared.links.Link.{Link}
use Rattle.nl_remap.specs.Links.{no_link, link_at, HasLink, rank, IsRising, IsLinkInsertionPoint}
use Rattle.nl_remap.specs.Table.{RemapTable, IsOld, IsRemap, IsPaired, IsInverseOf, turned, pair, place_of, led_on}
use Rattle.nl_remap.proofs.LinksProofs.{at_is, same_link, place_has, HasLink-insert_kept, HasLink-insert_new, HasLink-insert_back, HasLink-remove_back, HasLink-remove_kept, Rises-remove, Rises-insert, EachLink-remove, EachLink-insert, IsRising-remove, IsRising-insert, once, insert-remove, count_place}

pub rising_table : (xs : List Link) → IsRemap xs → IsRising xs
rising_table xs is = record {
  order = λ i j less within. let up = is.rising i j less within in let fits = is.fits i (omega arith) in omega arith;
  fits = is.fits;
}

-- what stands before the place of a name has a lesser old name, and what stands from there on does not
pub names_below : (xs : List Link) (name at : ℕ) → IsRemap xs → IsLinkInsertionPoint xs (name * 2 ^ 32 + 0) at → (i : ℕ) → i < at → (link_at xs i).from < name
names_below xs name at is place i less = let low = place.below i less in omega arith

pub names_above : (xs : List Link) (name at : ℕ) → IsRemap xs → IsLinkInsertionPoint xs (name * 2 ^ 32 + 0) at → (i : ℕ) → at ≤ i → i < length xs → name ≤ (link_at xs i).from
names_above xs name at is place i from within = let high = place.above i from within in let fits = is.fits i within in omega arith

-- an old name stands at its place
pub old_place : (xs : List Link) (name at : ℕ) → IsRemap xs → IsLinkInsertionPoint xs (name * 2 ^ 32 + 0) at → IsOld xs name → (at < length xs) × ((link_at xs at).from ≡ name)
old_place xs name at is place old =
    let i : ℕ = old.0 in
    let within : i < length xs = old.1 in
    let named : (link_at xs i).from ≡ name = old.2 in
    ⊎_elim
    (λ same. (rw (← same) within, rw (← same) named))
    (λ apart. absurd (⊎_elim
    (λ less. let low = names_below xs name at is place i less in omega arith)
    (λ more. let up = is.rising at i more within in let high = names_above xs name at is place at (omega arith) (omega arith) in omega arith) apart))
    (cases_order i at)

-- the place of a name is the number of lesser old names
pub place_counts : (xs : List Link) (name at : ℕ) → IsRemap xs → IsLinkInsertionPoint xs (name * 2 ^ 32 + 0) at → place_of xs name ≡ at
place_counts xs name at is place = count_place (λ p. nat_lt p.from name) xs at place.bound
    (λ i less. lt-ltb _ _ (names_below xs name at is place i less))
    (λ i from within. le-ltb _ _ (names_above xs name at is place i from within))

pub Turns-insert : (xs ys : List Link) (i j : ℕ) (x : Link) → i ≤ length xs → j ≤ length ys → IsInverseOf xs ys → IsInverseOf (insert xs i x) (insert ys j (turned x))
Turns-insert xs ys i j x p q turns y has = ⊎_elim
    (λ old. HasLink-insert_kept ys j (turned x) (turned y) q (turns y old))
    (λ new. subst (λ (z : Link). HasLink (insert ys j (turned x)) (turned z)) (sym new) (HasLink-insert_new ys j (turned x) q))
    (HasLink-insert_back xs i x y p has)

pub Turns-remove : (f : Link → ℕ) (xs ys : List Link) (i j : ℕ) → ((a b : ℕ) → a < b → b < length xs → f (link_at xs a) < f (link_at xs b)) → i < length xs → j < length ys → link_at ys j ≡ turned (link_at xs i) → IsInverseOf xs ys → IsInverseOf (remove xs i) (remove ys j)
Turns-remove f xs ys i j up p q at turns y has =
    let was = HasLink-remove_back xs i y p has in
    let there = turns y (was.0, was.1, was.3) in
    let stays : there.0 ≡ j → ⊥ = λ same.
    let e : turned y ≡ turned (link_at xs i) = sym there.2 ∙ (ap (λ k. link_at ys k) same ∙ at) in
    was.2 (once f xs up was.0 i was.1 p (was.3 ∙ ap turned e)) in
    HasLink-remove_kept ys j there.0 (turned y) q there.1 stays there.2

-- a pair taken away
pub IsRemap-remove : (xs : List Link) (at : ℕ) → at < length xs → IsRemap xs → IsRemap (remove xs at)
IsRemap-remove xs at bound is = record {
  rising = Rises-remove (λ x. x.from) xs at bound is.rising;
  fits = EachLink-remove (λ x. x.to < 2 ^ 32) xs at bound is.fits;
  one_step = λ x has old.
      let was = HasLink-remove_back xs at x bound has in
      let name = HasLink-remove_back xs at (link_at (remove xs at) old.0) bound (old.0, old.1, refl) in
      is.one_step x (was.0, was.1, was.3) (name.0, name.1, ap (λ (l : Link). l.from) name.3 ∙ old.2);
}

pub IsOld-insert_back : (xs : List Link) (at : ℕ) (x : Link) (name : ℕ) → at ≤ length xs → IsOld (insert xs at x) name → IsOld xs name ⊎ (name ≡ x.from)
IsOld-insert_back xs at x name bound old = ⊎_elim
    (λ kept. inl (kept.0, kept.1, ap (λ (l : Link). l.from) kept.2 ∙ old.2))
    (λ put. inr (sym old.2 ∙ ap (λ (l : Link). l.from) put))
    (HasLink-insert_back xs at x (link_at (insert xs at x) old.0) bound (old.0, old.1, refl))

pub IsOld-remove_back : (xs : List Link) (at name : ℕ) → at < length xs → IsOld (remove xs at) name → IsOld xs name
IsOld-remove_back xs at name bound old =
    let was = HasLink-remove_back xs at (link_at (remove xs at) old.0) bound (old.0, old.1, refl) in
    (was.0, was.1, ap (λ (l : Link). l.from) was.3 ∙ old.2)

-- a pair put in
pub IsRemap-insert : (xs : List Link) (at : ℕ) (x : Link) → IsRemap xs → IsLinkInsertionPoint xs (x.from * 2 ^ 32 + 0) at → x.to < 2 ^ 32
    → (IsOld xs x.from → ⊥) → (IsOld xs x.to → ⊥) → (x.from ≡ x.to → ⊥) → ((y : Link) → HasLink xs y → y.to ≡ x.from → ⊥) → IsRemap (insert xs at x)
IsRemap-insert xs at x is place fits fresh free other led = record {
  rising = Rises-insert (λ l. l.from) xs at x place.bound is.rising (names_below xs x.from at is place)
      (λ i from within. let high = names_above xs x.from at is place i from within in
      ⊎_elim (λ less. less) (λ more. absurd (fresh (i, within, omega arith))) (cases_lt x.from (link_at xs i).from));
  fits = EachLink-insert (λ l. l.to < 2 ^ 32) xs at x place.bound is.fits fits;
  one_step = λ y has old. ⊎_elim
      (λ kept. ⊎_elim (λ name. is.one_step y kept name) (λ name. led y kept name) (IsOld-insert_back xs at x y.to place.bound old))
      (λ put. ⊎_elim
      (λ name. free (subst (λ (l : Link). IsOld xs l.to) put name))
      (λ name. other (sym name ∙ ap (λ (l : Link). l.to) put))
      (IsOld-insert_back xs at x y.to place.bound old))
      (HasLink-insert_back xs at x y place.bound has);
}

-- a pair taken out of both lists
pub paired_take : (xs ys : List Link) (at was : ℕ) → IsPaired xs ys → at < length xs → was < length ys → link_at ys was ≡ turned (link_at xs at) → IsPaired (remove xs at) (remove ys was)
paired_take xs ys at was is p q e = record {
  table = IsRemap-remove xs at p is.table;
  rising = IsRising-remove ys was q is.rising;
  there = Turns-remove (λ x. x.from) xs ys at was is.table.rising p q e is.there;
  back = Turns-remove rank ys xs was at is.rising.order q p (ap turned (sym e)) is.back;
  size = omega (arith, is.size, length-remove xs at p, length-remove ys was q);
}

-- a pair put into both lists
pub paired_put : (xs ys : List Link) (at now : ℕ) (x : Link) → IsPaired xs ys → IsLinkInsertionPoint xs (x.from * 2 ^ 32 + 0) at → IsLinkInsertionPoint ys (rank (turned x)) now
    → x.from < 2 ^ 32 → x.to < 2 ^ 32 → (IsOld xs x.from → ⊥) → (IsOld xs x.to → ⊥) → (x.from ≡ x.to → ⊥) → ((y : Link) → HasLink xs y → y.to ≡ x.from → ⊥)
    → IsPaired (insert xs at x) (insert ys now (turned x))
paired_put xs ys at now x is place there f g fresh free other led = record {
  table = IsRemap-insert xs at x is.table place g fresh free other led;
  rising = IsRising-insert ys now (turned x) is.rising f there (λ has. let was = is.back (turned x) has in fresh (was.0, was.1, ap (λ (l : Link). l.from) was.2));
  there = Turns-insert xs ys at now x place.bound there.bound is.there;
  back = Turns-insert ys xs now at (turned x) there.bound place.bound is.back;
  size = omega (arith, is.size, length-insert xs at x place.bound, length-insert ys now (turned x) there.bound);
}

-- a place stands where a link was taken away, for a link of the same first number
pub name_place : (xs : List Link) (at : ℕ) → at < length xs → IsRemap xs → IsLinkInsertionPoint (remove xs at) ((link_at xs at).from * 2 ^ 32 + 0) at
name_place xs at bound is =
    let size = length-remove xs at bound in
    record {
      bound = omega arith;
      below = λ i less.
          let e = get_or-remove_below xs at no_link i less bound in
          let up = is.rising i at less bound in
          let fits = is.fits i (omega arith) in
          subst (λ (l : Link). rank l < (link_at xs at).from * 2 ^ 32 + 0) (sym e) (omega arith);
      above = λ i from within.
          let e = get_or-remove_above xs at no_link i from bound in
          let up = is.rising at (i + 1) (omega arith) (omega arith) in
          subst (λ (l : Link). (link_at xs at).from * 2 ^ 32 + 0 ≤ rank l) (sym e) (omega arith);
    }

-- a pair led on in both lists
pub paired_lead : (xs ys : List Link) (at was now new : ℕ) → IsPaired xs ys → at < length xs → was < length ys → link_at ys was ≡ turned (link_at xs at)
    → IsLinkInsertionPoint (remove ys was) (rank (turned (pair (link_at xs at).from new))) now
    → (link_at xs at).from < 2 ^ 32 → new < 2 ^ 32 → (IsOld xs new → ⊥) → ((link_at xs at).to ≡ new → ⊥)
    → IsPaired (set xs at (pair (link_at xs at).from new)) (insert (remove ys was) now (turned (pair (link_at xs at).from new)))
paired_lead xs ys at was now new is p q e place f g free other =
    let name : ℕ = (link_at xs at).from in
    let left = paired_take xs ys at was is p q e in
    let gone : IsOld (remove xs at) name → ⊥ = λ old.
    let there = HasLink-remove_back xs at (link_at (remove xs at) old.0) p (old.0, old.1, refl) in
    let same : (link_at xs there.0).from ≡ name = ap (λ (l : Link). l.from) there.3 ∙ old.2 in
    ⊎_elim (λ equal. there.2 equal)
    (λ apart. ⊎_elim
    (λ less. let up = is.table.rising there.0 at less p in omega arith)
    (λ more. let up = is.table.rising at there.0 more there.1 in omega arith) apart)
    (cases_order there.0 at) in
    let led : (y : Link) → HasLink (remove xs at) y → y.to ≡ name → ⊥ = λ y has to.
    let there = HasLink-remove_back xs at y p has in
    is.table.one_step y (there.0, there.1, there.3) (at, p, sym to) in
    let put = paired_put (remove xs at) (remove ys was) at now (pair name new) left (name_place xs at p is.table) place f g gone
    (λ old. free (IsOld-remove_back xs at new p old)) (λ equal. free (at, p, equal)) led in
    rw (← insert-remove xs at (pair name new) p) put

-- a pair stands turned round at its place in the list by target
pub was_is : (xs ys : List Link) (at was : ℕ) (x : Link) → IsPaired xs ys → at < length xs → x ≡ get_or xs at x → IsLinkInsertionPoint ys (x.to * 2 ^ 32 + x.from) was → (was < length ys) × (link_at ys was ≡ turned (link_at xs at))
was_is xs ys at was x is p e place =
    let here : link_at xs at ≡ x = at_is xs at x p e in
    let found = place_has ys (turned x) was is.rising place (is.there x (at, p, here)) in
    (found.0, found.1 ∙ ap turned (sym here))

-- what `take_pair` leaves
pub taken_paired : (xs ys vs ws : List Link) (at was : ℕ) (x : Link) → IsPaired xs ys → at < length xs → x ≡ get_or xs at x → IsLinkInsertionPoint ys (x.to * 2 ^ 32 + x.from) was
    → vs ≡ remove xs at → ws ≡ remove ys was → IsPaired vs ws
taken_paired xs ys vs ws at was x is p e place v w =
    let found = was_is xs ys at was x is p e place in
    rw (v, w) (paired_take xs ys at was is p found.0 found.1)

-- what `lead_pair` leaves
pub led_paired : (xs ys zs ws : List Link) (at was now new : ℕ) (x : Link) → IsPaired xs ys → at < length xs → x ≡ get_or xs at x → IsLinkInsertionPoint ys (x.to * 2 ^ 32 + x.from) was
    → zs ≡ remove ys was → IsLinkInsertionPoint zs (new * 2 ^ 32 + x.from) now → ws ≡ insert zs now (pair new x.from) → new < 2 ^ 32 → (IsOld xs new → ⊥) → ((link_at xs at).to ≡ new → ⊥)
    → IsPaired (set xs at (pair x.from new)) ws
led_paired xs ys zs ws at was now new x is p e place z there w g free other =
    let here : link_at xs at ≡ x = at_is xs at x p e in
    let name : (link_at xs at).from ≡ x.from = ap (λ (l : Link). l.from) here in
    let found = was_is xs ys at was x is p e place in
    let has = is.there (link_at xs at) (at, p, refl) in
    let small : (link_at xs at).from < 2 ^ 32 = subst (λ (l : Link). l.to < 2 ^ 32) has.2 (is.rising.fits has.0 has.1) in
    let there' : IsLinkInsertionPoint (remove ys was) (rank (turned (pair (link_at xs at).from new))) now = rw name (rw z at there) in
    let led = paired_lead xs ys at was now new is p found.0 found.1 there' small g free other in
    rw (w, z, ← name) led

-- what `put_pair` leaves
pub added_paired : (xs ys vs ws : List Link) (at now old new : ℕ) → IsPaired xs ys → IsLinkInsertionPoint ys (new * 2 ^ 32 + old) now → ws ≡ insert ys now (pair new old)
    → IsLinkInsertionPoint xs (old * 2 ^ 32 + 0) at → vs ≡ insert xs at (pair old new) → old < 2 ^ 32 → new < 2 ^ 32 → (IsOld xs old → ⊥) → (IsOld xs new → ⊥) → (old ≡ new → ⊥)
    → ((name : ℕ) → HasLink xs (pair name old) → ⊥) → IsPaired vs ws
added_paired xs ys vs ws at now old new is there w place v f g fresh free other led =
    rw (v, w) (paired_put xs ys at now (pair old new) is place there f g fresh free other
    (λ y has to. led y.from (has.0, has.1, has.2 ∙ same_link y (pair y.from old) refl to)))

-- each pair whose target was `old` leads on
same_choice : (b : Bool) (n : ℕ) → cond b n n ≡ n
same_choice true n = refl
same_choice false n = refl

pub led_set : (xs : List Link) (at name old new : ℕ) → at < length xs → link_at xs at ≡ pair name old → map (led_on old new) (set xs at (pair name new)) ≡ map (led_on old new) xs
led_set xs at name old new bound is =
    let left : led_on old new (pair name new) ≡ pair name new = ap (λ n. pair name n) (same_choice (eqb new old) new) in
    let right : led_on old new (pair name old) ≡ pair name new = ap (λ b. pair name (cond b new old)) (eq-eqb old old refl) in
    map-set_same (led_on old new) xs at (pair name new) no_link (left ∙ (sym right ∙ ap (led_on old new) (sym is)))

map_same : (f : Link → Link) (xs : List Link) → ((i : ℕ) → i < length xs → f (link_at xs i) ≡ link_at xs i) → map f xs ≡ xs
map_same f [] each = refl
map_same f (x ∷ xs) each = ap (λ l. l ∷ map f xs) (each 0 (omega arith)) ∙ ap (λ l. x ∷ l) (map_same f xs (λ i within. each (suc i) (omega arith)))

pub led_none : (xs : List Link) (old new : ℕ) → ((name : ℕ) → HasLink xs (pair name old) → ⊥) → map (led_on old new) xs ≡ xs
led_none xs old new none = map_same (led_on old new) xs (λ i within.
    let differ : eqb (link_at xs i).to old ≡ false = ⊎_elim
    (λ same. absurd (none (link_at xs i).from (i, within, same_link (link_at xs i) (pair (link_at xs i).from old) refl same)))
    (λ apart. ne_eqb (link_at xs i).to old apart) (cases_eq (link_at xs i).to old) in
    ap (λ b. pair (link_at xs i).from (cond b new (link_at xs i).to)) differ)

pub led_less : (xs : List Link) (at name old new : ℕ) → at < length xs → link_at xs at ≡ pair name old → (old ≡ new → ⊥) → count_by (λ p. p.to == old) (set xs at (pair name new)) < count_by (λ p. p.to == old) xs
led_less xs at name old new bound is other =
    let change : count_by (λ p. p.to == old) (set xs at (pair name new)) + cond (eqb (link_at xs at).to old) 1 0 ≡ count_by (λ p. p.to == old) xs + cond (eqb new old) 1 0
    = sum_by-set (λ p. cond (eqb p.to old) 1 0) xs at (pair name new) no_link bound in
    let left : eqb (link_at xs at).to old ≡ true = rw is (eq-eqb old old refl) in
    let right : eqb new old ≡ false = ne_eqb new old (λ same. other (sym same)) in
    let counted = rw (left, right) at change in
    omega arith

pub IsOld-set_back : (xs : List Link) (at name old new other : ℕ) → at < length xs → link_at xs at ≡ pair name old → IsOld (set xs at (pair name new)) other → IsOld xs other
IsOld-set_back xs at name old new other bound is has =
    let size = length-remove xs at bound in
    let has' : IsOld (insert (remove xs at) at (pair name new)) other = rw (insert-remove xs at (pair name new) bound) has in
    ⊎_elim
    (λ kept. IsOld-remove_back xs at other bound kept)
    (λ put. (at, bound, ap (λ (l : Link). l.from) is ∙ sym put))
    (IsOld-insert_back (remove xs at) at (pair name new) other (omega arith) has')

-- a target of a pair stands, turned round, at the place of the target
pub target_place : (xs ys : List Link) (at target name : ℕ) → IsPaired xs ys → IsLinkInsertionPoint ys (target * 2 ^ 32 + 0) at → HasLink xs (pair name target)
    → (at < length ys) × ((link_at ys at).from ≡ target) × ((link_at ys at).to ≤ name)
target_place xs ys at target name is place has =
    let there = is.there (pair name target) has in
    let j : ℕ = there.0 in
    let within : j < length ys = there.1 in
    let same = ap rank there.2 in
    let small = is.rising.fits j within in
    let named = ap (λ (l : Link). l.to) there.2 in
    ⊎_elim
    (λ less. absurd (let low = place.below j less in omega arith))
    (λ (from : at ≤ j).
    let bound : at < length ys = omega arith in
    let high = place.above at (omega arith) bound in
    let fits = is.rising.fits at bound in
    let up : rank (link_at ys at) ≤ rank (link_at ys j) = ⊎_elim
    (λ equal. rw (← equal) (omega arith))
    (λ apart. ⊎_elim (λ before. absurd (omega arith)) (λ after. let step = is.rising.order at j after within in omega arith) apart)
    (cases_order j at) in
    (bound, omega arith, omega arith))
    (cases_lt j at)

pub target_has : (xs ys : List Link) (at target : ℕ) (x : Link) → IsPaired xs ys → at < length ys → x ≡ get_or ys at x → x.from ≡ target → HasLink xs (pair x.to target)
target_has xs ys at target x is bound e named = subst (λ n. HasLink xs (pair x.to n)) named (is.back x (at, bound, at_is ys at x bound e))

-- the place of a pair in the list by old name
pub pair_place : (xs : List Link) (at name target : ℕ) → IsRemap xs → IsLinkInsertionPoint xs (name * 2 ^ 32 + 0) at → HasLink xs (pair name target) → (at < length xs) × (link_at xs at ≡ pair name target)
pair_place xs at name target is place has =
    let i : ℕ = has.0 in
    let named : (link_at xs i).from ≡ name = ap (λ (l : Link). l.from) has.2 in
    let found = old_place xs name at is place (i, has.1, named) in
    ⊎_elim
    (λ same. (found.0, rw (← same) has.2))
    (λ apart. absurd (⊎_elim
    (λ less. let up = is.rising i at less found.0 in omega (arith, found.1))
    (λ more. let up = is.rising at i more has.1 in omega (arith, found.1)) apart))
    (cases_order i at)

-- what a loop keeps that leads on the pairs with the target `old`, one after another
pub record Leading (first pairs : List Link) (first_room room old new : ℕ) : Type 0 where
  pub led : map (led_on old new) pairs ≡ map (led_on old new) first
  pub same_room : room ≡ first_room
  pub fresh : IsOld pairs old → ⊥
  pub free : IsOld pairs new → ⊥

-- a table seen with one pair fewer
pub dropped_view : (xs vs : List Link) (room at name : ℕ) → vs ≡ remove xs at → place_of xs name ≡ at → at < length xs → length xs ≤ room
    → let seen : RemapTable = record { pairs = vs; room = room - length vs } in seen ≡ record { pairs = remove xs (place_of xs name); room = (room - length xs) + 1 }
dropped_view xs vs room at name v place bound few =
    let size = length-remove xs at bound in
    let left : room - length (remove xs at) ≡ (room - length xs) + 1 = omega arith in
    rw (v, place) (ap (λ (n : ℕ). let seen : RemapTable = record { pairs = remove xs at; room = n } in seen) left)

-- a table seen with one pair led on
pub led_view : (xs vs : List Link) (room at name old new : ℕ) → vs ≡ set xs at (pair (link_at xs at).from new) → link_at xs at ≡ pair name old → place_of xs name ≡ at
    → let seen : RemapTable = record { pairs = vs; room = room - length vs } in seen ≡ record { pairs = set xs (place_of xs name) (pair name new); room = room - length xs }
led_view xs vs room at name old new v is place =
    let named : (link_at xs at).from ≡ name = ap (λ (l : Link). l.from) is in
    let left : room - length (set xs at (pair name new)) ≡ room - length xs = ap (λ (n : ℕ). room - n) (length-set xs at (pair name new)) in
    rw (v, named, place) (ap (λ (n : ℕ). let seen : RemapTable = record { pairs = set xs at (pair name new); room = n } in seen) left)

pub leading_more : (first pairs : List Link) (first_room room old new at name : ℕ) → Leading first pairs first_room room old new → at < length pairs → link_at pairs at ≡ pair name old
    → Leading first (set pairs at (pair name new)) first_room room old new
leading_more first pairs first_room room old new at name is bound here = record {
  led = led_set pairs at name old new bound here ∙ is.led;
  same_room = is.same_room;
  fresh = λ has. is.fresh (IsOld-set_back pairs at name old new old bound here has);
  free = λ has. is.free (IsOld-set_back pairs at name old new new bound here has);
}

-- no pair leads to its own name
pub leads_away : (xs : List Link) (at : ℕ) (x : Link) (name : ℕ) → IsRemap xs → at < length xs → x ≡ get_or xs at x → x.from ≡ name → x.to ≡ name → ⊥
leads_away xs at x name is bound e from to =
    let here = at_is xs at x bound e in
    is.one_step x (at, bound, here) (at, bound, ap (λ (l : Link). l.from) here ∙ (from ∙ sym to))
