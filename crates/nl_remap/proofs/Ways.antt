-- Where names lead, by the list of pairs.
use Rattle.std.proofs.Common.{◌≡◌, ℕ, suc, zero, ◌<◌, ◌≤◌, ◌⊎◌, ◌==◌, inl, inr, ⊎_elim, cond, if◌then◌else◌, not, eq-eqb, List, [], ◌∷◌, length, insert, remove, map, Some, unwrap_or, refl, sym, ◌∙◌, ap, subst, arith}
use Rattle.std.specs.Prelude.{find, option_map}
use Rattle.std.proofs.lemmas.Bool.{cases_eq, ne_eqb}
use Rattle.std.proofs.lemmas.List.{length-map}
use Rattle.nl_remap.specs.declared.links.Link.{Link}
use Rattle.nl_remap.specs.Links.{link_at, HasLink}
use Rattle.nl_remap.specs.Table.{IsOld, IsRemap, told, led, beside, led_on, pair, place_of}
use Rattle.nl_remap.proofs.LinksProofs.{same_link, HasLink-insert_kept, HasLink-insert_new, HasLink-remove_back, HasLink-remove_kept}
use Rattle.nl_remap.proofs.TableProofs.{place_counts, IsOld-insert_back, IsOld-remove_back}

led_head : (x : Link) (xs : List Link) (name : ℕ) → x.from ≡ name → led (x ∷ xs) name ≡ x.to
led_head x xs name is = ap (λ b. unwrap_or (option_map (λ (p : ℕ × ℕ). p.1) (cond b (Some (x.from, x.to)) (find (λ (p : ℕ × ℕ). p.0 == name) (told xs)))) name) (eq-eqb x.from name is)

led_tail : (x : Link) (xs : List Link) (name : ℕ) → (x.from ≡ name → ⊥) → led (x ∷ xs) name ≡ led xs name
led_tail x xs name ne = ap (λ b. unwrap_or (option_map (λ (p : ℕ × ℕ). p.1) (cond b (Some (x.from, x.to)) (find (λ (p : ℕ × ℕ). p.0 == name) (told xs)))) name) (ne_eqb x.from name ne)

-- the pair at a place leads its name to its target
led_at : (xs : List Link) (i : ℕ) → ((i j : ℕ) → i < j → j < length xs → (link_at xs i).from < (link_at xs j).from) → i < length xs → led xs (link_at xs i).from ≡ (link_at xs i).to
led_at [] i up within = absurd (omega arith)
led_at (x ∷ xs) zero up within = led_head x xs x.from refl
led_at (x ∷ xs) (suc i) up within =
    let less : x.from < (link_at xs i).from = up 0 (suc i) (omega arith) within in
    led_tail x xs (link_at xs i).from (λ e. omega arith) ∙ led_at xs i (λ j k below inside. up (suc j) (suc k) (omega arith) (omega arith)) (omega arith)

pub led_has : (xs : List Link) (name to : ℕ) → IsRemap xs → HasLink xs (pair name to) → led xs name ≡ to
led_has xs name to is has =
    ap (led xs) (sym (ap (λ (l : Link). l.from) has.2)) ∙ (led_at xs has.0 is.rising has.1 ∙ ap (λ (l : Link). l.to) has.2)

pub led_not : (xs : List Link) (name : ℕ) → (IsOld xs name → ⊥) → led xs name ≡ name
led_not [] name not_old = refl
led_not (x ∷ xs) name not_old =
    led_tail x xs name (λ e. not_old (0, omega arith, e)) ∙ led_not xs name (λ old. not_old (suc old.0, omega (arith, old.1), old.2))

old_or_not : (xs : List Link) (name : ℕ) → IsOld xs name ⊎ (IsOld xs name → ⊥)
old_or_not [] name = inr (λ old. omega (arith, old.1))
old_or_not (x ∷ xs) name = ⊎_elim
    (λ is. inl (0, omega arith, is))
    (λ ne. ⊎_elim
    (λ old. inl (suc old.0, omega (arith, old.1), old.2))
    (λ none. inr (λ old. here ne none old.0 old.1 old.2))
    (old_or_not xs name))
    (cases_eq x.from name)
  where
    here : (x.from ≡ name → ⊥) → (IsOld xs name → ⊥) → (i : ℕ) → i < length (x ∷ xs) → (link_at (x ∷ xs) i).from ≡ name → ⊥
    here ne none zero within is = ne is
    here ne none (suc i) within is = none (i, omega arith, is)

-- what is known of a search is the page to which the name leads
pub led_is : (xs : List Link) (name r : ℕ) → IsRemap xs → (IsOld xs name → HasLink xs (pair name r)) → ((IsOld xs name → ⊥) → r ≡ name) → r ≡ led xs name
led_is xs name r is moved own = ⊎_elim
    (λ old. sym (led_has xs name r is (moved old)))
    (λ none. own none ∙ sym (led_not xs name none))
    (old_or_not xs name)

old_link : (xs : List Link) (name : ℕ) → (old : IsOld xs name) → HasLink xs (pair name (link_at xs old.0).to)
old_link xs name old = (old.0, old.1, same_link (link_at xs old.0) (pair name (link_at xs old.0).to) old.2 refl)

-- a pair stands at the place of its old name
pub place_is : (xs : List Link) (i : ℕ) → IsRemap xs → i < length xs → place_of xs (link_at xs i).from ≡ i
place_is xs i is within = place_counts xs (link_at xs i).from i is (record {
  bound = omega arith;
  below = λ j less. let up = is.rising j i less within in let fits = is.fits j (omega arith) in omega arith;
  above = λ j from inside. ⊎_elim
      (λ same. let e : (link_at xs i).from ≡ (link_at xs j).from = ap (λ k. (link_at xs k).from) same in omega arith)
      (λ ne. let up = is.rising i j (omega arith) inside in omega arith)
      (cases_eq i j);
})

mapped_at : (xs : List Link) (old new i : ℕ) → i < length xs → link_at (map (led_on old new) xs) i ≡ led_on old new (link_at xs i)
mapped_at [] old new i within = absurd (omega arith)
mapped_at (x ∷ xs) old new zero within = refl
mapped_at (x ∷ xs) old new (suc i) within = mapped_at xs old new i (omega arith)

-- after a pair is put in, each name that led to the old page leads to the new one
pub ways_add : (xs : List Link) (old new at : ℕ) → IsRemap xs → (IsOld xs old → ⊥) → at ≤ length (map (led_on old new) xs)
    → (let ys = insert (map (led_on old new) xs) at (pair old new) in IsRemap ys → (name : ℕ) → led ys name ≡ (if led xs name == old then new else led xs name))
ways_add xs old new at is fresh bound after name = ⊎_elim
    (λ here. subst (λ n. led ys n ≡ (if led xs n == old then new else led xs n)) (sym here)
    (led_has ys old new after (HasLink-insert_new (map (led_on old new) xs) at (pair old new) bound)
    ∙ sym (ap (λ n. if n == old then new else n) (led_not xs old fresh) ∙ ap (λ b. if b then new else old) (eq-eqb old old refl))))
    (λ ne. ⊎_elim (λ was. moved was) (λ none. own ne none) (old_or_not xs name))
    (cases_eq name old)
  where
    ys : List Link
    ys = insert (map (led_on old new) xs) at (pair old new)

    moved : IsOld xs name → led ys name ≡ (if led xs name == old then new else led xs name)
    moved was =
        let to : ℕ = (link_at xs was.0).to in
        let mapped : HasLink (map (led_on old new) xs) (pair name (if to == old then new else to)) =
        (was.0, omega (arith, length-map xs (led_on old new), was.1), mapped_at xs old new was.0 was.1 ∙ same_link (led_on old new (link_at xs was.0)) (pair name (if to == old then new else to)) was.2 refl) in
        led_has ys name (if to == old then new else to) after (HasLink-insert_kept (map (led_on old new) xs) at (pair old new) (pair name (if to == old then new else to)) bound mapped)
        ∙ ap (λ n. if n == old then new else n) (sym (led_has xs name to is (old_link xs name was)))

    own : (name ≡ old → ⊥) → (IsOld xs name → ⊥) → led ys name ≡ (if led xs name == old then new else led xs name)
    own ne none =
        led_not ys name (λ o. ⊎_elim
        (λ mapped. none (mapped.0, omega (arith, length-map xs (led_on old new), mapped.1), sym (ap (λ (l : Link). l.from) (mapped_at xs old new mapped.0 (omega (arith, length-map xs (led_on old new), mapped.1)))) ∙ mapped.2))
        (λ put. ne put)
        (IsOld-insert_back (map (led_on old new) xs) at (pair old new) name bound o))
        ∙ sym (ap (λ n. if n == old then new else n) (led_not xs name none) ∙ ap (λ b. if b then new else name) (ne_eqb name old ne))

-- after a pair is taken away, its name leads to itself
pub ways_drop : (xs : List Link) (name : ℕ) → IsRemap xs → IsOld xs name
    → (let ys = remove xs (place_of xs name) in IsRemap ys → (other : ℕ) → led ys other ≡ (if other == name then name else led xs other))
ways_drop xs name is old after other = ⊎_elim
    (λ here. led_not ys other (λ o. gone (subst (IsOld ys) here o)) ∙ (here ∙ sym (ap (λ b. if b then name else led xs other) (eq-eqb other name here))))
    (λ ne. ⊎_elim
    (λ was.
    let to : ℕ = (link_at xs was.0).to in
    led_has ys other to after (HasLink-remove_kept xs at was.0 (pair other to) within was.1 (λ same. ne (sym was.2 ∙ (ap (λ k. (link_at xs k).from) same ∙ named))) (same_link (link_at xs was.0) (pair other to) was.2 refl))
    ∙ sym (ap (λ b. if b then name else led xs other) (ne_eqb other name ne) ∙ led_has xs other to is (old_link xs other was)))
    (λ none. led_not ys other (λ o. none (IsOld-remove_back xs at other within o)) ∙ sym (ap (λ b. if b then name else led xs other) (ne_eqb other name ne) ∙ led_not xs other none))
    (old_or_not xs other))
    (cases_eq other name)
  where
    at : ℕ
    at = place_of xs name

    ys : List Link
    ys = remove xs at

    is_at : at ≡ old.0
    is_at = ap (place_of xs) (sym old.2) ∙ place_is xs old.0 is old.1

    within : at < length xs
    within = subst (λ n. n < length xs) (sym is_at) old.1

    named : (link_at xs at).from ≡ name
    named = ap (λ n. (link_at xs n).from) is_at ∙ old.2

    gone : IsOld ys name → ⊥
    gone o =
        let was = HasLink-remove_back xs at (link_at ys o.0) within (o.0, o.1, refl) in
        was.2 (same_index was.0 was.1 (ap (λ (l : Link). l.from) was.3 ∙ o.2))
      where
        same_index : (i : ℕ) → i < length xs → (link_at xs i).from ≡ name → i ≡ at
        same_index i inside e = sym (ap (place_of xs) (sym e) ∙ place_is xs i is inside)

-- the pairs beside a target stay where one of its pairs is taken away
beside_remove : (xs : List Link) (at target : ℕ) → at < length xs → (link_at xs at).to ≡ target → beside (remove xs at) target ≡ beside xs target
beside_remove [] at target within to = absurd (omega arith)
beside_remove (x ∷ xs) zero target within to = sym (ap (λ b. cond (not b) (x ∷ beside xs target) (beside xs target)) (eq-eqb x.to target to))
beside_remove (x ∷ xs) (suc at) target within to = ap (λ l. cond (not (x.to == target)) (x ∷ l) l) (beside_remove xs at target (omega arith) to)

pub beside_drop : (xs : List Link) (name : ℕ) → IsRemap xs → IsOld xs name → beside (remove xs (place_of xs name)) (led xs name) ≡ beside xs (led xs name)
beside_drop xs name is old =
    let at : place_of xs name ≡ old.0 = ap (place_of xs) (sym old.2) ∙ place_is xs old.0 is old.1 in
    beside_remove xs (place_of xs name) (led xs name) (subst (λ n. n < length xs) (sym at) old.1)
    (ap (λ n. (link_at xs n).to) at ∙ sym (led_has xs name (link_at xs old.0).to is (old_link xs name old)))

-- where no pair has the target, all are beside it
pub beside_all : (xs : List Link) (target : ℕ) → ((name : ℕ) → HasLink xs (pair name target) → ⊥) → beside xs target ≡ xs
beside_all [] target none = refl
beside_all (x ∷ xs) target none =
    ap (λ b. cond (not b) (x ∷ beside xs target) (beside xs target)) (ne_eqb x.to target (λ e. none x.from (0, omega arith, same_link x (pair x.from target) refl e)))
    ∙ ap (λ l. x ∷ l) (beside_all xs target (λ name has. none name (suc has.0, omega (arith, has.1), has.2)))
