-- Handling one callback after the other ends: the old names fall in number whose callback is unhandled.
use Rattle.std.proofs.Common.{◌≡◌, ◌≢◌, inl, inr, ⊎_elim, ℕ, ◌+◌, ◌<◌, ◌≤◌, ◌==◌, Bool, true, false, cond, not, ◌&&◌, ◌||◌, List, [], ◌∷◌, length, find, count_by, Option, Some, None, is_some, option_map, unwrap_or, refl, sym, ap, subst, ◌∙◌, arith, eq-eqb, ne_eqb}
use Rattle.std.specs.List.{list_any}
use Rattle.std.proofs.lemmas.Bool.{and_parts, cases_Bool, cases_eq, cond-false, eqb-true, true≢false}
use Rattle.std.proofs.lemmas.List.Sums.{count_by-le-length, sum_by-cons}
use Rattle.nl_field.specs.Live.{resolve}
use Rattle.nl_field.specs.declared.shape.Shape.{Shape}
use Rattle.nl_field.proofs.Bounds.{legal_parts}
use Rattle.nl_iface.specs.Device.{IsVolumeShape}
use Rattle.nl_iface.specs.Moves.{IsUnhandled}
use Rattle.nl_iface.specs.Names.{Has, IsNames, IsTableOfNames, Names, led}
use Rattle.nl_iface.specs.declared.Callback.{Callback}

-- the callback has this old name, and no transaction handled it
abbrev is_for : Names → ℕ → Callback → Bool
is_for names name c = c.before == name && not (is_some (names.handled c.number))

-- a callback of this old name is pending and unhandled
unfoldable pub is_open : Names → ℕ → Bool
is_open names name = list_any (is_for names name) names.pending

-- of how many old names in a table before the callback is pending and unhandled now
unfoldable pub left : Names → Names → ℕ
left start now = count_by (λ (pair : ℕ × ℕ). is_open now pair.0) start.pairs

-- ---- callbacks in a list

none_of : (o : Option ℕ) → not (is_some o) ≡ true → o ≡ None
none_of None is = refl
none_of (Some n) is = absurd (true≢false (sym is))

or_yes : (b : Bool) → b || true ≡ true
or_yes true = refl
or_yes false = refl

has_any : (test : Callback → Bool) (cs : List Callback) (c : Callback) → Has cs c → test c ≡ true → list_any test cs ≡ true
has_any test [] c has is = absurd has
has_any test (d ∷ cs) c (inl same) is = λ i. (ap test same ∙ is) i || list_any test cs
has_any test (d ∷ cs) c (inr has) is = ap (λ b. test d || b) (has_any test cs c has is) ∙ or_yes (test d)

any_has : (test : Callback → Bool) (cs : List Callback) → list_any test cs ≡ true → (c : Callback) × Has cs c × (test c ≡ true)
any_has test [] is = absurd (true≢false (sym is))
any_has test (d ∷ cs) is = ⊎_elim
    (λ here. (d, inl refl, here))
    (λ off. let r = any_has test cs (sym (λ i. off i || list_any test cs) ∙ is) in (r.0, inr r.1, r.2))
    (cases_Bool (test d))

has_open : (names : Names) (c : Callback) → Has names.pending c → names.handled c.number ≡ None → is_open names c.before ≡ true
unfolding is_open
has_open names c has none = has_any (is_for names c.before) names.pending c has (λ i. eq-eqb c.before c.before refl i && not (is_some (none i)))

open_has : (names : Names) (name : ℕ) → is_open names name ≡ true → (c : Callback) × Has names.pending c × (c.before ≡ name) × (names.handled c.number ≡ None)
unfolding is_open
open_has names name is =
    let r = any_has (is_for names name) names.pending is in
    let parts = and_parts (r.0.before == name) (not (is_some (names.handled r.0.number))) r.2 in
    (r.0, r.1, eqb-true r.0.before name parts.0, none_of (names.handled r.0.number) parts.1)

-- ---- names in the table

led_here : (x : ℕ × ℕ) (xs : List (ℕ × ℕ)) (n : ℕ) → x.0 ≢ n → resolve (x ∷ xs) n ≡ resolve xs n
led_here x xs n far = ap (λ (o : Option (ℕ × ℕ)). unwrap_or (option_map (λ (pair : ℕ × ℕ). pair.1) o) n) (cond-false (x.0 == n) (Some x) (find (λ pair. pair.0 == n) xs) (ne_eqb x.0 n far))

abbrev one : Bool → ℕ
one b = cond b 1 0

no_more : (a b : Bool) → (a ≡ true → b ≡ true) → one a ≤ one b
no_more true b to = let e : one b ≡ 1 = ap one (to refl) in omega (arith, e)
no_more false b to = omega arith

module _ (p q : ℕ → Bool) (to : (n : ℕ) → p n ≡ true → q n ≡ true) where
  abbrev count_of : (ℕ → Bool) → List (ℕ × ℕ) → ℕ
  count_of t pairs = count_by (λ (pair : ℕ × ℕ). t pair.0) pairs

  more : (t : ℕ → Bool) (x : ℕ × ℕ) (xs : List (ℕ × ℕ)) → count_of t (x ∷ xs) ≡ one (t x.0) + count_of t xs
  more t x xs = sum_by-cons (λ (pair : ℕ × ℕ). one (t pair.0)) x xs

  as_few : (pairs : List (ℕ × ℕ)) → count_of p pairs ≤ count_of q pairs
  as_few [] = omega arith
  as_few (x ∷ xs) =
      let here = no_more (p x.0) (q x.0) (to x.0) in
      let rest = as_few xs in
      let a = more p x xs in
      let b = more q x xs in
      omega (arith, here, rest, a, b)

  fewer : (pairs : List (ℕ × ℕ)) (n : ℕ) → resolve pairs n ≢ n → p n ≡ false → q n ≡ true → count_of p pairs < count_of q pairs
  fewer [] n old off is = absurd (old refl)
  fewer (x ∷ xs) n old off is = ⊎_elim
      (λ (same : x.0 ≡ n).
      let a = more p x xs in
      let b = more q x xs in
      let rest = as_few xs in
      let u : one (p x.0) ≡ 0 = ap one (ap p same ∙ off) in
      let w : one (q x.0) ≡ 1 = ap one (ap q same ∙ is) in
      omega (arith, a, b, rest, u, w))
      (λ (far : x.0 ≢ n).
      let a = more p x xs in
      let b = more q x xs in
      let here = no_more (p x.0) (q x.0) (to x.0) in
      let rest = fewer xs n (λ e. old (led_here x xs n far ∙ e)) off is in
      omega (arith, a, b, rest, here))
      (cases_eq x.0 n)

-- ---- one callback less

-- what is pending and unhandled then was so before
abbrev pub OpenBefore : Names → Names → Type 0
OpenBefore s t = (c : Callback) → Has t.pending c → t.handled c.number ≡ None → Has s.pending c × (s.handled c.number ≡ None)

pub open_then : (r s t : Names) → OpenBefore r s → OpenBefore s t → OpenBefore r t
open_then r s t a b c has none = let k = b c has none in a c k.0 k.1

module _ (r s : Names) (start : IsTableOfNames r) (before : OpenBefore r s) (number : ℕ) (was : IsUnhandled s number) where
  was_none : s.handled was.0.number ≡ None
  was_none = ap s.handled was.2 ∙ was.3

  was_open : is_open s was.0.before ≡ true
  was_open = has_open s was.0 was.1 was_none

  is_old : led r was.0.before ≢ was.0.before
  is_old = start.away was.0 (before was.0 was.1 was_none).0

  -- one is left while a callback is unhandled,
  pub left_some : 1 ≤ left r s
  unfolding left
  left_some =
      let some = fewer (λ n. false) (is_open s) (λ n off. absurd (true≢false (sym off))) r.pairs was.0.before is_old refl was_open in
      omega (arith, some)

  module _ (t : Names) (table : IsTableOfNames s) (then : OpenBefore s t) (is : IsUnhandled t number → ⊥) where
    open_was : (name : ℕ) → is_open t name ≡ true → is_open s name ≡ true
    open_was name sure =
        let k = open_has t name sure in
        let h = then k.0 k.1 k.3 in
        subst (λ n. is_open s n ≡ true) k.2 (has_open s k.0 h.0 h.1)

    not_open : is_open t was.0.before ≡ true → ⊥
    not_open sure =
        let k = open_has t was.0.before sure in
        let h = then k.0 k.1 k.3 in
        let same : k.0 ≡ was.0 = table.one_name k.0 was.0 h.0 was.1 k.2 in
        let numbered : k.0.number ≡ number = ap (λ (c : Callback). c.number) same ∙ was.2 in
        is (k.0, k.1, numbered, ap t.handled (sym numbered) ∙ k.3)

    -- one less is left once the callback of its number is handled
    pub left_falls : left r t < left r s
    unfolding left
    left_falls =
        fewer (is_open t) (is_open s) open_was r.pairs was.0.before is_old
        (⊎_elim (λ sure. absurd (not_open sure)) (λ off. off) (cases_Bool (is_open t was.0.before)))
        was_open

-- no more are left than there are pairs
pub left_few : (s t : Names) → left s t ≤ length s.pairs
unfolding left
left_few s t = count_by-le-length (λ (pair : ℕ × ℕ). is_open t pair.0) s.pairs

-- few are left, as the pairs of a table are few
pub left_most : (shape : Shape) (next : ℕ) (s t : Names) → IsVolumeShape shape → IsNames shape next s → left s t ≤ 1024
left_most shape next s t volume names =
    let few = left_few s t in
    let count = names.pairs in
    let most = names.space.pairs in
    let block = names.block in
    let pages = (legal_parts shape.blocks shape.pages volume.legal).most_pages in
    omega (arith, few, count, most, block, pages)
