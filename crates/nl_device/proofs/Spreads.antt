-- The least block that holds no group of pages alone is the spare block.
use Rattle.std.proofs.Common.{◌≡◌, ◌⊎◌, inl, inr, ⊎_elim, ℕ, zero, suc, ◌+◌, ◌/◌, ◌<◌, ◌==◌, ◌∙◌, Bool, true, false, not, ◌&&◌, ◌||◌, cond, List, [], ◌∷◌, length, Option, Some, refl, sym, ap, subst, arith}
use Rattle.std.specs.Prelude.{fold}
use Rattle.std.specs.List.{list_all, list_any}
use Rattle.std.proofs.lemmas.Bool.{and_parts, and_from, cases_Bool, cases_eq, cond-true, cond-false, eq-eqb, eqb-true, eqb-false, false≢true, not-true, not_from_true, not_from_false, or_cases, or_left, or_right}
use Rattle.nl_field.specs.Medium.{Readable}
use Rattle.nl_field.specs.Space.{spare_block}
use Rattle.nl_vseg.proofs.Members.{In, any_from, any_to}
use Rattle.nl_device.specs.Spread.{by_key, is_alone_in, spare_of, spread_more}
use Rattle.nl_device.proofs.Groups.{AreGrouped, FindsSpare, GroupLiesIn, IsOneOf, IsSpread, spread_at}
use Rattle.nl_device.specs.declared.opening.spare.Spread.{Spread}
use Rattle.nl_device.specs.declared.opening.spare.Spread.TheVariants.{Nowhere, In as InBlock, Several}
use Rattle.nl_device.proofs.Ranges.{find_same_range}

pub to_in : {A : Type 0} (x : A) (xs : List A) → IsOneOf x xs → In x xs
to_in x [] is = is
to_in x (y ∷ ys) (inl same) = inl same
to_in x (y ∷ ys) (inr rest) = inr (to_in x ys rest)

pub from_in : {A : Type 0} (x : A) (xs : List A) → In x xs → IsOneOf x xs
from_in x [] is = is
from_in x (y ∷ ys) (inl same) = inl same
from_in x (y ∷ ys) (inr rest) = inr (from_in x ys rest)

pub all_at : {A : Type 0} (p : A → Bool) (x : A) (xs : List A) → IsOneOf x xs → list_all p xs ≡ true → p x ≡ true
all_at p x [] is all = absurd is
all_at p x (y ∷ ys) (inl same) all = ap p (sym same) ∙ (and_parts (p y) (list_all p ys) all).0
all_at p x (y ∷ ys) (inr rest) all = all_at p x ys rest (and_parts (p y) (list_all p ys) all).1

pub all_from : {A : Type 0} (p : A → Bool) (xs : List A) → ((x : A) → IsOneOf x xs → p x ≡ true) → list_all p xs ≡ true
all_from p [] each = refl
all_from p (y ∷ ys) each = and_from (p y) (list_all p ys) (each y (inl refl)) (all_from p ys (λ x is. each x (inr is)))

-- the spread of a group does not change where its pages lie in the same blocks
pub same_spread : (s : Spread) (P Q : ℕ → Type 0) → ((b : ℕ) → P b → Q b) → ((b : ℕ) → Q b → P b) → IsSpread s P → IsSpread s Q
same_spread Nowhere P Q to from is = λ b q. is b (from b q)
same_spread (InBlock a) P Q to from is = (to a is.0, λ b q. is.1 b (from b q))
same_spread Several P Q to from is = λ b. let h = is b in (h.0, h.1, to h.0 h.2)

two_blocks : (a b : ℕ) (P : ℕ → Type 0) → P a → P b → (a ≡ b → ⊥) → (c : ℕ) → (other : ℕ) × (other ≡ c → ⊥) × P other
two_blocks a b P at_a at_b differ c = ⊎_elim (λ same. (b, λ e. differ (same ∙ sym e), at_b)) (λ other. (a, other, at_a)) (cases_eq a c)

-- one page more
pub more_spread : (s : Spread) (b : ℕ) (P : ℕ → Type 0) → IsSpread s P → IsSpread (spread_more s b) (λ c. P c ⊎ (b ≡ c))
more_spread Nowhere b P is = (inr refl, λ c h. ⊎_elim (λ p. absurd (is c p)) (λ e. sym e) h)
more_spread (InBlock a) b P is = elim (cases_Bool (a == b)) [
  | inl same ↦
      let e = eqb-true a b same in
      subst (λ s. IsSpread s (λ c. P c ⊎ (b ≡ c))) (sym (cond-true (a == b) (InBlock a) Several same))
      (inl is.0, λ c h. ⊎_elim (λ p. is.1 c p) (λ d. sym d ∙ sym e) h)
  | inr differs ↦ subst (λ s. IsSpread s (λ c. P c ⊎ (b ≡ c))) (sym (cond-false (a == b) (InBlock a) Several differs))
      (two_blocks a b (λ c. P c ⊎ (b ≡ c)) (inl is.0) (inr refl) (eqb-false a b differs))
]
more_spread Several b P is = λ c. let h = is c in (h.0, h.1, inl h.2)

-- one of the items has this key and lies in this block
abbrev pub LiesIn : {X : Type 0} → (X → ℕ) → (X → ℕ) → ℕ → List X → ℕ → Type 0
LiesIn {X} key block k xs b = (x : X) × IsOneOf x xs × (key x ≡ k) × (block x ≡ b)

module _ {X : Type 0} (key block : X → ℕ) (k : ℕ) where
  step : Spread → X → Spread
  step s x = cond (key x == k) (spread_more s (block x)) s

  -- the blocks known before, and those of the items
  abbrev With : (ℕ → Type 0) → List X → ℕ → Type 0
  With P xs b = P b ⊎ LiesIn key block k xs b

  fold_from : (xs : List X) (s : Spread) (P : ℕ → Type 0) → IsSpread s P → IsSpread (fold (λ s x. cond (key x == k) (spread_more s (block x)) s) s xs) (With P xs)
  fold_from [] s P is = same_spread s P (With P []) (λ b p. inl p) (λ b h. ⊎_elim (λ p. p) (λ l. absurd l.1) h) is
  fold_from (x ∷ xs) s P is = elim (cases_Bool (key x == k)) [
    | inl same ↦
        let e = eqb-true (key x) k same in
        subst (λ t. IsSpread (fold (λ s x. cond (key x == k) (spread_more s (block x)) s) t xs) (With P (x ∷ xs))) (sym (cond-true (key x == k) (spread_more s (block x)) s same))
        (same_spread (fold (λ s x. cond (key x == k) (spread_more s (block x)) s) (spread_more s (block x)) xs) (With (λ c. P c ⊎ (block x ≡ c)) xs) (With P (x ∷ xs))
        (λ b h. ⊎_elim (λ first. ⊎_elim (λ p. inl p) (λ is. inr (x, inl refl, e, is)) first) (λ l. inr (l.0, inr l.1, l.2, l.3)) h)
        (λ b h. ⊎_elim (λ p. inl (inl p)) (λ l. ⊎_elim (λ here. inl (inr (ap block here ∙ l.3))) (λ there. inr (l.0, there, l.2, l.3)) l.1) h)
        (fold_from xs (spread_more s (block x)) (λ c. P c ⊎ (block x ≡ c)) (more_spread s (block x) P is)))
    | inr differs ↦
        subst (λ t. IsSpread (fold (λ s x. cond (key x == k) (spread_more s (block x)) s) t xs) (With P (x ∷ xs))) (sym (cond-false (key x == k) (spread_more s (block x)) s differs))
        (same_spread (fold (λ s x. cond (key x == k) (spread_more s (block x)) s) s xs) (With P xs) (With P (x ∷ xs))
        (λ b h. ⊎_elim (λ p. inl p) (λ l. inr (l.0, inr l.1, l.2, l.3)) h)
        (λ b h. ⊎_elim (λ p. inl p) (λ l. ⊎_elim (λ here. absurd (eqb-false (key x) k differs (ap key here ∙ l.2))) (λ there. inr (l.0, there, l.2, l.3)) l.1) h)
        (fold_from xs s P is))
  ]

  -- the fold over the items of a key is the spread of that group
  pub fold_spread : (xs : List X) → IsSpread (by_key key (λ s x. spread_more s (block x)) Nowhere k xs) (LiesIn key block k xs)
  fold_spread xs = same_spread (by_key key (λ s x. spread_more s (block x)) Nowhere k xs) (With (λ b. ⊥) xs) (LiesIn key block k xs)
      (λ b h. ⊎_elim (λ none. absurd none) (λ l. l) h) (λ b l. inr l) (fold_from xs Nowhere (λ b. ⊥) (λ b none. none))

-- a group that lies in the block alone
alone_found : (block : ℕ) (spreads : List Spread) → list_any (is_alone_in block) spreads ≡ true → (k : ℕ) × (k < length spreads) × (spread_at spreads k ≡ InBlock block)
alone_found block [] any = absurd (false≢true any)
alone_found block (Nowhere ∷ rest) any = let r = alone_found block rest any in (suc r.0, omega (arith, r.1), r.2)
alone_found block (Several ∷ rest) any = let r = alone_found block rest any in (suc r.0, omega (arith, r.1), r.2)
alone_found block (InBlock a ∷ rest) any = ⊎_elim
    (λ same. (0, omega arith, ap InBlock (eqb-true a block same)))
    (λ later. let r = alone_found block rest later in (suc r.0, omega (arith, r.1), r.2))
    (or_cases (a == block) (list_any (is_alone_in block) rest) any)

pub alone_any : (block : ℕ) (spreads : List Spread) (k : ℕ) → k < length spreads → spread_at spreads k ≡ InBlock block → list_any (is_alone_in block) spreads ≡ true
alone_any block [] k below is = absurd (omega (arith, below))
alone_any block (s ∷ rest) zero below is = or_left (is_alone_in block s) (list_any (is_alone_in block) rest) (ap (is_alone_in block) is ∙ eq-eqb block block refl)
alone_any block (s ∷ rest) (suc k) below is = or_right (is_alone_in block s) (list_any (is_alone_in block) rest) (alone_any block rest k (omega (arith, below)) is)

module _ (size : ℕ) (pages : List Readable) (is_needed : Readable → Bool) (is_copy : Readable → Readable → Bool) (group_of : Readable → Option ℕ) (spreads : List Spread) (g : AreGrouped size pages is_needed is_copy group_of spreads) (block : ℕ) where
  abbrev here : Readable → Bool
  here r = r.page / size == block && is_needed r

  abbrev elsewhere : Readable → Readable → Bool
  elsewhere r q = not (q.page / size == block) && is_copy q r

  abbrev test : Readable → Bool
  test r = not (here r) || list_any (elsewhere r) pages

  alone_fails : list_any (is_alone_in block) spreads ≡ true → list_all test pages ≡ true → ⊥
  alone_fails any all =
      let m = alone_found block spreads any in
      let is : IsSpread (InBlock block) (GroupLiesIn size pages group_of m.0) = subst (λ s. IsSpread s (GroupLiesIn size pages group_of m.0)) m.2 (g.each m.0 m.1) in
      let r = is.0 in
      let needed = g.only_needed r.0 m.0 r.1 r.2 in
      let at = and_from (r.0.page / size == block) (is_needed r.0) (eq-eqb (r.0.page / size) block r.3) needed in
      let some : list_any (elsewhere r.0) pages ≡ true = ⊎_elim (λ none. absurd (false≢true (sym (not_from_true (here r.0) at) ∙ none))) (λ any. any)
      (or_cases (not (here r.0)) (list_any (elsewhere r.0) pages) (all_at test r.0 pages r.1 all)) in
      let q = any_to (elsewhere r.0) pages some in
      let parts = and_parts (not (q.0.page / size == block)) (is_copy q.0 r.0) q.2 in
      let same = g.copies q.0 r.0 (from_in q.0 pages q.1) r.1 needed parts.1 in
      eqb-false (q.0.page / size) block (not-true (q.0.page / size == block) parts.0) (is.1 (q.0.page / size) (q.0, from_in q.0 pages q.1, same ∙ r.2, refl))

  copied_elsewhere : list_any (is_alone_in block) spreads ≡ false → (r : Readable) → IsOneOf r pages → here r ≡ true → list_any (elsewhere r) pages ≡ true
  copied_elsewhere none r is at =
      let parts = and_parts (r.page / size == block) (is_needed r) at in
      let group = g.needed r is parts.1 in
      by_spread group.0 group.1 group.2 (eqb-true (r.page / size) block parts.0) (spread_at spreads group.0) refl (g.each group.0 group.1)
    where
      by_spread : (k : ℕ) → k < length spreads → group_of r ≡ Some k → r.page / size ≡ block → (s : Spread) → spread_at spreads k ≡ s → IsSpread (spread_at spreads k) (GroupLiesIn size pages group_of k) → list_any (elsewhere r) pages ≡ true
      by_spread k below group at Nowhere e spread = absurd (subst (λ s. IsSpread s (GroupLiesIn size pages group_of k)) e spread (r.page / size) (r, is, group, refl))
      by_spread k below group at (InBlock a) e spread =
          let lies = subst (λ s. IsSpread s (GroupLiesIn size pages group_of k)) e spread in
          let same = lies.1 (r.page / size) (r, is, group, refl) in
          absurd (false≢true (sym none ∙ alone_any block spreads k below (e ∙ ap InBlock (sym same ∙ at))))
      by_spread k below group at Several e spread =
          let other = subst (λ s. IsSpread s (GroupLiesIn size pages group_of k)) e spread block in
          let q = other.2 in
          any_from (elsewhere r) q.0 pages (to_in q.0 pages q.1)
          (and_from (not (q.0.page / size == block)) (is_copy q.0 r) (not_from_false (q.0.page / size == block) (differs (q.0.page / size) (λ e. other.1 (sym q.3 ∙ e)))) (g.copied q.0 r k q.1 is q.2 group))
        where
          differs : (n : ℕ) → (n ≡ block → ⊥) → (n == block) ≡ false
          differs n ne = elim (cases_Bool (n == block)) [ inl same ↦ absurd (ne (eqb-true n block same)) | inr other ↦ other ]

  passes : list_any (is_alone_in block) spreads ≡ false → (r : Readable) → IsOneOf r pages → test r ≡ true
  passes none r is = elim (cases_Bool (here r)) [
    | inl at ↦ or_right (not (here r)) (list_any (elsewhere r) pages) (copied_elsewhere none r is at)
    | inr away ↦ or_left (not (here r)) (list_any (elsewhere r) pages) (not_from_false (here r) away)
  ]

  pub same_block : list_all test pages ≡ not (list_any (is_alone_in block) spreads)
  same_block = elim (cases_Bool (list_any (is_alone_in block) spreads)) [
    | inl any ↦ elim (cases_Bool (list_all test pages)) [
      | inl all ↦ absurd (alone_fails any all)
      | inr fails ↦ fails ∙ sym (not_from_true (list_any (is_alone_in block) spreads) any)
    ]
    | inr none ↦ all_from test pages (passes none) ∙ sym (not_from_false (list_any (is_alone_in block) spreads) none)
  ]

pub finds_spare : FindsSpare
unfolding spare_block spare_of
finds_spare image first count pages is_needed is_copy group_of spreads g =
    find_same_range
    (λ block. list_all (λ r. not (r.page / image.pages == block && is_needed r) || list_any (λ q. not (q.page / image.pages == block) && is_copy q r) pages) pages)
    (λ block. not (list_any (is_alone_in block) spreads)) first count
    (λ i less. same_block image.pages pages is_needed is_copy group_of spreads g (first + i))
