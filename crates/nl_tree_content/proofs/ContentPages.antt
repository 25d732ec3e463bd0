-- The pages of a file: which are found, and in which order they stand, after some are put or dropped.
use Rattle.std.proofs.Common.{◌≡◌, ◌<◌, ◌≤◌, ℕ, zero, suc, ◌+◌, ◌==◌, nat_lt, nat_le, Bool, true, false, ◌&&◌, cond, T, List, [], ◌∷◌, map, filter, fold, refl, sym, ap, subst, ◌∙◌, Option, Some, None, option_map, is_some, unwrap_or, arith, inl, inr}
use Rattle.std.proofs.lemmas.Bool.{and_from, and_parts, cond-true, cond-false, leb-true, le-leb, lt-ltb, lt-leb, le-ltb, eqb-true, eqb-false, leb-false, cases_lt, false≢true}
use Rattle.std.specs.Bool.{passes}
use Rattle.std.specs.List.{list_all, range_with_len}
use Rattle.std.specs.Ordering.{nat_cmp, is_lt, eq_by_cmp}
use Rattle.std.specs.declared.cmp.Ordering.TheVariants.{Less, Equal, Greater}
use Rattle.std.specs.Cmp.{nat_cmp_total, unsigned_tied}
use Rattle.std.specs.FinMap.{nat_cmp-IsAntisymmetric}
use Rattle.std.specs.FinMap.Entries.{find, put, by_order, is_sorted, below_all, find-put, is_sorted-put, find-where_key, is_sorted-where_key}

abbrev pub Pages : Type 0
Pages = List (ℕ × List ℕ)

pub is_true : (b : Bool) → T b → b ≡ true
is_true true h = refl
is_true false h = absurd h

-- ---- pages put by rising index

module _ (g : ℕ → List ℕ) where
  abbrev pub all_put : Pages → ℕ → ℕ → Pages
  all_put pages from n = fold (λ pages index. put nat_cmp index (g index) pages) pages (range_with_len from n)

  abbrev pub within : ℕ → ℕ → ℕ → Bool
  within from n q = nat_le from q && nat_lt q (from + n)

  within_none : (from q : ℕ) → within from 0 q ≡ false
  within_none from q =
      elim (nat_le from q) as (λ b. nat_le from q ≡ b → (b && nat_lt q (from + 0)) ≡ false) [
        | true ↦ λ t. le-ltb q (from + 0) (omega (arith, leb-true from q t))
        | false ↦ λ t. refl
      ] refl

  within_more : (from n q : ℕ) (x y z : Option (List ℕ)) → (q ≡ from → y ≡ x) → cond (within (from + 1) n q) x (cond (q == from) y z) ≡ cond (within from (suc n) q) x z
  within_more from n q x y z same =
      elim (q == from) as (λ b. (q == from) ≡ b → cond (within (from + 1) n q) x (cond b y z) ≡ cond (within from (suc n) q) x z) [
        | true ↦ λ t.
            let e : q ≡ from = eqb-true q from t in
            let out : within (from + 1) n q ≡ false = ap (λ b. b && nat_lt q (from + 1 + n)) (lt-leb (from + 1) q (omega (arith, e))) in
            let inside : within from (suc n) q ≡ true = and_from _ _ (le-leb from q (omega (arith, e))) (lt-ltb q (from + suc n) (omega (arith, e))) in
            cond-false _ x y out ∙ same e ∙ sym (cond-true _ x z inside)
        | false ↦ λ t. ap (λ b. cond b x z) (by t)
      ] refl
    where
      over : from ≤ q → (q ≡ from → ⊥) → from + 1 ≤ q
      over le apart = elim (cases_lt from q) as (λ _. from + 1 ≤ q) [ inl h ↦ omega (arith, h) | inr h ↦ absurd (apart (omega (arith, h, le))) ]

      by : (q == from) ≡ false → within (from + 1) n q ≡ within from (suc n) q
      by t =
          let apart = eqb-false q from t in
          elim (nat_le from q) as (λ b. nat_le from q ≡ b → within (from + 1) n q ≡ (b && nat_lt q (from + suc n))) [
            | true ↦ λ s. ap (λ b. b && nat_lt q (from + 1 + n)) (le-leb (from + 1) q (over (leb-true from q s) apart)) ∙ ap (nat_lt q) (omega arith)
            | false ↦ λ s. ap (λ b. b && nat_lt q (from + 1 + n)) (lt-leb (from + 1) q (omega (arith, leb-false from q s)))
          ] refl

  pub find-all_put : (pages : Pages) (from n q : ℕ) → find nat_cmp q (all_put pages from n) ≡ cond (within from n q) (Some (g q)) (find nat_cmp q pages)
  find-all_put pages from zero q = sym (cond-false _ (Some (g q)) (find nat_cmp q pages) (within_none from q))
  find-all_put pages from (suc n) q =
      find-all_put (put nat_cmp from (g from) pages) (from + 1) n q
      ∙ ap (cond (within (from + 1) n q) (Some (g q))) (find-put nat_cmp nat_cmp_total q from (g from) pages ∙ ap (λ b. cond b (Some (g from)) (find nat_cmp q pages)) (unsigned_tied q from))
      ∙ within_more from n q (Some (g q)) (Some (g from)) (find nat_cmp q pages) (λ e. ap (λ k. Some (g k)) (sym e))

  pub sorted-all_put : (pages : Pages) (from n : ℕ) → is_sorted nat_cmp pages ≡ true → is_sorted nat_cmp (all_put pages from n) ≡ true
  sorted-all_put pages from zero h = h
  sorted-all_put pages from (suc n) h = sorted-all_put (put nat_cmp from (g from) pages) (from + 1) n (is_true _ (is_sorted-put nat_cmp nat_cmp_total from (g from) pages (passes _ h)))

-- ---- what each page keeps

module _ (t : ℕ × List ℕ → Bool) where
  pub all-put : (k : ℕ) (page : List ℕ) (pages : Pages) → t (k, page) ≡ true → list_all t pages ≡ true → list_all t (put nat_cmp k page pages) ≡ true
  all-put k page [] h hs = and_from _ _ h refl
  all-put k page (e ∷ pages) h hs =
      let parts = and_parts (t e) (list_all t pages) hs in
      elim (nat_cmp k e.0) as (λ r. nat_cmp k e.0 ≡ r → list_all t (by_order r ((k, page) ∷ e ∷ pages) ((e.0, page) ∷ pages) (e ∷ put nat_cmp k page pages)) ≡ true) [
        | Less ↦ λ _. and_from _ _ h hs
        | Equal ↦ λ p. and_from _ _ (subst (λ (i : ℕ). t (i, page) ≡ true) (nat_cmp-IsAntisymmetric k e.0 p) h) parts.1
        | Greater ↦ λ _. and_from _ _ parts.0 (all-put k page pages h parts.1)
      ] refl

  pub all-all_put : (g : ℕ → List ℕ) (pages : Pages) (from n : ℕ) → ((k : ℕ) → from ≤ k → k < from + n → t (k, g k) ≡ true) → list_all t pages ≡ true → list_all t (all_put g pages from n) ≡ true
  all-all_put g pages from zero each h = h
  all-all_put g pages from (suc n) each h =
      all-all_put g (put nat_cmp from (g from) pages) (from + 1) n (λ k a b. each k (omega (arith, a)) (omega (arith, b))) (all-put from (g from) pages (each from (omega arith) (omega arith)) h)

  pub all-found : (pages : Pages) (q : ℕ) (page : List ℕ) → list_all t pages ≡ true → find nat_cmp q pages ≡ Some page → t (q, page) ≡ true
  all-found [] q page h there = absurd (false≢true (ap is_some there))
  all-found (e ∷ pages) q page h there =
      let parts = and_parts (t e) (list_all t pages) h in
      elim (eq_by_cmp nat_cmp q e.0) as (λ b. eq_by_cmp nat_cmp q e.0 ≡ b → cond b (Some e.1) (find nat_cmp q pages) ≡ Some page → t (q, page) ≡ true) [
        | true ↦ λ s is. subst (λ (p : List ℕ). t (q, p) ≡ true) (ap (λ (o : Option (List ℕ)). unwrap_or o []) is) (subst (λ (i : ℕ). t (i, e.1) ≡ true) (sym (eqb-true q e.0 (sym (unsigned_tied q e.0) ∙ s))) parts.0)
        | false ↦ λ s is. all-found pages q page parts.1 is
      ] refl there

pub all_weaker : (t u : ℕ × List ℕ → Bool) → ((e : ℕ × List ℕ) → t e ≡ true → u e ≡ true) → (pages : Pages) → list_all t pages ≡ true → list_all u pages ≡ true
all_weaker t u each [] h = refl
all_weaker t u each (e ∷ pages) h = let parts = and_parts (t e) (list_all t pages) h in and_from _ _ (each e parts.0) (all_weaker t u each pages parts.1)

-- ---- pages kept below an index, each changed

module _ (f : ℕ → List ℕ → List ℕ) (keep : ℕ → Bool) where
  abbrev pub kept : Pages → Pages
  kept pages = map (λ page. (page.0, f page.0 page.1)) (filter (λ page. keep page.0) pages)

  find-changed : (pages : Pages) (q : ℕ) → find nat_cmp q (map (λ page. (page.0, f page.0 page.1)) pages) ≡ option_map (f q) (find nat_cmp q pages)
  find-changed [] q = refl
  find-changed (e ∷ pages) q =
      elim (eq_by_cmp nat_cmp q e.0) as (λ b. eq_by_cmp nat_cmp q e.0 ≡ b → cond b (Some (f e.0 e.1)) (find nat_cmp q (map (λ page. (page.0, f page.0 page.1)) pages)) ≡ option_map (f q) (cond b (Some e.1) (find nat_cmp q pages))) [
        | true ↦ λ s. ap (λ k. Some (f k e.1)) (sym (eqb-true q e.0 (sym (unsigned_tied q e.0) ∙ s)))
        | false ↦ λ s. find-changed pages q
      ] refl

  pub find-kept : (pages : Pages) (q : ℕ) → find nat_cmp q (kept pages) ≡ cond (keep q) (option_map (f q) (find nat_cmp q pages)) None
  find-kept pages q =
      find-changed (filter (λ page. keep page.0) pages) q
      ∙ ap (option_map (f q)) (find-where_key nat_cmp keep q (λ x e. ap keep (sym (nat_cmp-IsAntisymmetric q x e))) pages)
      ∙ elim (keep q) as (λ b. option_map (f q) (cond b (find nat_cmp q pages) None) ≡ cond b (option_map (f q) (find nat_cmp q pages)) None) [ true ↦ refl | false ↦ refl ]

  below-changed : (k : ℕ) (pages : Pages) → below_all nat_cmp k (map (λ page. (page.0, f page.0 page.1)) pages) ≡ below_all nat_cmp k pages
  below-changed k [] = refl
  below-changed k (e ∷ pages) = ap (λ b. is_lt (nat_cmp k e.0) && b) (below-changed k pages)

  sorted-changed : (pages : Pages) → is_sorted nat_cmp (map (λ page. (page.0, f page.0 page.1)) pages) ≡ is_sorted nat_cmp pages
  sorted-changed [] = refl
  sorted-changed (e ∷ pages) = λ i. below-changed e.0 pages i && sorted-changed pages i

  pub sorted-kept : (pages : Pages) → is_sorted nat_cmp pages ≡ true → is_sorted nat_cmp (kept pages) ≡ true
  sorted-kept pages h = sorted-changed (filter (λ page. keep page.0) pages) ∙ is_true _ (is_sorted-where_key nat_cmp keep pages (passes _ h))

  pub all-kept : (t u : ℕ × List ℕ → Bool) → ((k : ℕ) (page : List ℕ) → keep k ≡ true → t (k, page) ≡ true → u (k, f k page) ≡ true) → (pages : Pages) → list_all t pages ≡ true → list_all u (kept pages) ≡ true
  all-kept t u each [] h = refl
  all-kept t u each (e ∷ pages) h =
      let parts = and_parts (t e) (list_all t pages) h in
      let rest = all-kept t u each pages parts.1 in
      elim (keep e.0) as (λ b. keep e.0 ≡ b → list_all u (map (λ page. (page.0, f page.0 page.1)) (cond b (e ∷ filter (λ page. keep page.0) pages) (filter (λ page. keep page.0) pages))) ≡ true) [
        | true ↦ λ s. and_from _ _ (each e.0 e.1 s parts.0) rest
        | false ↦ λ s. rest
      ] refl
