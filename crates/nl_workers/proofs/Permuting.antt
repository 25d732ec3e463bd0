-- Lists with the same keys, each as often.
use Rattle.std.proofs.Common.{◌≡◌, ◌==◌, ℕ, ◌+◌, ◌<◌, ◌≤◌, Bool, true, false, cond, List, [], ◌∷◌, ◌++◌, Option, Some, refl, sym, ap, ◌∙◌, subst, arith, eq-eqb}
use Rattle.std.proofs.lemmas.Bool.Decides.{nat_tests}
use Rattle.std.proofs.lemmas.List.Sums.{sum_by-cons, sum_by-append}
use Rattle.std.proofs.lemmas.List.Sorted.{IsPermutation-refl, IsPermutation-sym, IsPermutation-cons, IsPermutation-trans, IsPermutation-middle}
use Rattle.std.specs.Prelude.{IsPermutation, count_by}

-- each element has the property
abbrev pub Each : {A : Type 0} → (A → Type 0) → List A → Type 0
Each P [] = Unit {0}
Each P (x ∷ xs) = P x × Each P xs

pub each_append : {A : Type 0} (P : A → Type 0) (xs ys : List A) → Each P xs → Each P ys → Each P (xs ++ ys)
each_append P [] ys h k = k
each_append P (x ∷ xs) ys h k = (h.0, each_append P xs ys h.1 k)

pub each_front : {A : Type 0} (P : A → Type 0) (xs ys : List A) → Each P (xs ++ ys) → Each P xs
each_front P [] ys h = tt
each_front P (x ∷ xs) ys h = (h.0, each_front P xs ys h.1)

pub each_back : {A : Type 0} (P : A → Type 0) (xs ys : List A) → Each P (xs ++ ys) → Each P ys
each_back P [] ys h = h
each_back P (x ∷ xs) ys h = each_back P xs ys h.1

some_same : {A : Type 0} (a b : A) → Some a ≡ Some b → a ≡ b
some_same a b e = cc e

module _ {A : Type 0} (key : A → ℕ) where
  abbrev pub keyed : ℕ → List A → ℕ
  keyed m xs = count_by (λ x. key x == m) xs

  pub keyed_cons : (m : ℕ) (x : A) (xs : List A) → keyed m (x ∷ xs) ≡ cond {A = ℕ} (key x == m) 1 0 + keyed m xs
  keyed_cons m x xs = sum_by-cons (λ y. cond (key y == m) 1 0) x xs

  pub keyed_append : (m : ℕ) (xs ys : List A) → keyed m (xs ++ ys) ≡ keyed m xs + keyed m ys
  keyed_append m xs ys = sum_by-append (λ y. cond (key y == m) 1 0) xs ys

  pub keyed_own : (x : A) (xs : List A) → 0 < keyed (key x) (x ∷ xs)
  keyed_own x xs =
      let a = keyed_cons (key x) x xs in
      let b : cond {A = ℕ} (key x == key x) 1 0 ≡ 1 = ap (λ (t : Bool). cond {A = ℕ} t 1 0) (eq-eqb (key x) (key x) refl) in
      omega arith

  pub record Splits (m : ℕ) (xs : List A) : Type 0 where
    pub before : List A
    pub one : A
    pub after : List A
    pub is : before ++ one ∷ after ≡ xs
    pub key_is : key one ≡ m

  pub splits : (m : ℕ) (xs : List A) → 0 < keyed m xs → Splits m xs
  splits m [] some = absurd (omega arith)
  splits m (x ∷ xs) some = go (λ h. splits m xs h) (key x == m) refl
    where
      go : (0 < keyed m xs → Splits m xs) → (t : Bool) → (key x == m) ≡ t → Splits m (x ∷ xs)
      go rest true e = record { before = []; one = x; after = xs; is = refl; key_is = grind (arith, nat_tests) }
      go rest false e =
          let a = keyed_cons m x xs in
          let b : cond {A = ℕ} (key x == m) 1 0 ≡ 0 = ap (λ (t : Bool). cond {A = ℕ} t 1 0) e in
          let s = rest (omega arith) in
          record { before = x ∷ s.before; one = s.one; after = s.after; is = ap (λ z. x ∷ z) s.is; key_is = s.key_is }

  none_left : (ys : List A) → ((m : ℕ) → keyed m [] ≡ keyed m ys) → [] ≡ ys
  none_left [] same = refl
  none_left (y ∷ ys) same = let a = same (key y) in let b = keyed_own y ys in absurd (omega arith)

  module _ (at : ℕ → Option A) where
    pub permuted : (xs ys : List A) → Each (λ x. at (key x) ≡ Some x) xs → Each (λ x. at (key x) ≡ Some x) ys → ((m : ℕ) → keyed m xs ≡ keyed m ys) → IsPermutation xs ys
    permuted [] ys each each' same = subst (IsPermutation []) (none_left ys same) (IsPermutation-refl [])
    permuted (x ∷ xs) ys each each' same =
        let a = same (key x) in
        let b = keyed_own x xs in
        step (λ zs left counts. permuted xs zs each.1 left counts) (splits (key x) ys (omega arith))
      where
        step : ((zs : List A) → Each (λ z. at (key z) ≡ Some z) zs → ((m : ℕ) → keyed m xs ≡ keyed m zs) → IsPermutation xs zs) → Splits (key x) ys → IsPermutation (x ∷ xs) ys
        step again s =
            let whole : Each (λ z. at (key z) ≡ Some z) (s.before ++ s.one ∷ s.after) = subst (Each (λ z. at (key z) ≡ Some z)) (sym s.is) each' in
            let rest = each_back (λ z. at (key z) ≡ Some z) s.before (s.one ∷ s.after) whole in
            let left = each_append (λ z. at (key z) ≡ Some z) s.before s.after (each_front (λ z. at (key z) ≡ Some z) s.before (s.one ∷ s.after) whole) rest.1 in
            let is_x : s.one ≡ x = some_same s.one x (sym rest.0 ∙ (ap at s.key_is ∙ each.0)) in
            let counts : (m : ℕ) → keyed m xs ≡ keyed m (s.before ++ s.after) = λ m.
            let a = same m in
            let b = keyed_cons m x xs in
            let c : keyed m ys ≡ keyed m (s.before ++ s.one ∷ s.after) = ap (keyed m) (sym s.is) in
            let d = keyed_append m s.before (s.one ∷ s.after) in
            let e = keyed_cons m s.one s.after in
            let f = keyed_append m s.before s.after in
            let g : cond {A = ℕ} (key s.one == m) 1 0 ≡ cond {A = ℕ} (key x == m) 1 0 = ap (λ z. cond {A = ℕ} (key z == m) 1 0) is_x in
            omega arith in
            let inner = again (s.before ++ s.after) left counts in
            let outer : IsPermutation (x ∷ xs) (x ∷ (s.before ++ s.after)) = IsPermutation-cons x xs (s.before ++ s.after) inner in
            let middle : IsPermutation (x ∷ (s.before ++ s.after)) (s.before ++ x ∷ s.after) = IsPermutation-sym (s.before ++ x ∷ s.after) (x ∷ (s.before ++ s.after)) (IsPermutation-middle s.before x s.after) in
            let back : s.before ++ x ∷ s.after ≡ ys = ap (λ z. s.before ++ z ∷ s.after) (sym is_x) ∙ s.is in
            subst (IsPermutation (x ∷ xs)) back (IsPermutation-trans (x ∷ xs) (x ∷ (s.before ++ s.after)) (s.before ++ x ∷ s.after) outer middle)

  -- where a key stands at most once, two places with it are one
  pub same_split : (m : ℕ) (b1 b2 a1 a2 : List A) (x y : A) → key x ≡ m → key y ≡ m → b1 ++ x ∷ a1 ≡ b2 ++ y ∷ a2 → keyed m (b1 ++ x ∷ a1) ≤ 1 → (b1 ≡ b2) × (x ≡ y)
  same_split m [] [] a1 a2 x y kx ky e once = (refl, cc e)
  same_split m [] (b ∷ bs) a1 a2 x y kx ky e once =
      let t : a1 ≡ bs ++ y ∷ a2 = cc e in
      let a = keyed_cons m x a1 in
      let b : cond {A = ℕ} (key x == m) 1 0 ≡ 1 = ap (λ (t : Bool). cond {A = ℕ} t 1 0) (eq-eqb (key x) m kx) in
      let c : keyed m a1 ≡ keyed m (bs ++ y ∷ a2) = ap (keyed m) t in
      let d = keyed_append m bs (y ∷ a2) in
      let f = keyed_cons m y a2 in
      let g : cond {A = ℕ} (key y == m) 1 0 ≡ 1 = ap (λ (t : Bool). cond {A = ℕ} t 1 0) (eq-eqb (key y) m ky) in
      absurd (omega arith)
  same_split m (b ∷ bs) [] a1 a2 x y kx ky e once =
      let h : b ≡ y = cc e in
      let kb : key b ≡ m = ap key h ∙ ky in
      let a = keyed_cons m b (bs ++ x ∷ a1) in
      let c : cond {A = ℕ} (key b == m) 1 0 ≡ 1 = ap (λ (t : Bool). cond {A = ℕ} t 1 0) (eq-eqb (key b) m kb) in
      let d = keyed_append m bs (x ∷ a1) in
      let f = keyed_cons m x a1 in
      let g : cond {A = ℕ} (key x == m) 1 0 ≡ 1 = ap (λ (t : Bool). cond {A = ℕ} t 1 0) (eq-eqb (key x) m kx) in
      absurd (omega arith)
  same_split m (b ∷ bs) (c ∷ cs) a1 a2 x y kx ky e once =
      let h : b ≡ c = cc e in
      let t : bs ++ x ∷ a1 ≡ cs ++ y ∷ a2 = cc e in
      let a = keyed_cons m b (bs ++ x ∷ a1) in
      let r = same_split m bs cs a1 a2 x y kx ky t (omega arith) in
      (cc (h, r.0), r.1)
