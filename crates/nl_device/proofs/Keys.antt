-- A table with one entry for each key, one item more.
use Rattle.std.proofs.Common.{◌≡◌, ⊎_elim, ℕ, ◌+◌, ◌<◌, ◌≤◌, ◌==◌, ◌∙◌, cond, List, length, length-set, take, set, get_or, sym, ap, subst}
use Rattle.std.proofs.lemmas.Bool.{cases_eq, cond-true, cond-false, eq-eqb, ne_eqb}
use Rattle.std.proofs.lemmas.List.{get_or-set_same, get_or-set_other, take_all}
use Rattle.std.proofs.lemmas.List.Sums.{fold_more}
use Rattle.nl_device.specs.Opening.{Tabulates}
use Rattle.nl_device.specs.Spread.{by_key}

module _ {X Y : Type 0} (key : X → ℕ) (step : Y → X → Y) (start : ℕ → Y) (count : ℕ) (d : Y) where
  pub keys_more : (xs : List X) (i : ℕ) (x : X) (ys : List Y) → i < length xs → Tabulates count d (λ k. by_key key step (start k) k (take i xs)) ys → key (get_or xs i x) < count
      → Tabulates count d (λ k. by_key key step (start k) k (take (i + 1) xs)) (set ys (key (get_or xs i x)) (step (get_or ys (key (get_or xs i x)) d) (get_or xs i x)))
  keys_more xs i x ys lt t here =
      let item = get_or xs i x in
      let value = step (get_or ys (key item) d) item in
      record {
        count_is = length-set ys (key item) value ∙ t.count_is;
        each = λ k below.
            let e = fold_more (λ y z. cond (key z == k) (step y z) y) (start k) xs i x lt in
            let F = by_key key step (start k) k (take i xs) in
            let room : key item < length ys = subst (λ n. key item < n) (sym t.count_is) here in
            ⊎_elim
            (λ same. subst (λ m. get_or (set ys (key item) value) m d ≡ value) (sym same) (get_or-set_same ys (key item) value d room)
            ∙ (ap (λ y. step y item) (ap (λ m. get_or ys m d) (sym same) ∙ t.each k below) ∙ sym (e ∙ cond-true (key item == k) (step F item) F (eq-eqb (key item) k (sym same)))))
            (λ other. get_or-set_other ys (key item) k value d other ∙ (t.each k below ∙ sym (e ∙ cond-false (key item == k) (step F item) F (ne_eqb (key item) k (λ same. other (sym same))))))
            (cases_eq k (key item));
      }

  pub keys_all : (xs : List X) (i : ℕ) (ys : List Y) → length xs ≤ i → Tabulates count d (λ k. by_key key step (start k) k (take i xs)) ys → Tabulates count d (λ k. by_key key step (start k) k xs) ys
  keys_all xs i ys e t = subst (λ l. Tabulates count d (λ k. by_key key step (start k) k l) ys) (take_all i xs e) t
