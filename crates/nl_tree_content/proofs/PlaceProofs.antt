-- An entry stands at its place, or is put there.
use Rattle.std.proofs.Common.{◌≡◌, ◌≤◌, ℕ, suc, true, false, cond, if◌then◌else◌, List, [], ◌∷◌, length, drop, get_or, set, insert, ap, sym, subst, refl, arith, ◌∙◌}
use Rattle.std.specs.declared.cmp.Ordering.{Ordering}
use Rattle.std.specs.declared.cmp.Ordering.TheVariants.{Less, Equal, Greater}
use Rattle.std.specs.Ordering.{is_gt, is_eq}
use Rattle.std.specs.FinMap.Entries.{put, by_order}
use Rattle.nl_tree_content.specs.Places.{place_in, is_first}

module _ {K X : Type 0} (R : K → K → Ordering) where
  pub place_in-le : (key : K) (entries : List (K × X)) → place_in R key entries ≤ length entries
  place_in-le key [] = omega arith
  place_in-le key (e ∷ entries) =
      let rest : place_in R key entries ≤ length entries = place_in-le key entries in
      elim (is_gt (R key e.0)) as (λ b. (if b then suc (place_in R key entries) else 0) ≤ suc (length entries)) [ true ↦ omega arith | false ↦ omega arith ]

  put-at : (key : K) (x : X) (entries : List (K × X)) (d : K × X)
      → put R key x entries ≡ cond (is_first R key (drop (place_in R key entries) entries))
      (set entries (place_in R key entries) ((get_or entries (place_in R key entries) d).0, x)) (insert entries (place_in R key entries) (key, x))
  put-at key x [] d = refl
  put-at key x (e ∷ entries) d =
      elim (R key e.0) as (λ r. R key e.0 ≡ r
      → by_order r ((key, x) ∷ e ∷ entries) ((e.0, x) ∷ entries) (e ∷ put R key x entries)
      ≡ cond (is_first R key (drop (if is_gt r then suc (place_in R key entries) else 0) (e ∷ entries)))
      (set (e ∷ entries) (if is_gt r then suc (place_in R key entries) else 0) ((get_or (e ∷ entries) (if is_gt r then suc (place_in R key entries) else 0) d).0, x))
      (insert (e ∷ entries) (if is_gt r then suc (place_in R key entries) else 0) (key, x))) [
        | Less ↦ λ t. sym (ap (λ r. cond (is_eq r) ((e.0, x) ∷ entries) ((key, x) ∷ e ∷ entries)) t)
        | Equal ↦ λ t. sym (ap (λ r. cond (is_eq r) ((e.0, x) ∷ entries) ((key, x) ∷ e ∷ entries)) t)
        | Greater ↦ λ t. ap (λ (z : List (K × X)). e ∷ z) (put-at key x entries d)
            ∙ elim (is_first R key (drop (place_in R key entries) entries)) as (λ b. e ∷ cond b (set entries (place_in R key entries) ((get_or entries (place_in R key entries) d).0, x)) (insert entries (place_in R key entries) (key, x))
            ≡ cond b (e ∷ set entries (place_in R key entries) ((get_or entries (place_in R key entries) d).0, x)) (e ∷ insert entries (place_in R key entries) (key, x))) [ true ↦ refl | false ↦ refl ]
      ] refl

  pub put-there : (key : K) (x : X) (entries : List (K × X)) (at : ℕ) (entry : K × X) → at ≡ place_in R key entries → true ≡ is_first R key (drop at entries)
      → entry ≡ get_or entries at entry → set entries at (entry.0, x) ≡ put R key x entries
  put-there key x entries at entry is there read =
      ap (λ (e : K × X). set entries at (e.0, x)) read
      ∙ subst (λ (k : ℕ). true ≡ is_first R key (drop k entries) → set entries k ((get_or entries k entry).0, x) ≡ put R key x entries) (sym is)
      (λ h. sym (put-at key x entries entry ∙ ap (λ b. cond b (set entries (place_in R key entries) ((get_or entries (place_in R key entries) entry).0, x)) (insert entries (place_in R key entries) (key, x))) (sym h)))
      there

  pub put-new : (key : K) (x : X) (entries : List (K × X)) (at : ℕ) → at ≡ place_in R key entries → false ≡ is_first R key (drop at entries)
      → insert entries at (key, x) ≡ put R key x entries
  put-new key x entries at is there =
      subst (λ (k : ℕ). false ≡ is_first R key (drop k entries) → insert entries k (key, x) ≡ put R key x entries) (sym is)
      (λ h. sym (put-at key x entries (key, x) ∙ ap (λ b. cond b (set entries (place_in R key entries) ((get_or entries (place_in R key entries) (key, x)).0, x)) (insert entries (place_in R key entries) (key, x))) (sym h)))
      there
