-- Lists of numbers: one of different numbers that all stand in another list is not longer.
use Rattle.std.proofs.Common.{◌≡◌, ◌≢◌, ℕ, suc, ◌≤◌, ◌<◌, Bool, true, false, not, cond, List, [], ◌∷◌, map, filter, length, refl, sym, subst, ◌∙◌, ◌⊎◌, inl, inr, arith, ◌==◌}
use Rattle.std.proofs.lemmas.Bool.{eqb-false, ne_eqb, not_from_false}
use Rattle.std.proofs.lemmas.List.Sums.{length-filter}
use Rattle.std.specs.Prelude.{count_by}
use Rattle.nl_field.specs.Members.{Has}
use Rattle.nl_meta.proofs.Facts.{EachTwo}
use Rattle.nl_meta.proofs.Lists.{filter-member, member-filter, member-map}
use Rattle.nl_meta.proofs.Pairs.{is_not, two_filtered, mapped_two}
use Rattle.nl_spec_image.proofs.Sums.{length_mapped}

pub one_less : (n : ℕ) (ms : List ℕ) → Has ms n → length (filter (is_not n) ms) < length ms
one_less n [] h = absurd h
one_less n (m ∷ ms) h =
    elim (m == n) as (λ b. (m == n) ≡ b → length (cond (not b) (m ∷ filter (is_not n) ms) (filter (is_not n) ms)) < suc (length ms)) [
      | true ↦ λ e. omega (arith, no_more ms)
      | false ↦ λ e. later (one_less n ms) e h
    ] refl
  where
    no_more : (ms : List ℕ) → length (filter (is_not n) ms) ≤ length ms
    no_more [] = omega arith
    no_more (m ∷ ms) = elim (not (m == n)) as (λ b. length (cond b (m ∷ filter (is_not n) ms) (filter (is_not n) ms)) ≤ suc (length ms)) [ true ↦ omega (arith, no_more ms) | false ↦ omega (arith, no_more ms) ]

    later : (Has ms n → length (filter (is_not n) ms) < length ms) → (m == n) ≡ false → (m ≡ n) ⊎ Has ms n → suc (length (filter (is_not n) ms)) < suc (length ms)
    later rest e (inl s) = absurd (eqb-false m n e s)
    later rest e (inr h) = omega (arith, rest h)

pub no_longer : (ns ms : List ℕ) → EachTwo (λ a b. a ≢ b) ns → ((n : ℕ) → Has ns n → Has ms n) → length ns ≤ length ms
no_longer [] ms two all = omega arith
no_longer (n ∷ ns) ms two all =
    step (length ns) (length (filter (is_not n) ms)) (length ms)
    (no_longer ns (filter (is_not n) ms) two.1 (λ k m. filter-member (is_not n) ms k (all k (inr m)) (not_from_false _ (ne_eqb k n (λ e. two.0 k m (sym e))))))
    (one_less n ms (all n (inl refl)))
  where
    step : (a b c : ℕ) → a ≤ b → b < c → suc a ≤ c
    step a b c h k = omega arith

-- elements with different keys, of which those that pass have their key in the list
pub few_pass : {X : Type 0} (t : X → Bool) (key : X → ℕ) (xs : List X) (ms : List ℕ) → EachTwo (λ x y. key x ≢ key y) xs → ((x : X) → Has xs x → t x ≡ true → Has ms (key x)) → count_by t xs ≤ length ms
few_pass {X} t key xs ms two all =
    subst (λ (k : ℕ). k ≤ length ms) (length_mapped key (filter t xs) ∙ length-filter t xs)
    (no_longer (map key (filter t xs)) ms (mapped_two (λ a b. a ≢ b) key (filter t xs) (two_filtered (λ x y. key x ≢ key y) t xs two))
    (λ n m. let q = member-map key (filter t xs) n m in let f = member-filter t xs q.0 q.1 in subst (λ (k : ℕ). Has ms k) q.2 (all q.0 f.0 f.1)))
