-- Lists of node numbers, and sums over them.
use Rattle.std.proofs.Common.{◌≡◌, ℕ, suc, ◌+◌, ◌<◌, Bool, true, false, cond, List, [], ◌∷◌, map, filter, filter_map, flat_map, refl, sym, ap, ◌∙◌, Option, Some, None, option_map, inl, inr, arith, length, sum_by, length-append}
use Rattle.std.proofs.lemmas.List.Sums.{sum_by-cons}
use Rattle.std.specs.List.{cons_option, AllByRecursion}
use Rattle.nl_field.specs.declared.inode.InodeRec.{InodeRec}
use Rattle.nl_tree.specs.CountLaws.{Differ}
use Rattle.nl_field.specs.Members.{Has}
use Rattle.nl_meta.proofs.Facts.{EachTwo}
use Rattle.nl_meta.proofs.Lists.{member-map}

pub all_by : (P : ℕ → Type 0) (ns : List ℕ) → ((n : ℕ) → Has ns n → P n) → AllByRecursion P ns
all_by P [] f = tt
all_by P (n ∷ ns) f = (f n (inl refl), all_by P ns (λ m h. f m (inr h)))

pub differ_rising : (xs : List (ℕ × InodeRec)) → EachTwo (λ x y. x.0 < y.0) xs → Differ (map (λ x. x.0) xs)
differ_rising [] h = tt
differ_rising (x ∷ xs) h = ((λ i. later (member-map (λ (x : ℕ × InodeRec). x.0) xs x.0 i)), differ_rising xs h.1)
  where
    itself : (a b : ℕ) → b ≡ a → a < b → ⊥
    itself a b e h = omega arith

    later : (y : ℕ × InodeRec) × Has xs y × (y.0 ≡ x.0) → ⊥
    later q = itself x.0 q.0.0 q.2 (h.0 q.0 q.1)

pub sum_mapped : {X Y : Type 0} (f : Y → ℕ) (k : X → Y) (xs : List X) → sum_by f (map k xs) ≡ sum_by (λ x. f (k x)) xs
sum_mapped f k [] = refl
sum_mapped f k (x ∷ xs) = sum_by-cons f (k x) (map k xs) ∙ ap (λ (n : ℕ). f (k x) + n) (sum_mapped f k xs) ∙ sym (sum_by-cons (λ x. f (k x)) x xs)

pub length_mapped : {X Y : Type 0} (k : X → Y) (xs : List X) → length (map k xs) ≡ length xs
length_mapped k [] = refl
length_mapped k (x ∷ xs) = ap (λ (n : ℕ). suc n) (length_mapped k xs)

pub length_flat : {X Y : Type 0} (k : X → List Y) (xs : List X) → length (flat_map k xs) ≡ sum_by (λ x. length (k x)) xs
length_flat k [] = refl
length_flat k (x ∷ xs) = length-append (k x) (flat_map k xs) ∙ ap (λ (n : ℕ). length (k x) + n) (length_flat k xs) ∙ sym (sum_by-cons (λ x. length (k x)) x xs)

-- a sum over the numbers for which something is given and passes, where the others add nothing
pub sum_given : {X : Type 0} (f : ℕ → ℕ) (k : ℕ → Option X) (t : ℕ × X → Bool) (ns : List ℕ)
    → ((n : ℕ) → Has ns n → k n ≡ None → f n ≡ 0) → ((n : ℕ) (x : X) → Has ns n → k n ≡ Some x → t (n, x) ≡ false → f n ≡ 0)
    → sum_by f (map (λ x. x.0) (filter t (filter_map (λ n. option_map (λ x. (n, x)) (k n)) ns))) ≡ sum_by f ns
sum_given f k t [] none off = refl
sum_given {X} f k t (n ∷ ns) none off =
    elim (k n) as (λ o. k n ≡ o → sum_by f (map (λ x. x.0) (filter t (cons_option (option_map (λ x. (n, x)) o) (filter_map (λ n. option_map (λ x. (n, x)) (k n)) ns)))) ≡ f n + sum_by f ns) [
      | None ↦ λ e. sum_given f k t ns (λ m h. none m (inr h)) (λ m x h. off m x (inr h)) ∙ nothing_first (f n) (sum_by f ns) (none n (inl refl) e)
      | Some x ↦ λ e. elim (t (n, x)) as (λ b. t (n, x) ≡ b
          → sum_by f (map (λ x. x.0) (cond b ((n, x) ∷ filter t (filter_map (λ n. option_map (λ x. (n, x)) (k n)) ns)) (filter t (filter_map (λ n. option_map (λ x. (n, x)) (k n)) ns)))) ≡ f n + sum_by f ns) [
            | true ↦ λ b. sum_by-cons f n (map (λ x. x.0) (filter t (filter_map (λ n. option_map (λ x. (n, x)) (k n)) ns))) ∙ ap (λ (s : ℕ). f n + s) (sum_given f k t ns (λ m h. none m (inr h)) (λ m x h. off m x (inr h)))
            | false ↦ λ b. sum_given f k t ns (λ m h. none m (inr h)) (λ m x h. off m x (inr h)) ∙ nothing_first (f n) (sum_by f ns) (off n x (inl refl) e b)
          ] refl
    ] refl ∙ sym (sum_by-cons f n ns)
  where
    nothing_first : (a s : ℕ) → a ≡ 0 → s ≡ a + s
    nothing_first a s e = omega arith
