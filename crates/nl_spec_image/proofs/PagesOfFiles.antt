-- The pages of a file, by rising index, and their bytes.
use Rattle.std.proofs.Common.{◌≡◌, ℕ, ◌+◌, ◌<◌, Bool, true, false, not, cond, List, [], ◌∷◌, ◌++◌, map, filter, flat_map, refl, ap, arith, nat_lt}
use Rattle.std.proofs.lemmas.Bool.{and_from, cond-true, lt-ltb}
use Rattle.std.specs.FinMap.{is_sorted}
use Rattle.std.specs.FinMap.Entries.{below_all}
use Rattle.std.specs.List.{enumerate_from}
use Rattle.std.specs.Ordering.{nat_cmp, is_lt}
use Rattle.std.specs.declared.cmp.Ordering.TheVariants.{Less}
use Rattle.nl_field.specs.Pointers.{is_none_pointer}
use Rattle.nl_field.specs.declared.inode.InodeRec.{InodeRec}
use Rattle.nl_field.specs.declared.pointer.Pointer.{Pointer}
use Rattle.nl_meta.specs.Committed.{VirtualMap}
use Rattle.nl_meta.specs.Nodes.{pointers_of_inode, pointers_at}

below_later : {X Y : Type 0} (g : X → Y) (t : ℕ × X → Bool) (k a : ℕ) (xs : List X) → k < a → below_all nat_cmp k (map (λ p. (p.0, g p.1)) (filter t (enumerate_from a xs))) ≡ true
below_later g t k a [] h = refl
below_later {X} {Y} g t k a (x ∷ xs) h =
    elim (t (a, x)) as (λ b. below_all nat_cmp k (map (λ p. (p.0, g p.1)) (cond b ((a, x) ∷ filter t (enumerate_from (a + 1) xs)) (filter t (enumerate_from (a + 1) xs)))) ≡ true) [
      | true ↦ and_from _ _ (ap is_lt (cond-true (nat_lt k a) Less _ (lt-ltb k a h))) (below_later g t k (a + 1) xs (omega (arith, h)))
      | false ↦ below_later g t k (a + 1) xs (omega (arith, h))
    ]

sorted_pages : {X Y : Type 0} (g : X → Y) (t : ℕ × X → Bool) (a : ℕ) (xs : List X) → is_sorted nat_cmp (map (λ p. (p.0, g p.1)) (filter t (enumerate_from a xs))) ≡ true
sorted_pages g t a [] = refl
sorted_pages {X} {Y} g t a (x ∷ xs) =
    elim (t (a, x)) as (λ b. is_sorted nat_cmp (map (λ p. (p.0, g p.1)) (cond b ((a, x) ∷ filter t (enumerate_from (a + 1) xs)) (filter t (enumerate_from (a + 1) xs)))) ≡ true) [
      | true ↦ and_from _ _ (below_later g t a (a + 1) xs (omega arith)) (sorted_pages g t (a + 1) xs)
      | false ↦ sorted_pages g t (a + 1) xs
    ]

pub sorted_in : (b : ℕ → List ℕ) (pages : VirtualMap) (rec : InodeRec) → is_sorted nat_cmp (map (λ p. (p.0, b p.1.stamp)) (pointers_of_inode pages rec)) ≡ true
unfolding pointers_of_inode
sorted_in b pages rec = sorted_pages (λ (p : Pointer). b p.stamp) (λ p. not (is_none_pointer p.1)) 0 (rec.direct ++ flat_map (pointers_at pages) rec.addresses)
