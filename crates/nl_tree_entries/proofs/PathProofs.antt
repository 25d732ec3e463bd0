-- Paths: what lies under what, and where that stands in their order.
use Rattle.std.proofs.Common.{◌≡◌, ◌<◌, ℕ, true, false, List, [], ◌∷◌, ◌++◌, length, take, drop, ap, sym, refl, arith, ◌∙◌}
use Rattle.std.proofs.lemmas.List.{take_all}
use Rattle.std.specs.declared.cmp.Ordering.TheVariants.{Less, Equal, Greater}
use Rattle.std.specs.Ordering.{nat_cmp, is_eq, ordering_then, ordering_reverse}
use Rattle.std.specs.Cmp.{IsTotalOrder, nat_cmp_total, tied_itself}
use Rattle.std.specs.Cmp.Lexicographic.{slice_cmp, lists_total}
use Rattle.nl_tree.specs.Tree.{path_cmp, paths_eq, is_at_or_under}
use Rattle.nl_tree.proofs.TreeProofs.{eq_path, not_true, under_parts}

pub not_under_short : (p q : List (List ℕ)) → length q < length p → false ≡ is_at_or_under p q
not_under_short p q h =
    let whole : take (length p) q ≡ q = take_all (length p) q (omega arith) in
    sym (not_true _ (λ t. absurd (omega (arith, ap length (eq_path p q (sym (ap (paths_eq p) whole) ∙ t))))))

names_total : IsTotalOrder (slice_cmp nat_cmp)
names_total = lists_total nat_cmp_total

-- what lies under a path is not before it
not_before : (p r : List (List ℕ)) → path_cmp (p ++ r) p ≡ Less → ⊥
not_before [] [] e = cc
not_before [] (x ∷ r) e = cc
not_before (a ∷ p) r e = not_before p r (sym (ap (λ o. ordering_then o (path_cmp (p ++ r) p)) (tied_itself names_total a)) ∙ e)

pub before_not_under : (p x : List (List ℕ)) → path_cmp x p ≡ Less → is_at_or_under p x ≡ false
before_not_under p x e = not_true _ (λ t. absurd (not_before p (drop (length p) x) (ap (λ (q : List (List ℕ)). path_cmp q p) (under_parts p x t) ∙ e)))

-- what stands between a path and what lies under it lies under it too
between : (p x r : List (List ℕ)) → path_cmp p x ≡ Less → path_cmp x (p ++ r) ≡ Less → is_at_or_under p x ≡ true
between [] x r a b = refl
between (n ∷ p) [] r a b = cc
between (n ∷ p) (m ∷ x) r a b =
    let back = names_total.antisymm m n in
    elim (slice_cmp nat_cmp n m) as (λ o. slice_cmp nat_cmp m n ≡ ordering_reverse o → ordering_then o (path_cmp p x) ≡ Less → is_eq (ordering_then o (path_cmp p (take (length p) x))) ≡ true) [
      | Less ↦ λ e h. let k : Greater ≡ Less = sym (ap (λ o. ordering_then o (path_cmp x (p ++ r))) e) ∙ b in cc
      | Equal ↦ λ e h. between p x r h (sym (ap (λ o. ordering_then o (path_cmp x (p ++ r))) e) ∙ b)
      | Greater ↦ λ e h. let k : Greater ≡ Less = h in cc
    ] back a

pub behind_not_under : (p x y : List (List ℕ)) → path_cmp p x ≡ Less → is_at_or_under p x ≡ false → path_cmp x y ≡ Less → is_at_or_under p y ≡ false
behind_not_under p x y a out b =
    not_true _ (λ t. sym out ∙ between p x (drop (length p) y) a (ap (path_cmp x) (under_parts p y t) ∙ b))
