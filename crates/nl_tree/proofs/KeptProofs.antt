-- How a change at one path changes the sums over a tree.
use Rattle.std.proofs.Common.{◌≡◌, ◌<◌, ◌≤◌, ◌+◌, ◌-◌, ◌==◌, ◌&&◌, ◌||◌, ℕ, Bool, true, false, not, T, cond, List, [], ◌∷◌, length, take, nat_lt, sum_by, ap, sym, subst, refl, arith, ◌∙◌, Option, Some, None, option_map, is_some}
use Rattle.std.specs.Bool.{passes}
use Rattle.std.specs.List.{list_any}
use Rattle.std.specs.Option.{option_map_or}
use Rattle.std.proofs.lemmas.Bool.{eqb-true}
use Rattle.std.proofs.lemmas.Bool.Decides.{nat_tests}
use Rattle.std.proofs.lemmas.List.{length-take-le}
use Rattle.std.proofs.lemmas.List.Sums.{sum_by-cons, length-filter}
use Rattle.std.specs.declared.cmp.Ordering.{Ordering}
use Rattle.std.specs.declared.cmp.Ordering.TheVariants.{Less, Equal, Greater}
use Rattle.std.specs.Ordering.{is_lt, is_eq}
use Rattle.std.specs.FinMap.Entries.{find, put, by_order, where_key, below_all, is_sorted, find-where_key, is_sorted-where_key}
use Rattle.nl_field.specs.Numbers.{max_entries}
use Rattle.nl_field.specs.declared.shape.Shape.{Shape}
use Rattle.nl_field.specs.FileContent.{FileContent, empty_file}
use Rattle.nl_tree.specs.declared.call.Call.{Call}
use Rattle.nl_tree.specs.declared.call.Call.TheVariants.{Mkdir, Rmdir, Create, Unlink, Rename, Write, Fill, Read, Truncate, Stat, List as ListCall, Sync, Clean}
use Rattle.nl_tree.specs.Tree.{Node, directory, file, Tree, path_cmp, paths_eq, is_at_or_under, node_at, entries_of, with_new, with_content, without}
use Rattle.nl_tree.specs.TreeLaws.{IsInOrder}
use Rattle.nl_tree.specs.Step.{space_refusal, effect_of}
use Rattle.nl_tree.specs.Charges.{data_of_node, ranges_of_node, data_charge, meta_charge}
use Rattle.nl_tree.specs.KeptSums.{is_entry_of, IsChangeAt, has_overfull, parent_of, data_part, ranges_part, count_at, count_part, pages_of_entries, overfull, changed_path}
use Rattle.nl_tree.proofs.TreeProofs.{eq_path, path_eq, not_true, alike}
use Rattle.nl_tree.proofs.SpaceProofs.{data-is, meta-is, of_both, few_entries}
use Rattle.nl_tree.proofs.StepProofs.{order_after}

abbrev E : Type 0
E = List (List ℕ) × Node

abbrev others : List (List ℕ) → Tree → Tree
others p t = where_key path_cmp (λ q. not (paths_eq p q)) t

first : (a b : Bool) → T (a && b) → T a
first true b h = tt
first false b h = h

second : (a b : Bool) → T (a && b) → T b
second true b h = h
second false b h = absurd h

unequal : (o : Ordering) → T (is_lt o) → is_eq o ≡ false
unequal Less h = refl
unequal Equal h = absurd h
unequal Greater h = absurd h

all_stay : (p : List (List ℕ)) (t : Tree) → T (below_all path_cmp p t) → others p t ≡ t
all_stay p [] h = refl
all_stay p (e ∷ t) h =
    let w = others p t in
    ap (λ b. cond (not b) (e ∷ w) w) (unequal (path_cmp p e.0) (first _ _ h)) ∙ ap (λ (x : Tree). e ∷ x) (all_stay p t (second _ _ h))

-- a sum is that of the other paths and what the path adds
pub sum_of_others : (f : E → ℕ) (p : List (List ℕ)) (t : Tree) → T (is_sorted path_cmp t)
    → sum_by f t ≡ option_map_or (λ x. f (p, x)) (find path_cmp p t) 0 + sum_by f (others p t)
sum_of_others f p [] h = refl
sum_of_others f p (e ∷ t) h =
    let w = others p t in
    elim (paths_eq p e.0) as (λ b. paths_eq p e.0 ≡ b → sum_by f (e ∷ t) ≡ option_map_or (λ x. f (p, x)) (cond b (Some e.1) (find path_cmp p t)) 0 + sum_by f (cond (not b) (e ∷ w) w)) [
      | true ↦ λ b.
          let same : p ≡ e.0 = eq_path p e.0 b in
          let stay : w ≡ t = all_stay p t (subst (λ (x : List (List ℕ)). T (below_all path_cmp x t)) (sym same) (first _ _ h)) in
          sum_by-cons f e t ∙ (λ i. f (sym same i, e.1) + sum_by f (sym stay i))
      | false ↦ λ b. here (f e) _ (sum_by f t) (sum_by f w) _ _ (sum_by-cons f e t) (sum_by-cons f e w) (sum_of_others f p t (second _ _ h))
    ] refl
  where
    here : (a o s w st sw : ℕ) → st ≡ a + s → sw ≡ a + w → s ≡ o + w → st ≡ o + sw
    here a o s w st sw d g r = omega arith

-- sums over the other paths that agree there
same_others : (f g : E → ℕ) (p : List (List ℕ)) (t : Tree) → ((e : E) → paths_eq p e.0 ≡ false → f e ≡ g e) → sum_by f (others p t) ≡ sum_by g (others p t)
same_others f g p [] same = refl
same_others f g p (e ∷ t) same =
    let w = others p t in
    elim (paths_eq p e.0) as (λ b. paths_eq p e.0 ≡ b → sum_by f (cond (not b) (e ∷ w) w) ≡ sum_by g (cond (not b) (e ∷ w) w)) [
      | true ↦ λ b. same_others f g p t same
      | false ↦ λ b. here _ _ _ _ _ _ (sum_by-cons f e w) (sum_by-cons g e w) (same e b) (same_others f g p t same)
    ] refl
  where
    here : (fs gs a b s t : ℕ) → fs ≡ a + s → gs ≡ b + t → a ≡ b → s ≡ t → fs ≡ gs
    here fs gs a b s t d g e r = omega arith

-- ---- a change at one path

rests : (p : List (List ℕ)) (t n : Tree) → IsChangeAt p t n → others p t ≡ others p n
unfolding without
rests p t n c = c.others

sum_changed : (f : E → ℕ) (p : List (List ℕ)) (t n : Tree) → IsChangeAt p t n
    → sum_by f n + option_map_or (λ x. f (p, x)) (find path_cmp p t) 0 ≡ sum_by f t + option_map_or (λ x. f (p, x)) (find path_cmp p n) 0
sum_changed f p t n c =
    turned _ _ _ _ _ _ (sum_of_others f p t (passes _ c.in_order)) (sum_of_others f p n (passes _ c.next_in_order)) (ap (sum_by f) (rests p t n c))
  where
    turned : (st sn a b r s : ℕ) → st ≡ a + r → sn ≡ b + s → r ≡ s → sn + a ≡ st + b
    turned st sn a b r s d g e = omega arith

-- how many entries a directory has is a sum
count_sum : (q : List (List ℕ)) (t : Tree) → length (entries_of t q) ≡ sum_by (λ e. cond (is_entry_of q e.0) 1 0) t
unfolding entries_of
count_sum q t = length-filter (λ e. is_entry_of q e.0) t

count_changed : (p q : List (List ℕ)) (t n : Tree) → IsChangeAt p t n
    → length (entries_of n q) + option_map_or (λ x. cond (is_entry_of q p) 1 0) (find path_cmp p t) 0 ≡ length (entries_of t q) + option_map_or (λ x. cond (is_entry_of q p) 1 0) (find path_cmp p n) 0
count_changed p q t n c = (λ i. count_sum q n i + option_map_or (λ x. cond (is_entry_of q p) 1 0) (find path_cmp p t) 0) ∙ sum_changed (λ e. cond (is_entry_of q e.0) 1 0) p t n c
    ∙ (λ i. sym (count_sum q t) i + option_map_or (λ x. cond (is_entry_of q p) 1 0) (find path_cmp p n) 0)

nothing : (o : Option Node) (b : Bool) → b ≡ false → option_map_or {U = ℕ} (λ x. cond b 1 0) o 0 ≡ 0
nothing (Some x) true h = cc
nothing (Some x) false h = refl
nothing None b h = refl

-- of a directory that is not the parent it stays
pub count_stays : (p q : List (List ℕ)) (t n : Tree) → IsChangeAt p t n → is_entry_of q p ≡ false → length (entries_of t q) ≡ length (entries_of n q)
count_stays p q t n c h = equal _ _ _ _ (count_changed p q t n c) (nothing (find path_cmp p t) _ h) (nothing (find path_cmp p n) _ h)
  where
    equal : (a b x y : ℕ) → b + x ≡ a + y → x ≡ 0 → y ≡ 0 → a ≡ b
    equal a b x y e d g = omega arith

both_true : (a b : Bool) → (a && b) ≡ true → (a ≡ true) × (b ≡ true)
both_true true b h = (refl, h)
both_true false b h = cc

-- a path is an entry of its parent alone
entry_of_parent : (q p : List (List ℕ)) → is_entry_of q p ≡ true → q ≡ parent_of p
entry_of_parent q p h =
    let parts = both_true _ _ h in
    let longer : length p ≡ length q + 1 = eqb-true _ _ parts.0 in
    let len : length q ≡ length p - 1 = omega arith in
    eq_path q _ parts.1 ∙ ap (λ (k : ℕ). take k p) len

not_itself : (p : List (List ℕ)) → is_entry_of p p ≡ false
not_itself p = ap (λ b. b && is_at_or_under p p) (longer (length p))
  where
    longer : (k : ℕ) → (k == k + 1) ≡ false
    longer k = grind (arith, nat_tests)

-- a path other than the root is not its parent
other_path : (p : List (List ℕ)) → 0 < length p → paths_eq p (parent_of p) ≡ false
other_path p some = not_true _ (λ t. absurd (omega (arith, some, ap length (eq_path p (parent_of p) t), length-take-le (length p - 1) p (omega arith))))

found_other : (p q : List (List ℕ)) (t : Tree) → paths_eq p q ≡ false → find path_cmp q (others p t) ≡ find path_cmp q t
found_other p q t h =
    find-where_key path_cmp (λ x. not (paths_eq p x)) q (alike (λ x. not (paths_eq p x)) q) t ∙ ap (λ b. cond (not b) (find path_cmp q t) None) h

abbrev at : (ℕ → ℕ) → Tree → E → ℕ
at f t e = f (length (entries_of t e.0))

part_is : (f : ℕ → ℕ) (t : Tree) (p : List (List ℕ)) → option_map_or (λ x. at f t (p, x)) (find path_cmp p t) 0 ≡ count_part f (count_at t p)
unfolding node_at
part_is f t p = by (find path_cmp p t)
  where
    by : (o : Option Node) → option_map_or (λ x. at f t (p, x)) o 0 ≡ option_map_or f (option_map (λ x. length (entries_of t p)) o) 0
    by (Some x) = refl
    by None = refl

-- a sum over the counts of entries is that of the other paths, what the path adds and what its parent adds
counts_of_others : (f : ℕ → ℕ) (p : List (List ℕ)) (t : Tree) → 0 < length p → T (is_sorted path_cmp t)
    → sum_by (at f t) t ≡ count_part f (count_at t p) + (count_part f (count_at t (parent_of p)) + sum_by (at f t) (others (parent_of p) (others p t)))
counts_of_others f p t some sorted =
    let q = parent_of p in
    sum_of_others (at f t) p t sorted
    ∙ (λ i. part_is f t p i + sum_of_others (at f t) q (others p t) (is_sorted-where_key path_cmp (λ x. not (paths_eq p x)) t sorted) i)
    ∙ (λ i. count_part f (count_at t p) + ((ap (λ (o : Option Node). option_map_or (λ x. at f t (q, x)) o 0) (found_other p q t (other_path p some)) ∙ part_is f t q) i + sum_by (at f t) (others q (others p t))))

pub counts_changed : (f : ℕ → ℕ) (p : List (List ℕ)) (t n : Tree) → 0 < length p → IsChangeAt p t n
    → sum_by (at f n) n + (count_part f (count_at t p) + count_part f (count_at t (parent_of p))) ≡ sum_by (at f t) t + (count_part f (count_at n p) + count_part f (count_at n (parent_of p)))
counts_changed f p t n some c =
    let q = parent_of p in
    let stays : (e : E) → paths_eq q e.0 ≡ false → at f t e ≡ at f n e =
    λ e off. ap f (count_stays p e.0 t n c (not_true _ (λ h. sym off ∙ path_eq q e.0 (sym (entry_of_parent e.0 p h))))) in
    let same : sum_by (at f t) (others q (others p t)) ≡ sum_by (at f n) (others q (others p n)) =
    same_others (at f t) (at f n) q (others p t) stays ∙ ap (λ (x : Tree). sum_by (at f n) (others q x)) (rests p t n c) in
    turned _ _ _ _ _ _ _ _ (counts_of_others f p t some (passes _ c.in_order)) (counts_of_others f p n some (passes _ c.next_in_order)) same
  where
    turned : (st sn a b x y r s : ℕ) → st ≡ a + (b + r) → sn ≡ x + (y + s) → r ≡ s → sn + (a + b) ≡ st + (x + y)
    turned st sn a b x y r s d g e = omega arith

-- ---- the charges

nodes_changed : (f : Node → ℕ) (p : List (List ℕ)) (t n : Tree) → IsChangeAt p t n
    → sum_by (λ e. f e.1) n + option_map_or f (node_at t p) 0 ≡ sum_by (λ e. f e.1) t + option_map_or f (node_at n p) 0
unfolding node_at
nodes_changed f p t n c = sum_changed (λ e. f e.1) p t n c

pub data_changed : (p : List (List ℕ)) (t n : Tree) (was now : Option Node) → IsChangeAt p t n → was ≡ node_at t p → now ≡ node_at n p → data_charge n + data_part was ≡ data_charge t + data_part now
data_changed p t n was now c is_was is_now =
    (λ i. sym (data-is n) i + data_part (is_was i)) ∙ nodes_changed data_of_node p t n c ∙ (λ i. data-is t i + data_part (sym is_now i))

meta_parts : (t : Tree) → meta_charge t ≡ sum_by (at pages_of_entries t) t + sum_by (λ e. ranges_of_node e.1) t
meta_parts t = sym (of_both (at pages_of_entries t) (λ e. ranges_of_node e.1) t ∙ meta-is t)

pub meta_changed : (p : List (List ℕ)) (t n : Tree) (was now : Option Node) (was_own was_parent own parent : Option ℕ) → 0 < length p → IsChangeAt p t n → was ≡ node_at t p → now ≡ node_at n p
    → was_own ≡ count_at t p → was_parent ≡ count_at t (parent_of p) → own ≡ count_at n p → parent ≡ count_at n (parent_of p)
    → meta_charge n + (count_part pages_of_entries was_own + count_part pages_of_entries was_parent + ranges_part was) ≡ meta_charge t + (count_part pages_of_entries own + count_part pages_of_entries parent + ranges_part now)
meta_changed p t n was now was_own was_parent own parent some c is_was is_now a b d e =
    (λ i. meta_charge n + (count_part pages_of_entries (a i) + count_part pages_of_entries (b i) + ranges_part (is_was i)))
    ∙ turned _ _ _ _ _ _ _ _ _ _ (meta_parts t) (meta_parts n) (counts_changed pages_of_entries p t n some c) (nodes_changed ranges_of_node p t n c)
    ∙ (λ i. meta_charge t + (count_part pages_of_entries (sym d i) + count_part pages_of_entries (sym e i) + ranges_part (sym is_now i)))
  where
    turned : (mt mn st sn rt rn a b x y : ℕ) → mt ≡ st + rt → mn ≡ sn + rn → sn + a ≡ st + b → rn + x ≡ rt + y → mn + (a + x) ≡ mt + (b + y)
    turned mt mn st sn rt rn a b x y d g e h = omega arith

-- ---- where the path is there before and after

same_own : (p : List (List ℕ)) (t n : Tree) (x y : Node) → IsChangeAt p t n → node_at t p ≡ Some x → node_at n p ≡ Some y → count_at t p ≡ count_at n p
same_own p t n x y c a b =
    (λ i. option_map (λ (z : Node). length (entries_of t p)) (a i)) ∙ ap Some (count_stays p p t n c (not_itself p)) ∙ (λ i. option_map (λ (z : Node). length (entries_of n p)) (sym b i))

same_of : (p q : List (List ℕ)) (t n : Tree) (x y : Node) → IsChangeAt p t n → node_at t p ≡ Some x → node_at n p ≡ Some y → length (entries_of t q) ≡ length (entries_of n q)
unfolding node_at
same_of p q t n x y c a b =
    let one : ℕ = cond (is_entry_of q p) 1 0 in
    equal _ _ _ _ one (count_changed p q t n c) (ap (λ (o : Option Node). option_map_or (λ z. one) o 0) a) (ap (λ (o : Option Node). option_map_or (λ z. one) o 0) b)
  where
    equal : (a b x y k : ℕ) → b + x ≡ a + y → x ≡ k → y ≡ k → a ≡ b
    equal a b x y k e d g = omega arith

same_parent : (p : List (List ℕ)) (t n : Tree) (x y : Node) → 0 < length p → IsChangeAt p t n → node_at t p ≡ Some x → node_at n p ≡ Some y
    → count_at t (parent_of p) ≡ count_at n (parent_of p)
unfolding node_at
same_parent p t n x y some c a b =
    let q = parent_of p in
    let found : find path_cmp q t ≡ find path_cmp q n =
    sym (found_other p q t (other_path p some)) ∙ ap (λ (z : Tree). find path_cmp q z) (rests p t n c) ∙ found_other p q n (other_path p some) in
    (λ i. option_map (λ (z : Node). same_of p q t n x y c a b i) (found i))

counts_kept : (f : ℕ → ℕ) (p : List (List ℕ)) (t n : Tree) (x y : Node) → 0 < length p → IsChangeAt p t n → node_at t p ≡ Some x → node_at n p ≡ Some y
    → sum_by (at f n) n ≡ sum_by (at f t) t
counts_kept f p t n x y some c a b =
    equal _ _ _ _ _ _ (counts_changed f p t n some c) (ap (count_part f) (same_own p t n x y c a b)) (ap (count_part f) (same_parent p t n x y some c a b))
  where
    equal : (sn st a b x y : ℕ) → sn + (a + b) ≡ st + (x + y) → a ≡ x → b ≡ y → sn ≡ st
    equal sn st a b x y e d g = omega arith

there : (o : Option Node) → is_some o ≡ true → (x : Node) × (o ≡ Some x)
there (Some x) h = (x, refl)
there None h = cc

pub meta_kept : (p : List (List ℕ)) (t n : Tree) (was now : Option Node) → 0 < length p → IsChangeAt p t n → was ≡ node_at t p → now ≡ node_at n p → is_some was ≡ true → is_some now ≡ true
    → meta_charge n + ranges_part was ≡ meta_charge t + ranges_part now
meta_kept p t n was now some c is_was is_now a b =
    let x = there was a in
    let y = there now b in
    (λ i. meta_charge n + ranges_part (is_was i))
    ∙ turned _ _ _ _ _ _ _ _ (meta_parts t) (meta_parts n) (counts_kept pages_of_entries p t n x.0 y.0 some c (sym is_was ∙ x.1) (sym is_now ∙ y.1)) (nodes_changed ranges_of_node p t n c)
    ∙ (λ i. meta_charge t + ranges_part (sym is_now i))
  where
    turned : (mt mn st sn rt rn x y : ℕ) → mt ≡ st + rt → mn ≡ sn + rn → sn ≡ st → rn + x ≡ rt + y → mn + x ≡ mt + y
    turned mt mn st sn rt rn x y d g e h = omega arith

any_sum : (f : E → Bool) (t : Tree) → list_any f t ≡ nat_lt 0 (sum_by (λ e. cond (f e) 1 0) t)
any_sum f [] = refl
any_sum f (e ∷ t) =
    elim (f e) as (λ b. (b || list_any f t) ≡ nat_lt 0 (cond b 1 0 + sum_by (λ x. cond (f x) 1 0) t)) [ true ↦ grind (arith, nat_tests) | false ↦ any_sum f t ∙ ap (λ (k : ℕ). nat_lt 0 k) (none (sum_by (λ x. cond (f x) 1 0) t)) ]
    ∙ ap (λ (k : ℕ). nat_lt 0 k) (sym (sum_by-cons (λ x. cond (f x) 1 0) e t))
  where
    none : (k : ℕ) → k ≡ 0 + k
    none k = omega arith

pub overfull_changed : (p : List (List ℕ)) (t n : Tree) → 0 < length p → IsChangeAt p t n → has_overfull t ≡ false
    → has_overfull n ≡ nat_lt 0 (count_part overfull (count_at n p) + count_part overfull (count_at n (parent_of p)))
overfull_changed p t n some c none =
    any_sum (λ e. nat_lt max_entries (length (entries_of n e.0))) n
    ∙ ap (λ (k : ℕ). nat_lt 0 k) (turned _ _ _ _ _ _ _ (zero _ (sym (any_sum (λ e. nat_lt max_entries (length (entries_of t e.0))) t) ∙ none)) (counts_of_others overfull p t some (passes _ c.in_order)) (counts_changed overfull p t n some c))
  where
    zero : (k : ℕ) → nat_lt 0 k ≡ false → k ≡ 0
    zero k h = grind (arith, nat_tests, h)

    turned : (st sn a b x y r : ℕ) → st ≡ 0 → st ≡ a + (b + r) → sn + (a + b) ≡ st + (x + y) → sn ≡ x + y
    turned st sn a b x y r z d e = omega arith

pub overfull_kept : (shape : Shape) (p : List (List ℕ)) (t n : Tree) (was now : Option Node) → 0 < length p → IsChangeAt p t n → None ≡ space_refusal shape t
    → was ≡ node_at t p → now ≡ node_at n p → is_some was ≡ true → is_some now ≡ true → false ≡ has_overfull n
overfull_kept shape p t n was now some c room is_was is_now a b =
    let x = there was a in
    let y = there now b in
    sym (few_entries shape t (sym room)) ∙ any_sum (λ e. nat_lt max_entries (length (entries_of t e.0))) t
    ∙ ap (λ (k : ℕ). nat_lt 0 k) (sym (counts_kept overfull p t n x.0 y.0 some c (sym is_was ∙ x.1) (sym is_now ∙ y.1)))
    ∙ sym (any_sum (λ e. nat_lt max_entries (length (entries_of n e.0))) n)

-- from the counts of the path and of its parent
pub overfull_is : (shape : Shape) (p : List (List ℕ)) (t n : Tree) (own parent : Option ℕ) (full : Bool) → 0 < length p → IsChangeAt p t n → None ≡ space_refusal shape t
    → own ≡ count_at n p → parent ≡ count_at n (parent_of p) → full ≡ nat_lt 0 (count_part overfull own + count_part overfull parent) → full ≡ has_overfull n
overfull_is shape p t n own parent full some c room is_own is_parent is =
    is ∙ (λ i. nat_lt 0 (count_part overfull (is_own i) + count_part overfull (is_parent i))) ∙ sym (overfull_changed p t n some c (few_entries shape t (sym room)))

-- ---- a sum and a limit

pub beyond : (limit sum : ℕ) → limit < sum → true ≡ nat_lt limit sum
beyond limit sum h = grind (arith, nat_tests)

pub within : (limit sum n : ℕ) → n ≡ sum → n ≤ limit → false ≡ nat_lt limit sum
within limit sum n e h = grind (arith, nat_tests)

-- ---- which call is a change at one path

put_others : (p : List (List ℕ)) (x : Node) (t : Tree) → others p (put path_cmp p x t) ≡ others p t
put_others p x [] = ap (λ b. cond (not b) ((p, x) ∷ []) []) (path_eq p p refl)
put_others p x (e ∷ t) =
    let w = others p t in
    elim (path_cmp p e.0) as (λ o. path_cmp p e.0 ≡ o → others p (by_order o ((p, x) ∷ e ∷ t) ((e.0, x) ∷ t) (e ∷ put path_cmp p x t)) ≡ others p (e ∷ t)) [
      | Less ↦ λ o. ap (λ b. cond (not b) ((p, x) ∷ others p (e ∷ t)) (others p (e ∷ t))) (path_eq p p refl)
      | Equal ↦ λ o. ap (λ r. cond (not (is_eq r)) ((e.0, x) ∷ w) w) o ∙ sym (ap (λ r. cond (not (is_eq r)) (e ∷ w) w) o)
      | Greater ↦ λ o. ap (λ (z : Tree). cond (not (paths_eq p e.0)) (e ∷ z) z) (put_others p x t)
    ] refl

twice_others : (p : List (List ℕ)) (t : Tree) → others p (others p t) ≡ others p t
twice_others p [] = refl
twice_others p (e ∷ t) =
    let w = others p t in
    elim (paths_eq p e.0) as (λ b. paths_eq p e.0 ≡ b → others p (cond (not b) (e ∷ w) w) ≡ cond (not b) (e ∷ w) w) [
      | true ↦ λ b. twice_others p t
      | false ↦ λ b. ap (λ b. cond (not b) (e ∷ others p w) (others p w)) b ∙ ap (λ (z : Tree). e ∷ z) (twice_others p t)
    ] refl

same_new : (p : List (List ℕ)) (x : Node) (t : Tree) → without t p ≡ without (with_new t p x) p
unfolding without with_new
same_new p x t = sym (put_others p x t)

same_content : (p : List (List ℕ)) (c : FileContent) (t : Tree) → without t p ≡ without (with_content t p c) p
unfolding without with_content
same_content p c t = sym (put_others p (file c) t)

same_without : (p : List (List ℕ)) (t : Tree) → without t p ≡ without (without t p) p
unfolding without
same_without p t = sym (twice_others p t)

path_in : (p q : List (List ℕ)) → Some p ≡ Some q → p ≡ q
path_in p q e = cc

others_stay : (t : Tree) (call : Call) (p : List (List ℕ)) → changed_path call ≡ Some p → without t p ≡ without (effect_of t call).tree p
unfolding effect_of
others_stay t (Mkdir path) p e = subst (λ (q : List (List ℕ)). without t q ≡ without (with_new t path directory) q) (path_in _ _ e) (same_new path directory t)
others_stay t (Create path) p e = subst (λ (q : List (List ℕ)). without t q ≡ without (with_new t path (file empty_file)) q) (path_in _ _ e) (same_new path (file empty_file) t)
others_stay t (Rmdir path) p e = subst (λ (q : List (List ℕ)). without t q ≡ without (without t path) q) (path_in _ _ e) (same_without path t)
others_stay t (Unlink path) p e = subst (λ (q : List (List ℕ)). without t q ≡ without (without t path) q) (path_in _ _ e) (same_without path t)
others_stay t (Rename from to) p e = cc
others_stay t (Write path from bytes) p e = subst (λ (q : List (List ℕ)). without t q ≡ without (effect_of t (Write path from bytes)).tree q) (path_in _ _ e) (same_content path _ t)
others_stay t (Fill path from len byte) p e = subst (λ (q : List (List ℕ)). without t q ≡ without (effect_of t (Fill path from len byte)).tree q) (path_in _ _ e) (same_content path _ t)
others_stay t (Truncate path size) p e = subst (λ (q : List (List ℕ)). without t q ≡ without (effect_of t (Truncate path size)).tree q) (path_in _ _ e) (same_content path _ t)
others_stay t (Read path from len) p e = cc
others_stay t (Stat path) p e = cc
others_stay t (ListCall path) p e = cc
others_stay t Sync p e = cc
others_stay t Clean p e = cc

pub change_at : (t n : Tree) (call : Call) (p : List (List ℕ)) → changed_path call ≡ Some p → n ≡ (effect_of t call).tree → IsInOrder t → IsChangeAt p t n
change_at t n call p at is order = record {
  in_order = order;
  next_in_order = subst IsInOrder (sym is) (order_after t call order);
  others = others_stay t call p at ∙ ap (λ (x : Tree). without x p) (sym is);
}
