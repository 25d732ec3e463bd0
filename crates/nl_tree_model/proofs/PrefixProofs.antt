-- Steps of the loop over a path prefix.
use Rattle.std.proofs.Common.{◌≡◌, ◌<◌, ◌≤◌, ◌+◌, ℕ, true, false, List, [], ◌∷◌, ◌++◌, length, take, drop, get_or, Option, Some, None, is_none, ap, sym, refl, arith, ◌∙◌}
use Rattle.std.proofs.lemmas.List.{drop_more, take_more, length-drop}
use Rattle.nl_tree.specs.declared.reply.Refusal.{Refusal}
use Rattle.nl_tree.specs.declared.reply.Refusal.TheVariants.{Enoent, Enotdir}
use Rattle.nl_tree.specs.Tree.{Tree, node_at, is_file}
use Rattle.nl_tree.specs.Step.{when, first_of, prefix_refusal_from}

first_of_one : (r : Option Refusal) → first_of (r ∷ []) ≡ r
first_of_one None = refl
first_of_one (Some refusal) = refl

prefix_step : (tree : Tree) (path : List (List ℕ)) (j : ℕ) → j + 1 < length path
    → prefix_refusal_from tree (take j path) (drop j path)
    ≡ first_of (when (is_none (node_at tree (take (j + 1) path))) Enoent ∷ when (is_file (node_at tree (take (j + 1) path))) Enotdir ∷ prefix_refusal_from tree (take (j + 1) path) (drop (j + 1) path) ∷ [])
unfolding prefix_refusal_from
prefix_step tree path j lt =
    let n : List ℕ = get_or path j [] in
    let m : List ℕ = get_or path (j + 1) [] in
    let rest : List (List ℕ) = drop (j + 1 + 1) path in
    let e1 : drop j path ≡ n ∷ drop (j + 1) path = drop_more path j [] (omega arith) in
    let e2 : drop (j + 1) path ≡ m ∷ rest = drop_more path (j + 1) [] lt in
    let e3 : take (j + 1) path ≡ take j path ++ n ∷ [] = take_more path j [] (omega arith) in
    ap (prefix_refusal_from tree (take j path)) (e1 ∙ ap (λ (q : List (List ℕ)). n ∷ q) e2)
    ∙ ap (λ (p : List (List ℕ)). first_of (when (is_none (node_at tree p)) Enoent ∷ when (is_file (node_at tree p)) Enotdir ∷ prefix_refusal_from tree p (m ∷ rest) ∷ [])) (sym e3)
    ∙ ap (λ (q : List (List ℕ)). first_of (when (is_none (node_at tree (take (j + 1) path))) Enoent ∷ when (is_file (node_at tree (take (j + 1) path))) Enotdir ∷ prefix_refusal_from tree (take (j + 1) path) q ∷ [])) (sym e2)

pub prefix_missing : (tree : Tree) (path : List (List ℕ)) (j : ℕ) (all : Option Refusal) → j + 1 < length path → true ≡ is_none (node_at tree (take (j + 1) path))
    → prefix_refusal_from tree (take j path) (drop j path) ≡ all → Some Enoent ≡ all
prefix_missing tree path j all lt none before =
    (λ i. first_of (when (none i) Enoent ∷ when (is_file (node_at tree (take (j + 1) path))) Enotdir ∷ prefix_refusal_from tree (take (j + 1) path) (drop (j + 1) path) ∷ []))
    ∙ sym (prefix_step tree path j lt) ∙ before

pub prefix_file : (tree : Tree) (path : List (List ℕ)) (j : ℕ) (all : Option Refusal) → j + 1 < length path → false ≡ is_none (node_at tree (take (j + 1) path))
    → true ≡ is_file (node_at tree (take (j + 1) path)) → prefix_refusal_from tree (take j path) (drop j path) ≡ all → Some Enotdir ≡ all
prefix_file tree path j all lt none is before =
    (λ i. first_of (when (none i) Enoent ∷ when (is i) Enotdir ∷ prefix_refusal_from tree (take (j + 1) path) (drop (j + 1) path) ∷ []))
    ∙ sym (prefix_step tree path j lt) ∙ before

pub prefix_on : (tree : Tree) (path : List (List ℕ)) (j : ℕ) (all : Option Refusal) → j + 1 < length path → false ≡ is_none (node_at tree (take (j + 1) path))
    → false ≡ is_file (node_at tree (take (j + 1) path)) → prefix_refusal_from tree (take j path) (drop j path) ≡ all → prefix_refusal_from tree (take (j + 1) path) (drop (j + 1) path) ≡ all
prefix_on tree path j all lt none is before =
    sym (first_of_one (prefix_refusal_from tree (take (j + 1) path) (drop (j + 1) path)))
    ∙ (λ i. first_of (when (none i) Enoent ∷ when (is i) Enotdir ∷ prefix_refusal_from tree (take (j + 1) path) (drop (j + 1) path) ∷ []))
    ∙ sym (prefix_step tree path j lt) ∙ before

last_passes : (tree : Tree) (at names : List (List ℕ)) → length names ≤ 1 → None ≡ prefix_refusal_from tree at names
unfolding prefix_refusal_from
last_passes tree at [] h = refl
last_passes tree at (name ∷ []) h = refl
last_passes tree at (name ∷ next ∷ names) h = absurd (omega arith)

pub prefix_end : (tree : Tree) (path : List (List ℕ)) (j : ℕ) (all : Option Refusal) → length path ≤ j + 1 → prefix_refusal_from tree (take j path) (drop j path) ≡ all → None ≡ all
prefix_end tree path j all le before = last_passes tree (take j path) (drop j path) (omega (arith, length-drop j path)) ∙ before
