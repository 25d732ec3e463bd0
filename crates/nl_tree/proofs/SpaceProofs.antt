-- The charges of a tree, and the refusal from what the volume lacks first.
use Rattle.std.proofs.Common.{◌≡◌, ◌+◌, ℕ, Bool, true, false, List, [], ◌∷◌, map, length, sum_by, nat_lt, ap, sym, refl, arith, ◌∙◌, Option, Some, None}
use Rattle.std.specs.List.{list_any}
use Rattle.std.specs.Int.{div_ceil}
use Rattle.std.proofs.lemmas.List.Sums.{sum_by-cons}
use Rattle.std.proofs.lemmas.List.{length-map}
use Rattle.nl_field.specs.Numbers.{max_entries}
use Rattle.nl_field.specs.declared.shape.Shape.{Shape}
use Rattle.nl_tree.specs.declared.reply.Refusal.{Refusal}
use Rattle.nl_tree.specs.declared.reply.Refusal.TheVariants.{Enospc}
use Rattle.nl_tree.specs.declared.reply.Space.TheVariants.{Dir as DirSpace, Nodes, Meta, Pages}
use Rattle.nl_tree.specs.Step.{when, first_of, space_refusal}
use Rattle.nl_tree.specs.Tree.{Tree, Node, entries_of, all_paths, all_nodes}
use Rattle.nl_tree.specs.Charges.{data_of_node, ranges_of_node, data_charge, node_charge, meta_charge}
use Rattle.nl_tree.specs.KeptSums.{meta_of_entry, data_of_entry}

of_nodes : (f : Node → ℕ) (tree : Tree) → sum_by f (map (λ e. e.1) tree) ≡ sum_by (λ e. f e.1) tree
of_nodes f [] = refl
of_nodes f (e ∷ tree) = sum_by-cons f e.1 (map (λ x. x.1) tree) ∙ ap (λ n. f e.1 + n) (of_nodes f tree) ∙ sym (sum_by-cons (λ x. f x.1) e tree)

pub of_both : (f g : List (List ℕ) × Node → ℕ) (tree : Tree) → sum_by f tree + sum_by g tree ≡ sum_by (λ e. f e + g e) tree
of_both f g [] = refl
of_both f g (e ∷ tree) = let rest : sum_by f tree + sum_by g tree ≡ sum_by (λ x. f x + g x) tree = of_both f g tree in omega (arith, sum_by-cons f e tree, sum_by-cons g e tree, sum_by-cons (λ x. f x + g x) e tree)

pub data-is : (tree : Tree) → sum_by data_of_entry tree ≡ data_charge tree
unfolding data_charge all_nodes
data-is tree = sym (of_nodes data_of_node tree)

pub meta-is : (tree : Tree) → sum_by (meta_of_entry tree) tree ≡ meta_charge tree
unfolding meta_charge all_nodes all_paths
meta-is tree =
    sym (ap (λ n. sum_by (λ e. div_ceil (length (entries_of tree e.0)) 64) tree + n) (of_nodes ranges_of_node tree)
    ∙ of_both (λ e. div_ceil (length (entries_of tree e.0)) 64) (λ e. ranges_of_node e.1) tree)

-- ---- the refusal, from what the volume lacks first

abbrev lacks : Shape → Tree → (dir nodes meta pages : Bool) → Option Refusal
lacks shape tree dir nodes meta pages =
    first_of (when dir (Enospc DirSpace) ∷ when nodes (Enospc Nodes) ∷ when meta (Enospc Meta) ∷ when pages (Enospc Pages) ∷ [])

pub lacks_entries : (shape : Shape) (tree : Tree) → true ≡ list_any (λ e. nat_lt max_entries (length (entries_of tree e.0))) tree → Some (Enospc DirSpace) ≡ space_refusal shape tree
unfolding space_refusal all_paths
lacks_entries shape tree a = λ i. lacks shape tree (a i) (nat_lt shape.nodes (node_charge tree)) (nat_lt shape.meta (meta_charge tree)) (nat_lt shape.cap (data_charge tree))

pub lacks_nodes : (shape : Shape) (tree : Tree) → false ≡ list_any (λ e. nat_lt max_entries (length (entries_of tree e.0))) tree → true ≡ nat_lt shape.nodes (node_charge tree)
    → Some (Enospc Nodes) ≡ space_refusal shape tree
unfolding space_refusal all_paths
lacks_nodes shape tree a b = λ i. lacks shape tree (a i) (b i) (nat_lt shape.meta (meta_charge tree)) (nat_lt shape.cap (data_charge tree))

pub lacks_meta : (shape : Shape) (tree : Tree) → false ≡ list_any (λ e. nat_lt max_entries (length (entries_of tree e.0))) tree → false ≡ nat_lt shape.nodes (node_charge tree)
    → true ≡ nat_lt shape.meta (meta_charge tree) → Some (Enospc Meta) ≡ space_refusal shape tree
unfolding space_refusal all_paths
lacks_meta shape tree a b m = λ i. lacks shape tree (a i) (b i) (m i) (nat_lt shape.cap (data_charge tree))

pub lacks_pages : (shape : Shape) (tree : Tree) → false ≡ list_any (λ e. nat_lt max_entries (length (entries_of tree e.0))) tree → false ≡ nat_lt shape.nodes (node_charge tree)
    → false ≡ nat_lt shape.meta (meta_charge tree) → true ≡ nat_lt shape.cap (data_charge tree) → Some (Enospc Pages) ≡ space_refusal shape tree
unfolding space_refusal all_paths
lacks_pages shape tree a b m d = λ i. lacks shape tree (a i) (b i) (m i) (d i)

pub lacks_nothing : (shape : Shape) (tree : Tree) → false ≡ list_any (λ e. nat_lt max_entries (length (entries_of tree e.0))) tree → false ≡ nat_lt shape.nodes (node_charge tree)
    → false ≡ nat_lt shape.meta (meta_charge tree) → false ≡ nat_lt shape.cap (data_charge tree) → None ≡ space_refusal shape tree
unfolding space_refusal all_paths
lacks_nothing shape tree a b m d = λ i. lacks shape tree (a i) (b i) (m i) (d i)

pub nodes-are : (tree : Tree) → length tree ≡ node_charge tree
unfolding node_charge all_nodes
nodes-are tree = sym (length-map tree _)

-- ---- what a tree keeps to that lacks nothing

first_not : (b : Bool) (x : Refusal) (rest : List (Option Refusal)) → first_of (when b x ∷ rest) ≡ None → b ≡ false
first_not true x rest h = cc
first_not false x rest h = refl

rest_not : (b : Bool) (x : Refusal) (rest : List (Option Refusal)) → first_of (when b x ∷ rest) ≡ None → first_of rest ≡ None
rest_not true x rest h = cc
rest_not false x rest h = h

pub few_entries : (shape : Shape) (tree : Tree) → space_refusal shape tree ≡ None → list_any (λ e. nat_lt max_entries (length (entries_of tree e.0))) tree ≡ false
unfolding space_refusal all_paths
few_entries shape tree h = first_not (list_any (λ e. nat_lt max_entries (length (entries_of tree e.0))) tree) (Enospc DirSpace) _ h

pub few_meta : (shape : Shape) (tree : Tree) → space_refusal shape tree ≡ None → nat_lt shape.meta (meta_charge tree) ≡ false
unfolding space_refusal all_paths
few_meta shape tree h =
    let a = rest_not (list_any (λ e. nat_lt max_entries (length (entries_of tree e.0))) tree) (Enospc DirSpace) _ h in
    let b = rest_not (nat_lt shape.nodes (node_charge tree)) (Enospc Nodes) _ a in
    first_not (nat_lt shape.meta (meta_charge tree)) (Enospc Meta) _ b

pub few_pages : (shape : Shape) (tree : Tree) → space_refusal shape tree ≡ None → nat_lt shape.cap (data_charge tree) ≡ false
unfolding space_refusal all_paths
few_pages shape tree h =
    let a = rest_not (list_any (λ e. nat_lt max_entries (length (entries_of tree e.0))) tree) (Enospc DirSpace) _ h in
    let b = rest_not (nat_lt shape.nodes (node_charge tree)) (Enospc Nodes) _ a in
    let c = rest_not (nat_lt shape.meta (meta_charge tree)) (Enospc Meta) _ b in
    first_not (nat_lt shape.cap (data_charge tree)) (Enospc Pages) _ c
