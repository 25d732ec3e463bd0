-- The entries of a directory of a tree, by entries of its node.
use Rattle.std.proofs.Common.{◌≡◌, ◌≢◌, ◌⊎◌, ℕ, ◌+◌, ◌-◌, ◌&&◌, Bool, true, false, cond, List, [], ◌∷◌, ◌++◌, length, drop, map, unwrap_or, get_or, sum_by, refl, sym, ap, ◌∙◌, Option, Some, None, inl, inr, arith}
use Rattle.std.proofs.lemmas.Bool.{both_ways}
use Rattle.std.proofs.lemmas.List.{length-append}
use Rattle.std.proofs.lemmas.List.Sums.{sum_by-cons}
use Rattle.std.proofs.Math.Seq.{drop-append_seam, get_or-append_seam}
use Rattle.std.specs.Cmp.{nat_cmp_total, tied_itself}
use Rattle.std.specs.Cmp.Lexicographic.{lists_total, slice_cmp}
use Rattle.std.specs.FinMap.Entries.{below_all, find, is_sorted}
use Rattle.std.specs.Ordering.{is_lt, nat_cmp, ordering_then}
use Rattle.std.specs.declared.cmp.Ordering.{Ordering}
use Rattle.std.specs.declared.cmp.Ordering.TheVariants.{Equal, Greater, Less}
use Rattle.nl_field.specs.FileContent.{empty_file}
use Rattle.nl_field.specs.Graph.{Graph, NodeBody, directory_node, file_node, unused}
use Rattle.nl_field.specs.Members.{Has}
use Rattle.nl_field.specs.declared.entry.EntryRec.{EntryRec}
use Rattle.nl_meta.proofs.Facts.{EachTwo}
use Rattle.nl_meta.proofs.Lists.{none_some, some_in}
use Rattle.nl_spec_image.proofs.Sums.{length_mapped}
use Rattle.nl_tree.specs.Represents.{node_of}
use Rattle.nl_tree.specs.Step.{listing}
use Rattle.nl_tree.specs.Tree.{Node, Tree, entries_of, file, is_directory, last_name, node_at, path_cmp, paths_eq, with_all}
use Rattle.nl_tree.specs.TreeLaws.{IsInOrder, or_else}
use Rattle.nl_tree.proofs.ChargeProofs.{is_child, is_child_of}
use Rattle.nl_tree.proofs.CountProofs.{count_laws}
use Rattle.nl_tree.proofs.EntriesProofs.{entries_laws}
use Rattle.nl_tree.proofs.GraphProofs.{head_eq}
use Rattle.nl_tree.proofs.TreeProofs.{eq_path, find_all, from_T, path_eq, sorted_all, tree_laws}
use Rattle.nl_namespace.proofs.TreeSums.{child-is}
use Rattle.nl_namespace.specs.Listing.{Rising, is_before, mark_of, text_of}

abbrev pub Path : Type 0
Path = List (List ℕ)

-- ---- paths

same-name : (p : Path) (a b : List ℕ) → p ++ a ∷ [] ≡ p ++ b ∷ [] → a ≡ b
same-name p a b e = head_eq a b [] [] (sym (drop-append_seam p (a ∷ [])) ∙ ap (drop (length p)) e ∙ drop-append_seam p (b ∷ []))

then-equal : (r : Ordering) → ordering_then r Equal ≡ r
then-equal Less = refl
then-equal Equal = refl
then-equal Greater = refl

-- under one path the names decide
order-under : (p : Path) (a b : List ℕ) → path_cmp (p ++ a ∷ []) (p ++ b ∷ []) ≡ slice_cmp nat_cmp a b
order-under [] a b = then-equal (slice_cmp nat_cmp a b)
order-under (x ∷ p) a b = ap (λ (r : Ordering). ordering_then r (path_cmp (p ++ a ∷ []) (p ++ b ∷ []))) (tied_itself (lists_total nat_cmp_total) x) ∙ order-under p a b

last-of : (p : Path) (x : List ℕ) → last_name (p ++ x ∷ []) ≡ x
last-of p x =
    let n = length-append p (x ∷ []) in
    let e : length (p ++ x ∷ []) - 1 ≡ length p = omega (arith, n) in
    ap (λ (k : ℕ). get_or (p ++ x ∷ []) k []) e ∙ get_or-append_seam p x [] []

-- ---- entries of a node, as entries of the tree

module _ (bytes_of : ℕ → List ℕ) (graph : Graph) (path : Path) where
  -- what the node is in the tree
  abbrev pub node-for : ℕ → Node
  node-for m = unwrap_or (node_of bytes_of (graph m).body) (file empty_file)

  abbrev pub named : EntryRec → List (List ℕ) × Node
  named e = (path ++ e.name ∷ [], node-for e.ino)

  -- each of the entries stands in the tree, and each name that stands there is one of them
  pub record IsUnder (tree : Tree) (es : List EntryRec) : Type 0 where
    pub there : (e : EntryRec) → Has es e → node_at tree (path ++ e.name ∷ []) ≡ Some (node-for e.ino)
    pub all : (name : List ℕ) (node : Node) → node_at tree (path ++ name ∷ []) ≡ Some node → (e : EntryRec) × Has es e × (e.name ≡ name)

  find-in : (q : Path) (es : List EntryRec) (node : Node) → find path_cmp q (map named es) ≡ Some node → (e : EntryRec) × Has es e × (q ≡ path ++ e.name ∷ []) × (node-for e.ino ≡ node)
  find-in q [] node h = absurd (none_some node h)
  find-in q (e ∷ es) node h =
      elim (paths_eq q (path ++ e.name ∷ [])) as (λ b. paths_eq q (path ++ e.name ∷ []) ≡ b → cond b (Some (node-for e.ino)) (find path_cmp q (map named es)) ≡ Some node
      → (x : EntryRec) × Has (e ∷ es) x × (q ≡ path ++ x.name ∷ []) × (node-for x.ino ≡ node)) [
        | true ↦ λ b h. (e, inl refl, eq_path q _ b, some_in (node-for e.ino) node h)
        | false ↦ λ b h. let r = find-in q es node h in (r.0, inr r.1, r.2, r.3)
      ] refl h

  in-find : (es : List EntryRec) (e : EntryRec) → Has es e → find path_cmp (path ++ e.name ∷ []) (map named es) ≡ None → ⊥
  in-find [] e has h = has
  in-find (x ∷ es) e has h =
      elim (paths_eq (path ++ e.name ∷ []) (path ++ x.name ∷ [])) as (λ b. paths_eq (path ++ e.name ∷ []) (path ++ x.name ∷ []) ≡ b
      → cond b (Some (node-for x.ino)) (find path_cmp (path ++ e.name ∷ []) (map named es)) ≡ None → ⊥) [
        | true ↦ λ b h. none_some (node-for x.ino) (sym h)
        | false ↦ λ b h. by (in-find es e) b h has
      ] refl h
    where
      by : (Has es e → find path_cmp (path ++ e.name ∷ []) (map named es) ≡ None → ⊥) → paths_eq (path ++ e.name ∷ []) (path ++ x.name ∷ []) ≡ false
          → find path_cmp (path ++ e.name ∷ []) (map named es) ≡ None → (x ≡ e) ⊎ Has es e → ⊥
      by rest b h (inl s) = both_ways _ b (path_eq (path ++ e.name ∷ []) (path ++ x.name ∷ []) (ap (λ (y : EntryRec). path ++ y.name ∷ []) (sym s)))
      by rest b h (inr m) = rest m h

  module _ (tree : Tree) (es : List EntryRec) (under : IsUnder tree es) where
    found-same : (q : Path) → node_at (entries_of tree path) q ≡ find path_cmp q (map named es)
    found-same q = entries_laws.at_entries tree path q ∙ by (find path_cmp q (map named es)) refl
      where
        some-child : (node : Node) → (e : EntryRec) × Has es e × (q ≡ path ++ e.name ∷ []) × (node-for e.ino ≡ node) → cond (is_child path q) (node_at tree q) None ≡ Some node
        some-child node r =
            ap (λ (z : Path). cond (is_child path z) (node_at tree z) None) r.2 ∙ ap (λ b. cond b (node_at tree (path ++ r.0.name ∷ [])) None) (is_child_of path r.0.name)
            ∙ under.there r.0 r.1 ∙ ap (λ (n : Node). Some n) r.3

        none-there : find path_cmp q (map named es) ≡ None → (o : Option Node) → node_at tree q ≡ o → is_child path q ≡ true → o ≡ None
        none-there none None at child = refl
        none-there none (Some node) at child =
            let c = child-is path q child in
            let r = under.all c.0 node (ap (node_at tree) (sym c.1) ∙ at) in
            absurd (in-find es r.0 r.1 (ap (λ (z : Path). find path_cmp z (map named es)) (ap (λ (n : List ℕ). path ++ n ∷ []) r.2 ∙ sym c.1) ∙ none))

        no-child : find path_cmp q (map named es) ≡ None → (b : Bool) → is_child path q ≡ b → cond b (node_at tree q) None ≡ None
        no-child none true child = none-there none (node_at tree q) refl child
        no-child none false child = refl

        by : (o : Option Node) → find path_cmp q (map named es) ≡ o → cond (is_child path q) (node_at tree q) None ≡ o
        by None e = no-child e (is_child path q) refl
        by (Some node) e = some-child node (find-in q es node e)

    -- ---- entries in order

    below-later : (e : EntryRec) (fs : List EntryRec) → ((f : EntryRec) → Has fs f → is_before e f ≡ true) → below_all path_cmp (path ++ e.name ∷ []) (map named fs) ≡ true
    below-later e [] h = refl
    below-later e (f ∷ fs) h =
        ap (λ (b : Bool). b && below_all path_cmp (path ++ e.name ∷ []) (map named fs)) (ap is_lt (order-under path e.name f.name) ∙ h f (inl refl))
        ∙ below-later e fs (λ x m. h x (inr m))

    sorted : (fs : List EntryRec) → Rising fs → is_sorted path_cmp (map named fs) ≡ true
    unfolding Rising
    sorted [] h = refl
    sorted (e ∷ fs) h = ap (λ (b : Bool). b && is_sorted path_cmp (map named fs)) (below-later e fs h.0) ∙ sorted fs h.1

    pub entries-are : IsInOrder tree → Rising es → entries_of tree path ≡ map named es
    unfolding node_at
    entries-are order rising = tree_laws.same_tree (entries_of tree path) (map named es) (entries_laws.order_entries tree path order) (sorted es rising) found-same

    -- ---- how many

    ones : (t : Tree) → length t ≡ sum_by (λ (e : List (List ℕ) × Node). 1) t
    ones [] = refl
    ones (e ∷ t) = let a = sum_by-cons (λ (e : List (List ℕ) × Node). 1) e t in let r = ones t in omega (arith, a, r)

    or-none : (o : Option Node) → or_else o None ≡ o
    or-none None = refl
    or-none (Some node) = refl

    found-all : (fs : List EntryRec) (q : Path) → find path_cmp q (with_all [] (map named fs)) ≡ find path_cmp q (map named fs)
    found-all fs q = find_all [] (map named fs) q ∙ or-none (find path_cmp q (map named fs))

    absent : (e : EntryRec) (fs : List EntryRec) → ((f : EntryRec) → Has fs f → e.name ≢ f.name) → find path_cmp (path ++ e.name ∷ []) (map named fs) ≡ None
    absent e fs differ = by (find path_cmp (path ++ e.name ∷ []) (map named fs)) refl
      where
        by : (o : Option Node) → find path_cmp (path ++ e.name ∷ []) (map named fs) ≡ o → find path_cmp (path ++ e.name ∷ []) (map named fs) ≡ None
        by None h = h
        by (Some node) h = let r = find-in (path ++ e.name ∷ []) fs node h in absurd (differ r.0 r.1 (same-name path e.name r.0.name r.2))

    count-all : (fs : List EntryRec) → EachTwo (λ e k. e.name ≢ k.name) fs → length (with_all [] (map named fs)) ≡ length fs
    count-all [] d = refl
    count-all (e ∷ fs) d =
        let rest = count-all fs d.1 in
        let more = count_laws.sum_by-put_new (λ (x : List (List ℕ) × Node). 1) (path ++ e.name ∷ []) (node-for e.ino) (with_all [] (map named fs)) (found-all fs (path ++ e.name ∷ []) ∙ absent e fs d.0) in
        let a = ones (with_all [] (map named fs)) in
        let b = ones (with_all [] (map named (e ∷ fs))) in
        omega (arith, rest, more, a, b)

    pub entries-count : IsInOrder tree → EachTwo (λ e k. e.name ≢ k.name) es → length (entries_of tree path) ≡ length es
    unfolding node_at
    entries-count order differ =
        ap (λ (t : Tree). length t)
        (tree_laws.same_tree (entries_of tree path) (with_all [] (map named es)) (entries_laws.order_entries tree path order) (from_T _ (sorted_all [] (map named es) tt)) (λ q. found-same q ∙ sym (found-all es q)))
        ∙ count-all es differ

  -- ---- the text

  mark-same : (body : NodeBody) → cond (is_directory (Some (unwrap_or (node_of bytes_of body) (file empty_file)))) (47 ∷ []) [] ≡ mark_of body
  mark-same unused = refl
  mark-same (file_node size pointers) = refl
  mark-same (directory_node entries) = refl

  pub text-same : (es : List EntryRec) → listing (map named es) ≡ text_of graph es
  unfolding listing text_of
  text-same [] = refl
  text-same (e ∷ es) = λ i. (32 ∷ last-of path e.name i ++ mark-same (graph e.ino).body i) ++ text-same es i

  pub length-named : (es : List EntryRec) → length (map named es) ≡ length es
  length-named es = length_mapped named es
