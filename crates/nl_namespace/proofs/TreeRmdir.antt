-- A directory that loses its name, in the tree that the nodes stand for.
use Rattle.std.proofs.Common.{◌≡◌, ℕ, zero, suc, ◌+◌, ◌==◌, ◌&&◌, Bool, true, false, cond, List, [], ◌∷◌, ◌++◌, length, drop, nat_lt, refl, sym, ap, ◌∙◌, Option, Some, None, option_and_then, is_none, is_some, arith}
use Rattle.std.proofs.lemmas.Bool.{and_parts, eqb-true, lt-ltb}
use Rattle.std.specs.Option.{option_map_or}
use Rattle.nl_field.specs.Graph.{Graph, NodeBody, directory_node, file_node, unused}
use Rattle.nl_field.specs.declared.inode.Kind.TheVariants.{Dir}
use Rattle.nl_tree.specs.GraphLaws.{entry_at}
use Rattle.nl_tree.specs.Represents.{entries_in, node_named, node_of, node_reached}
use Rattle.nl_tree.specs.Step.{first_of, is_too_long, missing, prefix_refusal, refusal_of_rmdir as tree_refusal_of_rmdir, when}
use Rattle.nl_tree.specs.Tree.{Tree, entries_of, is_at_or_under, is_file, is_root, node_at}
use Rattle.nl_tree.specs.declared.reply.Refusal.{Refusal}
use Rattle.nl_tree.specs.declared.reply.Refusal.TheVariants.{Einval, Enametoolong, Enoent, Enotdir, Enotempty}
use Rattle.nl_tree.proofs.ChangeProofs.{at_end}
use Rattle.nl_tree.proofs.EntriesProofs.{entries_laws}
use Rattle.nl_tree.proofs.GraphProofs.{name_eq}
use Rattle.nl_tree.proofs.TreeProofs.{path_eq, under_parts}
use Rattle.nl_namespace.specs.ChangeLaws.{RmdirsInTree, GraphRepresents}
use Rattle.nl_namespace.specs.Naming.{refusal_of_kind, refusal_of_removal}
use Rattle.nl_namespace.specs.Paths.{walk_refusal}
use Rattle.nl_namespace.specs.declared.answer.Change.TheVariants as change
use Rattle.nl_namespace.proofs.TreeChanges.{at-path, none-same}
use Rattle.nl_namespace.proofs.TreeWalks.{walk-is}

five : (a b c d e f : Option Refusal) → first_of (a ∷ first_of (b ∷ c ∷ d ∷ e ∷ f ∷ []) ∷ []) ≡ first_of (a ∷ b ∷ c ∷ d ∷ e ∷ f ∷ [])
five (Some r) b c d e f = refl
five None (Some r) c d e f = refl
five None None (Some r) d e f = refl
five None None None (Some r) e f = refl
five None None None None (Some r) f = refl
five None None None None None (Some r) = refl
five None None None None None None = refl

-- a test that does not hold is no refusal
passed : (a b c z : Option Refusal) → first_of (a ∷ b ∷ c ∷ None ∷ None ∷ z ∷ []) ≡ first_of (a ∷ b ∷ c ∷ None ∷ z ∷ [])
passed (Some r) b c z = refl
passed None (Some r) c z = refl
passed None None (Some r) z = refl
passed None None None z = refl

-- what is behind a refusal does not count
behind : (a b c : Option Refusal) (r : Refusal) (z w : Option Refusal) → first_of (a ∷ b ∷ c ∷ Some r ∷ z ∷ w ∷ []) ≡ first_of (a ∷ b ∷ c ∷ Some r ∷ z ∷ [])
behind (Some q) b c r z w = refl
behind None (Some q) c r z w = refl
behind None None (Some q) r z w = refl
behind None None None r z w = refl

pub same-behind : (a b c : Option Refusal) (r : Refusal) (z w : Option Refusal) → first_of (a ∷ b ∷ c ∷ Some r ∷ z ∷ []) ≡ first_of (a ∷ b ∷ c ∷ Some r ∷ w ∷ [])
same-behind (Some q) b c r z w = refl
same-behind None (Some q) c r z w = refl
same-behind None None (Some q) r z w = refl
same-behind None None None r z w = refl

last-counts : (a b c : Option Refusal) (r : Refusal) (w : Option Refusal) → first_of (a ∷ b ∷ c ∷ None ∷ Some r ∷ w ∷ []) ≡ first_of (a ∷ b ∷ c ∷ None ∷ Some r ∷ [])
last-counts (Some q) b c r w = refl
last-counts None (Some q) c r w = refl
last-counts None None (Some q) r w = refl
last-counts None None None r w = refl

no-true : false ≡ true → ⊥
no-true e = cc

one-name : (q : List (List ℕ)) → length q ≡ 1 → (x : List ℕ) × (q ≡ x ∷ [])
one-name [] e = absurd (none e)
  where
    none : zero ≡ suc zero → ⊥
    none e = cc
one-name (x ∷ []) e = (x, refl)
one-name (x ∷ y ∷ q) e = absurd (none e)
  where
    none : suc (suc (length q)) ≡ 1 → ⊥
    none e = omega (arith, e)

length-both : (p q : List (List ℕ)) → length (p ++ q) ≡ length p + length q
length-both [] q = omega arith
length-both (x ∷ p) q = let e = length-both p q in omega (arith, e)

module _ (bytes_of : ℕ → List ℕ) (graph : Graph) (tree : Tree) (stands : GraphRepresents bytes_of graph tree) (path : List (List ℕ)) (n : ℕ) (reached : node_reached graph 0 path ≡ Some n) where
  -- what stands under a name of the directory
  under-name : (x : List ℕ) → node_at (entries_of tree path) (path ++ x ∷ []) ≡ option_and_then (λ m. node_of bytes_of (graph m).body) (entry_at graph n x)
  under-name x = entries_laws.of_node bytes_of graph tree path n x stands.represents reached

  some-entry : (x : List ℕ) (k : ℕ) (es : List (List ℕ × ℕ)) → (graph n).body ≡ directory_node ((x, k) ∷ es) → (list : Tree) → entries_of tree path ≡ list → nat_lt 0 (length list) ≡ true
  unfolding node_at
  some-entry x k es body [] e = absurd (no-true (sym (ap (λ (t : Tree). is_some (node_at t (path ++ x ∷ []))) e) ∙ ap is_some (under-name x) ∙ ap (λ (o : Option ℕ). is_some (option_and_then (λ m. node_of bytes_of (graph m).body) o)) named
      ∙ stands.used (path ++ x ∷ []) k (at_end graph path x n reached ∙ named)))
    where
      named : entry_at graph n x ≡ Some k
      named = ap (λ (b : NodeBody). node_named x (entries_in b)) body ∙ ap (λ (b : Bool). cond b (Some k) (node_named x es)) (name_eq x x refl)
  some-entry x k es body (z ∷ list) e = lt-ltb 0 (length (z ∷ list)) (omega arith)

  no-entry : (graph n).body ≡ directory_node [] → (list : Tree) → entries_of tree path ≡ list → nat_lt 0 (length list) ≡ false
  unfolding node_at
  no-entry body [] e = refl
  no-entry body (z ∷ list) e = absurd (no-true (sym (ap is_some none) ∙ ap is_some here))
    where
      here : node_at (entries_of tree path) z.0 ≡ Some z.1
      here = ap (λ (t : Tree). node_at t z.0) e ∙ ap (λ (b : Bool). cond b (Some z.1) (node_at list z.0)) (path_eq z.0 z.0 refl)

      test : (length z.0 == length path + 1 && is_at_or_under path z.0) ≡ true
      test = of (length z.0 == length path + 1 && is_at_or_under path z.0) refl
        where
          of : (b : Bool) → (length z.0 == length path + 1 && is_at_or_under path z.0) ≡ b → b ≡ true
          of true f = refl
          of false f = absurd (no-true (ap is_some (ap (λ (b : Bool). cond b (node_at tree z.0) None) (sym f) ∙ sym (entries_laws.at_entries tree path z.0)) ∙ ap is_some here))

      long : length z.0 ≡ length path + 1
      long = eqb-true (length z.0) (length path + 1) (and_parts (length z.0 == length path + 1) _ test).0

      parts : path ++ drop (length path) z.0 ≡ z.0
      parts = under_parts path z.0 (and_parts (length z.0 == length path + 1) _ test).1

      rest : (x : List ℕ) × (drop (length path) z.0 ≡ x ∷ [])
      rest =
          let a = length-both path (drop (length path) z.0) in
          let b = ap length parts in
          let c = long in
          one-name (drop (length path) z.0) (omega (arith, a, b, c))

      none : node_at (entries_of tree path) z.0 ≡ None
      none =
          ap (node_at (entries_of tree path)) (sym parts ∙ ap (λ (r : List (List ℕ)). path ++ r) rest.1) ∙ under-name rest.0
          ∙ ap (λ (b : NodeBody). option_and_then (λ m. node_of bytes_of (graph m).body) (node_named rest.0 (entries_in b))) body

  pub nonempty-same : (es : List (List ℕ × ℕ)) → (graph n).body ≡ directory_node es → nat_lt 0 (length (entries_of tree path)) ≡ nat_lt 0 (length es)
  nonempty-same [] body = no-entry body (entries_of tree path) refl
  nonempty-same ((x, k) ∷ es) body = some-entry x k es body (entries_of tree path) refl ∙ sym (lt-ltb 0 (length ((x, k) ∷ es)) (omega arith))

module _ (bytes_of : ℕ → List ℕ) (graph : Graph) (tree : Tree) (stands : GraphRepresents bytes_of graph tree) (path : List (List ℕ)) where
  last-same : (a b c : Option Refusal) (o : Option ℕ) → node_reached graph 0 path ≡ o
      → first_of (a ∷ b ∷ c ∷ when (is_none o) Enoent ∷ when (is_file (option_and_then (λ n. node_of bytes_of (graph n).body) o)) Enotdir ∷ when (nat_lt 0 (length (entries_of tree path))) Enotempty ∷ [])
      ≡ first_of (a ∷ b ∷ c ∷ when (is_none o) Enoent ∷ refusal_of_kind Dir (option_map_or (λ n. (graph n).body) o unused) ∷ [])
  last-same a b c None e = behind a b c Enoent None (when (nat_lt 0 (length (entries_of tree path))) Enotempty) ∙ same-behind a b c Enoent None (Some Enotdir)
  last-same a b c (Some n) e = of (graph n).body refl
    where
      of : (body : NodeBody) → (graph n).body ≡ body
          → first_of (a ∷ b ∷ c ∷ None ∷ when (is_file (node_of bytes_of (graph n).body)) Enotdir ∷ when (nat_lt 0 (length (entries_of tree path))) Enotempty ∷ [])
          ≡ first_of (a ∷ b ∷ c ∷ None ∷ refusal_of_kind Dir (graph n).body ∷ [])
      of unused f = absurd (no-true (ap (λ (z : NodeBody). is_some (node_of bytes_of z)) (sym f) ∙ stands.used path n e))
      of (file_node size pointers) f =
          ap (λ (z : NodeBody). first_of (a ∷ b ∷ c ∷ None ∷ when (is_file (node_of bytes_of z)) Enotdir ∷ when (nat_lt 0 (length (entries_of tree path))) Enotempty ∷ [])) f
          ∙ last-counts a b c Enotdir (when (nat_lt 0 (length (entries_of tree path))) Enotempty)
          ∙ sym (ap (λ (z : NodeBody). first_of (a ∷ b ∷ c ∷ None ∷ refusal_of_kind Dir z ∷ [])) f)
      of (directory_node es) f =
          ap (λ (z : NodeBody). first_of (a ∷ b ∷ c ∷ None ∷ when (is_file (node_of bytes_of z)) Enotdir ∷ when (nat_lt 0 (length (entries_of tree path))) Enotempty ∷ [])) f
          ∙ passed a b c (when (nat_lt 0 (length (entries_of tree path))) Enotempty)
          ∙ ap (λ (t : Bool). first_of (a ∷ b ∷ c ∷ None ∷ when t Enotempty ∷ [])) (nonempty-same bytes_of graph tree stands path n e es f)
          ∙ sym (ap (λ (z : NodeBody). first_of (a ∷ b ∷ c ∷ None ∷ refusal_of_kind Dir z ∷ [])) f)

  pub rmdir-same : first_of (when (is_too_long path) Enametoolong ∷ tree_refusal_of_rmdir tree path ∷ []) ≡ refusal_of_removal Dir graph path
  unfolding tree_refusal_of_rmdir
  rmdir-same =
      five (when (is_too_long path) Enametoolong) (when (is_root path) Einval) (prefix_refusal tree path) (missing tree path) (when (is_file (node_at tree path)) Enotdir) (when (nat_lt 0 (length (entries_of tree path))) Enotempty)
      ∙ (λ i. first_of (when (is_too_long path) Enametoolong ∷ when (is_root path) Einval ∷ walk-is bytes_of graph tree stands.represents stands.root path i
      ∷ when ((ap is_none (at-path bytes_of graph tree stands path) ∙ none-same bytes_of graph tree stands path (node_reached graph 0 path) refl) i) Enoent
      ∷ when (is_file (at-path bytes_of graph tree stands path i)) Enotdir ∷ when (nat_lt 0 (length (entries_of tree path))) Enotempty ∷ []))
      ∙ last-same (when (is_too_long path) Enametoolong) (when (is_root path) Einval) (walk_refusal graph 0 path) (node_reached graph 0 path) refl

pub rmdirs_in_tree : RmdirsInTree
rmdirs_in_tree bytes_of old new tree path (change.Changed lost) stands m = rmdir-same bytes_of old tree stands path ∙ m.0
rmdirs_in_tree bytes_of old new tree path (change.No refusal) stands m = rmdir-same bytes_of old tree stands path ∙ m
rmdirs_in_tree bytes_of old new tree path change.Fault stands m = m
rmdirs_in_tree bytes_of old new tree path (change.Lost w f) stands m = m
