-- What is listed stands in the tree under the path of the directory.
use Rattle.std.proofs.Common.{◌≡◌, ℕ, true, List, [], ◌∷◌, ◌++◌, map, refl, sym, ap, ◌∙◌, Option, Some, None, IsSome, is_some, option_map, option_and_then, bytes_eq}
use Rattle.std.proofs.lemmas.Bool.{both_ways}
use Rattle.std.proofs.lemmas.Slice.Eq.{bytes_eq-Decides}
use Rattle.std.specs.Prelude.{find}
use Rattle.nl_field.specs.Graph.{Graph, NodeBody, directory_node}
use Rattle.nl_field.specs.Members.{Has}
use Rattle.nl_field.specs.declared.entry.EntryRec.{EntryRec}
use Rattle.nl_meta.proofs.Lists.{find-some, member-find}
use Rattle.nl_tree.specs.Represents.{Represents, entries_in, node_named, node_of, node_reached}
use Rattle.nl_tree.specs.Tree.{Tree, node_at}
use Rattle.nl_namespace.specs.PathLaws.{ListsInTree}
use Rattle.nl_namespace.proofs.Graphs.{named-by}
use Rattle.nl_namespace.proofs.TreeWalks.{under}

module _ (bytes_of : ℕ → List ℕ) (graph : Graph) (tree : Tree) (path : List (List ℕ)) (n : ℕ) (es : List EntryRec) (represents : Represents bytes_of graph tree)
    (reached : node_reached graph 0 path ≡ Some n) (body : (graph n).body ≡ directory_node (map (λ e. (e.name, e.ino)) es)) where
  at-name : (name : List ℕ) → node_at tree (path ++ name ∷ []) ≡ option_and_then (λ m. node_of bytes_of (graph m).body) (option_map (λ (e : EntryRec). e.ino) (find (λ e. bytes_eq e.name name) es))
  at-name name =
      represents (path ++ name ∷ [])
      ∙ ap (option_and_then (λ m. node_of bytes_of (graph m).body))
      (under bytes_of graph tree represents path n name reached ∙ ap (λ (b : NodeBody). node_named name (entries_in b)) body ∙ named-by name es)

  there-under : ((e f : EntryRec) → Has es e → Has es f → e.name ≡ f.name → e ≡ f) → (e : EntryRec) → Has es e → node_at tree (path ++ e.name ∷ []) ≡ node_of bytes_of (graph e.ino).body
  there-under differ e has =
      let f = find-some (λ x. bytes_eq x.name e.name) es e has ((bytes_eq-Decides e.name e.name).1 refl) in
      let m = member-find (λ x. bytes_eq x.name e.name) es f.0 f.1 in
      let same = differ f.0 e m.0 has ((bytes_eq-Decides f.0.name e.name).0 m.1) in
      at-name e.name ∙ ap (λ (o : Option EntryRec). option_and_then (λ m. node_of bytes_of (graph m).body) (option_map (λ (x : EntryRec). x.ino) o)) (f.1 ∙ ap (λ x. Some x) same)

  all-under : (name : List ℕ) → IsSome (node_at tree (path ++ name ∷ [])) → (e : EntryRec) × Has es e × (e.name ≡ name)
  all-under name some = by (find (λ x. bytes_eq x.name name) es) refl (sym (ap is_some (at-name name)) ∙ some)
    where
      by : (o : Option EntryRec) → find (λ x. bytes_eq x.name name) es ≡ o
          → is_some (option_and_then (λ m. node_of bytes_of (graph m).body) (option_map (λ (e : EntryRec). e.ino) (find (λ x. bytes_eq x.name name) es))) ≡ true
          → (e : EntryRec) × Has es e × (e.name ≡ name)
      by None is h = absurd (both_ways _ (ap (λ (o : Option EntryRec). is_some (option_and_then (λ m. node_of bytes_of (graph m).body) (option_map (λ (e : EntryRec). e.ino) o))) is) h)
      by (Some e) is h = let m = member-find (λ x. bytes_eq x.name name) es e is in (e, m.0, (bytes_eq-Decides e.name name).0 m.1)

pub lists_in_tree : ListsInTree
lists_in_tree bytes_of graph tree path n es count text represents reached body differ lists = record {
  there = λ e h. there-under bytes_of graph tree path n es represents reached body differ e ((lists.each e).0 h);
  all = λ name some. let r = all-under bytes_of graph tree path n es represents reached body name some in (r.0, (lists.each r.0).1 r.1, r.2);
}
