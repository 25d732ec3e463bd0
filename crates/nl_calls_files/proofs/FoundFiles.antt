-- Why a path leads to no file, in the tree for which the nodes stand.
use Rattle.std.proofs.Common.{◌≡◌, ℕ, Bool, true, false, List, [], ◌∷◌, Option, Some, None, is_none, refl, sym, ap, ◌∙◌}
use Rattle.nl_field.specs.FileContent.{FileContent}
use Rattle.nl_field.specs.Graph.{GraphNode}
use Rattle.nl_field.specs.declared.inode.InodeRec.{InodeRec}
use Rattle.nl_field.specs.declared.inode.Kind.{Kind}
use Rattle.nl_field.specs.declared.inode.Kind.TheVariants.{Dir, File, Unused}
use Rattle.nl_field.specs.declared.shape.Shape.{Shape}
use Rattle.nl_tree.specs.Represents.{node_of, node_reached}
use Rattle.nl_tree.specs.Step.{first_of, is_too_long, prefix_refusal, prefix_refusal_from, refusal_of_file, when}
use Rattle.nl_tree.specs.Tree.{Node, Tree, directory, file, is_directory, is_root, node_at}
use Rattle.nl_tree.specs.declared.reply.Refusal.{Refusal}
use Rattle.nl_tree.specs.declared.reply.Refusal.TheVariants.{Eisdir, Enametoolong, Enoent}
use Rattle.nl_meta.specs.Committed.{VirtualMap}
use Rattle.nl_meta.specs.Consistent.{IsNode, PageOfStamp}
use Rattle.nl_meta.specs.Nodes.{body_of, graph_of}
use Rattle.nl_namespace.specs.PathLaws.{IsInTree, LooksInTree}
use Rattle.nl_namespace.specs.Paths.{Looks}
use Rattle.nl_namespace.specs.declared.answer.Look.{Look}
use Rattle.nl_namespace.specs.declared.answer.Look.TheVariants as look
use Rattle.nl_spec_image.specs.Stands.{bytes_for}
use Rattle.nl_spec_image.proofs.GraphOfPages.{node_is}
use Rattle.nl_spec_commits.specs.Trees.{RepresentsTree}
use Rattle.nl_calls_files.specs.Refusals.{LooksRefuse, refusal_of_path}

in-file : (tree : Tree) (path : List (List ℕ)) (p : Option Refusal) (o : Option Node) → is_root path ≡ false → prefix_refusal tree path ≡ p → node_at tree path ≡ o
    → refusal_of_file tree path ≡ first_of (p ∷ when (is_none o) Enoent ∷ when (is_directory o) Eisdir ∷ [])
unfolding refusal_of_file
in-file tree path p o r e f = λ i. first_of (when (r i) Eisdir ∷ e i ∷ when (is_none (f i)) Enoent ∷ when (is_directory (f i)) Eisdir ∷ [])

root-is : (tree : Tree) → refusal_of_file tree [] ≡ Some Eisdir
unfolding refusal_of_file
root-is tree = refl

root-prefix : (tree : Tree) → prefix_refusal tree [] ≡ None
unfolding prefix_refusal_from
root-prefix tree = refl

module _ (tree : Tree) (path : List (List ℕ)) where
  pub too-long : is_too_long path ≡ true → refusal_of_path tree path ≡ Some Enametoolong
  too-long e = ap (λ (b : Bool). first_of (when b Enametoolong ∷ refusal_of_file tree path ∷ [])) e

  of-file : (o : Option Refusal) → is_too_long path ≡ false → refusal_of_file tree path ≡ o → refusal_of_path tree path ≡ first_of (o ∷ [])
  of-file o e f = λ i. first_of (when (e i) Enametoolong ∷ f i ∷ [])

module _ (tree : Tree) (root : node_at tree [] ≡ Some directory) where
  pub missing-is : (path : List (List ℕ)) → is_too_long path ≡ false → prefix_refusal tree path ≡ None → node_at tree path ≡ None → refusal_of_path tree path ≡ Some Enoent
  missing-is [] short p at = absurd (cc (sym root ∙ at))
  missing-is (name ∷ names) short p at = of-file tree (name ∷ names) (Some Enoent) short (in-file tree (name ∷ names) None None refl p at)

  pub refused-is : (path : List (List ℕ)) (r : Refusal) → is_too_long path ≡ false → prefix_refusal tree path ≡ Some r → refusal_of_path tree path ≡ Some r
  refused-is [] r short p = absurd (cc (sym (root-prefix tree) ∙ p))
  refused-is (name ∷ names) r short p = of-file tree (name ∷ names) (Some r) short (in-file tree (name ∷ names) (Some r) (node_at tree (name ∷ names)) refl p refl)

  pub directory-is : (path : List (List ℕ)) → is_too_long path ≡ false → prefix_refusal tree path ≡ None → node_at tree path ≡ Some directory → refusal_of_path tree path ≡ Some Eisdir
  directory-is [] short p at = of-file tree [] (Some Eisdir) short (root-is tree)
  directory-is (name ∷ names) short p at = of-file tree (name ∷ names) (Some Eisdir) short (in-file tree (name ∷ names) None (Some directory) refl p at)

  pub file-is : (path : List (List ℕ)) (c : FileContent) → is_too_long path ≡ false → prefix_refusal tree path ≡ None → node_at tree path ≡ Some (file c) → refusal_of_path tree path ≡ None
  file-is [] c short p at = absurd (cc (sym root ∙ at))
  file-is (name ∷ names) c short p at = of-file tree (name ∷ names) None short (in-file tree (name ∷ names) None (Some (file c)) refl p at)

-- as a look answers
module _ (law : LooksInTree) (shape : Shape) (pages : VirtualMap) (page_of_stamp : ℕ → Option PageOfStamp) (tree : Tree) (runs : RepresentsTree shape pages page_of_stamp tree) (path : List (List ℕ)) (short : is_too_long path ≡ false) where
  in-tree : (answer : Look) → Looks (graph_of shape pages) path answer → IsInTree (bytes_for page_of_stamp) (graph_of shape pages) tree path answer
  in-tree answer looks = law (bytes_for page_of_stamp) (graph_of shape pages) tree path answer runs.represents.depicts runs.represents.is_tree.root looks

  pub look-missing : Looks (graph_of shape pages) path look.Missing → refusal_of_path tree path ≡ Some Enoent
  look-missing looks = let k = in-tree look.Missing looks in missing-is tree runs.represents.is_tree.root path short k.0 k.1

  pub look-refused : (r : Refusal) → Looks (graph_of shape pages) path (look.No r) → refusal_of_path tree path ≡ Some r
  look-refused r looks = refused-is tree runs.represents.is_tree.root path r short (in-tree (look.No r) looks)

  pub look-directory : (n : ℕ) (rec : InodeRec) → IsNode shape pages n rec → rec.kind ≡ Dir → node_reached (graph_of shape pages) 0 path ≡ Some n → refusal_of_path tree path ≡ Some Eisdir
  look-directory n rec is dir reached =
      let k = in-tree (look.At n) reached in
      directory-is tree runs.represents.is_tree.root path short k.0
      (k.1 ∙ ap (λ (x : GraphNode). node_of (bytes_for page_of_stamp) x.body) (node_is shape pages n rec is) ∙ ap (λ (q : Kind). node_of (bytes_for page_of_stamp) (body_of pages rec q)) dir)

  pub look-file : (n : ℕ) (c : FileContent) → node_reached (graph_of shape pages) 0 path ≡ Some n → node_at tree path ≡ Some (file c) → refusal_of_path tree path ≡ None
  look-file n c reached at = file-is tree runs.represents.is_tree.root path c short (in-tree (look.At n) reached).0 at

  not-file : (n : ℕ) (rec : InodeRec) (k : Kind) → rec.kind ≡ k → IsNode shape pages n rec → node_reached (graph_of shape pages) 0 path ≡ Some n → (rec.kind ≡ File → ⊥) → refusal_of_path tree path ≡ Some Eisdir
  not-file n rec Unused e is reached far = absurd (is.used e)
  not-file n rec Dir e is reached far = look-directory n rec is e reached
  not-file n rec File e is reached far = absurd (far e)

  pub looks-refuse : LooksRefuse shape pages tree path
  looks-refuse = record {
    missing = look-missing;
    refused = look-refused;
    other = λ n rec is reached far. not-file n rec rec.kind refl is reached far;
    file = λ n rec is reached is_file. look-file n _ reached
        ((in-tree (look.At n) reached).1 ∙ ap (λ (x : GraphNode). node_of (bytes_for page_of_stamp) x.body) (node_is shape pages n rec is) ∙ ap (λ (q : Kind). node_of (bytes_for page_of_stamp) (body_of pages rec q)) is_file);
  }
