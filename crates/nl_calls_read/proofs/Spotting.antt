-- What a path comes to, by what the walk of its names finds.
use Rattle.std.proofs.Common.{◌≡◌, ℕ, Bool, true, false, List, [], ◌∷◌, Option, Some, None, is_none, refl, ap, ◌∙◌}
use Rattle.nl_field.specs.Graph.{Graph}
use Rattle.nl_field.specs.declared.inode.InodeRec.{InodeRec}
use Rattle.nl_field.specs.declared.inode.Kind.TheVariants.{Dir, File}
use Rattle.nl_field.specs.declared.shape.Shape.{Shape}
use Rattle.nl_meta.specs.Committed.{VirtualMap}
use Rattle.nl_meta.specs.Consistent.{IsNode, PageOfStamp}
use Rattle.nl_meta.specs.Nodes.{graph_of}
use Rattle.nl_spec_image.specs.Stands.{bytes_for}
use Rattle.nl_tree.specs.Represents.{node_of}
use Rattle.nl_tree.specs.Step.{first_of, is_too_long, missing, prefix_refusal, when}
use Rattle.nl_tree.specs.Tree.{Node, Tree, node_at}
use Rattle.nl_tree.specs.declared.reply.Refusal.{Refusal}
use Rattle.nl_tree.specs.declared.reply.Refusal.TheVariants.{Enametoolong, Enoent}
use Rattle.nl_namespace.specs.PathLaws.{IsInTree, LooksInTree}
use Rattle.nl_namespace.specs.Paths.{Looks}
use Rattle.nl_namespace.specs.declared.answer.Look.{Look}
use Rattle.nl_namespace.specs.declared.answer.Look.TheVariants as look
use Rattle.nl_spec_commits.specs.Trees.{RepresentsTree}
use Rattle.nl_calls_read.specs.Spots.{IsSpot, refusal_of_path}
use Rattle.nl_calls_read.specs.declared.answer.Spot.TheVariants as spot
use Rattle.nl_calls_files.proofs.Directories.{body-is}

-- the refusal from its three tests
refusal-is : (tree : Tree) (path : List (List ℕ)) (long : Bool) (prefix : Option Refusal) (there : Option Node) → is_too_long path ≡ long → prefix_refusal tree path ≡ prefix → node_at tree path ≡ there
    → refusal_of_path tree path ≡ first_of (when long Enametoolong ∷ prefix ∷ when (is_none there) Enoent ∷ [])
refusal-is tree path long prefix there a b c = λ i. first_of (when (a i) Enametoolong ∷ b i ∷ when (is_none (c i)) Enoent ∷ [])

module _ (shape : Shape) (pages : VirtualMap) (page_of_stamp : ℕ → Option PageOfStamp) (tree : Tree) (runs : RepresentsTree shape pages page_of_stamp tree) (path : List (List ℕ)) where
  pub too-long : is_too_long path ≡ true → IsSpot shape pages page_of_stamp tree path (spot.No Enametoolong)
  too-long long = ap (λ (b : Bool). first_of (when b Enametoolong ∷ prefix_refusal tree path ∷ missing tree path ∷ [])) long

  module _ (law : LooksInTree) (short : is_too_long path ≡ false) where
    abbrev graph : Graph
    graph = graph_of shape pages

    in-tree : (answer : Look) → Looks graph path answer → IsInTree (bytes_for page_of_stamp) graph tree path answer
    in-tree answer looks = law (bytes_for page_of_stamp) graph tree path answer runs.represents.depicts runs.represents.is_tree.root looks

    pub nothing-there : Looks graph path look.Missing → IsSpot shape pages page_of_stamp tree path (spot.No Enoent)
    nothing-there looks = let t = in-tree look.Missing looks in refusal-is tree path false None None short t.0 t.1

    pub refused-there : (r : Refusal) → Looks graph path (look.No r) → IsSpot shape pages page_of_stamp tree path (spot.No r)
    refused-there r looks = refusal-is tree path false (Some r) (node_at tree path) short (in-tree (look.No r) looks) refl

    module _ (n : ℕ) (rec : InodeRec) (looks : Looks graph path (look.At n)) (is : IsNode shape pages n rec) where
      at : (prefix_refusal tree path ≡ None) × (node_at tree path ≡ node_of (bytes_for page_of_stamp) (graph n).body)
      at = in-tree (look.At n) looks

      pub file-there : rec.kind ≡ File → IsSpot shape pages page_of_stamp tree path (spot.File n rec)
      file-there kind =
          let node = at.1 ∙ ap (node_of (bytes_for page_of_stamp)) (body-is shape pages page_of_stamp tree runs n rec is File kind) in
          (refusal-is tree path false None _ short at.0 node, node)

      pub directory-there : rec.kind ≡ Dir → IsSpot shape pages page_of_stamp tree path (spot.Dir n rec)
      directory-there kind =
          let node = at.1 ∙ ap (node_of (bytes_for page_of_stamp)) (body-is shape pages page_of_stamp tree runs n rec is Dir kind) in
          (refusal-is tree path false None _ short at.0 node, node, looks)
