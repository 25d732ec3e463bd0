-- No file of the tree of a core's pages is longer than a file may be.
use Rattle.std.proofs.Common.{◌≡◌, ◌<◌, ◌≤◌, ℕ, List, refl, sym, ap, subst, ◌∙◌, Option, Some, None, arith}
use Rattle.std.specs.Option.{option_and_then}
use Rattle.nl_field.specs.FileContent.{FileContent}
use Rattle.nl_field.proofs.Bounds.{bounds}
use Rattle.nl_field.specs.Numbers.{ShapeBounds, max_file_size}
use Rattle.nl_field.specs.declared.inode.InodeRec.{InodeRec}
use Rattle.nl_field.specs.declared.inode.Kind.{Kind}
use Rattle.nl_field.specs.declared.inode.Kind.TheVariants.{Dir, File, Unused}
use Rattle.nl_field.specs.declared.shape.Shape.{Shape}
use Rattle.nl_meta.specs.Committed.{VirtualMap}
use Rattle.nl_meta.specs.Consistent.{IsNode, PageOfStamp}
use Rattle.nl_meta.specs.Nodes.{graph_of}
use Rattle.nl_spec_image.specs.Stands.{bytes_for}
use Rattle.nl_spec_image.proofs.GraphOfPages.{reached_is_node}
use Rattle.nl_spec_commits.specs.Trees.{RepresentsTree}
use Rattle.nl_tree.specs.Represents.{node_of, node_reached}
use Rattle.nl_tree.specs.Tree.{Node, Tree, directory, file, node_at}
use Rattle.nl_indirect.proofs.LawProofs.{file_of_node}
use Rattle.nl_files.proofs.Filling.{file-size}
use Rattle.nl_calls_files.proofs.Directories.{at-node, body-is}

no_file : (content : FileContent) → (let x : Option Node = Some (file content) in x) ≡ None → ⊥
no_file content e = cc e

no_directory : (content : FileContent) → (let x : Option Node = Some (file content) in x) ≡ Some directory → ⊥
no_directory content e = cc e

same_size : (c d : FileContent) → (let x : Option Node = Some (file c) in x) ≡ Some (file d) → c.size ≡ d.size
same_size c d e = cc e

module _ (shape : Shape) (pages : VirtualMap) (page_of_stamp : ℕ → Option PageOfStamp) (tree : Tree) (runs : RepresentsTree shape pages page_of_stamp tree) (path : List (List ℕ)) (content : FileContent) (there : node_at tree path ≡ Some (file content)) where
  of_kind : (n : ℕ) (rec : InodeRec) → IsNode shape pages n rec → (k : Kind) → rec.kind ≡ k → (let x : Option Node = Some (file content) in x) ≡ node_of (bytes_for page_of_stamp) (graph_of shape pages n).body → content.size ≤ max_file_size
  of_kind n rec is Unused kind e = absurd (is.used kind)
  of_kind n rec is Dir kind e = absurd (no_directory content (e ∙ ap (node_of (bytes_for page_of_stamp)) (body-is shape pages page_of_stamp tree runs n rec is Dir kind)))
  of_kind n rec is File kind e =
      let same : content.size ≡ rec.size = same_size content _ (e ∙ ap (node_of (bytes_for page_of_stamp)) (body-is shape pages page_of_stamp tree runs n rec is File kind)) in
      let few = file-size rec (file_of_node shape pages n rec runs.right.tree.addresses is kind).file in
      omega (arith, same, few)

  pub size_fits : content.size ≤ max_file_size
  size_fits = by (node_reached (graph_of shape pages) 0 path) refl
    where
      some_nodes : 0 < shape.nodes
      some_nodes = let s = (subst ShapeBounds (sym runs.right.numbers) (bounds shape.blocks shape.pages runs.right.legal)).some_nodes in omega (arith, s)

      by : (o : Option ℕ) → node_reached (graph_of shape pages) 0 path ≡ o → content.size ≤ max_file_size
      by None r = absurd (no_file content (sym there ∙ runs.represents.depicts path ∙ ap (option_and_then (λ k. node_of (bytes_for page_of_stamp) (graph_of shape pages k).body)) r))
      by (Some n) r =
          let node = reached_is_node shape pages runs.right.tree.entries runs.right.tree.nodes path n some_nodes r in
          of_kind n node.rec node.is node.rec.kind refl (sym there ∙ at-node shape pages page_of_stamp tree runs path n r)
