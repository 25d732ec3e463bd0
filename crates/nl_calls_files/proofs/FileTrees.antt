-- A file changes, and so does the tree.
use Rattle.std.proofs.Common.{◌≡◌, ⊎_elim, ℕ, List, Option, Some, None, option_and_then, sym, ap, subst, ◌∙◌}
use Rattle.std.proofs.lemmas.Bool.{cases_eq, cond-true, lt-ltb}
use Rattle.std.specs.Prelude.{nat_lt}
use Rattle.nl_field.specs.FileContent.{FileContent}
use Rattle.nl_field.specs.Graph.{Graph, GraphNode, NodeBody}
use Rattle.nl_field.specs.declared.inode.InodeRec.{InodeRec}
use Rattle.nl_field.specs.declared.shape.Shape.{Shape}
use Rattle.nl_tree.specs.GraphChanges.{ChangesFile}
use Rattle.nl_tree.specs.GraphLaws.{entry_at}
use Rattle.nl_tree.specs.Represents.{Represents, entries_in, node_named, node_of, node_reached}
use Rattle.nl_tree.specs.Tree.{IsTree, Tree, file, node_at, with_content, with_new}
use Rattle.nl_tree.specs.TreeLaws.{IsInOrder}
use Rattle.nl_tree.proofs.ChangeProofs.{graph_changes}
use Rattle.nl_tree.proofs.TreeProofs.{tree_laws}
use Rattle.nl_meta.specs.Committed.{VirtualMap}
use Rattle.nl_meta.specs.Consistent.{PageOfStamp}
use Rattle.nl_meta.specs.Nodes.{body_of, graph_of, node_from, inode_at}
use Rattle.nl_meta.specs.PointerLists.{IsFile}
use Rattle.nl_spec_image.specs.RightFor.{PagesRepresent}
use Rattle.nl_spec_image.specs.Stands.{bytes_for}
use Rattle.nl_spec_image.proofs.TreeOfPages.{is_tree, once, the_tree, tree_represents}
use Rattle.nl_calls_files.specs.FileTrees.{FileChanges, FileChangesTree, held_content}

-- the node of a file in the graph
file_node_is : (shape : Shape) (pages : VirtualMap) (n : ℕ) (rec : InodeRec) → IsFile shape pages n rec → (graph_of shape pages n).body ≡ body_of pages rec rec.kind
unfolding graph_of
file_node_is shape pages n rec is = ap (λ (o : Option InodeRec). (node_from pages o).body) (cond-true (nat_lt n shape.nodes) (inode_at pages n) None (lt-ltb n shape.nodes is.below) ∙ is.spelled)

-- what the tree has where a path leads to the file
pub file_at : (shape : Shape) (pages : VirtualMap) (page_of_stamp : ℕ → Option PageOfStamp) (n : ℕ) (rec : InodeRec) (path : List (List ℕ)) (tree : Tree) → IsFile shape pages n rec → node_reached (graph_of shape pages) 0 path ≡ Some n
    → PagesRepresent shape pages page_of_stamp tree → node_at tree path ≡ Some (file (held_content page_of_stamp pages rec))
file_at shape pages page_of_stamp n rec path tree is leads r =
    r.depicts path ∙ ap (option_and_then (λ m. node_of (bytes_for page_of_stamp) (graph_of shape pages m).body)) leads
    ∙ ap (node_of (bytes_for page_of_stamp)) (file_node_is shape pages n rec is ∙ ap (body_of pages rec) is.kind)

order_content : (tree : Tree) (path : List (List ℕ)) (content : FileContent) → IsInOrder tree → IsInOrder (with_content tree path content)
unfolding with_content with_new
order_content tree path content h = tree_laws.order_new tree path (file content) h

module _ (shape : Shape) (old new : VirtualMap) (page_of_stamp : ℕ → Option PageOfStamp) (n : ℕ) (was is : InodeRec) (path : List (List ℕ)) (tree : Tree) (c : FileChanges shape old new page_of_stamp n was is path)
    (r : PagesRepresent shape old page_of_stamp tree) where
  abbrev before : Graph
  before = graph_of shape old

  abbrev after : Graph
  after = graph_of shape new

  abbrev bytes : ℕ → List ℕ
  bytes = bytes_for page_of_stamp

  body_before : (before n).body ≡ body_of old was was.kind
  body_before = file_node_is shape old n was c.file_before

  body_after : (after n).body ≡ body_of new is is.kind
  body_after = file_node_is shape new n is c.file_after

  -- a file has no entries
  none_before : (x : List ℕ) → entry_at before n x ≡ None
  none_before x = ap (λ (b : NodeBody). node_named x (entries_in b)) (body_before ∙ ap (body_of old was) c.file_before.kind)

  none_after : (x : List ℕ) → entry_at after n x ≡ None
  none_after x = ap (λ (b : NodeBody). node_named x (entries_in b)) (body_after ∙ ap (body_of new is) c.file_after.kind)

  changes : ChangesFile bytes bytes before after n (held_content page_of_stamp new is)
  changes = record {
    entries_stay = λ k x. ⊎_elim
        (λ here. subst (λ m. entry_at after m x ≡ entry_at before m x) (sym here) (none_after x ∙ sym (none_before x)))
        (λ far. ap (λ (g : GraphNode). node_named x (entries_in g.body)) (c.others k far)) (cases_eq k n);
    file_there = ap (node_of bytes) (body_after ∙ ap (body_of new is) c.file_after.kind);
    bodies_stay = λ k far. ap (λ (g : GraphNode). node_of bytes g.body) (c.others k far);
  }

  represents : Represents bytes after (with_content tree path (held_content page_of_stamp new is))
  represents = graph_changes.changed bytes bytes before after tree n path (held_content page_of_stamp new is) (once shape old page_of_stamp c.right_before) changes c.leads r.depicts

  -- the tree with the file is the one tree for which the pages stand
  same : the_tree shape new page_of_stamp c.right_after ≡ with_content tree path (held_content page_of_stamp new is)
  same = tree_laws.same_tree (the_tree shape new page_of_stamp c.right_after) (with_content tree path (held_content page_of_stamp new is)) (is_tree shape new page_of_stamp c.right_after).in_order
      (order_content tree path (held_content page_of_stamp new is) r.is_tree.in_order) (λ q. tree_represents shape new page_of_stamp c.right_after q ∙ sym (represents q))

  changed : PagesRepresent shape new page_of_stamp (with_content tree path (held_content page_of_stamp new is))
  changed = record { is_tree = subst IsTree same (is_tree shape new page_of_stamp c.right_after); depicts = represents }

pub file_changes_tree : FileChangesTree
file_changes_tree shape old new page_of_stamp n was is path tree c r = changed shape old new page_of_stamp n was is path tree c r
