-- Nodes that are the same but for names of pages stand for the same tree.
use Rattle.std.proofs.Common.{◌≡◌, ℕ, List, Some, refl, sym, ap, ◌∙◌}
use Rattle.nl_field.specs.Graph.{Graph, NodeBody, directory_node, file_node, unused}
use Rattle.nl_field.specs.declared.pointer.Pointer.{Pointer}
use Rattle.nl_tree.specs.GraphLaws.{entry_at}
use Rattle.nl_tree.specs.Represents.{entries_in, node_named, node_of}
use Rattle.nl_tree.specs.Tree.{file}
use Rattle.nl_tree.proofs.ChangeProofs.{graph_changes}
use Rattle.nl_core_callbacks.specs.Handled.{SameButNames, nameless, nameless_body}
use Rattle.nl_core_callbacks.specs.Laws.{TreesStay}
use Rattle.nl_core_callbacks.proofs.Nameless.{seen-alike}

entries-seen : (body : NodeBody) → entries_in (nameless_body body) ≡ entries_in body
entries-seen unused = refl
entries-seen (directory_node entries) = refl
entries-seen (file_node size pointers) = refl

node-seen : (bytes_of : ℕ → List ℕ) (body : NodeBody) → node_of bytes_of (nameless_body body) ≡ node_of bytes_of body
node-seen bytes_of unused = refl
node-seen bytes_of (directory_node entries) = refl
node-seen bytes_of (file_node size pointers) =
    ap (λ (pages : List (ℕ × List ℕ)). Some (file (record { size = size; pages = pages })))
    (seen-alike (λ (p : ℕ × Pointer). (p.0, bytes_of p.1.stamp)) (λ (p : ℕ × Pointer). (p.0, nameless p.1)) (λ p. refl) pointers)

module _ (old new : Graph) (same : SameButNames old new) where
  entries-stay : (k : ℕ) (x : List ℕ) → entry_at new k x ≡ entry_at old k x
  entries-stay k x = ap (node_named x) (sym (entries-seen (new k).body) ∙ ap entries_in (same.body k) ∙ entries-seen (old k).body)

  bodies-stay : (bytes_of : ℕ → List ℕ) (k : ℕ) → node_of bytes_of (new k).body ≡ node_of bytes_of (old k).body
  bodies-stay bytes_of k = sym (node-seen bytes_of (new k).body) ∙ ap (node_of bytes_of) (same.body k) ∙ node-seen bytes_of (old k).body

pub trees_stay : TreesStay
trees_stay bytes_of old new tree same was = graph_changes.kept bytes_of bytes_of old new tree (record { entries_stay = entries-stay old new same; bodies_stay = bodies-stay old new same bytes_of }) was
