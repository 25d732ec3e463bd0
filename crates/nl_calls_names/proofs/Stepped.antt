-- For which tree a volume stands whose names were changed.
use Rattle.std.proofs.Common.{◌≡◌, ℕ, ◌≤◌, [], ◌∷◌, length, Option, Some, None, sym, ap, subst, ◌∙◌, arith}
use Rattle.std.proofs.lemmas.List.{length-map}
use Rattle.std.specs.List.{list_any}
use Rattle.nl_field.specs.declared.shape.Shape.{Shape}
use Rattle.nl_iface.specs.declared.counts.Counts.{Ghosts}
use Rattle.nl_inode.specs.Nodes.{Spaces}
use Rattle.nl_meta.specs.Committed.{VirtualMap}
use Rattle.nl_meta.specs.Consistent.{AddressesRight, EntriesRight, PointerIsThere, NodesRight, PageOfStamp, PointersRight, RightFor}
use Rattle.nl_field.specs.Members.{Has}
use Rattle.nl_meta.specs.Nodes.{Held, graph_of, held_in}
use Rattle.nl_meta.specs.Pages.{Pages}
use Rattle.nl_meta.specs.PointerLists.{with_tag}
use Rattle.nl_meta_running.specs.Running.{running_on}
use Rattle.nl_spec_image.specs.RightFor.{PagesRepresent}
use Rattle.nl_spec_image.specs.Stands.{bytes_for}
use Rattle.nl_spec_image.proofs.SoundProofs.{right_charges}
use Rattle.nl_spec_image.proofs.TreeOfPages.{is_tree, the_tree, tree_represents}
use Rattle.nl_tree.specs.Represents.{Represents}
use Rattle.nl_tree.specs.Step.{effect_of, first_of, is_too_long, outcome_unless, own_refusal, paths_of, space_refusal, step, when}
use Rattle.nl_tree.specs.Tree.{IsTree, Tree}
use Rattle.nl_tree.specs.TreeLaws.{IsInOrder}
use Rattle.nl_tree.specs.declared.call.Call.{Call}
use Rattle.nl_tree.specs.declared.reply.Refusal.{Refusal}
use Rattle.nl_tree.specs.declared.reply.Refusal.TheVariants.{Enametoolong}
use Rattle.nl_tree.specs.declared.reply.Reply.TheVariants.{Done}
use Rattle.nl_tree.proofs.StepProofs.{order_after}
use Rattle.nl_tree.proofs.TreeProofs.{tree_laws}
use Rattle.nl_journal_commit.specs.Holding.{running_holders}
use Rattle.nl_spec_commits.specs.Trees.{RepresentsTree}
use Rattle.nl_namespace.specs.Calls.{ChangesInTree, IsStep}
use Rattle.nl_namespace.specs.Changing.{FreeFits}
use Rattle.nl_namespace.specs.Standing.{HoldsTree}
use Rattle.nl_namespace.specs.declared.answer.Change.TheVariants as change
use Rattle.nl_calls_names.proofs.Ended.{Ended}

step_order : (shape : Shape) (tree : Tree) (call : Call) → IsInOrder tree → IsInOrder (step shape tree call).tree
unfolding step
step_order shape tree call h =
    by (first_of (when (list_any is_too_long (paths_of call)) Enametoolong ∷ own_refusal tree call ∷ space_refusal shape (effect_of tree call).tree ∷ []))
  where
    by : (o : Option Refusal) → IsInOrder (outcome_unless tree (effect_of tree call) o).tree
    by None = order_after tree call h
    by (Some refusal) = h

-- a volume that runs, with what is free, is one for which the law of the calls speaks
pub holds_tree : {D : Type 0} (g : Ghosts D) (s : D) (pages : Pages) (free : Spaces) (page_of_stamp : ℕ → Option PageOfStamp) (tree : Tree) → FreeFits g s pages free → RepresentsTree (g.shape s) (running_on g s pages) page_of_stamp tree
    → HoldsTree (g.shape s) (running_on g s pages) page_of_stamp free tree
holds_tree g s pages free page_of_stamp tree fits r = record {
  right = r.right;
  represents = r.represents;
  data_fits = r.data_fits;
  count_nodes = fits.count_nodes;
  count_pool = fits.count_pool;
  nodes = fits.nodes;
  pool = fits.pool;
}

module _ {D : Type 0} (g : Ghosts D) (s : D) (pages : Pages) (free : Spaces) (t : D) (now : Pages) (after : Spaces) (call : Call) (gone : Option ℕ) (e : Ended g s pages free t now after call gone) (fits : FreeFits g s pages free)
    (few : length (running_holders g t now) ≤ (g.shape s).cap) (law : ChangesInTree) (page_of_stamp : ℕ → Option PageOfStamp) (tree : Tree) (r : RepresentsTree (g.shape s) (running_on g s pages) page_of_stamp tree) where
  abbrev shape : Shape
  shape = g.shape s

  abbrev later : VirtualMap
  later = running_on g t now

  abbrev stepped : Tree
  stepped = (step shape tree call).tree

  shapes : g.shape t ≡ shape
  shapes = e.reads.medium.virtual.same_shape

  answered : IsStep shape (bytes_for page_of_stamp) (graph_of (g.shape t) later) tree call (change.Changed gone)
  answered = law shape (running_on g s pages) page_of_stamp free (graph_of (g.shape t) later) tree call (change.Changed gone) (holds_tree g s pages free page_of_stamp tree fits r) e.names

  represents : Represents (bytes_for page_of_stamp) (graph_of shape later) stepped
  represents = subst (λ (h : Shape). Represents (bytes_for page_of_stamp) (graph_of h later) stepped) shapes answered.1

  pointers : PointersRight (held_in shape later) (PointerIsThere page_of_stamp)
  pointers =
      let was = r.right.tree.pointers in
      let in_old = subst (λ (h : Shape). (k : Held) → Has (held_in h later) k → Has (held_in shape (running_on g s pages)) k) shapes e.fewer in
      record {
        below = λ h has. was.below h (in_old h has);
        there = λ h has. was.there h (in_old h has);
        stamps_differ = λ h k a b. was.stamps_differ h k (in_old h a) (in_old k b);
        names_differ = λ h k a b. was.names_differ h k (in_old h a) (in_old k b);
      }

  right : RightFor shape later page_of_stamp
  right = record {
    legal = r.right.legal;
    numbers = r.right.numbers;
    tree = record {
      nodes = subst (λ (h : Shape). NodesRight h later) shapes e.runs.nodes;
      addresses = subst (λ (h : Shape). AddressesRight h later) shapes e.runs.addresses;
      entries = subst (λ (h : Shape). EntriesRight h later) shapes e.runs.entries;
      pointers = pointers;
    };
  }

  -- the tree after the step is the one tree for which the pages stand
  same : the_tree shape later page_of_stamp right ≡ stepped
  same = tree_laws.same_tree (the_tree shape later page_of_stamp right) stepped (is_tree shape later page_of_stamp right).in_order (step_order shape tree call r.represents.is_tree.in_order)
      (λ q. tree_represents shape later page_of_stamp right q ∙ sym (represents q))

  stands : PagesRepresent shape later page_of_stamp stepped
  stands = record { is_tree = subst IsTree same (is_tree shape later page_of_stamp right); depicts = represents }

  runs_as : RepresentsTree shape later page_of_stamp stepped
  runs_as = record {
    right = right;
    represents = stands;
    data_fits =
        let charge = (right_charges shape later page_of_stamp stepped right stands).data_pages in
        let size = length-map (held_in shape later) with_tag in
        let all = ap (λ (h : Shape). length (held_in h later)) shapes in
        let size_now = length-map (held_in (g.shape t) later) with_tag in
        omega (arith, charge, size, size_now, all, few);
  }

  pub is_done : (step (g.shape t) tree call).reply ≡ Done
  is_done = subst (λ (h : Shape). (step h tree call).reply ≡ Done) (sym shapes) answered.0

  pub runs_stepped : RepresentsTree (g.shape t) later page_of_stamp (step (g.shape t) tree call).tree
  runs_stepped = subst (λ (h : Shape). RepresentsTree h later page_of_stamp (step h tree call).tree) (sym shapes) runs_as
