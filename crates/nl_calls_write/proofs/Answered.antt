-- What the step of a tree answers to a call on a file of a core that runs as the tree.
use Rattle.std.proofs.Common.{◌≡◌, ℕ, ◌+◌, ◌<◌, ◌≤◌, ◌==◌, nat_lt, Bool, true, false, ◌&&◌, cond, List, [], length, Option, Some, None, refl, sym, ap, ◌∙◌}
use Rattle.std.proofs.lemmas.Bool.{cond-true, eq-eqb, le-ltb}
use Rattle.std.proofs.lemmas.List.{length-map}
use Rattle.nl_field.specs.FileContent.{FileContent, written_over}
use Rattle.nl_field.specs.Numbers.{max_file_size}
use Rattle.nl_field.specs.declared.inode.InodeRec.{InodeRec}
use Rattle.nl_field.specs.declared.shape.Shape.{Shape}
use Rattle.nl_tree.specs.Represents.{node_reached}
use Rattle.nl_tree.specs.Step.{Outcome, effect_of, is_too_long, space_refusal, step}
use Rattle.nl_tree.specs.Tree.{Node, Tree, content_of, file, node_at, paths_eq, with_content}
use Rattle.nl_tree.specs.declared.call.Call.{Call}
use Rattle.nl_tree.specs.declared.reply.Refusal.{Refusal}
use Rattle.nl_tree.specs.declared.reply.Refusal.TheVariants.{Efbig}
use Rattle.nl_tree.specs.declared.reply.Reply.TheVariants.{Count, No}
use Rattle.nl_tree.proofs.StepProofs.{order_after}
use Rattle.nl_tree.proofs.TreeProofs.{eq_path, tree_laws}
use Rattle.nl_iface.specs.declared.counts.Counts.{Ghosts}
use Rattle.nl_meta.specs.Consistent.{PageOfStamp}
use Rattle.nl_meta.specs.Nodes.{held_in}
use Rattle.nl_meta.specs.PointerLists.{with_tag}
use Rattle.nl_core.specs.Core.{IsCore, running_of}
use Rattle.nl_core.specs.Trees.{CoreRepresentsTree}
use Rattle.nl_core.specs.declared.state.Core.{Core}
use Rattle.nl_calls_files.specs.FileTrees.{held_content}
use Rattle.nl_calls_files.specs.Fits.{IsFileOf}
use Rattle.nl_calls_files.specs.LineNeeds.{free_addresses, new_pointers, new_ranges}
use Rattle.nl_calls_files.specs.Refusals.{refusal_of_path}
use Rattle.nl_calls_files.proofs.Fits.{files_stand}
use Rattle.nl_calls_files.proofs.Directories.{room as has_room}
use Rattle.nl_calls_bytes.specs.Refusals.{is_too_far}
use Rattle.nl_calls_bytes.specs.Contents.{indexes_written}
use Rattle.nl_calls_bytes.specs.Laws.{LooksRefuseAll}
use Rattle.nl_calls_bytes.specs.Room.{room_refusal}
use Rattle.nl_calls_bytes.specs.Ranges.{IsWriting, data_of, from_of, len_of, path_of}
use Rattle.nl_calls_bytes.proofs.Refused.{writes-refused}
use Rattle.nl_calls_bytes.proofs.Stepped.{effect-is, far-refuses, is-done, length-data, room-refuses}
use Rattle.nl_calls_steps.specs.Calls.{HasPagesOfFiles}
use Rattle.nl_calls_steps.specs.Finding.{nodes_of}
use Rattle.nl_calls_steps.proofs.FilePages.{at-path}
use Rattle.nl_calls_write.specs.Fitting.{refusal_for}

and_false : (b : Bool) → (b && false) ≡ false
and_false true = refl
and_false false = refl

module _ {D : Type 0} (g : Ghosts D) (v : Core D) (core : IsCore g v) (n : ℕ) (rec : InodeRec) (is : IsFileOf g v.device v.meta n rec) (call : Call) (w : IsWriting call) (short : is_too_long (path_of call) ≡ false)
    (leads : node_reached (nodes_of g v) 0 (path_of call) ≡ Some n) (looks : LooksRefuseAll) (page_of_stamp : ℕ → Option PageOfStamp) (tree : Tree) (at : CoreRepresentsTree g v page_of_stamp tree) where
  abbrev shape : Shape
  shape = g.shape v.device

  path_allows : refusal_of_path tree (path_of call) ≡ None
  path_allows = (looks shape (running_of g v) page_of_stamp tree (path_of call) at.runs short).file n rec is.is_node leads is.is_file

  roomy : None ≡ space_refusal shape tree
  roomy = has_room shape (running_of g v) page_of_stamp tree at.runs

  -- the call ends too far
  pub refuses_far : 0 < len_of call → max_file_size < from_of call + len_of call → step shape tree call ≡ record { reply = No Efbig; bytes = []; tree = tree }
  refuses_far some far = far-refuses shape tree call w path_allows some far

  -- the call has no bytes
  module _ (none : len_of call ≡ 0) where
    no_data : length (data_of call) ≡ 0
    no_data = length-data call w ∙ none

    content : FileContent
    content = held_content page_of_stamp (running_of g v) rec

    there : node_at tree (path_of call) ≡ Some (file content)
    unfolding content
    there = at-path g v page_of_stamp tree n rec is at (path_of call) leads

    same_content : written_over (content_of (node_at tree (path_of call))) (from_of call) (data_of call) ≡ content
    unfolding written_over
    same_content = cond-true (length (data_of call) == 0) _ _ (eq-eqb (length (data_of call)) 0 no_data) ∙ ap (λ (o : Option Node). content_of o) there

    effect_tree : (effect_of tree call).tree ≡ with_content tree (path_of call) content
    effect_tree = ap (λ (o : Outcome). o.tree) (effect-is shape tree call w) ∙ ap (with_content tree (path_of call)) same_content

    each : (q : List (List ℕ)) → node_at (effect_of tree call).tree q ≡ node_at tree q
    each q = ap (λ (t : Tree). node_at t q) effect_tree ∙ tree_laws.at_content tree (path_of call) q content ∙ by (paths_eq q (path_of call)) refl
      where
        by : (b : Bool) → paths_eq q (path_of call) ≡ b → cond b (Some (file content)) (node_at tree q) ≡ node_at tree q
        by true e = sym (ap (λ (p : List (List ℕ)). node_at tree p) (eq_path q (path_of call) e) ∙ there)
        by false e = refl

    pub tree_stays : (effect_of tree call).tree ≡ tree
    tree_stays = tree_laws.same_tree (effect_of tree call).tree tree (order_after tree call at.runs.represents.is_tree.in_order) at.runs.represents.is_tree.in_order each

    pub done_none : step shape tree call ≡ effect_of tree call
    done_none = is-done shape tree call w path_allows (ap (λ (k : ℕ). nat_lt 0 k && nat_lt max_file_size (from_of call + k)) none) (ap (space_refusal shape) tree_stays ∙ sym roomy)

  -- the call has some bytes
  module _ (some : 0 < len_of call) (within : from_of call + len_of call ≤ 16809984) (files : ℕ) (count : HasPagesOfFiles g v files) where
    near : is_too_far call ≡ false
    near = ap (λ (b : Bool). nat_lt 0 (len_of call) && b) (le-ltb max_file_size (from_of call + len_of call) within) ∙ and_false (nat_lt 0 (len_of call))

    refused_for : refusal_for g v rec (from_of call) (len_of call) files ≡ space_refusal shape (effect_of tree call).tree
    refused_for =
        ap
        (λ (k : ℕ). room_refusal (free_addresses v.nodes) (new_ranges rec (indexes_written (from_of call) (len_of call))) shape.cap k (new_pointers (running_of g v) rec (indexes_written (from_of call) (len_of call))))
        (count ∙ length-map (held_in shape (running_of g v)) with_tag)
        ∙ writes-refused shape (running_of g v) page_of_stamp tree at.runs roomy v.nodes core.free.pool core.free.count_pool n rec is.is_node is.is_file (files_stand g v.device v.meta n rec core.journaled.runs is).file call w some leads

    pub refuses_room : (refusal : Refusal) → refusal_for g v rec (from_of call) (len_of call) files ≡ Some refusal → step shape tree call ≡ record { reply = No refusal; bytes = []; tree = tree }
    refuses_room refusal e = room-refuses shape tree call w refusal path_allows near (sym refused_for ∙ e)

    pub done_some : refusal_for g v rec (from_of call) (len_of call) files ≡ None → step shape tree call ≡ effect_of tree call
    done_some e = is-done shape tree call w path_allows near (sym refused_for ∙ e)

-- what it replies
pub replies : (shape : Shape) (tree : Tree) (call : Call) → IsWriting call → step shape tree call ≡ effect_of tree call → (step shape tree call).reply ≡ Count (len_of call)
replies shape tree call w e = ap (λ (o : Outcome). o.reply) (e ∙ effect-is shape tree call w)

-- the tree after the call
pub tree_after : (shape : Shape) (tree : Tree) (call : Call) → IsWriting call → step shape tree call ≡ effect_of tree call
    → with_content tree (path_of call) (written_over (content_of (node_at tree (path_of call))) (from_of call) (data_of call)) ≡ (step shape tree call).tree
tree_after shape tree call w e = sym (ap (λ (o : Outcome). o.tree) (e ∙ effect-is shape tree call w))
