-- What a read of a piece answers on a tree.
use Rattle.std.proofs.Common.{◌≡◌, ℕ, List, [], ◌∷◌, inl, inr, refl, sym, subst, ◌∙◌, Option, Some, None, is_none}
use Rattle.std.specs.Prelude.{◌⊎◌}
use Rattle.nl_field.specs.FileContent.{FileContent, bytes_read}
use Rattle.nl_field.specs.declared.shape.Shape.{Shape}
use Rattle.nl_meta.specs.Committed.{VirtualMap}
use Rattle.nl_meta.specs.Consistent.{PageOfStamp}
use Rattle.nl_spec_commits.specs.Trees.{RepresentsTree}
use Rattle.nl_tree.specs.Replay.{Answers}
use Rattle.nl_tree.specs.Step.{Outcome, effect_of, first_of, missing, own_refusal, prefix_refusal, refusal_before, refusal_of_file, step, when}
use Rattle.nl_tree.specs.Tree.{Node, Tree, content_of, directory, file, is_directory, is_root, node_at}
use Rattle.nl_tree.specs.declared.call.Call.TheVariants.{Read}
use Rattle.nl_tree.specs.declared.reply.Refusal.{Refusal}
use Rattle.nl_tree.specs.declared.reply.Refusal.TheVariants.{Eisdir, Enoent}
use Rattle.nl_tree.specs.declared.reply.Reply.{Reply}
use Rattle.nl_tree.specs.declared.reply.Reply.TheVariants.{Content, No}
use Rattle.nl_tree.proofs.StepProofs.{performed, refused_before}
use Rattle.nl_calls_files.proofs.Directories.{room}
use Rattle.nl_cmd_view.specs.Getting.{refusal_of_read}

-- ---- what is not refused is a file

none_of : (a : Option Refusal) (rest : List (Option Refusal)) → first_of (a ∷ rest) ≡ None → (a ≡ None) × (first_of rest ≡ None)
none_of None rest e = (refl, e)
none_of (Some x) rest e = absurd (cc e)

there : (o : Option Node) → when (is_none o) Enoent ≡ None → when (is_directory o) Eisdir ≡ None → (content : FileContent) × (o ≡ Some (file content))
there None a b = absurd (cc a)
there (Some directory) a b = absurd (cc b)
there (Some (file content)) a b = (content, refl)

pub file_there : (tree : Tree) (path : List (List ℕ)) → refusal_of_read tree path ≡ None → (content : FileContent) × (node_at tree path ≡ Some (file content))
unfolding own_refusal refusal_of_file
file_there tree path e =
    let own = none_of (refusal_of_file tree path) [] (none_of _ (refusal_of_file tree path ∷ []) e).1 in
    let root = none_of (when (is_root path) Eisdir) _ own.0 in
    let prefix = none_of (prefix_refusal tree path) _ root.1 in
    let gone = none_of (missing tree path) _ prefix.1 in
    let kind = none_of (when (is_directory (node_at tree path)) Eisdir) [] gone.1 in
    there (node_at tree path) gone.0 kind.0

-- ---- the answer

-- where it reads, what it was to read does not matter
same_refusal : (tree : Tree) (path : List (List ℕ)) (at n : ℕ) → refusal_before tree (Read path at n) ≡ refusal_of_read tree path
unfolding own_refusal
same_refusal tree path at n = refl

module _ (shape : Shape) (pages : VirtualMap) (page_of_stamp : ℕ → Option PageOfStamp) (tree : Tree) (runs : RepresentsTree shape pages page_of_stamp tree) (path : List (List ℕ)) (at n : ℕ) where
  reads : refusal_of_read tree path ≡ None → step shape tree (Read path at n) ≡ record { reply = Content; bytes = bytes_read (content_of (node_at tree path)) at n; tree = tree }
  unfolding effect_of
  reads none = performed shape tree tree (Read path at n) (sym (same_refusal tree path at n ∙ none)) refl (room shape pages page_of_stamp tree runs)

  refuses : (r : Refusal) → refusal_of_read tree path ≡ Some r → step shape tree (Read path at n) ≡ record { reply = No r; bytes = []; tree = tree }
  refuses r some = refused_before shape tree (Read path at n) r (sym (same_refusal tree path at n ∙ some))

  -- the bytes of the file, or the refusal
  pub answer_is : (reply : Reply) (bytes : List ℕ) → Answers (step shape tree (Read path at n)) reply bytes
      → ((refusal_of_read tree path ≡ None) × (reply ≡ Content) × (bytes ≡ bytes_read (content_of (node_at tree path)) at n)) ⊎ ((r : Refusal) × (refusal_of_read tree path ≡ Some r) × (reply ≡ No r))
  answer_is reply bytes answers = by (refusal_of_read tree path) refl
    where
      by : (o : Option Refusal) → refusal_of_read tree path ≡ o
          → ((refusal_of_read tree path ≡ None) × (reply ≡ Content) × (bytes ≡ bytes_read (content_of (node_at tree path)) at n)) ⊎ ((r : Refusal) × (refusal_of_read tree path ≡ Some r) × (reply ≡ No r))
      by None is = let a = subst (λ (o : Outcome). Answers o reply bytes) (reads is) answers in inl (is, a.0, a.1)
      by (Some r) is = inr (r, is, (subst (λ (o : Outcome). Answers o reply bytes) (refuses r is) answers).0)
