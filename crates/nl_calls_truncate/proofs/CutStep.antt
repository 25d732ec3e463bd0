-- What the step of a tree answers to a truncate.
use Rattle.std.proofs.Common.{◌≡◌, ℕ, ◌<◌, ◌≤◌, nat_lt, Bool, true, false, ◌||◌, List, [], ◌∷◌, refl, sym, ap, ◌∙◌, Option, Some, None}
use Rattle.std.proofs.lemmas.Bool.{le-ltb, lt-ltb}
use Rattle.nl_field.specs.FileContent.{cut_to}
use Rattle.nl_field.specs.Numbers.{max_file_size}
use Rattle.nl_field.specs.declared.shape.Shape.{Shape}
use Rattle.nl_tree.specs.Step.{refusal_before, done_with, effect_of, first_of, is_too_long, own_refusal, refusal_of_file, space_refusal, step, when}
use Rattle.nl_tree.specs.Tree.{Tree, content_of, node_at, with_content}
use Rattle.nl_tree.specs.declared.call.Call.TheVariants.{Truncate}
use Rattle.nl_tree.specs.declared.reply.Refusal.{Refusal}
use Rattle.nl_tree.specs.declared.reply.Refusal.TheVariants.{Efbig, Enametoolong}
use Rattle.nl_tree.specs.declared.reply.Reply.TheVariants.{No}
use Rattle.nl_tree.proofs.StepProofs.{performed, refused_before}
use Rattle.nl_calls_files.specs.Refusals.{refusal_of_path}

only : (b : Bool) → (b || false) ≡ b
only true = refl
only false = refl

first_two : (a b c : Option Refusal) → first_of (a ∷ first_of (b ∷ c ∷ []) ∷ []) ≡ first_of (first_of (a ∷ b ∷ []) ∷ c ∷ [])
first_two (Some x) b c = refl
first_two None (Some y) c = refl
first_two None None (Some z) = refl
first_two None None None = refl

module _ (shape : Shape) (tree : Tree) (path : List (List ℕ)) (size : ℕ) where
  before_is : refusal_before tree (Truncate path size) ≡ first_of (refusal_of_path tree path ∷ when (nat_lt max_file_size size) Efbig ∷ [])
  unfolding own_refusal
  before_is =
      ap (λ (b : Bool). first_of (when b Enametoolong ∷ first_of (refusal_of_file tree path ∷ when (nat_lt max_file_size size) Efbig ∷ []) ∷ [])) (only (is_too_long path))
      ∙ first_two (when (is_too_long path) Enametoolong) (refusal_of_file tree path) (when (nat_lt max_file_size size) Efbig)

  pub path_refuses : (r : Refusal) → refusal_of_path tree path ≡ Some r → step shape tree (Truncate path size) ≡ record { reply = No r; bytes = []; tree = tree }
  path_refuses r e = refused_before shape tree (Truncate path size) r (sym (before_is ∙ ap (λ (o : Option Refusal). first_of (o ∷ when (nat_lt max_file_size size) Efbig ∷ [])) e))

  pub far_refuses : refusal_of_path tree path ≡ None → max_file_size < size → step shape tree (Truncate path size) ≡ record { reply = No Efbig; bytes = []; tree = tree }
  far_refuses e far = refused_before shape tree (Truncate path size) Efbig (sym (before_is ∙ (λ i. first_of (e i ∷ when (lt-ltb max_file_size size far i) Efbig ∷ []))))

  pub is_done : refusal_of_path tree path ≡ None → size ≤ max_file_size → None ≡ space_refusal shape (with_content tree path (cut_to (content_of (node_at tree path)) size))
      → step shape tree (Truncate path size) ≡ done_with (with_content tree path (cut_to (content_of (node_at tree path)) size))
  unfolding effect_of
  is_done e near room = performed shape tree (with_content tree path (cut_to (content_of (node_at tree path)) size)) (Truncate path size)
      (sym (before_is ∙ (λ i. first_of (e i ∷ when (le-ltb max_file_size size near i) Efbig ∷ [])))) refl room
