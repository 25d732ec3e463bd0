-- What the step of a tree answers to a call that writes.
use Rattle.std.proofs.Common.{◌≡◌, ℕ, ◌+◌, ◌<◌, Bool, true, false, ◌||◌, List, [], ◌∷◌, length, refl, sym, ap, ◌∙◌, Option, Some, None}
use Rattle.std.proofs.lemmas.Bool.{and_from, lt-ltb}
use Rattle.std.proofs.lemmas.List.{length-replicate}
use Rattle.nl_field.specs.FileContent.{written_over}
use Rattle.nl_field.specs.Numbers.{max_file_size}
use Rattle.nl_field.specs.declared.shape.Shape.{Shape}
use Rattle.nl_tree.specs.KeptSums.{changed_path}
use Rattle.nl_tree.specs.Step.{refusal_before, Outcome, effect_of, first_of, is_too_long, own_refusal, refusal_of_file, space_refusal, step, when, write_outcome}
use Rattle.nl_tree.specs.Tree.{Tree, content_of, node_at}
use Rattle.nl_tree.specs.declared.call.Call.{Call}
use Rattle.nl_tree.specs.declared.call.Call.TheVariants.{Fill, Write}
use Rattle.nl_tree.specs.declared.reply.Refusal.{Refusal}
use Rattle.nl_tree.specs.declared.reply.Refusal.TheVariants.{Efbig, Enametoolong}
use Rattle.nl_tree.specs.declared.reply.Reply.TheVariants.{No}
use Rattle.nl_tree.proofs.StepProofs.{performed, refused_after, refused_before}
use Rattle.nl_calls_files.specs.Refusals.{refusal_of_path}
use Rattle.nl_calls_bytes.specs.Refusals.{is_too_far}
use Rattle.nl_calls_bytes.specs.Ranges.{IsWriting, data_of, from_of, len_of, path_of}

only : (b : Bool) → (b || false) ≡ b
only true = refl
only false = refl

first-two : (a b c : Option Refusal) → first_of (a ∷ first_of (b ∷ c ∷ []) ∷ []) ≡ first_of (first_of (a ∷ b ∷ []) ∷ c ∷ [])
first-two (Some x) b c = refl
first-two None (Some y) c = refl
first-two None None (Some z) = refl
first-two None None None = refl

pub length-data : (call : Call) → IsWriting call → length (data_of call) ≡ len_of call
length-data (Write path from bytes) w = refl
length-data (Fill path from len byte) w = length-replicate len byte
length-data _ w = absurd w

pub changes : (call : Call) → IsWriting call → changed_path call ≡ Some (path_of call)
changes (Write path from bytes) w = refl
changes (Fill path from len byte) w = refl
changes _ w = absurd w

module _ (shape : Shape) (tree : Tree) where
  pub effect-is : (call : Call) → IsWriting call → effect_of tree call ≡ write_outcome tree (path_of call) (len_of call) (written_over (content_of (node_at tree (path_of call))) (from_of call) (data_of call))
  unfolding effect_of
  effect-is (Write path from bytes) w = refl
  effect-is (Fill path from len byte) w = refl
  effect-is _ w = absurd w

  own : (path : List (List ℕ)) (far : Bool) → first_of (when (is_too_long path || false) Enametoolong ∷ first_of (refusal_of_file tree path ∷ when far Efbig ∷ []) ∷ []) ≡ first_of (refusal_of_path tree path ∷ when far Efbig ∷ [])
  own path far =
      ap (λ (b : Bool). first_of (when b Enametoolong ∷ first_of (refusal_of_file tree path ∷ when far Efbig ∷ []) ∷ [])) (only (is_too_long path))
      ∙ first-two (when (is_too_long path) Enametoolong) (refusal_of_file tree path) (when far Efbig)

  before-is : (call : Call) → IsWriting call → refusal_before tree call ≡ first_of (refusal_of_path tree (path_of call) ∷ when (is_too_far call) Efbig ∷ [])
  unfolding own_refusal
  before-is (Write path from bytes) w = own path (is_too_far (Write path from bytes))
  before-is (Fill path from len byte) w = own path (is_too_far (Fill path from len byte))
  before-is _ w = absurd w

  abbrev refused : Refusal → Outcome
  refused r = record { reply = No r; bytes = []; tree = tree }

  module _ (call : Call) (w : IsWriting call) where
    pub path-refuses : (r : Refusal) → refusal_of_path tree (path_of call) ≡ Some r → step shape tree call ≡ record { reply = No r; bytes = []; tree = tree }
    path-refuses r e = refused_before shape tree call r (sym (before-is call w ∙ ap (λ (o : Option Refusal). first_of (o ∷ when (is_too_far call) Efbig ∷ [])) e))

    pub far-refuses : refusal_of_path tree (path_of call) ≡ None → 0 < len_of call → max_file_size < from_of call + len_of call → step shape tree call ≡ record { reply = No Efbig; bytes = []; tree = tree }
    far-refuses e some far =
        refused_before shape tree call Efbig
        (sym (before-is call w ∙ (λ i. first_of (e i ∷ when (and_from _ _ (lt-ltb 0 (len_of call) some) (lt-ltb max_file_size (from_of call + len_of call) far) i) Efbig ∷ []))))

    none-before : refusal_of_path tree (path_of call) ≡ None → is_too_far call ≡ false → None ≡ refusal_before tree call
    none-before e near = sym (before-is call w ∙ (λ i. first_of (e i ∷ when (near i) Efbig ∷ [])))

    pub room-refuses : (r : Refusal) → refusal_of_path tree (path_of call) ≡ None → is_too_far call ≡ false → space_refusal shape (effect_of tree call).tree ≡ Some r → step shape tree call ≡ record { reply = No r; bytes = []; tree = tree }
    room-refuses r e near room = refused_after shape tree (effect_of tree call).tree call r (none-before e near) refl (sym room)

    pub is-done : refusal_of_path tree (path_of call) ≡ None → is_too_far call ≡ false → space_refusal shape (effect_of tree call).tree ≡ None → step shape tree call ≡ effect_of tree call
    is-done e near room = performed shape tree (effect_of tree call).tree call (none-before e near) refl (sym room)
