-- What refuses a call that only looks, by what the path comes to.
use Rattle.std.proofs.Common.{◌≡◌, ℕ, Bool, true, false, ◌||◌, List, [], ◌∷◌, Option, Some, None, is_none, refl, sym, ap, ◌∙◌}
use Rattle.nl_tree.specs.Step.{refusal_before, first_of, is_too_long, missing, own_refusal, prefix_refusal, prefix_refusal_from, refusal_of_file, when}
use Rattle.nl_tree.specs.Tree.{Node, Tree, directory, is_directory, is_file, node_at}
use Rattle.nl_tree.specs.declared.call.Call.TheVariants.{List as ListCall, Read, Stat}
use Rattle.nl_tree.specs.declared.reply.Refusal.{Refusal}
use Rattle.nl_tree.specs.declared.reply.Refusal.TheVariants.{Eisdir, Enametoolong, Enoent, Enotdir}
use Rattle.nl_calls_read.specs.Spots.{refusal_of_path}

only : (b : Bool) → (b || false) ≡ b
only true = refl
only false = refl

first-two : (a b c : Option Refusal) → first_of (a ∷ first_of (b ∷ c ∷ []) ∷ []) ≡ first_of (a ∷ b ∷ c ∷ [])
first-two (Some x) b c = refl
first-two None (Some y) c = refl
first-two None None (Some z) = refl
first-two None None None = refl

first-three : (a b c d : Option Refusal) → first_of (a ∷ first_of (b ∷ c ∷ d ∷ []) ∷ []) ≡ first_of (first_of (a ∷ b ∷ c ∷ []) ∷ d ∷ [])
first-three (Some x) b c d = refl
first-three None (Some y) c d = refl
first-three None None (Some z) d = refl
first-three None None None (Some w) = refl
first-three None None None None = refl

module _ (tree : Tree) (path : List (List ℕ)) where
  pub stat-refusal : refusal_before tree (Stat path) ≡ refusal_of_path tree path
  unfolding own_refusal
  stat-refusal =
      ap (λ (b : Bool). first_of (when b Enametoolong ∷ first_of (prefix_refusal tree path ∷ missing tree path ∷ []) ∷ [])) (only (is_too_long path))
      ∙ first-two (when (is_too_long path) Enametoolong) (prefix_refusal tree path) (missing tree path)

  pub list-refusal : refusal_before tree (ListCall path) ≡ first_of (refusal_of_path tree path ∷ when (is_file (node_at tree path)) Enotdir ∷ [])
  unfolding own_refusal
  list-refusal =
      ap (λ (b : Bool). first_of (when b Enametoolong ∷ first_of (prefix_refusal tree path ∷ missing tree path ∷ when (is_file (node_at tree path)) Enotdir ∷ []) ∷ [])) (only (is_too_long path))
      ∙ first-three (when (is_too_long path) Enametoolong) (prefix_refusal tree path) (missing tree path) (when (is_file (node_at tree path)) Enotdir)

-- the root is a directory, and so it refuses as any other
pub read-refusal : (tree : Tree) (path : List (List ℕ)) (from len : ℕ) → node_at tree [] ≡ Some directory
    → refusal_before tree (Read path from len) ≡ first_of (refusal_of_path tree path ∷ when (is_directory (node_at tree path)) Eisdir ∷ [])
unfolding own_refusal refusal_of_file is_too_long prefix_refusal_from
read-refusal tree [] from len root = sym (ap (λ (o : Option Node). first_of (first_of (None ∷ None ∷ when (is_none o) Enoent ∷ []) ∷ when (is_directory o) Eisdir ∷ [])) root)
read-refusal tree (name ∷ names) from len root =
    ap (λ (b : Bool). first_of (when b Enametoolong ∷ first_of (prefix_refusal tree (name ∷ names) ∷ missing tree (name ∷ names) ∷ when (is_directory (node_at tree (name ∷ names))) Eisdir ∷ []) ∷ [])) (only (is_too_long (name ∷ names)))
    ∙ first-three (when (is_too_long (name ∷ names)) Enametoolong) (prefix_refusal tree (name ∷ names)) (missing tree (name ∷ names)) (when (is_directory (node_at tree (name ∷ names))) Eisdir)
