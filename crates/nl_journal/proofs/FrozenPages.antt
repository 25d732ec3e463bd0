-- The frozen pages by place and by address.
use Rattle.std.proofs.Common.{◌≡◌, ℕ, ◌<◌, ◌≤◌, List, length, get_or, slice_get, option_and_then, Some, [], sym, ◌∙◌, ap, subst, arith}
use Rattle.std.proofs.lemmas.Option.{get_or_from_slice_get}
use Rattle.nl_meta.specs.Pages.{Frozen}
use Rattle.nl_journal.specs.Progress.{IsPhase}
use Rattle.nl_journal.specs.Transaction.{IsFrozen, IsTransaction, main_at, place}
use Rattle.nl_journal.specs.Units.{IsDue}
use Rattle.nl_journal.specs.declared.answers.Phase.{Phase}
use Rattle.nl_journal.specs.declared.answers.Phase.TheVariants.{Header, Image, Commit, Home}
use Rattle.nl_journal.proofs.Steps.{place_own}

pub image_at : (frozen : Frozen) (i v : ℕ) (main : List ℕ) → IsFrozen frozen → i < length frozen.addresses → v ≡ get_or frozen.addresses i 0 → option_and_then (slice_get frozen.images) (place frozen v) ≡ Some main
    → main_at frozen.images i ≡ main
image_at frozen i v main t below is found = get_or_from_slice_get frozen.images i main [] (sym (ap (option_and_then (slice_get frozen.images)) (place_own t v i below is)) ∙ found)

-- the address that is due is one of the volume
pub due_within : (phase : Phase) (number : ℕ) (frozen : Frozen) (v : ℕ) (main : List ℕ) (count : ℕ) → IsTransaction count frozen → 67 ≤ count → IsPhase phase (length frozen.addresses) → IsDue phase number frozen v main → v < count
due_within Header number frozen v main count t wide at due = let is = due.0 in omega (arith, is, wide)
due_within (Image i) number frozen v main count t wide at due = let is = due.0 in let few = t.pages.few in omega (arith, is, wide, at, few)
due_within Commit number frozen v main count t wide at due = let is = due.0 in omega (arith, is, wide)
due_within (Home i) number frozen v main count t wide at due = subst (λ u. u < count) (sym due.0) (t.home i at).below
