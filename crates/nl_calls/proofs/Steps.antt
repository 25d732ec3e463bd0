-- What the step of the tree answers to calls that leave it, and which bytes it gives.
use Rattle.std.proofs.Common.{◌≡◌, ℕ, List, [], ◌∷◌, Option, Some, None, refl, sym, ap, subst}
use Rattle.std.specs.List.{list_any}
use Rattle.nl_field.specs.declared.shape.Shape.{Shape}
use Rattle.nl_tree.specs.Replay.{Answers, ReplyFits}
use Rattle.nl_tree.specs.Step.{Outcome, effect_of, first_of, is_too_long, outcome_unless, own_refusal, paths_of, space_refusal, step, when}
use Rattle.nl_tree.specs.Tree.{Tree}
use Rattle.nl_tree.specs.declared.call.Call.{Call}
use Rattle.nl_tree.specs.declared.call.Call.TheVariants.{Mkdir, Rmdir, Create, Unlink, Rename, Write, Fill, Read, Truncate, Stat, List as ListCall, Sync, Clean}
use Rattle.nl_tree.specs.declared.reply.Refusal.{Refusal}
use Rattle.nl_tree.specs.declared.reply.Refusal.TheVariants.{Enametoolong}
use Rattle.nl_tree.specs.declared.reply.Reply.TheVariants.{Count, Done, No, Synced}
use Rattle.nl_namespace.specs.Calls.{IsOfNames}
use Rattle.nl_calls_bytes.specs.Ranges.{IsWriting}

pub clean_step : (shape : Shape) (tree : Tree) → None ≡ space_refusal shape tree → step shape tree Clean ≡ record { reply = Done; bytes = []; tree = tree }
unfolding step effect_of own_refusal
clean_step shape tree none =
    ap (λ r. outcome_unless tree (effect_of tree Clean) (first_of (when (list_any is_too_long (paths_of Clean)) Enametoolong ∷ own_refusal tree Clean ∷ r ∷ []))) (sym none)

pub sync_step : (shape : Shape) (tree : Tree) → None ≡ space_refusal shape tree → step shape tree Sync ≡ record { reply = Synced 0 0; bytes = []; tree = tree }
unfolding step effect_of own_refusal
sync_step shape tree none =
    ap (λ r. outcome_unless tree (effect_of tree Sync) (first_of (when (list_any is_too_long (paths_of Sync)) Enametoolong ∷ own_refusal tree Sync ∷ r ∷ []))) (sym none)

-- ---- calls that change names give no bytes

no_bytes : (tree : Tree) (call : Call) → IsOfNames call → (effect_of tree call).bytes ≡ []
unfolding effect_of
no_bytes tree (Mkdir path) is = refl
no_bytes tree (Rmdir path) is = refl
no_bytes tree (Create path) is = refl
no_bytes tree (Unlink path) is = refl
no_bytes tree (Rename from to) is = refl
no_bytes tree (Write path from bytes) is = absurd is
no_bytes tree (Fill path from len byte) is = absurd is
no_bytes tree (Read path from len) is = absurd is
no_bytes tree (Truncate path size) is = absurd is
no_bytes tree (Stat path) is = absurd is
no_bytes tree (ListCall path) is = absurd is
no_bytes tree Sync is = absurd is
no_bytes tree Clean is = absurd is

unless_bytes : (tree : Tree) (outcome : Outcome) (r : Option Refusal) → outcome.bytes ≡ [] → (outcome_unless tree outcome r).bytes ≡ []
unless_bytes tree outcome None none = none
unless_bytes tree outcome (Some refusal) none = refl

pub names_bytes : (shape : Shape) (tree : Tree) (call : Call) → IsOfNames call → (step shape tree call).bytes ≡ []
unfolding step
names_bytes shape tree call is = unless_bytes tree (effect_of tree call) _ (no_bytes tree call is)

-- ---- a reply that is the step's

pub done_answers : (outcome : Outcome) → outcome.reply ≡ Done → outcome.bytes ≡ [] → Answers outcome Done []
done_answers outcome reply bytes = (subst (λ r. ReplyFits r Done) (sym reply) refl, sym bytes)

pub refused_answers : (outcome : Outcome) (tree : Tree) (refusal : Refusal) → outcome ≡ record { reply = No refusal; bytes = []; tree = tree } → Answers outcome (No refusal) []
refused_answers outcome tree refusal is = subst (λ (x : Outcome). Answers x (No refusal) []) (sym is) (refl, refl)

-- ---- calls that write pages give none

writes_none : (tree : Tree) (call : Call) → IsWriting call → (effect_of tree call).bytes ≡ []
unfolding effect_of
writes_none tree (Mkdir path) is = absurd is
writes_none tree (Rmdir path) is = absurd is
writes_none tree (Create path) is = absurd is
writes_none tree (Unlink path) is = absurd is
writes_none tree (Rename from to) is = absurd is
writes_none tree (Write path from bytes) is = refl
writes_none tree (Fill path from len byte) is = refl
writes_none tree (Read path from len) is = absurd is
writes_none tree (Truncate path size) is = absurd is
writes_none tree (Stat path) is = absurd is
writes_none tree (ListCall path) is = absurd is
writes_none tree Sync is = absurd is
writes_none tree Clean is = absurd is

pub write_bytes : (shape : Shape) (tree : Tree) (call : Call) → IsWriting call → (step shape tree call).bytes ≡ []
unfolding step
write_bytes shape tree call is = unless_bytes tree (effect_of tree call) _ (writes_none tree call is)

pub truncate_bytes : (shape : Shape) (tree : Tree) (path : List (List ℕ)) (size : ℕ) → (step shape tree (Truncate path size)).bytes ≡ []
unfolding step effect_of
truncate_bytes shape tree path size = unless_bytes tree (effect_of tree (Truncate path size)) _ refl

pub count_answers : (outcome : Outcome) (n m : ℕ) → outcome.reply ≡ Count m → n ≡ m → outcome.bytes ≡ [] → Answers outcome (Count n) []
count_answers outcome n m reply same bytes = (subst (λ r. ReplyFits r (Count n)) (sym reply) (ap Count same), sym bytes)
