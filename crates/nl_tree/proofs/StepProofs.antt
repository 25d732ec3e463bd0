-- The step, from what is found before a call and on the tree after it.
use Rattle.std.proofs.Common.{◌≡◌, ℕ, true, false, List, [], ◌∷◌, ap, sym, refl, ◌∙◌, Option, Some, None, if◌then◌else◌}
use Rattle.std.specs.List.{list_any}
use Rattle.nl_field.specs.FileContent.{FileContent, empty_file}
use Rattle.nl_field.specs.declared.shape.Shape.{Shape}
use Rattle.nl_tree.specs.declared.call.Call.{Call}
use Rattle.nl_tree.specs.declared.call.Call.TheVariants.{Mkdir, Rmdir, Create, Unlink, Rename, Write, Fill, Read, Truncate, Stat, List as ListCall, Sync, Clean}
use Rattle.nl_tree.specs.declared.reply.Refusal.{Refusal}
use Rattle.nl_tree.specs.declared.reply.Refusal.TheVariants.{Enametoolong}
use Rattle.nl_tree.specs.declared.reply.Reply.TheVariants.{No}
use Rattle.nl_tree.specs.Tree.{Tree, directory, file, paths_eq, with_new, with_content, with_renamed}
use Rattle.nl_tree.specs.TreeLaws.{IsInOrder}
use Rattle.nl_tree.specs.Step.{when, first_of, outcome_unless, own_refusal, is_too_long, paths_of, space_refusal, effect_of, step, refusal_before}
use Rattle.nl_tree.proofs.TreeProofs.{tree_laws}

one_of : (a b c : Option Refusal) (r : Refusal) → Some r ≡ first_of (a ∷ b ∷ []) → first_of (a ∷ b ∷ c ∷ []) ≡ Some r
one_of (Some x) b c r h = sym h
one_of None (Some y) c r h = sym h
one_of None None c r h = cc

last_of : (a b c : Option Refusal) → None ≡ first_of (a ∷ b ∷ []) → first_of (a ∷ b ∷ c ∷ []) ≡ c
last_of (Some x) b c h = cc
last_of None (Some y) c h = cc
last_of None None None h = refl
last_of None None (Some z) h = refl

pub refused_before : (shape : Shape) (tree : Tree) (call : Call) (r : Refusal) → Some r ≡ refusal_before tree call → step shape tree call ≡ record { reply = No r; bytes = []; tree = tree }
unfolding step
refused_before shape tree call r h =
    ap (outcome_unless tree (effect_of tree call)) (one_of (when (list_any is_too_long (paths_of call)) Enametoolong) (own_refusal tree call) (space_refusal shape (effect_of tree call).tree) r h)

pub refused_after : (shape : Shape) (tree next : Tree) (call : Call) (r : Refusal) → None ≡ refusal_before tree call → next ≡ (effect_of tree call).tree → Some r ≡ space_refusal shape next
    → step shape tree call ≡ record { reply = No r; bytes = []; tree = tree }
unfolding step
refused_after shape tree next call r h is full =
    ap (outcome_unless tree (effect_of tree call))
    (last_of (when (list_any is_too_long (paths_of call)) Enametoolong) (own_refusal tree call) (space_refusal shape (effect_of tree call).tree) h ∙ ap (space_refusal shape) (sym is) ∙ sym full)

pub performed : (shape : Shape) (tree next : Tree) (call : Call) → None ≡ refusal_before tree call → next ≡ (effect_of tree call).tree → None ≡ space_refusal shape next → step shape tree call ≡ effect_of tree call
unfolding step
performed shape tree next call h is room =
    ap (outcome_unless tree (effect_of tree call))
    (last_of (when (list_any is_too_long (paths_of call)) Enametoolong) (own_refusal tree call) (space_refusal shape (effect_of tree call).tree) h ∙ ap (space_refusal shape) (sym is) ∙ sym room)

-- ---- the tree after a call is in order

order_content : (tree : Tree) (path : List (List ℕ)) (content : FileContent) → IsInOrder tree → IsInOrder (with_content tree path content)
unfolding with_content with_new
order_content tree path content h = tree_laws.order_new tree path (file content) h

pub order_after : (tree : Tree) (call : Call) → IsInOrder tree → IsInOrder (effect_of tree call).tree
unfolding effect_of
order_after tree (Mkdir path) h = tree_laws.order_new tree path directory h
order_after tree (Create path) h = tree_laws.order_new tree path (file empty_file) h
order_after tree (Rmdir path) h = tree_laws.order_without tree path h
order_after tree (Unlink path) h = tree_laws.order_without tree path h
order_after tree (Rename from to) h =
    elim (paths_eq from to) as (λ b. IsInOrder (if b then tree else with_renamed tree from to)) [ true ↦ h | false ↦ tree_laws.order_renamed tree from to h ]
order_after tree (Write path from bytes) h = order_content tree path _ h
order_after tree (Fill path from len byte) h = order_content tree path _ h
order_after tree (Truncate path size) h = order_content tree path _ h
order_after tree (Read path from len) h = h
order_after tree (Stat path) h = h
order_after tree (ListCall path) h = h
order_after tree Sync h = h
order_after tree Clean h = h
