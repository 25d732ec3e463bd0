-- One call more behind those that two volumes answered.
use Rattle.std.proofs.Common.{◌≡◌, ℕ, List, [], ◌∷◌, ◌++◌, map, max, Option, None, refl, sym, ap, subst, ◌∙◌, arith}
use Rattle.std.proofs.Math.Nat.{max-zero, zero-max}
use Rattle.nl_field.specs.declared.shape.Shape.{Shape}
use Rattle.nl_tree.specs.Charges.{data_charge}
use Rattle.nl_tree.specs.Replay.{ReplyFits, replay, step_marked}
use Rattle.nl_tree.specs.Tree.{Tree, empty_tree}
use Rattle.nl_tree.specs.declared.call.Call.{Call}
use Rattle.nl_tree.specs.declared.reply.FaultReply.{FaultReply}
use Rattle.nl_tree.specs.declared.reply.Reply.{Reply}
use Rattle.nl_tree.specs.declared.reply.Reply.TheVariants.{Done, Count, Content, Names, File, Dir, Synced, No, Fault}
use Rattle.nl_cmd_compare.specs.Both.{most_charged_from, unmarked}

pub unmarked_more : (calls : List Call) (call : Call) → unmarked (calls ++ call ∷ []) ≡ unmarked calls ++ (call, None) ∷ []
unmarked_more [] call = refl
unmarked_more (c ∷ calls) call = ap (λ (xs : List (Call × Option FaultReply)). (c, None) ∷ xs) (unmarked_more calls call)

pub replay_more : (shape : Shape) (tree : Tree) (marked : List (Call × Option FaultReply)) (one : Call × Option FaultReply)
    → replay shape tree (marked ++ one ∷ []) ≡ (step_marked shape (replay shape tree marked) one).tree
unfolding replay
replay_more shape tree [] one = refl
replay_more shape tree (m ∷ marked) one = replay_more shape (step_marked shape tree m).tree marked one

pub most_more : (shape : Shape) (tree : Tree) (calls : List Call) (call : Call)
    → most_charged_from shape tree (calls ++ call ∷ [])
    ≡ max (most_charged_from shape tree calls) (data_charge (step_marked shape (replay shape tree (unmarked calls)) (call, None)).tree)
unfolding replay
most_more shape tree [] call = let n = data_charge (step_marked shape tree (call, None)).tree in max-zero n ∙ sym (zero-max n)
most_more shape tree (c ∷ calls) call =
    let next : Tree = (step_marked shape tree (c, None)).tree in
    let here = data_charge next in
    let rest = most_charged_from shape next calls in
    let last = data_charge (step_marked shape (replay shape next (unmarked calls)) (call, None)).tree in
    let deep : most_charged_from shape next (calls ++ call ∷ []) ≡ max rest last = most_more shape next calls call in
    omega (arith, deep)

-- two replies that are as due are as due of each other
pub fits_both : (due a b : Reply) → ReplyFits due a → ReplyFits due b → ReplyFits a b
fits_both Done a b x y = subst (λ r. ReplyFits r b) (sym x) y
fits_both (Count n) a b x y = subst (λ r. ReplyFits r b) (sym x) y
fits_both Content a b x y = subst (λ r. ReplyFits r b) (sym x) y
fits_both (Names n) a b x y = subst (λ r. ReplyFits r b) (sym x) y
fits_both (File size pages) a b x y = subst (λ r. ReplyFits r b) (sym x) y
fits_both (Dir entries) a b x y = subst (λ r. ReplyFits r b) (sym x) y
fits_both (Synced upto moment) a b x y = subst (λ r. ReplyFits r b) (sym x.2) y
fits_both (No refusal) a b x y = subst (λ r. ReplyFits r b) (sym x) y
fits_both (Fault fault) a b x y = subst (λ r. ReplyFits r b) (sym x) y
