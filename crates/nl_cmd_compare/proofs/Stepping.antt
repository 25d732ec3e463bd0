-- One call more on both volumes.
use Rattle.std.proofs.Common.{◌≡◌, ◌≤◌, ◌+◌, ◌*◌, ℕ, suc, Bool, false, List, [], ◌∷◌, ◌++◌, length, map, max, Option, None, Some, refl, sym, ap, subst, ◌∙◌, arith}
use Rattle.std.specs.Prelude.{is_some}
use Rattle.nl_field.specs.declared.shape.Shape.{Shape}
use Rattle.nl_tree.specs.Causes.{fault_in}
use Rattle.nl_tree.specs.Charges.{data_charge}
use Rattle.nl_tree.specs.Replay.{Answers, replay, step_marked}
use Rattle.nl_tree.specs.Tree.{Tree, empty_tree}
use Rattle.nl_tree.specs.declared.call.Call.{Call}
use Rattle.nl_tree.specs.declared.reply.FaultReply.{FaultReply}
use Rattle.nl_tree.specs.declared.reply.Reply.{Reply}
use Rattle.nl_turns.specs.History.{Opening}
use Rattle.nl_turns.specs.declared.entry.Entry.{Entry}
use Rattle.nl_cmd_course.specs.Asking.{Asked, HasAsked, marked, tree_after}
use Rattle.nl_cmd_course.proofs.Asked.{length_more}
use Rattle.nl_cmd_compare.specs.Both.{HasAnswered, most_charged, tree_of, unmarked}
use Rattle.nl_cmd_compare.proofs.Both.{most_more, replay_more, unmarked_more}

pub none_of : {X : Type 0} (o : Option X) → is_some o ≡ false → o ≡ None
none_of None is = refl
none_of (Some x) is = absurd (cc is)

marked_more : (asked : Asked) (call : Call) (reply : Reply) → marked (asked ++ (call, reply) ∷ []) ≡ marked asked ++ (call, fault_in reply) ∷ []
marked_more [] call reply = refl
marked_more ((c, r) ∷ asked) call reply = ap (λ (xs : List (Call × Option FaultReply)). (c, fault_in r) ∷ xs) (marked_more asked call reply)

pub calls_more : (calls : List Call) (call : Call) → length (calls ++ call ∷ []) ≡ suc (length calls)
calls_more [] call = refl
calls_more (c ∷ calls) call = ap suc (calls_more calls call)

pub tree_more : (shape : Shape) (calls : List Call) (call : Call) → tree_of shape (calls ++ call ∷ []) ≡ (step_marked shape (tree_of shape calls) (call, None)).tree
tree_more shape calls call =
    ap (λ (xs : List (Call × Option FaultReply)). replay shape empty_tree xs) (unmarked_more calls call)
    ∙ replay_more shape empty_tree (unmarked calls) (call, None)

module _ {V : Type 0} (stands : V → Opening → List Entry → V → Type 0) (tells : Type 0) (shape : Shape) (calls : List Call) (v : V) (call : Call) (reply : Reply)
    (quiet : fault_in reply ≡ None) (is : HasAnswered stands tells shape calls v) where
  pub answered_more : (v' : V) → HasAsked stands tells is.origin is.opening (is.asked ++ (call, reply) ∷ []) v' → HasAnswered stands tells shape (calls ++ call ∷ []) v'
  answered_more v' has = record {
    origin = is.origin;
    opening = is.opening;
    asked = is.asked ++ (call, reply) ∷ [];
    has = has;
    same_shape = is.same_shape;
    from_empty = is.from_empty;
    without_fault = marked_more is.asked call reply ∙ (λ i. is.without_fault i ++ (call, quiet i) ∷ []) ∙ sym (unmarked_more calls call);
    count = length_more is.asked call reply ∙ ap suc is.count ∙ sym (calls_more calls call);
  }

  -- what is due of the history is due of the calls
  pub due_on : tells → (out : List ℕ) → Answers (step_marked is.opening.shape (tree_after is.opening is.asked) (call, fault_in reply)) reply out
      → Answers (step_marked shape (tree_of shape calls) (call, None)) reply out
  due_on t out due =
      subst (λ (x : Shape × Tree × List (Call × Option FaultReply) × Option FaultReply). Answers (step_marked x.0 (replay x.0 x.1 x.2) (call, x.3)) reply out)
      (λ k. (is.same_shape t k, is.from_empty t k, is.without_fault k, quiet k)) due

-- the greatest data charge with one call more
pub most_on : (shape : Shape) (calls : List Call) (call : Call) (before here now : ℕ) → before ≡ most_charged shape calls → here ≡ data_charge (tree_of shape (calls ++ call ∷ []))
    → now ≡ max before here → now ≡ most_charged shape (calls ++ call ∷ [])
most_on shape calls call before here now was is both =
    both ∙ (λ k. max (was k) ((is ∙ ap data_charge (tree_more shape calls call)) k)) ∙ sym (most_more shape empty_tree calls call)

pub few_on : (before here now most : ℕ) → before ≤ most → here ≤ most → now ≡ max before here → now ≤ most
few_on before here now most low few both = omega (arith, low, few, both)
