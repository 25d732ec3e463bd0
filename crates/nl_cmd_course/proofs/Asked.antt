-- Calls that were asked one after the other, and one more: their lines, their entries, and what is due.
use Rattle.std.proofs.Common.{◌≡◌, ◌<◌, ℕ, suc, ◌+◌, not, cond, List, [], ◌∷◌, ◌++◌, length, filter, Option, Some, refl, sym, ap, subst, ◌∙◌, inl, inr, arith}
use Rattle.std.proofs.lemmas.Bool.{ne_eqb, eq-eqb}
use Rattle.std.specs.Prelude.{filter_map, option_map}
use Rattle.std.specs.List.{AllByRecursion, cons_option}
use Rattle.nl_field.specs.Members.{Has}
use Rattle.nl_field.specs.declared.shape.Shape.{Shape}
use Rattle.nl_tree.specs.Calls.{IsBounded, IsLine}
use Rattle.nl_tree.specs.Causes.{fault_in}
use Rattle.nl_tree.specs.Replay.{Answers, replay, step_marked}
use Rattle.nl_tree.specs.Tree.{Tree}
use Rattle.nl_tree.specs.declared.call.Call.{Call}
use Rattle.nl_tree.specs.declared.call.Line.{Line}
use Rattle.nl_tree.specs.declared.reply.FaultReply.{FaultReply}
use Rattle.nl_tree.specs.declared.reply.Reply.{Reply}
use Rattle.nl_turns.specs.History.{Opening, call_at, fault_of, is_effect, line_at, marked_calls, with_lines}
use Rattle.nl_turns.specs.Served.{effect_entry, fault_mark, outcome_due}
use Rattle.nl_turns.specs.declared.entry.Entry.{Entry}
use Rattle.nl_volume_stage.specs.Standing.{EachIsLine}
use Rattle.nl_cmd_course.proofs.Replies.{marked as marked_reply}
use Rattle.nl_put_tree.specs.Putting.{IsDue, after}
use Rattle.nl_cmd_course.specs.Asking.{AreDue, Asked, HasAsked, entries_from, line_of, lines_from, marked, tree_after}

-- ---- lines

pub found : (n k : ℕ) (asked : Asked) (call : Call) (later : List Line) → n ≡ k + length asked → line_at (lines_from k asked ++ line_of n call ∷ later) n ≡ Some (line_of n call)
found n k [] call later e = (λ i. cond (eq-eqb n n refl i) (Some (line_of n call)) (line_at later n))
found n k ((c, r) ∷ asked) call later e =
    (λ i. cond (ne_eqb k n (λ same. omega (arith, same, e)) i) (Some (line_of k c)) (line_at (lines_from (k + 1) asked ++ line_of n call ∷ later) n))
    ∙ found n (k + 1) asked call later (omega (arith, e))

pub each_line : (k : ℕ) (asked : Asked) → 0 < k → AllByRecursion (λ x. IsBounded x.0) asked → EachIsLine (lines_from k asked)
each_line k [] low each l has = absurd has
each_line k ((call, reply) ∷ asked) low each l (inl same) = subst IsLine same (record { number = low; worker = omega arith; bounded = each.0 })
each_line k ((call, reply) ∷ asked) low each l (inr has) = each_line (k + 1) asked (omega arith) each.1 l has

pub each_both : (xs ys : List Line) → EachIsLine xs → EachIsLine ys → EachIsLine (xs ++ ys)
each_both [] ys a b l has = b l has
each_both (x ∷ xs) ys a b l (inl same) = a l (inl same)
each_both (x ∷ xs) ys a b l (inr has) = each_both xs ys (λ m h. a m (inr h)) b l has

pub lines_more : (n k : ℕ) (asked : Asked) (call : Call) (reply : Reply) (later : List Line) → n ≡ k + length asked → lines_from k (asked ++ (call, reply) ∷ []) ++ later ≡ lines_from k asked ++ line_of n call ∷ later
lines_more n k [] call reply later e = let same : k ≡ n = omega (arith, e) in (λ i. line_of (same i) call ∷ later)
lines_more n k ((c, r) ∷ asked) call reply later e = (λ i. line_of k c ∷ lines_more n (k + 1) asked call reply later (omega (arith, e)) i)

pub entries_more : (n k : ℕ) (asked : Asked) (call : Call) (reply : Reply) → n ≡ k + length asked → entries_from k (asked ++ (call, reply) ∷ []) ≡ entries_from k asked ++ effect_entry n reply ∷ []
entries_more n k [] call reply e = let same : k ≡ n = omega (arith, e) in (λ i. effect_entry (same i) reply ∷ [])
entries_more n k ((c, r) ∷ asked) call reply e = (λ i. effect_entry k r ∷ entries_more n (k + 1) asked call reply (omega (arith, e)) i)

pub bounded_more : (asked : Asked) (call : Call) (reply : Reply) → AllByRecursion (λ x. IsBounded x.0) asked → IsBounded call → AllByRecursion (λ x. IsBounded x.0) (asked ++ (call, reply) ∷ [])
bounded_more [] call reply each is = (is, tt)
bounded_more (x ∷ asked) call reply each is = (each.0, bounded_more asked call reply each.1 is)

pub length_more : (asked : Asked) (call : Call) (reply : Reply) → length (asked ++ (call, reply) ∷ []) ≡ suc (length asked)
length_more [] call reply = refl
length_more (x ∷ asked) call reply = ap suc (length_more asked call reply)

-- the line of each number is that of its call
abbrev pub Knows : List Line → ℕ → Asked → Type 0
Knows lines k [] = Unit {0}
Knows lines k ((call, reply) ∷ asked) = (line_at lines k ≡ Some (line_of k call)) × Knows lines (k + 1) asked

knows_behind : (l : Line) (lines : List Line) (k : ℕ) (asked : Asked) → l.line < k → Knows lines k asked → Knows (l ∷ lines) k asked
knows_behind l lines k [] low known = tt
knows_behind l lines k ((call, reply) ∷ asked) low known = (
  (λ i. cond (ne_eqb l.line k (λ same. omega (arith, same, low)) i) (Some l) (line_at lines k)) ∙ known.0,
  knows_behind l lines (k + 1) asked (omega (arith, low)) known.1,
)

pub knows : (k : ℕ) (asked : Asked) (later : List Line) → Knows (lines_from k asked ++ later) k asked
knows k [] later = tt
knows k ((call, reply) ∷ asked) later = (
  (λ i. cond (eq-eqb k k refl i) (Some (line_of k call)) (line_at (lines_from (k + 1) asked ++ later) k)),
  knows_behind (line_of k call) (lines_from (k + 1) asked ++ later) (k + 1) asked (omega arith) (knows (k + 1) asked later),
)

-- ---- the calls of the history

module _ (lines : List Line) where
  abbrev found_in : Entry → Option (Call × Option FaultReply)
  found_in e = option_map (λ call. (call, fault_of e.fault)) (call_at lines e.line)

  calls_from : (k : ℕ) (asked : Asked) → 0 < k → Knows lines k asked → filter_map found_in (filter is_effect (entries_from k asked)) ≡ marked asked
  calls_from k [] low known = refl
  calls_from k ((call, reply) ∷ asked) low known =
      (λ i. filter_map found_in (cond (not (ne_eqb k 0 (λ same. omega (arith, same, low)) i)) (effect_entry k reply ∷ filter is_effect (entries_from (k + 1) asked)) (filter is_effect (entries_from (k + 1) asked))))
      ∙ (λ i. cons_option (option_map (λ (c : Call). (c, fault_of (fault_mark reply))) (option_map (λ (l : Line). l.call) (known.0 i))) (filter_map found_in (filter is_effect (entries_from (k + 1) asked))))
      ∙ (λ i. (call, marked_reply reply i) ∷ calls_from (k + 1) asked (omega arith) known.1 i)

pub calls_are : (o : Opening) (k : ℕ) (asked : Asked) → 0 < k → Knows o.lines k asked → marked_calls o (entries_from k asked) ≡ marked asked
unfolding marked_calls
calls_are o k asked low known = calls_from o.lines k asked low known

-- ---- what is due

pub due_more : (shape : Shape) (tree : Tree) (asked : Asked) (call : Call) (reply : Reply) → AreDue shape tree asked → IsDue shape (replay shape tree (marked asked)) call reply → AreDue shape tree (asked ++ (call, reply) ∷ [])
unfolding replay
due_more shape tree [] call reply due is = (is, tt)
due_more shape tree ((c, r) ∷ asked) call reply due is = (due.0, due_more shape (after shape tree c r) asked call reply due.1 is)

pub due_last : (shape : Shape) (tree : Tree) (asked : Asked) (call : Call) (reply : Reply) → AreDue shape tree (asked ++ (call, reply) ∷ []) → IsDue shape (replay shape tree (marked asked)) call reply
unfolding replay
due_last shape tree [] call reply due = due.0
due_last shape tree ((c, r) ∷ asked) call reply due = due_last shape (after shape tree c r) asked call reply due.1

-- what the effect of a history is answered, said of the calls
pub answers_here : (o : Opening) (asked : Asked) (later : List Line) (call : Call) (reply : Reply) (bytes : List ℕ)
    → Answers (outcome_due (with_lines o (lines_from 1 asked ++ later)) (entries_from 1 asked) call reply) reply bytes
    → Answers (step_marked o.shape (tree_after o asked) (call, fault_in reply)) reply bytes
answers_here o asked later call reply bytes due =
    subst (λ (x : List (Call × Option FaultReply) × Option FaultReply). Answers (step_marked o.shape (replay o.shape o.tree x.0) (call, x.1)) reply bytes)
    (λ k. (calls_are (with_lines o (lines_from 1 asked ++ later)) 1 asked (omega arith) (knows 1 asked later) k, marked_reply reply k)) due

-- ---- one more

pub has_more : {V : Type 0} (stands : V → Opening → List Entry → V → Type 0) (tells : Type 0) (origin : V) (o : Opening) (asked : Asked) (v v' : V) (n : ℕ) (call : Call) (reply : Reply)
    → n ≡ 1 + length asked → IsBounded call → HasAsked stands tells origin o asked v
    → ((later : List Line) → EachIsLine (lines_from 1 asked ++ line_of n call ∷ later)
    → stands origin (with_lines o (lines_from 1 asked ++ line_of n call ∷ later)) (entries_from 1 asked ++ effect_entry n reply ∷ []) v')
    → (tells → IsDue o.shape (tree_after o asked) call reply)
    → HasAsked stands tells origin o (asked ++ (call, reply) ∷ []) v'
has_more stands tells origin o asked v v' n call reply at bounded has follows due = record {
  bounded = bounded_more asked call reply has.bounded bounded;
  follows = λ later each.
      subst (λ (x : List Line × List Entry). stands origin (with_lines o x.0) x.1 v')
      (λ k. (sym (lines_more n 1 asked call reply later at) k, sym (entries_more n 1 asked call reply at) k))
      (follows later (subst EachIsLine (lines_more n 1 asked call reply later at) each));
  due = λ told. due_more o.shape o.tree asked call reply (has.due told) (due told);
}

-- the line of one more
pub more_lines : (asked : Asked) (n : ℕ) (call : Call) → 0 < n → AllByRecursion (λ x. IsBounded x.0) asked → IsBounded call → EachIsLine (lines_from 1 asked ++ line_of n call ∷ [])
more_lines asked n call low each is =
    each_both (lines_from 1 asked) (line_of n call ∷ []) (each_line 1 asked (omega arith) each)
    (λ l has. by l has)
  where
    by : (l : Line) → Has (line_of n call ∷ []) l → IsLine l
    by l (inl same) = subst IsLine same (record { number = low; worker = omega arith; bounded = is })
    by l (inr none) = absurd none

pub all_lines : (asked : Asked) → AllByRecursion (λ x. IsBounded x.0) asked → EachIsLine (lines_from 1 asked ++ [])
all_lines asked each = each_both (lines_from 1 asked) [] (each_line 1 asked (omega arith) each) (λ l none. absurd none)
