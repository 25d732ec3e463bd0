-- Lines that each say a call are a script.
use Rattle.std.proofs.Common.{◌≡◌, ◌<◌, ◌≤◌, ℕ, suc, ◌+◌, ◌*◌, Bool, false, cond, List, [], ◌∷◌, ◌++◌, length, refl, ◌∙◌, ap, arith, append_assoc}
use Rattle.std.specs.Prelude.{◌==◌, nat_le, nat_lt, Ok, Err, flat_map}
use Rattle.std.specs.List.{AllByRecursion}
use Rattle.std.proofs.lemmas.Bool.Decides.{nat_tests}
use Rattle.std.proofs.lemmas.List.{length_push}
use Rattle.std.proofs.lemmas.List.Elements.{All-from_recursion}
use Rattle.std.proofs.lemmas.List.Splits.{slice_split_at}
use Rattle.nl_tree.specs.Calls.{read_length}
use Rattle.nl_tree.specs.declared.call.Call.{Call}
use Rattle.nl_tree.specs.declared.call.Line.{Line}
use Rattle.nl_script.specs.declared.refusal.ScriptRefusal.TheVariants.{Refused}
use Rattle.nl_script.specs.declared.said.Said.TheVariants.{CallOf}
use Rattle.nl_script.specs.declared.why.Why.TheVariants.{Size, Lines as LinesCause, Total}
use Rattle.nl_script.specs.Grammar.{line_says}
use Rattle.nl_script.specs.Script.{max_script, max_calls, max_total, with_read_total, line_before, lines_from, script}
use Rattle.nl_script.specs.Words.{parts, without_last_empty, lines_of}
use Rattle.nl_script.proofs.Placed.{more}
use Rattle.nl_script.proofs.Says.{IsCallLine}

-- a line that says a call of at most this read length
pub record IsCallOf (most : ℕ) (raw : List ℕ) : Type 0 where
  pub worker : ℕ
  pub made : Call
  pub says : IsCallLine raw worker made
  pub short : read_length made ≤ most

counted_ok : (calls total : ℕ) (made : Call) → calls < max_calls → total + read_length made ≤ max_total → with_read_total calls total made ≡ Ok (total + read_length made)
unfolding with_read_total
counted_ok calls total made few small =
    let sum = total + read_length made in
    let a : nat_le max_calls calls ≡ false = grind (arith, nat_tests) in
    let b : nat_lt max_total sum ≡ false = grind (arith, nat_tests) in
    ap (λ (x : Bool). cond x (Err LinesCause) (cond (nat_lt max_total sum) (Err Total) (Ok sum))) a ∙ ap (λ (x : Bool). cond x (Err Total) (Ok sum)) b

step : (n round calls total sum w : ℕ) (made : Call) (raw : List ℕ) (rest : List (List ℕ)) → line_says raw ≡ Ok (CallOf w made) → with_read_total calls total made ≡ Ok sum
    → lines_from n round calls total (raw ∷ rest) ≡ line_before (record { line = n; round = round; worker = w; call = made }) (lines_from (n + 1) round (calls + 1) sum rest)
unfolding lines_from
step n round calls total sum w made raw rest said is = rw (said, is, lines_from) refl

accepted : (most n round calls total : ℕ) (raws : List (List ℕ)) → AllByRecursion (λ r. IsCallOf most r) raws → calls + length raws ≤ max_calls → total + length raws * most ≤ max_total
    → (made : List Line) × (lines_from n round calls total raws ≡ Ok made) × (length made ≡ length raws)
unfolding lines_from
accepted most n round calls total [] h few small = ([], refl, refl)
accepted most n round calls total (raw ∷ raws) h few small =
    let one = h.0 in
    let short = one.short in
    let sum = total + read_length one.made in
    let line : Line = record { line = n; round = round; worker = one.worker; call = one.made } in
    let is = counted_ok calls total one.made (omega arith) (omega arith) in
    let rest = accepted most (n + 1) round (calls + 1) sum raws h.1 (omega arith) (omega arith) in
    (line ∷ rest.0, step n round calls total sum one.worker one.made raw raws one.says is ∙ ap (line_before line) rest.1, ap suc rest.2)

-- ---- the lines of a text

abbrev pub ended : List ℕ → List ℕ
ended raw = raw ++ 10 ∷ []

abbrev pub HasNoEnd : List ℕ → Type 0
HasNoEnd raw = AllByRecursion (λ b. (b == 10) ≡ false) raw

parts_ended : (raws : List (List ℕ)) → AllByRecursion HasNoEnd raws → parts 10 (flat_map ended raws) ≡ raws ++ [] ∷ []
parts_ended [] h = refl
parts_ended (r ∷ raws) h =
    ap (parts 10) (append_assoc r (10 ∷ []) (flat_map ended raws))
    ∙ slice_split_at (λ c. c == 10) r 10 (flat_map ended raws) (All-from_recursion (λ b. (b == 10) ≡ false) r h.0) refl
    ∙ ap (λ (ps : List (List ℕ)). r ∷ ps) (parts_ended raws h.1)

drop_last : (raws : List (List ℕ)) → without_last_empty (raws ++ [] ∷ []) ≡ raws
unfolding without_last_empty
drop_last [] = refl
drop_last (r ∷ raws) = more r (raws ++ [] ∷ []) (omega (arith, length_push raws [])) ∙ ap (λ (ps : List (List ℕ)). r ∷ ps) (drop_last raws)

lines_ended : (raws : List (List ℕ)) → AllByRecursion HasNoEnd raws → lines_of (flat_map ended raws) ≡ raws
unfolding lines_of
lines_ended raws h = ap without_last_empty (parts_ended raws h) ∙ drop_last raws

-- few lines, each of a call, are a script with as many lines
pub script_of_lines : (most : ℕ) (raws : List (List ℕ)) → AllByRecursion HasNoEnd raws → AllByRecursion (λ r. IsCallOf most r) raws → length (flat_map ended raws) ≤ max_script → length raws ≤ max_calls
    → length raws * most ≤ max_total → (made : List Line) × (script (flat_map ended raws) ≡ Ok made) × (length made ≡ length raws)
unfolding script
script_of_lines most raws ends calls long few small =
    let text = flat_map ended raws in
    let fits : nat_lt max_script (length text) ≡ false = grind (arith, nat_tests) in
    let a = accepted most 1 0 0 0 raws calls (omega arith) (omega arith) in
    (a.0, ap (λ (b : Bool). cond b (Err (Refused 0 0 Size)) (lines_from 1 0 0 0 (lines_of text))) fits ∙ ap (lines_from 1 0 0 0) (lines_ended raws ends) ∙ a.1, a.2)
