use Rattle.std.proofs.Common.{◌≡◌, ℕ, zero, suc, true, false, List, [], ◌∷◌, ◌++◌, Some, refl, sym, subst, arith}
use Rattle.std.specs.Prelude.{slice_get, IsTrue}
use Rattle.nl_tree.specs.Order.{has_to_precede}
use Rattle.nl_tree.specs.declared.call.Call.TheVariants.{Mkdir, Stat, Sync}
use Rattle.nl_tree.specs.declared.call.Line.{Line}
use Rattle.nl_tree.specs.declared.reply.Reply.TheVariants.{Done}
use Rattle.nl_tree.specs.declared.turn.Stage.TheVariants.{Whole}
use Rattle.nl_turns.specs.Examples.{dir_a, three_lines}
use Rattle.nl_turns.specs.Seat.{Passed, passed_by}
use Rattle.nl_turns.specs.Served.{stage_entry, effect_entry}
use Rattle.nl_workers.specs.Examples.{one_done}
use Rattle.nl_workers.specs.Placed.{LineTookEffect}
use Rattle.nl_workers.proofs.Epochs.{stands_at}
use Rattle.nl_workers.proofs.rows.stagings.Goals as goal

abbrev line_one : Line
line_one = record { line = 1; round = 0; worker = 0; call = Mkdir dir_a }

abbrev line_two : Line
line_two = record { line = 2; round = 0; worker = 1; call = Sync }

abbrev line_three : Line
line_three = record { line = 3; round = 0; worker = 0; call = Stat [] }

not_so : false ≡ true → ⊥
not_so e = cc e

none_first : (i : ℕ) (earlier : Line) → slice_get three_lines i ≡ Some earlier → IsTrue (has_to_precede earlier line_one) → LineTookEffect earlier.line []
none_first zero earlier e t = let h : line_one ≡ earlier = cc e in absurd (not_so (subst (λ l. IsTrue (has_to_precede l line_one)) (sym h) t))
none_first (suc zero) earlier e t = let h : line_two ≡ earlier = cc e in absurd (not_so (subst (λ l. IsTrue (has_to_precede l line_one)) (sym h) t))
none_first (suc (suc zero)) earlier e t = let h : line_three ≡ earlier = cc e in absurd (not_so (subst (λ l. IsTrue (has_to_precede l line_one)) (sym h) t))
none_first (suc (suc (suc i))) earlier e t = absurd (cc e)

one_first : (i : ℕ) (earlier : Line) → slice_get three_lines i ≡ Some earlier → IsTrue (has_to_precede earlier line_three) → LineTookEffect earlier.line one_done
one_first zero earlier e t = let h : line_one ≡ earlier = cc e in
    subst (λ (l : Line). LineTookEffect l.line one_done) h
    (record { before = passed_by 3 (stage_entry 1 Whole) ∷ []; entry = passed_by 3 (effect_entry 1 Done); after = []; split = refl; line_is = refl })
one_first (suc zero) earlier e t = let h : line_two ≡ earlier = cc e in absurd (not_so (subst (λ l. IsTrue (has_to_precede l line_three)) (sym h) t))
one_first (suc (suc zero)) earlier e t = let h : line_three ≡ earlier = cc e in absurd (not_so (subst (λ l. IsTrue (has_to_precede l line_three)) (sym h) t))
one_first (suc (suc (suc i))) earlier e t = absurd (cc e)

no_effect : (line : ℕ) → LineTookEffect line [] → ⊥
no_effect line h = go h.before h.entry h.after h.split
  where
    go : (before : List Passed) (entry : Passed) (after : List Passed) → before ++ entry ∷ after ≡ [] → ⊥
    go [] entry after e = cc e
    go (b ∷ bs) entry after e = cc e

pub returns-clause-first : goal.returns-clause-first
returns-clause-first c = record { staged = λ some earlier has t. let s = stands_at three_lines earlier has in none_first s.0 earlier s.1 t; effect = λ some. absurd (omega arith) }

pub returns-clause-too_early : goal.returns-clause-too_early
returns-clause-too_early c h = no_effect 1 (h.staged (omega arith) line_one (0, omega arith, refl) refl)

pub returns-clause-in_order : goal.returns-clause-in_order
returns-clause-in_order c = record { staged = λ some earlier has t. let s = stands_at three_lines earlier has in one_first s.0 earlier s.1 t; effect = λ some. absurd (omega arith) }
