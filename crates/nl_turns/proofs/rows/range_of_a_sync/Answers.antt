use Rattle.std.proofs.Common.{◌≡◌, ℕ, zero, suc, ◌+◌, ◌<◌, ◌≤◌, refl, sym, subst, arith}
use Rattle.nl_field.specs.CrashStates.{saturated}
use Rattle.nl_turns.specs.History.{effects_before, begun_at, place_of, SyncsInRange, IsSyncInRange}
use Rattle.nl_turns.specs.Examples.{from_five, five_turns}
use Rattle.nl_turns.proofs.OnLiterals.{turns_on_literals}
use Rattle.nl_turns.proofs.rows.range_of_a_sync.Goals as goal

least : (upto : ℕ) → saturated (5 + effects_before (five_turns upto) (begun_at (five_turns upto) 2 3)) ≡ 6
unfolding turns_on_literals
least upto = refl

place : (upto : ℕ) → place_of from_five (five_turns upto) 3 ≡ 8
unfolding turns_on_literals
place upto = refl

in_range : (upto : ℕ) → 6 ≤ upto → upto < 8 → SyncsInRange from_five (five_turns upto)
in_range upto low high zero = tt
in_range upto low high (suc zero) = tt
in_range upto low high (suc (suc zero)) = tt
in_range upto low high (suc (suc (suc zero))) =
    record {
      not_below_begin = subst (λ n. n ≤ upto) (sym (least upto)) low;
      not_below_opening = omega arith;
      below_place = subst (λ n. upto < n) (sym (place upto)) high;
    }
in_range upto low high (suc (suc (suc (suc zero)))) = tt
in_range upto low high (suc (suc (suc (suc (suc i))))) = tt

pub returns-clause-begun : goal.returns-clause-begun
unfolding turns_on_literals
returns-clause-begun c = refl

pub returns-clause-before : goal.returns-clause-before
unfolding turns_on_literals
returns-clause-before c = refl

pub returns-clause-least : goal.returns-clause-least
returns-clause-least c = in_range 6 (omega arith) (omega arith)

pub returns-clause-most : goal.returns-clause-most
returns-clause-most c = in_range 7 (omega arith) (omega arith)

no_less : (upto : ℕ) → SyncsInRange from_five (five_turns upto) → 6 ≤ upto
no_less upto fits =
    let sync : IsSyncInRange from_five (five_turns upto) 3 2 (record { upto = upto; moment = 40 }) = fits 3 in subst (λ n. n ≤ upto) (least upto) sync.not_below_begin

no_more : (upto : ℕ) → SyncsInRange from_five (five_turns upto) → upto < 8
no_more upto fits =
    let sync : IsSyncInRange from_five (five_turns upto) 3 2 (record { upto = upto; moment = 40 }) = fits 3 in subst (λ n. upto < n) (place upto) sync.below_place

pub returns-clause-too_few : goal.returns-clause-too_few
returns-clause-too_few c fits = let low = no_less 5 fits in omega arith

pub returns-clause-too_many : goal.returns-clause-too_many
returns-clause-too_many c fits = let high = no_more 8 fits in omega arith
