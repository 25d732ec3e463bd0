use Rattle.std.proofs.Common.{◌≡◌, ◌∙◌, ℕ, ◌+◌, ◌≤◌, ◌==◌, take, Some, None, refl, sym, subst, arith}
use Rattle.std.specs.Prelude.{position}
use Rattle.nl_field.specs.CrashStates.{saturated}
use Rattle.nl_turns.specs.Examples.{from_five}
use Rattle.nl_turns.specs.History.{effects}
use Rattle.nl_turns.specs.declared.entry.Entry.{Entry}
use Rattle.nl_turns.proofs.OnLiterals.{turns_on_literals}
use Rattle.nl_volume_stage.specs.Examples.{three_turns}
use Rattle.nl_volume_stage.specs.Standing.{IsGoal}
use Rattle.nl_volume_stage.proofs.rows.goals_of_a_sync.Goals as goal

second : position (λ (e : Entry). e.staged == 2) three_turns ≡ Some 1
unfolding turns_on_literals
second = refl

third : position (λ (e : Entry). e.staged == 3) three_turns ≡ None
unfolding turns_on_literals
third = refl

before : saturated (5 + effects (take 1 three_turns)) ≡ 6
unfolding turns_on_literals
before = refl

within : (goal : ℕ) → 6 ≤ goal → goal ≤ 7 → IsGoal from_five three_turns 7 2 goal
within goal low high = record { begun = 1; staged = second; not_below_begin = subst (λ n. n ≤ goal) (sym before) low; not_beyond = high }

no_less : (goal : ℕ) → IsGoal from_five three_turns 7 2 goal → 6 ≤ goal
no_less goal is =
    let at : Some 1 ≡ Some is.begun = sym second ∙ is.staged in
    let one : 1 ≡ is.begun = cc at in
    let low : saturated (5 + effects (take 1 three_turns)) ≤ goal = subst (λ n. saturated (5 + effects (take n three_turns)) ≤ goal) (sym one) is.not_below_begin in
    subst (λ n. n ≤ goal) before low

pub returns-clause-least : goal.returns-clause-least
returns-clause-least c = within 6 (omega arith) (omega arith)

pub returns-clause-most : goal.returns-clause-most
returns-clause-most c = within 7 (omega arith) (omega arith)

pub returns-clause-too_few : goal.returns-clause-too_few
returns-clause-too_few c is = let low : 6 ≤ 5 = no_less 5 is in omega (arith, low)

pub returns-clause-too_many : goal.returns-clause-too_many
returns-clause-too_many c is = let high : 8 ≤ 7 = is.not_beyond in omega (arith, high)

pub returns-clause-unstaged : goal.returns-clause-unstaged
returns-clause-unstaged c is = let no : None ≡ Some is.begun = sym third ∙ is.staged in absurd (cc no)
