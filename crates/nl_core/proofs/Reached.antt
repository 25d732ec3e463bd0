-- As many units as a sync needs: what is known between two of them.
use Rattle.std.proofs.Common.{◌≡◌, ◌≢◌, ◌⊎◌, inl, inr, ⊎_elim, ℕ, zero, suc, ◌+◌, ◌-◌, ◌*◌, ◌<◌, ◌≤◌, length, refl, sym, ap, subst, ◌∙◌, arith}
use Rattle.std.proofs.lemmas.Bool.{cases_lt}
use Rattle.nl_field.specs.declared.answers.VirtualWrite.{VirtualWrite}
use Rattle.nl_field.specs.declared.answers.VirtualWrite.TheVariants as write
use Rattle.nl_iface.specs.declared.counts.Counts.{Ghosts}
use Rattle.nl_journal.proofs.Finishing.{header_units}
use Rattle.nl_journal.specs.Progress.{units_left}
use Rattle.nl_journal.specs.declared.answers.Phase.{Phase}
use Rattle.nl_journal.specs.declared.answers.Phase.TheVariants.{Header, Image, Commit, Home}
use Rattle.nl_core.specs.Calls.{FailureIsCounted}
use Rattle.nl_core.specs.Core.{IsCore}
use Rattle.nl_core.specs.Goes.{PreservesVolume}
use Rattle.nl_core.specs.Units.{DoesUnit, ReachesGoal, units_for}
use Rattle.nl_core.specs.declared.state.Core.{Core}
use Rattle.nl_core.proofs.Counts.{left_and_more, left_of, left_to_commit, none_left, pages_of}
use Rattle.nl_core.proofs.Onward.{cause_then, goes_more, goes_none, goes_then}

-- ---- the most that is left

units_most : (phase : Phase) (n : ℕ) → units_left phase n ≤ 2 * n + 2
units_most Header zero = omega arith
units_most Header (suc n) = let e = header_units (suc n) (omega arith) in omega (arith, e)
units_most (Image i) n = omega arith
units_most Commit n = omega arith
units_most (Home i) n = omega arith

module _ {D : Type 0} (g : Ghosts D) (v : Core D) (core : IsCore g v) where
  few_pages : pages_of v ≤ 64
  few_pages = ⊎_elim (λ none. omega (arith, none)) (λ some. (core.journaled.order.pages some).pages.few) (cases_lt (pages_of v) 1)

  few_left : left_of v ≤ 130
  few_left = let most = units_most v.journal.phase (pages_of v) in let few = few_pages in omega (arith, most, few)

  within : (a x : ℕ) → a ≡ x → x ≤ 196 → a ≤ 196
  within a x same low = omega (arith, same, low)

  pub few_units : (goal : ℕ) → units_for v goal ≤ 196
  few_units goal = ⊎_elim
      (λ more. ⊎_elim
      (λ past. within (units_for v goal) (left_of v + 66) (left_and_more goal v.committed v.frozen (left_of v) (pages_of v) more past) (let few = few_left in omega (arith, few)))
      (λ reach. within (units_for v goal) (left_of v - pages_of v) (left_to_commit goal v.committed v.frozen (left_of v) (pages_of v) more reach) (let few = few_left in omega (arith, few)))
      (cases_lt v.frozen goal))
      (λ low. within (units_for v goal) 0 (none_left goal v.committed v.frozen (left_of v) (pages_of v) low) (omega arith))
      (cases_lt v.committed goal)

-- ---- between two units

pub record Reaching {D : Type 0} (g : Ghosts D) (goal : ℕ) (start now : Core D) : Type 0 where
  pub core : IsCore g now
  pub taken : ℕ
  pub goes : PreservesVolume g taken start now
  pub paid : taken + units_for now goal ≤ 196
  pub at_once : goal ≤ start.committed → now ≡ start
  pub same_flight : now.flight ≡ start.flight
  pub same_nodes : now.nodes ≡ start.nodes

pub reaching_none : {D : Type 0} (g : Ghosts D) (goal : ℕ) (v : Core D) → IsCore g v → Reaching g goal v v
reaching_none g goal v core = record {
  core = core;
  taken = 0;
  goes = goes_none g v core;
  paid = let few = few_units g v core goal in omega (arith, few);
  at_once = λ low. refl;
  same_flight = refl;
  same_nodes = refl;
}

module _ {D : Type 0} (g : Ghosts D) (goal : ℕ) (start u w : Core D) (r : Reaching g goal start u) (answer : VirtualWrite) (low : goal ≤ start.count) (more : u.committed < goal) (core : IsCore g w) (goes : PreservesVolume g 1 u w)
    (does : DoesUnit g u w answer) where
  -- where the goal was reached before, no unit is done
  not_at_once : goal ≤ start.committed → ⊥
  not_at_once before = let same = ap (λ (x : Core D). x.committed) (r.at_once before) in omega (arith, before, same, more)

  below : goal ≤ u.count
  below = let same = r.goes.count in omega (arith, low, same)

  pub goes_unit : PreservesVolume g (r.taken + 1) start w
  goes_unit = goes_then g start u w r.taken 1 r.goes goes

  pub taken_few : r.taken + 1 ≤ 256
  taken_few = let paid = r.paid in omega (arith, paid)

  pub reaching_then : answer ≡ write.Done → Reaching g goal start w
  reaching_then done = record {
    core = core;
    taken = r.taken + 1;
    goes = goes_unit;
    paid = let less = does.less done goal below more in let paid = r.paid in omega (arith, less, paid);
    at_once = λ before. absurd (not_at_once before);
    same_flight = does.same_flight ∙ r.same_flight;
    same_nodes = does.same_nodes ∙ r.same_nodes;
  }

  pub goes_ended : PreservesVolume g 256 start w
  goes_ended = goes_more g (r.taken + 1) 256 start w taken_few goes_unit

  pub reaches_not : (answer ≡ write.Done → ⊥) → ReachesGoal g goal start w answer
  reaches_not off = record {
    reached = λ done. absurd (off done);
    at_once = λ before. absurd (not_at_once before);
    lost = does.lost;
    same_flight = does.same_flight ∙ r.same_flight;
    same_nodes = does.same_nodes ∙ r.same_nodes;
  }

  pub cause_unit : FailureIsCounted g (answer ≡ write.Fault) u w → FailureIsCounted g (answer ≡ write.Fault) start w
  cause_unit cause = cause_then g (answer ≡ write.Fault) (answer ≡ write.Fault) start u w r.taken r.goes cause (λ f. f)
