-- Which numbers pending callbacks have.
use Rattle.std.specs.Prelude.{◌≡◌, ℕ, ◌<◌, ◌≤◌}
use Rattle.nl_field.specs.CrashStates.{top}
use Rattle.nl_field.specs.declared.shape.Shape.{Shape}
use Rattle.nl_iface.specs.Moves.{Acknowledges, Copies, MarksHandled}
use Rattle.nl_iface.specs.Names.{GainsPage, Has, IsNames, IsTableOfNames, LivePage, Names, SameTables}
use Rattle.nl_iface.specs.declared.Callback.{Callback}

-- Each pending callback has a number above this one, and the last number that was given is not below it.
pub record IsNumberedAbove (n : ℕ) (names : Names) : Type 0 where
  pub above : (c : Callback) → Has names.pending c → n < c.number
  pub posted : n ≤ names.posted

-- With no pair in the table no callback is pending, so each has a number above the last one. A move gives its callback the number after the
-- last one, as long as there is one. No other step posts a callback.
pub record NumbersRise : Type 0 where
  pub unpaired : (shape : Shape) (next n : ℕ) (s : Names) → IsNames shape next s → IsTableOfNames s → s.space.pairs ≡ 0 → n ≤ s.posted → IsNumberedAbove n s
  pub moved : (c : Callback) (n : ℕ) (s t : Names) → Copies c s t → s.posted < top → IsNumberedAbove n s → IsNumberedAbove n t
  pub same : (n : ℕ) (s t : Names) → SameTables s t → IsNumberedAbove n s → IsNumberedAbove n t
  pub placed : (p : ℕ) (page : LivePage) (n : ℕ) (s t : Names) → GainsPage p page s t → IsNumberedAbove n s → IsNumberedAbove n t
  pub handled : (c : Callback) (transaction n : ℕ) (s t : Names) → MarksHandled c transaction s t → IsNumberedAbove n s → IsNumberedAbove n t
  pub acknowledged : (upto n : ℕ) (s t : Names) → Acknowledges upto s t → IsNumberedAbove n s → IsNumberedAbove n t
