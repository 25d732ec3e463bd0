use Rattle.std.proofs.Common.{inl, arith}
use Rattle.nl_testkit_still.proofs.moving_pages.StillMovingPages.erase.Goals as goal

pub returns-clause-left : goal.returns-clause-left
returns-clause-left c told = record { later = omega arith; each = λ m x left. inl left }
