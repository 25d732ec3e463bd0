use Rattle.nl_test_core_still.proofs.Firm.{always_firm}
use Rattle.nl_test_core_still.proofs.opening.open.Goals as goal

pub open_new-requires-clause-firm : goal.open_new-requires-clause-firm
open_new-requires-clause-firm c = always_firm
