use Rattle.nl_test_device_segments.proofs.Rigs.{least}
use Rattle.nl_test_device_segments.proofs.medium.least.Goals as goal

pub returns-in-Some : goal.returns-in-Some
returns-in-Some c = least c.in-Some.shape c.in-Some.ensures.numbers
