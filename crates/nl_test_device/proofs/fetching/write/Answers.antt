use Rattle.std.proofs.Common.{arith}
use Rattle.nl_test_device.proofs.Standing.{least-addresses}
use Rattle.nl_test_device.proofs.fetching.write.Goals as goal

pub virtual_write-requires-clause-within : goal.virtual_write-requires-clause-within
virtual_write-requires-clause-within c = let a = least-addresses _ c.requires.numbers in let h = c.requires.high in omega (arith, a, h)
