use Rattle.std.proofs.Common.{sym, ◌∙◌, arith}
use Rattle.nl_test_device.proofs.Standing.{least-addresses, least-inodes}
use Rattle.nl_test_device.proofs.fetching.fetch_one.Goals as goal

pub fetch-answer-requires-clause-within : goal.fetch-answer-requires-clause-within
fetch-answer-requires-clause-within c = let a = least-addresses _ c.requires.numbers in let h = c.requires.high in omega (arith, a, h)

pub fetch-answer-requires-clause-count : goal.fetch-answer-requires-clause-count
fetch-answer-requires-clause-count c = c.requires.count ∙ sym (least-addresses _ c.requires.numbers)

pub fetch-answer-requires-clause-stored : goal.fetch-answer-requires-clause-stored
fetch-answer-requires-clause-stored c = λ gone none. least-inodes _ c.requires.numbers c.args.vaddr c.requires.low c.requires.high
