use Rattle.std.proofs.Common.{arith}
use Rattle.nl_journal.proofs.Addresses.{addresses_of}
use Rattle.nl_journal.proofs.reading.commit_page.Goals as goal

pub see-requires-clause-within : goal.see-requires-clause-within
see-requires-clause-within g c =
    let wide = addresses_of (g.D.Counts.shape c.args.device.now) (g.met.D.VirtualPages.numbers c.args.device.now c.requires.formed) in
    omega (arith, wide)
