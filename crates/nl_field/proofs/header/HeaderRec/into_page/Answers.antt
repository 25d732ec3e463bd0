use Rattle.std.proofs.Common.{◌≡◌, ◌-◌, ◌+◌, ◌*◌, length, arith}
use Rattle.nl_field.specs.Journal.{header_bytes}
use Rattle.nl_field.proofs.JournalHeader.{length-header_head, header-spelled}
use Rattle.nl_field.proofs.header.HeaderRec.into_page.Goals as goal

pub returns-clause-main : goal.returns-clause-main
unfolding header_bytes
returns-clause-main c =
    let behind : 4096 - (24 + 4 * length c.args.self.now.addresses) ≡ 4072 - 4 * length c.args.self.now.addresses = omega arith in
    rw (c.len.ensures.count, c.head-head.ensures.bytes, length-header_head c.args.self.now, behind) at c.set_head.ensures.main

pub returns-clause-back : goal.returns-clause-back
returns-clause-back c = header-spelled c.args.self.now c.head-head.ensures.fits c.requires.spelled
