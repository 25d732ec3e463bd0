use Rattle.std.proofs.Common.{◌≡◌, ◌-◌, ◌+◌, ◌*◌, length, arith}
use Rattle.nl_field.specs.Journal.{header_bytes}
use Rattle.nl_field.proofs.JournalHeader.{length-header_head}
use Rattle.nl_field.proofs.header.HeaderRec.is_in.Goals as goal

pub returns : goal.returns
unfolding header_bytes
returns c =
    let behind : 4096 - (24 + 4 * length c.args.self.now.addresses) ≡ 4072 - 4 * length c.args.self.now.addresses = omega arith in
    rw (c.requires, c.len.ensures.count, c.head-head.ensures.bytes, length-header_head c.args.self.now, behind) at c.is_padded.ensures
