use Rattle.std.proofs.Common.{◌≡◌, ◌++◌, ◌+◌, ◌*◌, length, take, drop, refl}
use Rattle.std.proofs.lemmas.List.{take_at}
use Rattle.std.specs.List.{flat_map}
use Rattle.nl_field.specs.Spelling.{u32_bytes, u64_bytes}
use Rattle.nl_field.specs.Journal.{header_head, fits_header}
use Rattle.nl_field.proofs.JournalHeader.{length-header_head}
use Rattle.nl_field.proofs.header.HeaderRec.head.Goals as goal

pub returns-clause-bytes : goal.returns-clause-bytes
unfolding header_head u32_bytes u64_bytes
returns-clause-bytes c =
    let front : take 24 c.put_u32.new.out ++ flat_map u32_bytes c.args.self.now.addresses ≡ header_head c.args.self.now = rw (c.put_u32.ensures, c.put_u64.ensures, c.copy_from_slice.ensures.after, c.len.ensures.count) refl in
    let len : length (header_head c.args.self.now) ≡ 24 + 4 * length c.args.self.now.addresses = length-header_head c.args.self.now in
    rw (c.put_u32s.ensures.bytes, c.as_slice-addresses.ensures.value, front) (take_at (header_head c.args.self.now) (drop (24 + 4 * length c.args.self.now.addresses) c.put_u32.new.out) (24 + 4 * length c.args.self.now.addresses) len)

pub returns-clause-fits : goal.returns-clause-fits
unfolding fits_header
returns-clause-fits c = rw c.as_slice-addresses.ensures.value at c.put_u32s.ensures.fits
