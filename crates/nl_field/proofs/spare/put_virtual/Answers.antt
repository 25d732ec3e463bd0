use Rattle.std.proofs.Common.{refl}
use Rattle.nl_field.specs.Spelling.{u32_bytes, u64_bytes}
use Rattle.nl_field.specs.SpareRecord.{spare_bytes}
use Rattle.nl_field.proofs.spare.put_virtual.Goals as goal

pub returns : goal.returns
unfolding spare_bytes u32_bytes u64_bytes
returns c = rw (c.put_u32-2.ensures, c.put_u64.ensures, c.put_u32.ensures) refl
