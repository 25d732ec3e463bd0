use Rattle.std.proofs.Common.{refl}
use Rattle.nl_field.specs.Spelling.{u32_bytes, u64_bytes}
use Rattle.nl_field.specs.SpareRecord.{spare_bytes}
use Rattle.nl_field.proofs.spare.put_physical.Goals as goal

pub returns-clause-bytes : goal.returns-clause-bytes
unfolding spare_bytes u32_bytes u64_bytes
returns-clause-bytes c = rw (c.put_u32-4.ensures, c.put_u32-3.ensures, c.put_u32-2.ensures, c.put_u64.ensures, c.put_u32.ensures) refl
