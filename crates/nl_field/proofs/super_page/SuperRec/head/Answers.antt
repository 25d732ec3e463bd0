use Rattle.std.proofs.Common.{refl}
use Rattle.nl_field.specs.Spelling.{u32_bytes, u64_bytes}
use Rattle.nl_field.specs.SuperPage.{super_head}
use Rattle.nl_field.proofs.super_page.SuperRec.head.Goals as goal

pub returns-clause-bytes : goal.returns-clause-bytes
unfolding super_head u32_bytes u64_bytes
returns-clause-bytes c = rw (c.put_u64.ensures, c.put_u32-3.ensures, c.put_u32-2.ensures, c.put_u32.ensures, c.copy_from_slice.ensures.after) refl
