use Rattle.std.proofs.Common.{refl}
use Rattle.nl_field.specs.Spelling.{u32_bytes, u64_bytes}
use Rattle.nl_field.specs.Journal.{commit_head}
use Rattle.nl_field.proofs.commit.CommitRec.head.Goals as goal

pub returns : goal.returns
unfolding commit_head u32_bytes u64_bytes
returns c = rw (c.put_u64.ensures, c.copy_from_slice.ensures.after) refl
