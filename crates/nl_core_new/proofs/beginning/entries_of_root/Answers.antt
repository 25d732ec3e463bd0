use Rattle.std.proofs.Common.{◌∙◌, ap, sym}
use Rattle.nl_field.specs.declared.inode.InodeRec.{InodeRec}
use Rattle.nl_meta.proofs.Lists.{some_in}
use Rattle.nl_core_new.proofs.beginning.entries_of_root.Goals as goal

pub returns : goal.returns
returns c rec at = ap (λ (r : InodeRec). r.size) (some_in rec c.get-root.result (sym at ∙ c.get-root.ensures))
