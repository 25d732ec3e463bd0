use Rattle.std.proofs.Common.{subst, Option}
use Rattle.nl_field.specs.declared.entry.EntryRec.{EntryRec}
use Rattle.nl_meta.specs.Nodes.{entries_of_inode}
use Rattle.nl_meta.specs.Pages.{page_of}
use Rattle.nl_volume_list.specs.Entries.{IsLeastOf}
use Rattle.nl_volume_list.proofs.entries.least_entry.Goals as goal

pub returns-in-Some : goal.returns-in-Some
returns-in-Some c =
    subst (λ (o : Option EntryRec). IsLeastOf (entries_of_inode (page_of c.args.meta.now) c.args.rec.now) c.args.after.now o) c.entry_at.ensures c.in-Some.ensures.least
