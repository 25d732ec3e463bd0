use Rattle.nl_dir.proofs.InsertProofs.{inserts-first}
use Rattle.nl_dir.proofs.change.put_first.Goals as goal

pub returns : goal.returns
returns c =
    inserts-first c.args.meta.now c.hold.new.meta c.put_entry.new.meta c.args.rec.now c.args.entry.now c.args.vaddr c.requires.directory c.requires.few c.requires.absent c.requires.fresh c.hold.ensures c.put_entry.ensures
