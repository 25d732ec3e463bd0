use Rattle.nl_test_metadata.proofs.Tested.{tested}
use Rattle.nl_test_metadata.proofs.indirect.run.Goals as goal

pub returns : goal.returns
returns c =
    tested c.args.range c.args.index _ c.fresh_for-fresh.result c.args.rec.now c.store.new.rec c.args.meta.now c.store.new.meta c.store.result c.requires (c.is_in.ensures.range c.if-not-is_in.false) c.fresh_for-fresh.ensures.page c.store.ensures
