use Rattle.nl_recover_pointers.proofs.Placing.{put_page, put_stamp}
use Rattle.nl_recover_pointers.proofs.places.keep.Goals as goal

pub returns-clause-pages : goal.returns-clause-pages
returns-clause-pages c is = put_page c.args.kept.now.items c.args.page c.args.stamp (c.is_free.ensures.inside c.if-not-is_free.false) (c.is_free.ensures.free c.if-not-is_free.false)

pub returns-clause-stamped : goal.returns-clause-stamped
returns-clause-stamped c is = put_stamp c.args.kept.now.items c.args.page c.args.stamp (c.is_free.ensures.inside c.if-not-is_free.false) (c.is_free.ensures.free c.if-not-is_free.false)
