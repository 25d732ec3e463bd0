use Rattle.std.specs.BTreeSet.{contains}
use Rattle.std.specs.Ordering.{nat_cmp}
use Rattle.nl_recover_pointers.proofs.Numbering.{added_kept, added_other}
use Rattle.nl_recover_pointers.proofs.numbers.Numbers.add.Goals as goal

pub returns-then-keep : goal.returns-then-keep
returns-then-keep c n =
    added_kept c.args.self.now.kept.items c.keep.new.kept.items c.args.number n (contains nat_cmp c.args.self.now.more n) (c.keep.ensures.kept c.if-keep.true n)

pub returns : goal.returns
returns c = added_other c.args.self.now.kept.items c.keep.new.kept.items c.args.self.now.more c.insert.new.self c.args.number (c.keep.ensures.same c.if-keep.false) c.in_ok-insert.ensures.updates
