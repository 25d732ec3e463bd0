use Rattle.std.proofs.Common.{None, get_or, is_some, ◌&&◌}
use Rattle.std.specs.Prelude.{◌==◌}
use Rattle.std.specs.BTreeSet.{contains}
use Rattle.std.specs.Ordering.{nat_cmp}
use Rattle.nl_recover_pointers.specs.Numbers.{is_it}
use Rattle.nl_recover_pointers.specs.Places.{pair_cmp, place_key}
use Rattle.nl_recover_pointers.proofs.Placing.{among_kept, page_other, stamp_other}
use Rattle.nl_recover_pointers.proofs.places.Places.add.Goals as goal

pub returns-then-keep-clause-pages : goal.returns-then-keep-clause-pages
returns-then-keep-clause-pages c p =
    among_kept (is_some (get_or c.keep.new.kept.items p None)) (is_some (get_or c.args.self.now.kept.items p None)) (c.args.page == p) (contains nat_cmp c.args.self.now.pages p)
    (c.keep.ensures.pages c.if-keep.true p)

pub returns-then-keep-clause-stamped : goal.returns-then-keep-clause-stamped
returns-then-keep-clause-stamped c p s =
    among_kept (is_it s (get_or c.keep.new.kept.items p None)) (is_it s (get_or c.args.self.now.kept.items p None)) (c.args.page == p && c.args.stamp == s)
    (contains pair_cmp c.args.self.now.stamped (place_key p s)) (c.keep.ensures.stamped c.if-keep.true p s)

pub returns-clause-pages : goal.returns-clause-pages
returns-clause-pages c =
    page_other c.args.self.now.kept.items c.keep.new.kept.items c.args.self.now.pages c.insert.new.self c.args.page (c.keep.ensures.same c.if-keep.false) c.in_ok-insert.ensures.updates

pub returns-clause-stamped : goal.returns-clause-stamped
returns-clause-stamped c =
    stamp_other c.args.self.now.kept.items c.keep.new.kept.items c.args.self.now.stamped c.insert-2.new.self c.args.page c.args.stamp (c.keep.ensures.same c.if-keep.false)
    c.in_ok-insert-2.ensures.updates
