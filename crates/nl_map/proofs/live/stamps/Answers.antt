use Rattle.std.proofs.Common.{ap, sym, ◌∙◌, ◌+◌, ◌||◌, drop}
use Rattle.std.specs.Prelude.{◌==◌}
use Rattle.std.specs.BTreeSet.{contains}
use Rattle.std.specs.List.{list_any}
use Rattle.std.specs.Ordering.{nat_cmp}
use Rattle.nl_map.proofs.Lists.{drop_got, number_moved}
use Rattle.nl_map.proofs.live.stamps.Goals as goal

pub kept-preserved : goal.kept-preserved
kept-preserved c stamp =
    number_moved c.kept.stamps c.insert.new.self c.get.result.now.stamp c.in_ok-insert.ensures.updates stamp (list_any (λ p. p.stamp == stamp) (drop (c.kept.at + 1) c.args.kept.now.items))
    ∙ ap (λ l. contains nat_cmp c.kept.stamps stamp || list_any (λ p. p.stamp == stamp) l) (sym (drop_got c.args.kept.now.items c.kept.at c.get.result.now c.get.ensures))
    ∙ c.kept.invariant stamp
