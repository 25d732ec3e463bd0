use Rattle.std.proofs.Common.{◌-◌}
use Rattle.nl_recover.proofs.loading.+load_nodes.Given as goal

abbrev pub decreases-load_nodes : goal.decreases-load_nodes
decreases-load_nodes g l = l.to - l.from
