-- Which line of a script has to be answered before which.
use Rattle.std.specs.Prelude.{Bool, ◌==◌, ◌&&◌, ◌||◌, nat_lt}
use Rattle.nl_sim.specs.declared.order.Row.{Row}

-- a line of an earlier round, or an earlier line of the same worker in the same round
abbrev pub comes_before : Row → Row → Bool
comes_before a b = nat_lt a.round b.round || (a.round == b.round && a.worker == b.worker && nat_lt a.line b.line)
