use Rattle.nl_volume_list.proofs.Turns.{items_are_counted, items_in_turn}
use Rattle.nl_volume_list.proofs.laws.items_in_turn.Goals as goal

pub returns-clause-count : goal.returns-clause-count
returns-clause-count c = items_are_counted

pub returns-clause-order : goal.returns-clause-order
returns-clause-order c = items_in_turn
