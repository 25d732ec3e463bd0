use Rattle.nl_spec_holders.proofs.LawProofs as laws
use Rattle.nl_spec_holders.proofs.laws.callbacks_keep.Goals as goal

pub returns-clause-handle : goal.returns-clause-handle
returns-clause-handle c = laws.handle_keeps

pub returns-clause-acknowledge : goal.returns-clause-acknowledge
returns-clause-acknowledge c = laws.acknowledge_keeps

pub returns-clause-none_handled : goal.returns-clause-none_handled
returns-clause-none_handled c = laws.none_handled

pub returns-clause-none_left : goal.returns-clause-none_left
returns-clause-none_left c = laws.none_left
