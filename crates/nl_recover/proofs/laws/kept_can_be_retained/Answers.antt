use Rattle.nl_recover.proofs.Retains.{retained-differ, retained-few-lost, retained-found, retained-names-differ, retained-own, retained-spare}
use Rattle.nl_recover.proofs.laws.kept_can_be_retained.Goals as goal

pub returns-clause-spare : goal.returns-clause-spare
returns-clause-spare c = retained-spare

pub returns-clause-found : goal.returns-clause-found
returns-clause-found c = retained-found

pub returns-clause-differ : goal.returns-clause-differ
returns-clause-differ c = retained-differ

pub returns-clause-names_differ : goal.returns-clause-names_differ
returns-clause-names_differ c = retained-names-differ

pub returns-clause-own : goal.returns-clause-own
returns-clause-own c = retained-own

pub returns-clause-few_lost : goal.returns-clause-few_lost
returns-clause-few_lost c = retained-few-lost
