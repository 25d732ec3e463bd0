use Rattle.nl_journal_commit.proofs.Frees.{freeing_keeps, frees_all}
use Rattle.nl_journal_commit.proofs.laws.freeing_keeps.Goals as goal

pub returns-clause-keeps : goal.returns-clause-keeps
returns-clause-keeps c = freeing_keeps

pub returns-clause-all : goal.returns-clause-all
returns-clause-all c = frees_all
