use Rattle.nl_files.proofs.ContentFacts.{cutting_cuts, installing_writes, pages_by_pointers}
use Rattle.nl_files.proofs.laws.contents_by_pointers.Goals as goal

pub returns-clause-pages : goal.returns-clause-pages
returns-clause-pages c = pages_by_pointers

pub returns-clause-installing : goal.returns-clause-installing
returns-clause-installing c = installing_writes

pub returns-clause-cutting : goal.returns-clause-cutting
returns-clause-cutting c = cutting_cuts
