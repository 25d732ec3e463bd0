use Rattle.std.proofs.Common.{refl, Some}
use Rattle.nl_calls_steps.proofs.finding.file_or_not.Goals as goal
use Rattle.nl_calls_steps.proofs.Early.{read-early}
use Rattle.nl_calls_files.proofs.Directories.{dir-kind}

pub returns-in-File-clause-found : goal.returns-in-File-clause-found
returns-in-File-clause-found g c = (refl, (c.in-Ok.rec, record { is_node = c.in-Ok.ensures.node.before; is_file = c.in-File.is }))

pub returns-in_default-clause-found : goal.returns-in_default-clause-found
returns-in_default-clause-found g c = (refl, (c.in-Ok.rec, c.in-Ok.ensures.node.before, dir-kind c.in-Ok.rec.kind c.in_default.not-File c.in-Ok.ensures.node.before.used))

pub returns-in-Err-clause-early : goal.returns-in-Err-clause-early
returns-in-Err-clause-early g c = read-early g.D.Counts c.args.core.now c.open_node.new.core (Some c.in-Err.stop) c.in-Err.ensures.reads
