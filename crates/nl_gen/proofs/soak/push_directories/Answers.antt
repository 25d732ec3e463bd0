use Rattle.nl_gen.specs.Soak.{mkdir_text}
use Rattle.nl_gen.proofs.Ranges.{grown}
use Rattle.nl_gen.proofs.soak.push_directories.Goals as goal

pub loop-worker-preserved : goal.loop-worker-preserved
loop-worker-preserved c = grown mkdir_text c.loop-worker.worker c.args.text.now.items c.loop-worker.text.items c.push_mkdir.new.text.items c.loop-worker.invariant c.in_ok-push_mkdir.ensures
