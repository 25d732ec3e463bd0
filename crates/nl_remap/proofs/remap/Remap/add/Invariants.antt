use Rattle.std.proofs.Common.{◌==◌}
use Rattle.std.specs.List.{count_by}
use Rattle.nl_remap.proofs.TableProofs.{Leading}
use Rattle.nl_remap.proofs.remap.Remap.add.Given as goal

abbrev pub invariant-loop-name : goal.invariant-loop-name
invariant-loop-name l = Leading l.initial.self.pairs l.self.pairs l.initial.self.room l.self.room l.old l.new

abbrev pub decreases-loop-name : goal.decreases-loop-name
decreases-loop-name l = count_by (λ p. p.to == l.old) l.self.pairs
