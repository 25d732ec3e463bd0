use Rattle.std.proofs.Common.{◌∙◌, ap}
use Rattle.nl_field.specs.declared.shape.Shape.{Shape}
use Rattle.nl_meta.specs.Nodes.{graph_of}
use Rattle.nl_meta_running.specs.Running.{running_on}
use Rattle.nl_meta_running.proofs.GraphStays.{graph-same}
use Rattle.nl_meta_running.proofs.Holds.{bounds-of}
use Rattle.nl_meta_running.proofs.Kept.{kept-then, runs-then, used-on}
use Rattle.nl_meta_running.proofs.laws.runs_stay.Goals as goal

pub returns : goal.returns
returns g c = λ s p t q is on. record {
  runs = runs-then g.D.Counts s p t q (bounds-of (g.D.Counts.shape s) is) on;
  nodes = used-on g.D.Counts s p t q (bounds-of (g.D.Counts.shape s) is) on;
  graph = ap (λ (n : Shape). graph_of n (running_on g.D.Counts t q)) on.reads.medium.virtual.same_shape
      ∙ graph-same (g.D.Counts.shape s) (bounds-of (g.D.Counts.shape s) is) (running_on g.D.Counts s p) (running_on g.D.Counts t q) on.needed;
  after = kept-then g.D.Counts s p t q (bounds-of (g.D.Counts.shape s) is) on;
}
