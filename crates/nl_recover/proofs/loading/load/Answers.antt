use Rattle.std.proofs.Common.{arith}
use Rattle.nl_field.specs.Virtual.{map_bytes}
use Rattle.nl_journal.proofs.BackFacts.{same-bytes}
use Rattle.nl_recover.proofs.LoadFacts.{loads-then, settled-later, settled-stays}
use Rattle.nl_recover.proofs.NodesLoaded.{in-memory, table-of}
use Rattle.nl_recover.proofs.loading.load.Goals as goal

pub returns-clause-loads : goal.returns-clause-loads
returns-clause-loads g c = λ e. loads-then g.D.Counts.tells (map_bytes (g.D.Counts.shape c.args.device.now) (g.D.Counts.map c.args.device.now)) (map_bytes (g.D.Counts.shape c.load_tables.new.device) (g.D.Counts.map c.load_tables.new.device)) (λ t v. same-bytes _ _ _ _ v c.load_tables.ensures.device.medium.virtual.same_shape (c.load_tables.ensures.device.medium.virtual.same_map t v)) c.args.meta.now c.load_tables.new.meta c.load_nodes.new.meta (c.load_tables.ensures.loads c.if-not-load_tables.false) (c.load_nodes.ensures.loads e)

pub returns-clause-alike : goal.returns-clause-alike
returns-clause-alike g c = λ t e. record {
  tables = λ u at. settled-stays g.D.Counts.tells (map_bytes (g.D.Counts.shape c.args.device.now) (g.D.Counts.map c.args.device.now)) (map_bytes (g.D.Counts.shape c.load_tables.new.device) (g.D.Counts.map c.load_tables.new.device)) (λ t v. same-bytes _ _ _ _ v c.load_tables.ensures.device.medium.virtual.same_shape (c.load_tables.ensures.device.medium.virtual.same_map t v)) c.args.meta.now c.load_tables.new.meta c.load_nodes.new.meta u (c.load_tables.ensures.settled c.if-not-load_tables.false u at) (c.load_tables.ensures.loads c.if-not-load_tables.false) (c.load_nodes.ensures.loads e) t;
  slots = λ n slot a at low high.
      settled-later g.D.Counts.tells (map_bytes (g.D.Counts.shape c.args.device.now) (g.D.Counts.map c.args.device.now)) (map_bytes (g.D.Counts.shape c.load_tables.new.device) (g.D.Counts.map c.load_tables.new.device)) (λ t v. same-bytes _ _ _ _ v c.load_tables.ensures.device.medium.virtual.same_shape (c.load_tables.ensures.device.medium.virtual.same_map t v)) c.args.meta.now c.load_tables.new.meta c.load_nodes.new.meta a (c.load_tables.ensures.loads c.if-not-load_tables.false)
      (c.load_nodes.ensures.settled e n slot a (omega arith) at.is_node.below
      (in-memory c.args.shape.now _ c.load_tables.new.meta n slot a (c.load_tables.ensures.settled c.if-not-load_tables.false _ (table-of c.args.shape.now c.requires.bounds n at.is_node.below) t) at) (low, high)) t;
}
