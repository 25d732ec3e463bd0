use Rattle.nl_field.specs.Virtual.{map_bytes}
use Rattle.nl_meta.specs.Pages.{page_of}
use Rattle.nl_recover.specs.Loading.{Settled}
use Rattle.nl_recover.proofs.NodesLoaded.{no-slot, slot-settled}
use Rattle.nl_recover.proofs.loading.load_node.Goals as goal

pub returns-in-Some-clause-settled : goal.returns-in-Some-clause-settled
returns-in-Some-clause-settled g c = λ e slot a at pool.
    slot-settled c.args.shape.now (page_of c.args.meta.now) c.args.ino c.in-Some.rec slot a (λ b. Settled g.D.Counts.tells (map_bytes (g.D.Counts.shape c.args.device.now) (g.D.Counts.map c.args.device.now)) c.args.meta.now c.load_addresses.new.meta b) c.in-Some.ensures at pool (c.load_addresses.ensures.settled e)

pub returns-in-None-clause-settled : goal.returns-in-None-clause-settled
returns-in-None-clause-settled g c = λ e slot a at pool. absurd (no-slot c.args.shape.now (page_of c.args.meta.now) c.args.ino slot a c.in-None.ensures at)
