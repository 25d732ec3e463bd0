use Rattle.std.proofs.Common.{◌∙◌, ap}
use Rattle.nl_vseg.specs.Used.{used_of}
use Rattle.nl_vseg.proofs.state.State.give_back.Goals as goal

pub returns-clause-given : goal.returns-clause-given
returns-clause-given c =
    let free = c.set_free.ensures.free in
    record { same_places = free.same_places; closed = ap (used_of c.set_free.new.self.blocks) free.same_active ∙ free.used.full; states = free.states }
