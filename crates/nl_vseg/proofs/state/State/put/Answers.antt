use Rattle.std.proofs.Common.{◌∙◌, ap}
use Rattle.nl_vseg.specs.Layout.{block_is_free}
use Rattle.nl_vseg.proofs.Written.{puts_sealed}
use Rattle.nl_vseg.proofs.state.State.put.Goals as goal

pub seal_full-requires : goal.seal_full-requires
seal_full-requires g c =
    let stands = c.requires.stands in
    let p = c.program-answer.ensures.puts in
    record {
      first = p.stands.formed.segment.first;
      within = p.stands.formed.segment.active_is;
      in_use = ap (block_is_free c.program-answer.new.self.blocks) p.rest.same_active ∙ (p.rest.states.free c.args.self.now.active ∙ stands.formed.segment.taken c.requires.room);
    }

pub returns : goal.returns
returns g c =
    let e = c.seal_full.ensures in
    record { puts = puts_sealed g.M.Nand c.seal_full.new.blocks e.states e.used e.wear e.wears c.program-answer.ensures.puts; sealed = e.sealed }
