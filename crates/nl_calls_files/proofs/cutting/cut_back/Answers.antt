use Rattle.std.proofs.Common.{◌∙◌, subst, sym}
use Rattle.nl_files.specs.Cutting.{Cuts}
use Rattle.nl_calls_files.proofs.cutting.cut_back.Goals as goal
use Rattle.nl_calls_files.proofs.DirtyRoom.{cut_has_room}

pub returns-clause-cut : goal.returns-clause-cut
returns-clause-cut c =
    let cuts = c.cut.ensures.cut in
    record {
      between = c.cut.new.meta;
      cuts = subst (λ s. Cuts c.args.size c.args.partial c.args.rec.now c.cut.new.rec c.args.meta.now c.cut.new.meta c.args.nodes.now s) (sym c.put.ensures.spaces) cuts;
      puts = c.put.ensures.done (c.put.ensures.room ∙ cut_has_room c.args.size c.args.partial c.args.rec.now c.cut.new.rec c.args.meta.now c.cut.new.meta c.args.nodes.now c.cut.new.nodes cuts c.args.ino c.requires.room);
    }
