use Rattle.std.proofs.Common.{◌∙◌, sym}
use Rattle.nl_volume.proofs.volume.Volume.report.Goals as goal

pub count_taken-taken-requires : goal.count_taken-taken-requires
count_taken-taken-requires g c = let s = c.requires.3.0.serves in record { core = s.core }

pub returns-clause-charges : goal.returns-clause-charges
returns-clause-charges g c = λ page_of_stamp tree runs.
    let taken = c.count_taken-taken.ensures page_of_stamp tree runs in
    record {
      pages = c.from.ensures ∙ c.requires.3.1 ∙ sym (c.files_are_charged.ensures c.args.self.now.core page_of_stamp tree runs);
      nodes = taken.nodes;
      meta = taken.meta;
    }
