use Rattle.std.proofs.Common.{ap, ◌∙◌, arith}
use Rattle.std.proofs.lemmas.List.Edits.{map_over_more}
use Rattle.std.specs.Prelude.{slice_set}
use Rattle.nl_flight.specs.Flight.{renamed_page}
use Rattle.nl_flight.proofs.line.rename_pages.Goals as goal

pub loop-at-preserved : goal.loop-at-preserved
loop-at-preserved c = (
  ap (λ page. slice_set c.loop-at.pages.items c.loop-at.at page) c.renamed_page.ensures
      ∙ map_over_more (renamed_page c.args.stamp c.args.to) c.args.pages.now.items c.loop-at.pages.items c.loop-at.at c.index.result.now (omega arith) c.loop-at.invariant.0 c.index.ensures,
  c.loop-at.invariant.1,
)
