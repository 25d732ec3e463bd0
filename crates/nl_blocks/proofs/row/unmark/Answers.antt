use Rattle.std.proofs.Common.{rules}
use Rattle.std.proofs.lemmas.List.Edits.{map_over_more}
use Rattle.nl_blocks.specs.Table.{unmarked}
use Rattle.nl_blocks.proofs.row.unmark.Goals as goal

pub loop-at-preserved : goal.loop-at-preserved
loop-at-preserved c =
    map_over_more unmarked c.args.pages.now.items c.loop-at.pages.items c.loop-at.at c.index-page.result.now (search rules) c.loop-at.invariant c.index-page.ensures
