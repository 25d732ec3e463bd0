use Rattle.std.proofs.Common.{subst}
use Rattle.nl_field.specs.declared.shape.Shape.{Shape}
use Rattle.nl_pagemap.specs.contracts.counts.PagemapCounts.TheImpl.{ghosts}
use Rattle.nl_pagemap_volume.specs.Volume.{IsNewVolume}
use Rattle.nl_cmd_compare.proofs.Shapes.{is_volume, on_medium}
use Rattle.nl_cmd_compare.proofs.making.map_volume.Goals as goal

pub make-requires-clause-volume : goal.make-requires-clause-volume
make-requires-clause-volume g c = is_volume c.args.blocks c.args.pages c.in-Some.shape c.requires.legal c.in-Some.ensures.numbers

pub make-requires-clause-geometry : goal.make-requires-clause-geometry
make-requires-clause-geometry g c =
    on_medium c.args.blocks c.args.pages c.in-Some.shape (g.M.Nand.geometry c.form.new.self) c.in-Some.ensures.numbers (c.form.ensures.done c.in-Done.is)

pub returns-in-Ok : goal.returns-in-Ok
returns-in-Ok g c = record {
  stands = c.in-Ok.ensures.stands;
  new = subst (λ (h : Shape). IsNewVolume (ghosts g.row.M g.M.Nand g.M.Nand-dict) h c.in-Ok.map) c.in-Some.ensures.numbers c.in-Ok.ensures.new;
}
