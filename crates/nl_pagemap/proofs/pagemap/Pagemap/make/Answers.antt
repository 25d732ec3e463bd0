use Rattle.std.proofs.Common.{◌-◌, ◌*◌, refl, sym, subst, ap, ◌∙◌}
use Rattle.nl_pagemap.specs.Mapped.{Mapped, page_live}
use Rattle.nl_pagemap.specs.Stands.{IsMapped}
use Rattle.nl_pagemap.proofs.Fresh.{fresh, fresh_mapped, fresh_room, no_stamp, none_live}
use Rattle.nl_pagemap_names.specs.Table.{Table}
use Rattle.nl_pagemap.proofs.pagemap.Pagemap.make.Goals as goal

pub returns-in-Ok-clause-formed : goal.returns-in-Ok-clause-formed
returns-in-Ok-clause-formed g c =
    let shape = c.args.shape in
    let e = c.in-Ok.ensures in
    let q = c.requires in
    let image = g.M.Nand.contents c.args.media in
    subst (λ (x : Mapped). IsMapped g.M.Nand.tells (g.M.Nand.geometry c.args.media) x) (λ i. record (fresh shape c.in-Ok.field-0.vseg image) { table = (sym e.table) i; untried = (sym e.untried) i })
    (fresh_mapped shape c.in-Ok.field-0.vseg image q.volume q.bounds q.geometry q.blank e.places e.pages e.bound e.within)

pub returns-in-Ok-clause-fresh : goal.returns-in-Ok-clause-fresh
returns-in-Ok-clause-fresh g c =
    let shape = c.args.shape in
    let e = c.in-Ok.ensures in
    let q = c.requires in
    let image = g.M.Nand.contents c.args.media in
    record {
      same_shape = refl;
      stamps = λ v. no_stamp shape c.in-Ok.field-0.vseg image q.volume q.bounds q.geometry q.blank e.places e.pages e.bound e.within v;
      live = λ n. ap (λ (t : Table). page_live t n) e.table ∙ none_live (shape.vblocks * shape.pages) (shape.blocks * shape.pages - shape.pages) (shape.blocks * shape.pages) n;
      room = fresh_room shape c.in-Ok.field-0.vseg image q.volume q.bounds q.geometry q.blank e.places e.pages e.bound e.within;
      next = refl;
      spare = e.spare;
    }
