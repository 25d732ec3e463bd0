use Rattle.std.proofs.Common.{◌≡◌, ◌*◌, arith}
use Rattle.nl_pagemap.proofs.Programmed.{spelled}
use Rattle.nl_pagemap.proofs.pagemap.Pagemap.read_entry.Goals as goal

pub read_page-requires-clause-within : goal.read_page-requires-clause-within
read_page-requires-clause-within g c =
    let d = c.args.self.now in
    let f = c.requires.formed in
    let below = (f.entries c.args.number c.args.entry c.requires.entry).page_below in
    let all : (g.M.Nand.geometry d.media).blocks * (g.M.Nand.geometry d.media).pages ≡ d.shape.blocks * d.shape.pages = λ i. f.blocks i * f.pages i in
    omega (arith, below, all)

pub read_page-requires-clause-spelled : goal.read_page-requires-clause-spelled
read_page-requires-clause-spelled g c =
    let f = c.requires.formed in
    let w = f.entries c.args.number c.args.entry c.requires.entry in
    let lt = w.stamp in
    let most = f.most in
    spelled c.args.entry.stamp w.some (omega (arith, lt, most))
