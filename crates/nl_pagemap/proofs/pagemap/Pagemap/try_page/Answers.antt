use Rattle.std.proofs.Common.{◌∙◌, sym, subst, arith}
use Rattle.nl_nand.specs.Nand.{CanProgram}
use Rattle.nl_pagemap.proofs.Programmed.{can_program, next_within}
use Rattle.nl_pagemap.proofs.pagemap.Pagemap.try_page.Goals as goal

pub program_page-answer-requires-clause-within : goal.program_page-answer-requires-clause-within
program_page-answer-requires-clause-within g c =
    let is = c.next_page-page.ensures in
    let below = next_within c.args.block c.requires.formed c.requires.next in
    omega (arith, is, below)

pub program_page-answer-requires-clause-erased : goal.program_page-answer-requires-clause-erased
program_page-answer-requires-clause-erased g c t =
    let d = c.args.self.now in
    let f = c.requires.formed in
    let fit = g.met.M.Nand.contents_fit d.media t in
    subst (λ p. CanProgram (g.M.Nand.contents d.media) p) (sym c.next_page-page.ensures) (can_program c.args.block f c.requires.next t (fit.pages ∙ f.pages))
