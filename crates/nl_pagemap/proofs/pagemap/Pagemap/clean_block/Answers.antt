use Rattle.std.proofs.Common.{ℕ, ◌-◌, sym, ap, subst, arith}
use Rattle.nl_pagemap.specs.Cleaning.{KeepsNumbers}
use Rattle.nl_pagemap.specs.Mapped.{seen, untried_in}
use Rattle.nl_pagemap.specs.declared.pagemap.Pagemap.{Pagemap}
use Rattle.nl_pagemap.proofs.Counted.{none_pass}
use Rattle.nl_pagemap.proofs.Forgotten.{forgotten_keeps}
use Rattle.nl_pagemap.proofs.Kept.{keeps_then}
use Rattle.nl_pagemap_names.specs.Table.{live_at}
use Rattle.nl_pagemap_names.specs.Untried.{is_in}
use Rattle.nl_pagemap.proofs.pagemap.Pagemap.clean_block.Goals as goal

pub returns-clause-kept : goal.returns-clause-kept
returns-clause-kept g c =
    let s = seen g.M.Nand.contents c.empty_block.new.self in
    let e = c.forget_released.ensures in
    keeps_then c.empty_block.ensures.kept (keeps_then
    (subst (λ (d : Pagemap g.row.M.Denot). KeepsNumbers g.M.Nand.tells s (seen g.M.Nand.contents d)) (sym e.rest)
    (forgotten_keeps s c.forget_released.new.self.table c.empty_block.ensures.formed e.forgets))
    c.erase_block.ensures.kept)

pub returns-clause-gained : goal.returns-clause-gained
returns-clause-gained g c did =
    let s = seen g.M.Nand.contents c.empty_block.new.self in
    let empty = c.empty_block.ensures in
    let copied = empty.copied c.if-not-empty_block.false in
    let none = none_pass (λ n. is_in s.shape.pages c.args.block (live_at s.table n)) s.table.first (s.table.last - s.table.first) (λ n from. empty.empty c.if-not-empty_block.false n) in
    let rest = ap {B = ℕ} (λ (d : Pagemap g.row.M.Denot). untried_in (seen g.M.Nand.contents d)) c.forget_released.ensures.rest in
    let pages = ap {B = ℕ} (λ (d : Pagemap g.row.M.Denot). d.shape.pages) c.forget_released.ensures.rest in
    let first = ap {B = ℕ} (λ x. x.pages) empty.kept.shape in
    let gained = c.erase_block.ensures.gained did in
    omega (arith, copied, none, rest, pages, first, gained)
