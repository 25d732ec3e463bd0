use Rattle.std.proofs.Common.{sym, ◌∙◌, ap, set, get_or}
use Rattle.std.proofs.lemmas.List.{map-set}
use Rattle.nl_field.specs.Page.{erased}
use Rattle.nl_nand.specs.Stop.{page_after}
use Rattle.nl_nand.specs.Record.{page_of, pages_of}
use Rattle.nl_nand.specs.declared.cell.Cell.TheVariants as cell
use Rattle.nl_nand.proofs.restart.give.Goals as goal

pub returns-in-Finished : goal.returns-in-Finished
returns-in-Finished c = map-set page_of c.args.cells.now.items c.args.page c.args.value
    ∙ ap (λ o. set (pages_of c.args.cells.now.items) c.args.page (page_after o (page_of c.args.value) (get_or (pages_of c.args.cells.now.items) c.args.page erased))) (sym c.in-Finished.is)

pub returns-in-Lost : goal.returns-in-Lost
returns-in-Lost c = map-set page_of c.args.cells.now.items c.args.page cell.Uncorrectable
    ∙ ap (λ o. set (pages_of c.args.cells.now.items) c.args.page (page_after o (page_of c.args.value) (get_or (pages_of c.args.cells.now.items) c.args.page erased))) (sym c.in-Lost.is)
