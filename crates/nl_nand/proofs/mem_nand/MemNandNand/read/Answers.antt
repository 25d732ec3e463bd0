use Rattle.std.proofs.Common.{◌≡◌, ℕ, ◌*◌, ◌<◌, length, get_or, sym, ◌∙◌, ap, arith}
use Rattle.std.proofs.lemmas.List.{get_or_read}
use Rattle.nl_field.specs.Page.{written, page_at}
use Rattle.nl_nand.specs.Record.{page_of}
use Rattle.nl_nand.specs.Memory.{contents_of}
use Rattle.nl_nand.specs.declared.cell.Cell.{Cell}
use Rattle.nl_nand.specs.declared.cell.Cell.TheVariants as cell
use Rattle.nl_nand.specs.declared.mem_nand.MemNand.{MemNand}
use Rattle.nl_nand.proofs.Cells.{at_map}
use Rattle.nl_nand.proofs.Operations.{cells_size}
use Rattle.nl_nand.proofs.mem_nand.MemNandNand.read.Goals as goal

page_here : (m : MemNand) (p : ℕ) (x y : Cell) → p < m.geometry.blocks * m.geometry.pages → x ≡ get_or m.cells.items p x → x ≡ y → page_at (contents_of m) p ≡ page_of y
page_here m p x y within is same =
    let less : p < length m.cells.items = omega (arith, cells_size m, within) in
    at_map m.cells.items p ∙ ap page_of (sym (get_or_read m.cells.items p x less is cell.Erased) ∙ same)

pub index-requires : goal.index-requires
index-requires c = omega (arith, cells_size c.args.self.now, c.requires)

pub returns-in-Erased-clause-answer : goal.returns-in-Erased-clause-answer
returns-in-Erased-clause-answer c = page_here c.args.self.now c.args.page _ cell.Erased c.requires c.index.ensures c.in-Erased.is

pub returns-in-Uncorrectable-clause-answer : goal.returns-in-Uncorrectable-clause-answer
returns-in-Uncorrectable-clause-answer c = page_here c.args.self.now c.args.page _ cell.Uncorrectable c.requires c.index.ensures c.in-Uncorrectable.is

pub returns-in-Written-clause-answer : goal.returns-in-Written-clause-answer
returns-in-Written-clause-answer c =
    page_here c.args.self.now c.args.page _ (cell.Written c.in-Written.from) c.requires c.index.ensures c.in-Written.is ∙ ap written (sym (c.copy_from.ensures ∙ c.deref.ensures))
