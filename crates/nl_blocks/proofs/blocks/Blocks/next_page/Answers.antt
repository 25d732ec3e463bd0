use Rattle.std.proofs.Common.{◌≡◌, ◌-◌, sym, subst, get_or}
use Rattle.std.proofs.lemmas.Bool.{false≢true}
use Rattle.nl_blocks.specs.Table.{IsBlockTable}
use Rattle.nl_blocks.proofs.TableProofs.{not_full}
use Rattle.nl_blocks.proofs.blocks.Blocks.next_page.Goals as goal

pub returns-clause-full : goal.returns-clause-full
returns-clause-full c =
    let is : IsBlockTable c.args.self.now = subst IsBlockTable c.self.view_is c.self.invariant.table in
    let row_is : c.index.result.now ≡ get_or c.args.self.now.blocks (c.args.block - c.args.self.now.first) c.index.result.now = rw (← c.self.view_is) c.index.ensures in
    (λ e. absurd (false≢true (sym e)), λ all. not_full c.args.self.now is c.args.block c.requires c.index.result.now row_is c.in_ok-at.at c.in_ok-at.ensures.some c.in_ok-at.ensures.unmarked all)
