use Rattle.std.proofs.Common.{◌/◌, ◌%◌, refl, sym, ap, subst}
use Rattle.nl_blocks.specs.declared.states.PageState.TheVariants.{Dead, Live}
use Rattle.nl_blocks.specs.declared.states.Page.{Page}
use Rattle.nl_blocks.specs.Table.{HasPage, block_at, with_mark, with_page}
use Rattle.nl_blocks.specs.Used.{is_active_state, is_target_state}
use Rattle.nl_blocks.proofs.TableLaws.{page_at-with_page_other, page_at-with_page_same}
use Rattle.nl_pseg_blocks.specs.Uses.{MarksPage, SameUse, CountsUsedPage}
use Rattle.nl_pseg_blocks.proofs.Marking.{marked_rises, marked_uses}
use Rattle.nl_pseg_blocks.proofs.Tables.{same_row}
use Rattle.nl_pseg_blocks.proofs.table.mark.Goals as goal

pub returns-then-live-clause-same : goal.returns-then-live-clause-same
returns-then-live-clause-same c =
    let t = c.args.blocks.now in
    let block = c.args.page / t.size in
    subst (SameUse t) (sym c.mark_live.ensures) (same_row t block (with_mark (block_at t block) (c.args.page % t.size) Live) c.requires.has refl)

pub returns-else-live-clause-same : goal.returns-else-live-clause-same
returns-else-live-clause-same c =
    let t = c.args.blocks.now in
    let block = c.args.page / t.size in
    subst (SameUse t) (sym c.mark_dead.ensures) (same_row t block (with_mark (block_at t block) (c.args.page % t.size) Dead) c.requires.has refl)

pub returns-then-live-clause-marked : goal.returns-then-live-clause-marked
returns-then-live-clause-marked c =
    let t = c.args.blocks.now in
    let has : HasPage t c.args.page = c.requires.has in
    let made : MarksPage c.args.page Live t (with_page t c.args.page Live) = record {
      rising = record {
        active = marked_rises is_active_state t c.count.ensures.table c.requires.rising.active c.args.page Live has c.requires.used;
        target = marked_rises is_target_state t c.count.ensures.table c.requires.rising.target c.args.page Live has c.requires.filled;
      };
      here = ap (λ (p : Page). p.state) (page_at-with_page_same t c.args.page Live c.count.ensures.table has);
      others = λ other has_other ne. ap (λ (p : Page). p.state) (page_at-with_page_other t c.args.page other Live has has_other ne);
    } in
    rw c.if-live.true (subst (MarksPage c.args.page Live t) (sym c.mark_live.ensures) made)

pub returns-else-live-clause-marked : goal.returns-else-live-clause-marked
returns-else-live-clause-marked c =
    let t = c.args.blocks.now in
    let has : HasPage t c.args.page = c.requires.has in
    let made : MarksPage c.args.page Dead t (with_page t c.args.page Dead) = record {
      rising = record {
        active = marked_rises is_active_state t c.count.ensures.table c.requires.rising.active c.args.page Dead has c.requires.used;
        target = marked_rises is_target_state t c.count.ensures.table c.requires.rising.target c.args.page Dead has c.requires.filled;
      };
      here = ap (λ (p : Page). p.state) (page_at-with_page_same t c.args.page Dead c.count.ensures.table has);
      others = λ other has_other ne. ap (λ (p : Page). p.state) (page_at-with_page_other t c.args.page other Dead has has_other ne);
    } in
    rw c.if-live.false (subst (MarksPage c.args.page Dead t) (sym c.mark_dead.ensures) made)

pub returns-then-live-clause-uses : goal.returns-then-live-clause-uses
returns-then-live-clause-uses c =
    let t = c.args.blocks.now in
    subst (CountsUsedPage is_active_state c.args.page t) (sym c.mark_live.ensures) (marked_uses is_active_state t c.count.ensures.table c.requires.rising.active c.args.page Live c.requires.has)

pub returns-then-live-clause-fills : goal.returns-then-live-clause-fills
returns-then-live-clause-fills c =
    let t = c.args.blocks.now in
    subst (CountsUsedPage is_target_state c.args.page t) (sym c.mark_live.ensures) (marked_uses is_target_state t c.count.ensures.table c.requires.rising.target c.args.page Live c.requires.has)

pub returns-else-live-clause-uses : goal.returns-else-live-clause-uses
returns-else-live-clause-uses c =
    let t = c.args.blocks.now in
    subst (CountsUsedPage is_active_state c.args.page t) (sym c.mark_dead.ensures) (marked_uses is_active_state t c.count.ensures.table c.requires.rising.active c.args.page Dead c.requires.has)

pub returns-else-live-clause-fills : goal.returns-else-live-clause-fills
returns-else-live-clause-fills c =
    let t = c.args.blocks.now in
    subst (CountsUsedPage is_target_state c.args.page t) (sym c.mark_dead.ensures) (marked_uses is_target_state t c.count.ensures.table c.requires.rising.target c.args.page Dead c.requires.has)
