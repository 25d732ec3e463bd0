use Rattle.std.proofs.Common.{◌*◌, ◌^◌, ◌<◌, None, refl, sym, subst}
use Rattle.nl_blocks.specs.Used.{is_active_state, is_target_state, used_in}
use Rattle.nl_pseg.specs.Kept.{Kept}
use Rattle.nl_pseg.proofs.News.{new_formed, new_seen, new_tied, new_used}
use Rattle.nl_pseg.proofs.Shapes.{few_pages, legal_bounds}
use Rattle.nl_pseg.proofs.state.State.new.Goals as goal

pub new-requires-2-clause-numbers : goal.new-requires-2-clause-numbers
new-requires-2-clause-numbers c =
    let roomy = legal_bounds c.args.shape.now c.requires.legal c.requires.numbers in
    subst (λ n. n * c.args.shape.now.pages < 2 ^ 32) (sym roomy.segments) (few_pages roomy)

pub returns-clause-formed : goal.returns-clause-formed
returns-clause-formed c =
    let roomy = legal_bounds c.args.shape.now c.requires.legal c.requires.numbers in
    let used = new_used is_active_state refl c.args.shape.now roomy _ c.in_ok-new-2.ensures in
    let filled = new_used is_target_state refl c.args.shape.now roomy _ c.in_ok-new-2.ensures in
    new_formed c.args.shape.now roomy _ c.in_ok-new-2.ensures c.in_ok-no_pages.ensures c.in_ok-no_marks.ensures refl used refl filled refl c.in_ok-new-3.ensures

pub returns-clause-tied : goal.returns-clause-tied
returns-clause-tied c =
    let roomy = legal_bounds c.args.shape.now c.requires.legal c.requires.numbers in
    let used = new_used is_active_state refl c.args.shape.now roomy _ c.in_ok-new-2.ensures in
    let filled = new_used is_target_state refl c.args.shape.now roomy _ c.in_ok-new-2.ensures in
    new_tied c.args.shape.now roomy _ c.in_ok-new-2.ensures c.in_ok-no_pages.ensures c.in_ok-no_marks.ensures refl used refl filled refl c.in_ok-new-3.ensures

pub returns-clause-seen : goal.returns-clause-seen
returns-clause-seen c =
    let roomy = legal_bounds c.args.shape.now c.requires.legal c.requires.numbers in
    let used = new_used is_active_state refl c.args.shape.now roomy _ c.in_ok-new-2.ensures in
    let filled = new_used is_target_state refl c.args.shape.now roomy _ c.in_ok-new-2.ensures in
    let x : Kept = record {
      held = c.in_ok-no_pages.field-0;
      blocks = c.in_ok-new-2.field-0;
      soiled = c.in_ok-no_marks.field-0;
      active = c.args.shape.now.vblocks;
      used = used_in is_active_state c.in_ok-new-2.field-0 c.args.shape.now.vblocks;
      target = c.args.shape.now.vblocks;
      filled = used_in is_target_state c.in_ok-new-2.field-0 c.args.shape.now.vblocks;
      victim = None;
      looked = 0;
      names = c.in_ok-new-3.field-0;
    } in
    new_seen c.args.shape.now roomy x c.in_ok-new-2.ensures c.in_ok-no_pages.ensures c.in_ok-no_marks.ensures refl used refl filled refl c.in_ok-new-3.ensures
