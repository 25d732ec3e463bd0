use Rattle.std.proofs.Common.{get_or, sym, ◌∙◌, ap, subst}
use Rattle.std.proofs.lemmas.Option.{get_or_from_slice_get, none-some, slice_get-get_or}
use Rattle.nl_field.specs.Members.{Has}
use Rattle.nl_field.specs.Page.{PageBytes}
use Rattle.nl_meta.proofs.Kept.{has-at}
use Rattle.nl_journal.proofs.FrozenPages.{image_at}
use Rattle.nl_journal.proofs.due.copy_frozen.Goals as goal

pub frozen_page-requires : goal.frozen_page-requires
frozen_page-requires c =
    let xs = c.args.meta.now.frozen.addresses in
    subst (Has xs) (get_or_from_slice_get xs c.args.i c.in-Some.address 0 (sym c.frozen.ensures ∙ c.in-Some.is)) (has-at xs c.args.i c.requires.below)

pub unreachable-requires : goal.unreachable-requires
unreachable-requires c =
    let xs = c.args.meta.now.frozen.addresses in
    none-some (get_or xs c.args.i 0) (sym (sym c.frozen.ensures ∙ c.in-None.is) ∙ slice_get-get_or xs c.args.i 0 c.requires.below)

pub returns-clause-address : goal.returns-clause-address
returns-clause-address c = sym (get_or_from_slice_get c.args.meta.now.frozen.addresses c.args.i c.in-Some.address 0 (sym c.frozen.ensures ∙ c.in-Some.is))

pub returns-clause-main : goal.returns-clause-main
returns-clause-main c =
    let f = c.args.meta.now.frozen in
    ap (λ (p : PageBytes). p.main) c.copy_from.ensures
    ∙ sym (image_at f c.args.i c.in-Some.address c.frozen_page.result.now.main c.requires.frozen c.requires.below
    (sym (get_or_from_slice_get f.addresses c.args.i c.in-Some.address 0 (sym c.frozen.ensures ∙ c.in-Some.is))) c.frozen_page.ensures)
