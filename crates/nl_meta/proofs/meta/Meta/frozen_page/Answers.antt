use Rattle.std.proofs.Common.{◌≤◌, Some, ap, sym, ◌∙◌, length, map, take, arith, slice_get, option_and_then}
use Rattle.nl_field.specs.Page.{PageBytes}
use Rattle.nl_meta.specs.Inside.{no_page}
use Rattle.nl_meta.specs.Pages.{Pages, frozen_at}
use Rattle.nl_meta.proofs.Kept.{image-at, same-at}
use Rattle.nl_meta.proofs.meta.Meta.frozen_page.Goals as goal

pub returns : goal.returns
returns c =
    let few : length c.self.inside.frozen ≤ length c.self.inside.images.items = (let a = c.self.invariant.most_frozen in let b = c.self.invariant.images_room in omega (arith, a, b)) in
    ap (λ (p : Pages). frozen_at p c.args.vaddr) (sym c.self.view_is)
    ∙ ap (option_and_then (slice_get (map (λ (page : PageBytes). page.main) (take (length c.self.inside.frozen) c.self.inside.images.items)))) c.place.ensures.at
    ∙ image-at c.self.inside.images.items (length c.self.inside.frozen) c.place.result c.place.ensures.below few
    ∙ ap (λ (page : PageBytes). Some page.main) (same-at c.self.inside.images.items c.place.result c.index.result.now no_page (let b = c.place.ensures.below in omega (arith, b, few)) c.index.ensures)
