use Rattle.std.proofs.Common.{◌≡◌, ◌<◌, subst, sym, ap, ◌∙◌, true, false, IsSome, Some, get_or, length, map, take, refl, ℕ}
use Rattle.nl_field.specs.Page.{PageBytes}
use Rattle.nl_meta.specs.Pages.{Pages, page_of}
use Rattle.nl_meta.specs.Steps.{with_page}
use Rattle.nl_meta.specs.Inside.{no_page}
use Rattle.nl_meta.proofs.Kept.{here, shown-at, slots-set, within, same-at}
use Rattle.nl_meta.proofs.meta.Meta.lend.Goals as goal

pub index_mut-requires : goal.index_mut-requires
index_mut-requires c =
    subst (λ (n : ℕ). c.args.vaddr < n) (sym c.self.inside.pages.ok.0)
    (within _ _ _ _ _ _ _ c.self.invariant c.args.vaddr (here _ _ _ _ _ _ _ c.self.invariant c.args.vaddr (subst (λ (p : Pages). IsSome (page_of p c.args.vaddr)) (sym c.self.view_is) c.requires)))

pub returns : goal.returns
returns c =
    let at : get_or c.self.inside.resident.items c.args.vaddr false ≡ true = here _ _ _ _ _ _ _ c.self.invariant c.args.vaddr (subst (λ (p : Pages). IsSome (page_of p c.args.vaddr)) (sym c.self.view_is) c.requires) in (
      (refl, λ w. (λ i. record { running = slots-set c.self.inside.resident.items c.self.inside.pages.items c.args.vaddr w c.self.invariant.each at i; dirty = c.self.inside.dirty; recent = c.self.inside.recent; frozen = record { addresses = c.self.inside.frozen; images = map (λ page. page.main) (take (length c.self.inside.frozen) c.self.inside.images.items) } }) ∙ ap (λ (p : Pages). with_page p c.args.vaddr w.main) c.self.view_is),
      record { writes_back = tt; value = ap (λ (p : Pages). page_of p c.args.vaddr) (sym c.self.view_is) ∙ shown-at _ _ _ _ _ _ _ c.self.invariant c.args.vaddr at ∙ ap (λ (page : PageBytes). Some page.main) (same-at c.self.inside.pages.items c.args.vaddr c.index_mut.result.now no_page (within _ _ _ _ _ _ _ c.self.invariant c.args.vaddr at) c.index_mut.ensures.value) },
    )
