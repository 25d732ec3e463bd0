use Rattle.std.proofs.Common.{◌≡◌, ◌<◌, subst, sym, ap, ◌∙◌, true, false, IsSome, Some, get_or, ℕ}
use Rattle.nl_field.specs.Page.{PageBytes}
use Rattle.nl_meta.specs.Pages.{Pages, page_of}
use Rattle.nl_meta.specs.Inside.{no_page}
use Rattle.nl_meta.proofs.Kept.{here, shown-at, within, same-at}
use Rattle.nl_meta.proofs.meta.Meta.page.Goals as goal

pub index-requires : goal.index-requires
index-requires c =
    subst (λ (n : ℕ). c.args.vaddr < n) (sym c.self.inside.pages.ok.0)
    (within _ _ _ _ _ _ _ c.self.invariant c.args.vaddr (here _ _ _ _ _ _ _ c.self.invariant c.args.vaddr (subst (λ (p : Pages). IsSome (page_of p c.args.vaddr)) (sym c.self.view_is) c.requires)))

pub returns : goal.returns
returns c =
    let at : get_or c.self.inside.resident.items c.args.vaddr false ≡ true = here _ _ _ _ _ _ _ c.self.invariant c.args.vaddr (subst (λ (p : Pages). IsSome (page_of p c.args.vaddr)) (sym c.self.view_is) c.requires) in
    ap (λ (p : Pages). page_of p c.args.vaddr) (sym c.self.view_is) ∙ shown-at _ _ _ _ _ _ _ c.self.invariant c.args.vaddr at ∙ ap (λ (page : PageBytes). Some page.main) (same-at c.self.inside.pages.items c.args.vaddr c.index.result.now no_page (within _ _ _ _ _ _ _ c.self.invariant c.args.vaddr at) c.index.ensures)
