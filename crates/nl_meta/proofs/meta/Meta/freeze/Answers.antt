use Rattle.std.proofs.Common.{[], List, ℕ, ap, subst, sym, ◌∙◌, length, map, take, get_or, arith}
use Rattle.nl_field.specs.Page.{PageBytes}
use Rattle.nl_meta.specs.Inside.{IsMetaState, no_page, slots}
use Rattle.nl_meta.specs.Pages.{Pages, dirty_pages}
use Rattle.nl_meta.proofs.Kept.{frozen-now, has-at, images-same, within}
use Rattle.nl_meta.proofs.meta.Meta.freeze.Goals as goal

pub copy_pages-requires-clause-there : goal.copy_pages-requires-clause-there
copy_pages-requires-clause-there c i lt =
    let h = within _ _ _ _ _ _ _ c.self.invariant (get_or c.self.inside.dirty i 0) (c.self.invariant.dirty_there _ (has-at c.self.inside.dirty i lt)) in
    let e = ap length c.deref.ensures.value in
    omega (arith, h, e)

pub invariant_of-self : goal.invariant_of-self
invariant_of-self c =
    subst (λ (xs : List ℕ). IsMetaState c.self.inside.pages.items c.self.inside.resident.items c.self.inside.count xs c.self.inside.recent c.replace-self-inside.result c.copy_pages.new.images.items) (sym (c.replace-self-inside.ensures.after ∙ c.new.ensures))
    (subst (λ (xs : List ℕ). IsMetaState c.self.inside.pages.items c.self.inside.resident.items c.self.inside.count [] c.self.inside.recent xs c.copy_pages.new.images.items) (sym c.replace-self-inside.ensures.value)
    (frozen-now _ _ _ _ _ _ _ c.self.invariant c.copy_pages.new.images.items c.copy_pages.ensures.size))

pub returns : goal.returns
returns c =
    (λ i. record {
      running = slots c.self.inside.resident.items c.self.inside.pages.items;
      dirty = (c.replace-self-inside.ensures.after ∙ c.new.ensures) i;
      recent = c.self.inside.recent;
      frozen = record {
        addresses = c.replace-self-inside.ensures.value i;
        images = (ap (λ (xs : List ℕ). map (λ (page : PageBytes). page.main) (take (length xs) c.copy_pages.new.images.items)) c.replace-self-inside.ensures.value
            ∙ ap (map (λ (page : PageBytes). page.main)) (c.copy_pages.ensures.copied ∙ ap (λ (pages : List PageBytes). map (λ v. get_or pages v no_page) c.self.inside.dirty) c.deref.ensures.value)
            ∙ images-same _ _ _ _ _ _ _ c.self.invariant c.self.inside.dirty c.self.invariant.dirty_there) i;
      };
    }) ∙ ap (λ (p : Pages). record p { dirty = []; frozen = dirty_pages p }) c.self.view_is
