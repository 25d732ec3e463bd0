use Rattle.std.proofs.Common.{List, Bool, IsSome, ap, subst, sym, ◌∙◌, length, filter, map, take}
use Rattle.nl_meta.specs.Inside.{IsMetaState, slots}
use Rattle.nl_meta.specs.Pages.{Pages, is_dirty, page_of}
use Rattle.nl_meta.specs.Steps.{without_page}
use Rattle.nl_meta.proofs.Kept.{dropped, here, slots-dropped}
use Rattle.nl_meta.proofs.meta.Meta.dismiss.Goals as goal

pub drop_place-requires-clause-there : goal.drop_place-requires-clause-there
drop_place-requires-clause-there c = here _ _ _ _ _ _ _ c.self.invariant c.args.vaddr (subst (λ (p : Pages). IsSome (page_of p c.args.vaddr)) (sym c.self.view_is) c.requires.there)

pub invariant_of-self : goal.invariant_of-self
invariant_of-self c =
    subst (λ (bs : List Bool). IsMetaState c.self.inside.pages.items bs c.drop_place.new.count c.self.inside.dirty c.self.inside.recent c.self.inside.frozen c.self.inside.images.items) (sym c.drop_place.ensures.items)
    (dropped _ _ _ _ _ _ _ c.self.invariant c.args.vaddr c.drop_place.new.count (ap (λ (p : Pages). is_dirty p c.args.vaddr) c.self.view_is ∙ c.requires.clean)
    (c.drop_place.ensures.counted ∙ ap (λ (bs : List Bool). length (filter (λ b. b) bs)) c.drop_place.ensures.items))

pub returns : goal.returns
returns c =
    (λ i. record {
      running = (ap (λ (bs : List Bool). slots bs c.self.inside.pages.items) c.drop_place.ensures.items ∙ slots-dropped c.self.inside.resident.items c.self.inside.pages.items c.args.vaddr c.self.invariant.each) i;
      dirty = c.self.inside.dirty;
      recent = c.self.inside.recent;
      frozen = record { addresses = c.self.inside.frozen; images = map (λ page. page.main) (take (length c.self.inside.frozen) c.self.inside.images.items) };
    }) ∙ ap (λ (p : Pages). without_page p c.args.vaddr) c.self.view_is
