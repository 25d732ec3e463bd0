use Rattle.std.proofs.Common.{◌<◌, List, Bool, ℕ, ap, subst, sym, ◌∙◌, length, map, take, filter, get_or}
use Rattle.nl_meta.specs.Inside.{IsMetaState, no_page, slots}
use Rattle.nl_meta.specs.Pages.{Pages}
use Rattle.nl_meta.specs.Steps.{with_admitted}
use Rattle.nl_meta.proofs.Kept.{held, slots-held, slots-length}
use Rattle.nl_meta.proofs.meta.Meta.hold.Goals as goal

pub hold_place-requires-clause-below : goal.hold_place-requires-clause-below
hold_place-requires-clause-below c =
    subst (λ (n : ℕ). c.args.vaddr < n) (slots-length c.self.inside.resident.items c.self.inside.pages.items c.self.invariant.each) (subst (λ (p : Pages). c.args.vaddr < length p.running) (sym c.self.view_is) c.requires)

pub invariant_of-self : goal.invariant_of-self
invariant_of-self c =
    subst (λ (bs : List Bool). IsMetaState c.self.inside.pages.items bs c.hold_place.new.count c.self.inside.dirty c.moved_front-self-inside.result c.self.inside.frozen c.self.inside.images.items) (sym c.hold_place.ensures.items)
    (held _ _ _ _ _ _ _ c.self.invariant c.args.vaddr c.hold_place.new.count c.moved_front-self-inside.result
    (c.hold_place.ensures.counted ∙ ap (λ (bs : List Bool). length (filter (λ b. b) bs)) c.hold_place.ensures.items))

pub returns : goal.returns
returns c =
    let bytes : List ℕ = (get_or c.self.inside.pages.items c.args.vaddr no_page).main in (
      bytes,
      (λ i. record {
        running = (ap (λ bs. slots bs c.self.inside.pages.items) c.hold_place.ensures.items ∙ slots-held c.self.inside.resident.items c.self.inside.pages.items c.args.vaddr c.self.invariant.each) i;
        dirty = c.self.inside.dirty;
        recent = c.moved_front-self-inside.ensures i;
        frozen = record { addresses = c.self.inside.frozen; images = map (λ page. page.main) (take (length c.self.inside.frozen) c.self.inside.images.items) };
      }) ∙ ap (λ (p : Pages). with_admitted p c.args.vaddr bytes) c.self.view_is,
    )
