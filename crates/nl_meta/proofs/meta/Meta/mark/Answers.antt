use Rattle.std.proofs.Common.{◌≡◌, subst, sym, true, IsSome, List, ℕ}
use Rattle.nl_meta.specs.Inside.{IsMetaState}
use Rattle.nl_meta.specs.Pages.{Pages, has_room, page_of}
use Rattle.nl_meta.proofs.Kept.{marked}
use Rattle.nl_meta.proofs.Rising.{room}
use Rattle.nl_meta.proofs.meta.Meta.mark.Goals as goal

pub inserted-self-inside-requires : goal.inserted-self-inside-requires
inserted-self-inside-requires c =
    (room c.args.vaddr c.self.inside.dirty c.self.invariant.dirty_rise c.self.invariant.most_dirty c.self.invariant.few_dirty
    (subst (λ (p : Pages). has_room p c.args.vaddr ≡ true) (sym c.self.view_is) c.requires.room)).whole

pub invariant_of-self : goal.invariant_of-self
invariant_of-self c =
    subst (λ (xs : List ℕ). IsMetaState c.self.inside.pages.items c.self.inside.resident.items c.self.inside.count xs c.self.inside.recent c.self.inside.frozen c.self.inside.images.items) (sym c.inserted-self-inside.ensures)
    (marked _ _ _ _ _ _ _ c.self.invariant c.args.vaddr (subst (λ (p : Pages). IsSome (page_of p c.args.vaddr)) (sym c.self.view_is) c.requires.there)
    (room c.args.vaddr c.self.inside.dirty c.self.invariant.dirty_rise c.self.invariant.most_dirty c.self.invariant.few_dirty
    (subst (λ (p : Pages). has_room p c.args.vaddr ≡ true) (sym c.self.view_is) c.requires.room)))
