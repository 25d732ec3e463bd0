use Rattle.std.proofs.Common.{subst, sym, List, ℕ}
use Rattle.nl_meta.specs.Inside.{IsMetaState}
use Rattle.nl_meta.proofs.Kept.{thawed}
use Rattle.nl_meta.proofs.meta.Meta.thaw.Goals as goal

pub invariant_of-self : goal.invariant_of-self
invariant_of-self c =
    subst (λ (xs : List ℕ). IsMetaState c.self.inside.pages.items c.self.inside.resident.items c.self.inside.count c.self.inside.dirty c.self.inside.recent xs c.self.inside.images.items) (sym c.new-self-inside.ensures)
    (thawed _ _ _ _ _ _ _ c.self.invariant)
