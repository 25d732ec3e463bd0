use Rattle.std.proofs.Common.{◌≡◌, sym, ◌∙◌, subst, List, Option, ℕ, arith, Some, None}
use Rattle.std.proofs.lemmas.List.{get_or_read}
use Rattle.nl_blocks.specs.Tournament.{IsFirstOfLeast, NonePresent, entrant_at}
use Rattle.nl_blocks.proofs.Tournaments.{first-of-least, none-present}
use Rattle.nl_blocks.proofs.tournament.Tournament.least.Goals as goal

pub returns-in-Some : goal.returns-in-Some
returns-in-Some c =
    let s = c.self.invariant.leaves.size in
    let some = c.if-self-eq0.false in
    let root : entrant_at c.self.inside.tree.items 1 ≡ Some c.in-Some.first = sym (get_or_read c.self.inside.tree.items 1 c.index.result.now (omega arith) c.index.ensures None) ∙ c.in-Some.is in
    subst (λ (keys : List (Option ℕ)). IsFirstOfLeast keys c.in-Some.first.place) c.self.view_is (first-of-least c.self.inside.tree.items c.self.inside.count c.self.invariant c.in-Some.first root (omega arith))

pub returns-in-None : goal.returns-in-None
returns-in-None c =
    let s = c.self.invariant.leaves.size in
    let some = c.if-self-eq0.false in
    let root : entrant_at c.self.inside.tree.items 1 ≡ None = sym (get_or_read c.self.inside.tree.items 1 c.index.result.now (omega arith) c.index.ensures None) ∙ c.in-None.is in
    subst NonePresent c.self.view_is (none-present c.self.inside.tree.items c.self.inside.count c.self.invariant (λ h. root))
