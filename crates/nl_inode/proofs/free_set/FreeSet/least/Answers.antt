use Rattle.std.proofs.Common.{◌≡◌, ◌-◌, ◌*◌, ◌^◌, ◌<◌, ℕ, Bool, List, sym, subst, length, get_or, arith}
use Rattle.nl_inode.specs.Free.{IsLeastFreeNumber, NoneFree}
use Rattle.nl_inode.specs.Tree.{IsFirstIn}
use Rattle.nl_inode.proofs.MarkTree.{found-below, found-least, free-length, none-free}
use Rattle.nl_inode.proofs.free_set.FreeSet.least.Goals as goal

pub overflow_cast-result : goal.overflow_cast-result
overflow_cast-result c =
    let first = subst (λ (tree : List Bool). IsFirstIn tree (1 * 2 ^ c.self.inside.height) (2 ^ c.self.inside.height) c.first_below.result) c.deref.ensures.value c.first_below.ensures in
    let below = found-below _ _ _ _ c.self.invariant c.first_below.result first in
    let few = c.self.invariant.few in
    omega (arith, below, few)

pub returns-then-index-clause-least : goal.returns-then-index-clause-least
returns-then-index-clause-least c =
    let first = subst (λ (tree : List Bool). IsFirstIn tree (1 * 2 ^ c.self.inside.height) (2 ^ c.self.inside.height) c.first_below.result) c.deref.ensures.value c.first_below.ensures in
    subst (IsLeastFreeNumber (c.first_below.result - c.self.inside.width)) c.self.view_is (found-least _ _ _ _ c.self.invariant c.first_below.result first)

pub returns-then-index-clause-below : goal.returns-then-index-clause-below
returns-then-index-clause-below c =
    let first = subst (λ (tree : List Bool). IsFirstIn tree (1 * 2 ^ c.self.inside.height) (2 ^ c.self.inside.height) c.first_below.result) c.deref.ensures.value c.first_below.ensures in
    subst (λ (free : List Bool). c.first_below.result - c.self.inside.width < length free) c.self.view_is
    (subst (λ (n : ℕ). c.first_below.result - c.self.inside.width < n) (sym (free-length _ _ _ _ c.self.invariant)) (found-below _ _ _ _ c.self.invariant c.first_below.result first))

pub returns-else-index-clause-least : goal.returns-else-index-clause-least
returns-else-index-clause-least c =
    subst NoneFree c.self.view_is (none-free _ _ _ _ c.self.invariant (sym (subst (λ (b : Bool). b ≡ get_or c.self.inside.tree.items 1 b) c.if-index.false c.index.ensures)))

pub returns-else-index-clause-below : goal.returns-else-index-clause-below
returns-else-index-clause-below c =
    subst NoneFree c.self.view_is (none-free _ _ _ _ c.self.invariant (sym (subst (λ (b : Bool). b ≡ get_or c.self.inside.tree.items 1 b) c.if-index.false c.index.ensures)))
