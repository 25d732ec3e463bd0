use Rattle.std.proofs.Common.{◌≡◌, ◌+◌, ◌*◌, ℕ, Bool, List, ◌||◌, refl, subst, arith}
use Rattle.std.proofs.lemmas.List.{length-set}
use Rattle.nl_inode.specs.Tree.{MarksBelowBut, mark_at}
use Rattle.nl_inode.proofs.MarkTree.{at-root, climbs, leaves-stay}
use Rattle.nl_inode.proofs.free_set.climb.Goals as goal

pub loop-node-init : goal.loop-node-init
loop-node-init c = record { marks = c.requires.marks; inside = c.requires.inside; leaves = record { size = refl; each = λ i h. refl } }

pub loop-node-preserved : goal.loop-node-preserved
loop-node-preserved c =
    let tree = c.loop-node.tree.items in
    let node = c.loop-node.node in
    let b = c.either-is_set.result in
    let n = length-set tree node b in
    let inside = c.loop-node.invariant.inside in
    let some = c.loop-node-test.true in
    record {
      marks = climbs tree node b (subst (λ (xs : List Bool). b ≡ (mark_at xs (2 * node) || mark_at xs (2 * node + 1))) c.deref.ensures.value c.either-is_set.ensures) (omega (arith, some)) inside c.loop-node.invariant.marks;
      inside = omega (arith, n, inside, some);
      leaves = leaves-stay c.args.tree.now.items tree node b c.loop-node.invariant.leaves inside;
    }

pub returns : goal.returns
returns c =
    let z : c.loop-node.node ≡ 0 = (let t = c.loop-node-test.false in omega (arith, t)) in
    record { marks = at-root c.loop-node.tree.items (subst (λ (n : ℕ). MarksBelowBut n c.loop-node.tree.items) z c.loop-node.invariant.marks); leaves = c.loop-node.invariant.leaves }
