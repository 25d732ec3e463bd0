use Rattle.std.proofs.Common.{◌≡◌, ◌*◌, ℕ, None, replicate, subst, arith}
use Rattle.nl_blocks.proofs.Tournaments.{new-keys, new-tournament}
use Rattle.nl_blocks.proofs.tournament.Tournament.new.Goals as goal

pub returns : goal.returns
returns c =
    let far = c.made-test.false in
    let near = c.made.auto.counter-end in
    let e : c.made.counter ≡ 2 * c.args.count = omega arith in
    new-keys c.args.count c.made.tree.items (subst (λ (n : ℕ). c.made.tree.items ≡ replicate n None) e c.made.invariant)

pub invariant_of-result : goal.invariant_of-result
invariant_of-result c =
    let far = c.made-test.false in
    let near = c.made.auto.counter-end in
    let e : c.made.counter ≡ 2 * c.args.count = omega arith in
    new-tournament c.args.count c.made.tree.items (subst (λ (n : ℕ). c.made.tree.items ≡ replicate n None) e c.made.invariant) c.ranges.count.fits
