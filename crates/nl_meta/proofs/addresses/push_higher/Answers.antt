use Rattle.std.proofs.Common.{◌≡◌, ℕ, ◌+◌, ◌≤◌, List, ap, subst, sym, ◌∙◌, length, get_or, nat_lt, arith, length-append, take}
use Rattle.std.proofs.lemmas.Bool.{lt-ltb}
use Rattle.nl_meta.specs.Pages.{above}
use Rattle.nl_meta.proofs.Rising.{one_less}
use Rattle.nl_meta.proofs.addresses.push_higher.Goals as goal

pub push-requires : goal.push-requires
push-requires c =
    let xs = c.as_slice-address-items.result.now in
    let i = c.loop-address.address-index in
    let v = c.args.vaddr in
    let f = one_less (λ a. nat_lt v a) xs i c.loop-address-test.true (lt-ltb v (get_or xs i 0) c.if-vaddr-address.true) in
    let e : length c.loop-address.out ≡ length c.args.out.now + length (above v (take i xs)) = ap length c.loop-address.invariant ∙ length-append c.args.out.now (above v (take i xs)) in
    let r : length c.args.out.now + length (above v xs) ≤ 64 = subst (λ (ys : List ℕ). length c.args.out.now + length (above v ys) ≤ 64) (sym c.as_slice-address-items.ensures.value) c.requires in
    omega (arith, f, e, r)
