use Rattle.std.proofs.Common.{ap, length, nat_lt, arith}
use Rattle.nl_meta.proofs.Rising.{few_taken}
use Rattle.nl_meta.proofs.addresses.lower.Goals as goal

pub push-requires : goal.push-requires
push-requires c =
    let f = few_taken (λ a. nat_lt a c.args.vaddr) c.as_slice-address-items.result.now c.loop-address.address-index in
    let e = ap length c.loop-address.invariant in
    let s = ap length c.as_slice-address-items.ensures.value in
    let m = c.as_slice-address-items.ensures.most in
    let t = c.loop-address-test.true in
    omega (arith, f, e, s, m, t)
