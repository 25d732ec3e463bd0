use Rattle.std.proofs.Common.{ap, length, ◌==◌, not, arith}
use Rattle.nl_meta.proofs.Rising.{few_taken}
use Rattle.nl_meta.proofs.addresses.others.Goals as goal

pub overflow_add-count : goal.overflow_add-count
overflow_add-count c =
    let f = few_taken (λ a. not (a == 0)) c.as_slice-address-items.result.now c.loop-address.address-index in
    let e = c.loop-address.invariant in
    let s = ap length c.as_slice-address-items.ensures.value in
    let m = c.as_slice-address-items.ensures.most in
    let t = c.loop-address-test.true in
    omega (arith, f, e, s, m, t)
