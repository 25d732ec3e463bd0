use Rattle.std.proofs.Common.{◌≡◌, ℕ, ◌/◌, ◌^◌, ◌*◌, ◌+◌, add-one, sym, ◌∙◌, ap}
use Rattle.std.proofs.Math.Nat.{div-div-eq-div-mul, pow-suc}
use Rattle.nl_nand.proofs.stop.digit.Goals as goal

next_power : (k : ℕ) → 3 ^ k * 3 ≡ 3 ^ (k + 1)
next_power k = sym (ap (λ n. 3 ^ n) (add-one k) ∙ pow-suc 3 k)

pub loop-preserved : goal.loop-preserved
loop-preserved c =
    ap (λ n. n / 3) c.loop.invariant ∙ div-div-eq-div-mul c.args.number (3 ^ c.loop.counter) 3 ∙ ap (λ n. c.args.number / n) (next_power c.loop.counter)
