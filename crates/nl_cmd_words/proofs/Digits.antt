-- How large a number of so many decimal digits is.
use Rattle.std.proofs.Common.{◌≡◌, ◌<◌, ◌≤◌, ℕ, ◌+◌, ◌*◌, ◌^◌, add-one, arith}
use Rattle.std.proofs.Math.Nat.{pow-le-pow_right, pow-suc}

pub small : (i v : ℕ) → i < 19 → v < 10 ^ i → v < 10 ^ 18
small i v lt below = let more : 10 ^ i ≤ 10 ^ 18 = pow-le-pow_right (omega arith) {i = i} {j = 18} (omega arith) in omega arith

pub next_power : (i v d : ℕ) → v < 10 ^ i → d < 10 → v * 10 + d < 10 ^ (i + 1)
next_power i v d below digit = let step : 10 ^ (i + 1) ≡ 10 ^ i * 10 = rw add-one (pow-suc 10 i) in omega arith
