use Rattle.std.proofs.Common.{◌≡◌, true, take, ◌==◌}
use Rattle.std.specs.List.{list_all}
use Rattle.nl_recover.proofs.look.is_all_zero.Given as goal

abbrev pub invariant-loop-byte : goal.invariant-loop-byte
invariant-loop-byte l = list_all (λ b. b == 0) (take l.byte-index l.bytes) ≡ true
