use Rattle.std.proofs.Common.{◌≡◌, ◌||◌, ℕ, drop}
use Rattle.nl_recover_pointers.specs.Copies.{is_stamp_of}
use Rattle.nl_recover_pointers.specs.Numbers.{has_number}
use Rattle.nl_recover_pointers.proofs.copies.stamps.Given as goal

abbrev pub invariant-held : goal.invariant-held
invariant-held l = (stamp : ℕ) → (has_number l.stamps stamp || is_stamp_of (drop l.at l.held) stamp) ≡ is_stamp_of l.held stamp
