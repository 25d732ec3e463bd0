use Rattle.std.proofs.Common.{◌≡◌, ◌≤◌, ◌++◌, drop, length, map}
use Rattle.nl_meta.specs.Nodes.{Held}
use Rattle.nl_recover_pointers.proofs.held.HeldList.pointers.Given as goal

abbrev pub invariant-held : goal.invariant-held
invariant-held l = record {
  count : length l.pointers.items ≤ l.at;
  rest : l.pointers.items ++ map (λ (h : Held). h.pointer) (drop l.at l.self) ≡ map (λ (h : Held). h.pointer) l.self;
}
