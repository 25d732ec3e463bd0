use Rattle.std.proofs.Common.{◌≡◌, ◌≤◌, ◌+◌, ◌-◌, ◌++◌, vec_len}
use Rattle.std.specs.Prelude.{option_map}
use Rattle.nl_cmd_words.proofs.input.read_all.Given as goal

abbrev pub invariant-piece : goal.invariant-piece
invariant-piece g l = record {
  read : g.S.Source.left l.initial.src ≡ option_map (λ rest. l.bytes.items ++ rest) (g.S.Source.left l.src);
  later : g.S.Source.faults l.initial.src ≤ g.S.Source.faults l.src;
  most : vec_len l.bytes ≤ l.limit + 1;
}

abbrev pub decreases-piece : goal.decreases-piece
decreases-piece g l = l.limit + 1 - vec_len l.bytes
