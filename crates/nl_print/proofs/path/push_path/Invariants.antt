use Rattle.std.proofs.Common.{◌≡◌, ◌≤◌, ◌++◌, length, drop}
use Rattle.nl_print.specs.Texts.{slashed}
use Rattle.nl_print.proofs.path.push_path.Given as goal

-- the names so far are added
abbrev pub invariant-names : goal.invariant-names
invariant-names g l =
    let names = g.P.Names.names l.path in
    record {
      front : l.line ++ slashed (drop l.at names) ≡ l.initial.line ++ slashed names;
      room : length l.line ≤ 4050;
    }
