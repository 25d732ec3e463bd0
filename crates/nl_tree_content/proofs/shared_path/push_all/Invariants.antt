use Rattle.std.proofs.Common.{◌≡◌, ◌++◌, take}
use Rattle.nl_tree_content.proofs.shared_path.push_all.Given as goal

abbrev pub invariant-names : goal.invariant-names
invariant-names l = l.path ≡ l.initial.path ++ take l.name-index l.names
