use Rattle.std.proofs.Common.{◌≡◌, ◌++◌, length}
use Rattle.nl_script.specs.Words.{parts}
use Rattle.nl_cmd_words.proofs.paths.names_of.Given as goal

abbrev pub invariant-names : goal.invariant-names
invariant-names l = l.path ++ parts 47 l.rest ≡ parts 47 l.bytes

abbrev pub decreases-names : goal.decreases-names
decreases-names l = length l.rest
