use Rattle.std.proofs.Common.{◌≡◌, ◌++◌, length}
use Rattle.std.specs.List.{list_all}
use Rattle.nl_script.specs.declared.why.Why.TheVariants.{Path}
use Rattle.nl_script.specs.Spellings.{is_name, names_of, ok_or_cause}
use Rattle.nl_script.specs.Words.{parts}
use Rattle.nl_script.proofs.spelling.names_of.Given as goal

abbrev pub invariant-names : goal.invariant-names
invariant-names l = let left = parts 47 l.rest in ok_or_cause (list_all is_name left) (l.path ++ left) Path ≡ names_of (parts 47 l.bytes)

abbrev pub decreases-names : goal.decreases-names
decreases-names l = length l.rest
