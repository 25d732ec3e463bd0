use Rattle.std.proofs.Common.{◌≡◌, length}
use Rattle.std.specs.List.{list_all}
use Rattle.nl_field.specs.Names.{is_name}
use Rattle.nl_script.specs.Words.{parts}
use Rattle.nl_cmd_words.proofs.paths.are_names.Given as goal

abbrev pub invariant-names : goal.invariant-names
invariant-names l = list_all is_name (parts 47 l.rest) ≡ list_all is_name (parts 47 l.bytes)

abbrev pub decreases-names : goal.decreases-names
decreases-names l = length l.rest
