-- What an answer unfolds to compute the texts on literals.
use Rattle.std.specs.Prelude.{⊤}
use Rattle.std.specs.Fmt.{digits}
use Rattle.hex.proofs.OnLiterals.{hex_on_literals}
use Rattle.hex.specs.Hex.{encode_with}
use Rattle.nl_tree.proofs.OnLiterals.{tree_on_literals}

unfoldable pub text_on_literals : ⊤
unfolding tree_on_literals hex_on_literals digits encode_with
text_on_literals = tt
