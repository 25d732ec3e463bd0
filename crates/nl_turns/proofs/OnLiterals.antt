-- What an answer unfolds to compute this crate's definitions on literals.
use Rattle.std.specs.Prelude.{⊤}
use Rattle.nl_tree.proofs.OnLiterals.{tree_on_literals}
use Rattle.nl_turns.specs.History.{effects_before, place_of, marked_calls, syncs_of, begun_at}

unfoldable pub turns_on_literals : ⊤
unfolding tree_on_literals effects_before place_of marked_calls syncs_of begun_at
turns_on_literals = tt
