use Rattle.std.proofs.Common.{◌≡◌, ℕ, List, [], ◌∷◌, refl}
use Rattle.nl_tree.specs.declared.reply.Reply.TheVariants.{Done, Synced}
use Rattle.nl_tree.proofs.OnLiterals.{tree_on_literals}
use Rattle.nl_test_script.proofs.rows.answers_of_sync.Goals as goal

longer : (b : ℕ) (rest : List ℕ) → b ∷ rest ≡ [] → ⊥
longer b rest e = cc

apart : (upto moment : ℕ) → Done ≡ Synced upto moment → ⊥
apart upto moment e = cc

pub returns-clause-numbers : goal.returns-clause-numbers
unfolding tree_on_literals
returns-clause-numbers c = ((3, 4, refl), refl)

pub returns-clause-bytes : goal.returns-clause-bytes
unfolding tree_on_literals
returns-clause-bytes c h = longer _ _ h.1

pub returns-clause-reply : goal.returns-clause-reply
unfolding tree_on_literals
returns-clause-reply c h = apart _ _ h.0.2
