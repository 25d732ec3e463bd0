use Rattle.std.proofs.Common.{◌≡◌, ◌<◌, ℕ, zero, suc, ◌∷◌, [], refl, sym, ◌∙◌, arith}
use Rattle.std.specs.Prelude.{slice_index}
use Rattle.nl_field.specs.FileContent.{byte_of}
use Rattle.nl_field.proofs.OnLiterals.{field_on_literals}
use Rattle.nl_put_tree.specs.Examples.{two_zeros}
use Rattle.nl_put_tree.specs.Putting.{IsContentOf}
use Rattle.nl_put_tree.proofs.rows.contents.Goals as goal

each_byte : (i : ℕ) → i < 2 → byte_of two_zeros i ≡ slice_index (0 ∷ 0 ∷ []) i
unfolding field_on_literals
each_byte zero less = refl
each_byte (suc zero) less = refl
each_byte (suc (suc i)) less = absurd (omega (arith, less))

whole : IsContentOf two_zeros (0 ∷ 0 ∷ [])
unfolding field_on_literals
whole = record { whole = refl; size = refl; each = each_byte }

pub returns-clause-whole : goal.returns-clause-whole
returns-clause-whole c = whole

second : byte_of two_zeros 1 ≡ 0
unfolding field_on_literals
second = refl

pub returns-clause-other : goal.returns-clause-other
returns-clause-other c is = let no : 0 ≡ 1 = sym second ∙ is.each 1 (omega arith) in cc no

pub returns-clause-of_file : goal.returns-clause-of_file
returns-clause-of_file c = record { content = two_zeros; is_file = refl; holds = whole }
