use Rattle.std.proofs.Common.{◌≡◌, true, false, ◌∙◌, sym, refl}
use Rattle.nl_field.specs.Page.{is_image}
use Rattle.nl_field.specs.Examples.{short_page}
use Rattle.nl_field.proofs.OnLiterals.{field_on_literals}
use Rattle.nl_test_volume_format.proofs.trees.no_short_pages.Goals as goal

short : is_image short_page ≡ false
unfolding field_on_literals
short = refl

not_so : false ≡ true → ⊥
not_so e = cc

pub returns : goal.returns
returns c count tree s = not_so (sym short ∙ s.pages_whole)
