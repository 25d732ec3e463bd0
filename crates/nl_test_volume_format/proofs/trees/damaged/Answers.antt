use Rattle.std.proofs.Common.{◌≡◌, refl, sym, ◌∙◌, Some}
use Rattle.nl_field.specs.Page.{Image, uncorrectable}
use Rattle.nl_field.specs.declared.place.Place.{Place}
use Rattle.nl_field.specs.declared.place.What.TheVariants.{Pointer}
use Rattle.nl_test_volume_format.specs.Examples.{image_of_a, long_page}
use Rattle.nl_meta.specs.Walk.{walk}
use Rattle.nl_meta.proofs.OnLiterals.{meta_on_literals}
use Rattle.nl_meta.proofs.Lists.{none_some}
use Rattle.nl_spec_image.specs.Stands.{IsConsistentImage}
use Rattle.nl_spec_image.proofs.SoundProofs.{walk_finds_consistency}
use Rattle.nl_test_volume_format.proofs.trees.damaged.Goals as goal

at_fault : (image : Image) (place : Place) → walk image ≡ Some place → IsConsistentImage image → ⊥
at_fault image place e s = none_some place (sym ((walk_finds_consistency image s.2.stands.pages_whole).1 s) ∙ e)

no_page : walk (image_of_a uncorrectable) ≡ Some (record { place = 1; what = Pointer })
unfolding meta_on_literals
no_page = refl

behind : walk (image_of_a long_page) ≡ Some (record { place = 1; what = Pointer })
unfolding meta_on_literals
behind = refl

pub returns-clause-no_page : goal.returns-clause-no_page
returns-clause-no_page c = at_fault (image_of_a uncorrectable) _ no_page

pub returns-clause-behind : goal.returns-clause-behind
returns-clause-behind c = at_fault (image_of_a long_page) _ behind
