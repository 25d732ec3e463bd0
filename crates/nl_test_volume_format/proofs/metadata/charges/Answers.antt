use Rattle.std.proofs.Common.{◌≡◌, refl, ap, ◌∙◌, Some, None}
use Rattle.nl_field.specs.Numbers.{shape_for}
use Rattle.nl_field.specs.declared.place.What.TheVariants.{Charges}
use Rattle.nl_meta.specs.Committed.{committed_of}
use Rattle.nl_test_volume_format.specs.LargeFiles.{filled, list_of_filled}
use Rattle.nl_meta.specs.Walk.{walk, walk_over}
use Rattle.nl_test_volume_format.proofs.FilledLists.{full_list, over_list}
use Rattle.nl_meta.proofs.OnLiterals.{meta_on_literals}
use Rattle.nl_test_volume_format.proofs.metadata.charges.Goals as goal

full : walk_over (shape_for 32 32) (committed_of (filled 480)) (list_of_filled 480) ≡ None
unfolding meta_on_literals
full = refl

over : walk_over (shape_for 32 32) (committed_of (filled 481)) (list_of_filled 481) ≡ Some (record { place = 0; what = Charges })
unfolding meta_on_literals
over = refl

pub returns-clause-full : goal.returns-clause-full
unfolding walk
returns-clause-full c = ap (walk_over (shape_for 32 32) (committed_of (filled 480))) full_list ∙ full

pub returns-clause-over : goal.returns-clause-over
unfolding walk
returns-clause-over c = ap (walk_over (shape_for 32 32) (committed_of (filled 481))) over_list ∙ over
