use Rattle.std.proofs.Common.{refl}
use Rattle.std.specs.Fmt.{digits}
use Rattle.nl_map.specs.Svg.{around, bar_text, box_text, entry_text, label_text, row_text}
use Rattle.nl_test_map.proofs.pictures.lines.Goals as goal

pub returns-clause-row : goal.returns-clause-row
unfolding digits around bar_text box_text entry_text label_text row_text
returns-clause-row c = refl

pub returns-clause-entry : goal.returns-clause-entry
unfolding digits around bar_text box_text entry_text label_text row_text
returns-clause-entry c = refl
