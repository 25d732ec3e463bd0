-- What is told of lines that were run, and of their course.
use Rattle.std.specs.Prelude.{ℕ, List, map}
use Rattle.nl_spec_headline.specs.Course.{Course}
use Rattle.nl_cmd_course.specs.declared.charges.Charges.{Charges}
use Rattle.nl_cmd_answers.specs.Rows.{rows_text, said, summary_text}
use Rattle.nl_workers.specs.Table.{Row}
use Rattle.nl_top.specs.RunEnds.{PrintsAnswers}
use Rattle.nl_top.specs.Soak.{Summarises}
use Rattle.nl_top.specs.declared.telling.Told.{Told}
use Rattle.nl_top.specs.declared.telling.Told.TheVariants.{Answers, Summary}

-- of the rows, the count with which the volume opened, and the charges in the end
abbrev pub told_text : Told → ℕ → Charges → List Row → List ℕ
told_text Answers count charges rows = rows_text count rows
told_text Summary count charges rows = summary_text (map said rows) charges.pages charges.nodes charges.meta

-- of the course
abbrev pub PrintsCourse : Told → Type 0 → Course → List ℕ → Type 0
PrintsCourse Answers tells = PrintsAnswers
PrintsCourse Summary tells = Summarises tells
