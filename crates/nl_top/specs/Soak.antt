-- The summary of a soak.
use Rattle.std.specs.Prelude.{◌≡◌, ℕ, List, map}
use Rattle.nl_spec_headline.specs.Course.{Course, RepliedLine, tree_after}
use Rattle.nl_cmd_course.specs.Charges.{AreCharges}
use Rattle.nl_cmd_course.specs.declared.charges.Charges.{Charges}
use Rattle.nl_cmd_answers.specs.Rows.{summary_text}

-- How many calls of the course were answered, and how many of them ok; how many bytes were written and read, at most 2^64 - 1; and pages of
-- files, nodes and pages of metadata. Where the medium tells its contents, these are the charges of the tree after all calls.
pub record Summarises (tells : Type 0) (course : Course) (text : List ℕ) : Type 0 where
  pub charges : Charges
  pub text_is : text
      ≡ summary_text (map (λ (a : RepliedLine). (a.line.line, a.reply, a.bytes)) course.answers) charges.pages charges.nodes charges.meta
  pub charged : tells → AreCharges charges (tree_after course)
