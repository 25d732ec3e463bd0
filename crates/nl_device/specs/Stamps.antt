-- Which answers of a write say that its stamp was taken.
use Rattle.std.specs.Prelude.{Bool, true, false}
use Rattle.nl_field.specs.declared.answers.Named.{Named}
use Rattle.nl_field.specs.declared.answers.Named.TheVariants as named

-- a page was programmed under the next stamp, or its program failed
abbrev pub is_tried : Named → Bool
is_tried (named.Placed at) = true
is_tried named.NotLive = false
is_tried named.NoPage = false
is_tried named.Fault = true
