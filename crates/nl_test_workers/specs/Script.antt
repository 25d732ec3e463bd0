-- The lines that the workers of the tests run.
use Rattle.std.specs.Prelude.{◌≡◌, ℕ, List, length}
use Rattle.nl_tree.specs.Calls.{AreLines}
use Rattle.nl_tree.specs.declared.call.Line.{Line}

-- so many lines of a script
pub record IsScript (lines : List Line) (count : ℕ) : Type 0 where
  pub count_is : length lines ≡ count
  pub lines_are : AreLines lines
