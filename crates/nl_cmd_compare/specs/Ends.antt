-- How a comparison ends, and what it prints.
use Rattle.std.specs.Prelude.{◌≡◌, ℕ, ◌*◌, ◌≤◌, List, [], ◌∷◌, ◌++◌, codes, length, map}
use Rattle.nl_field.specs.Numbers.{shape_for}
use Rattle.nl_field.specs.declared.shape.Shape.{Shape}
use Rattle.nl_print.specs.Texts.{field}
use Rattle.nl_spec_headline.specs.Status.{DoneStatus}
use Rattle.nl_spec_headline.specs.Streams.{Medium, MediumRose, Stream}
use Rattle.nl_spec_headline.specs.declared.lists.Ordered.{Ordered}
use Rattle.nl_spec_headline.specs.declared.lists.Synced.{Synced}
use Rattle.nl_tree.specs.declared.call.Call.{Call}
use Rattle.nl_tree.specs.declared.call.Line.{Line}
use Rattle.nl_cmd_words.specs.Ends.{EndsBefore}
use Rattle.nl_cmd_compare.specs.Both.{most_charged}
use Rattle.nl_cmd_compare.specs.declared.comparison.Numbers.{Numbers}

-- Of so many calls on new volumes of this shape there were at most four times the pages of a block as pairs, and as many entries as the
-- greatest data charge of the trees behind the calls.
pub record Measures (shape : Shape) (calls : List Call) (numbers : Numbers) : Type 0 where
  pub calls_are : numbers.calls ≡ length calls
  pub few : numbers.pairs ≤ 4 * shape.pages
  pub most : numbers.entries ≡ most_charged shape calls

-- the lines of the two tables
abbrev pub tables_text : Numbers → List ℕ
tables_text numbers = (field (codes "remap most") numbers.pairs ++ 10 ∷ []) ++ (field (codes "map most") numbers.entries ++ 10 ∷ [])

abbrev pub compare_text : Numbers → List ℕ
compare_text numbers = (field (codes "calls") numbers.calls ++ 10 ∷ []) ++ tables_text numbers

-- How it ends: with the numbers of both volumes, on which each call was answered as is due, or for want of memory. No line is listed, since none
-- was run on the medium that was handed in.
pub data CompareEnds (tells : Type 0) (lines : List Line) (sink sink' : Stream) (medium medium' : Medium) (order : List Ordered) (syncs : List Synced) (status : ℕ) : Type 0 where
  compare_no_memory : status ≡ 6 → EndsBefore tells (codes "memory\n") sink sink' medium medium' order syncs
      → CompareEnds tells lines sink sink' medium medium' order syncs status
  compared : (numbers : Numbers) → Measures (shape_for 32 32) (map (λ (l : Line). l.call) lines) numbers
      → EndsBefore tells (compare_text numbers) sink sink' medium medium' order syncs
      → DoneStatus status (MediumRose medium medium') sink sink' (compare_text numbers)
      → CompareEnds tells lines sink sink' medium medium' order syncs status
