-- How a call of the store ends: by which command, with which status, text and cause, and what it then says of source, sink and medium, and
-- of what a stop leaves.
use Rattle.std.specs.Prelude.{◌≡◌, ⊤, ℕ, List, codes, Option, None, Some, Ok}
use Rattle.nl_cmd_words.specs.Command.{command_of}
use Rattle.nl_cmd_words.specs.Ends.{CheckEnds, EndsBefore, FormatEnds}
use Rattle.nl_cmd_words.specs.Paths.{path_word}
use Rattle.nl_cmd_words.specs.declared.command.Command.{Command}
use Rattle.nl_cmd_words.specs.declared.command.Command.TheVariants.{Check, Compare, Format, Get, Map, MapSvg, Put, Report, Run as RunScript, Soak, Tree as TreeCommand}
use Rattle.nl_gen.specs.Soak.{soak_text}
use Rattle.nl_spec_headline.specs.Streams.{Medium, Stream}
use Rattle.nl_spec_headline.specs.declared.lists.Ordered.{Ordered}
use Rattle.nl_spec_headline.specs.declared.lists.Synced.{Synced}
use Rattle.nl_script.specs.Script.{script}
use Rattle.nl_tree.specs.declared.call.Line.{Line}
use Rattle.nl_tree.specs.declared.reply.Refusal.{Refusal}
use Rattle.nl_cmd_view.specs.Getting.{GetEnds}
use Rattle.nl_cmd_compare.specs.Ends.{CompareEnds}
use Rattle.nl_cmd_map.specs.Mapping.{MapEnds}
use Rattle.nl_cmd_put.specs.Putting.{PutEnds}
use Rattle.nl_map.specs.Svg.{map_svg}
use Rattle.nl_map.specs.Text.{map_text}
use Rattle.nl_cmd_view.specs.Looking.{LookEnds, ReportsImage, TreeEnds}
use Rattle.nl_top.specs.Leaving.{Leaving, new_volume, nothing_new, prefixes_of}
use Rattle.nl_top.specs.RunEnds.{RunEnds, ScriptEnds}
use Rattle.nl_top.specs.Soak.{Summarises}

-- Only a command on one path ends with a refusal of the tree.
abbrev pub MayRefuse : Option Command → Option Refusal → Type 0
MayRefuse (Some Get) refused = ⊤
MayRefuse (Some Put) refused = ⊤
MayRefuse command refused = refused ≡ None

-- Each call ends in one of these ways, by its words.
pub data CallEnds (tells : Type 0) (words : List (List ℕ)) (leaves : Leaving → Type 0) (source source' sink sink' : Stream) (medium medium' : Medium) (order : List Ordered) (syncs : List Synced) (refused : Option Refusal) (status : ℕ) : Type 0 where
  faulty_words : command_of words ≡ None → status ≡ 2 → source' ≡ source → leaves nothing_new
      → EndsBefore tells (codes "words\n") sink sink' medium medium' order syncs
      → CallEnds tells words leaves source source' sink sink' medium medium' order syncs refused status
  runs : command_of words ≡ Some RunScript → ScriptEnds tells leaves source source' sink sink' medium medium' order syncs status
      → CallEnds tells words leaves source source' sink sink' medium medium' order syncs refused status
  formats : (blocks pages : ℕ) → command_of words ≡ Some (Format blocks pages) → source' ≡ source → leaves new_volume
      → FormatEnds tells blocks pages sink sink' medium medium' order syncs status
      → CallEnds tells words leaves source source' sink sink' medium medium' order syncs refused status
  checks : command_of words ≡ Some Check → source' ≡ source → leaves nothing_new
      → CheckEnds tells sink sink' medium medium' order syncs status
      → CallEnds tells words leaves source source' sink sink' medium medium' order syncs refused status
  shows_tree : command_of words ≡ Some TreeCommand → source' ≡ source → leaves nothing_new
      → TreeEnds tells sink sink' medium medium' order syncs status
      → CallEnds tells words leaves source source' sink sink' medium medium' order syncs refused status
  reports : command_of words ≡ Some Report → source' ≡ source → leaves nothing_new
      → LookEnds tells ReportsImage sink sink' medium medium' order syncs status
      → CallEnds tells words leaves source source' sink sink' medium medium' order syncs refused status
  maps : command_of words ≡ Some Map → source' ≡ source → leaves nothing_new
      → MapEnds map_text tells sink sink' medium medium' order syncs status
      → CallEnds tells words leaves source source' sink sink' medium medium' order syncs refused status
  maps_as_picture : command_of words ≡ Some MapSvg → source' ≡ source → leaves nothing_new
      → MapEnds map_svg tells sink sink' medium medium' order syncs status
      → CallEnds tells words leaves source source' sink sink' medium medium' order syncs refused status
  gets : (path : List (List ℕ)) → command_of words ≡ Some Get → path_word words ≡ Some path → source' ≡ source → leaves nothing_new
      → GetEnds tells path sink sink' medium medium' order syncs refused status
      → CallEnds tells words leaves source source' sink sink' medium medium' order syncs refused status
  puts : (path : List (List ℕ)) → command_of words ≡ Some Put → path_word words ≡ Some path
      → PutEnds tells path (leaves nothing_new) (λ run. leaves (prefixes_of run)) source source' sink sink' medium medium' order syncs refused status
      → CallEnds tells words leaves source source' sink sink' medium medium' order syncs refused status
  soaks : (seed count workers : ℕ) (lines : List Line) → command_of words ≡ Some (Soak seed count workers) → source' ≡ source
      → script (soak_text seed count workers) ≡ Ok lines
      → RunEnds tells lines (Summarises tells) leaves sink sink' medium medium' order syncs status
      → CallEnds tells words leaves source source' sink sink' medium medium' order syncs refused status
  compares : (seed count workers : ℕ) (lines : List Line) → command_of words ≡ Some (Compare seed count workers) → source' ≡ source
      → leaves nothing_new → script (soak_text seed count workers) ≡ Ok lines
      → CompareEnds tells lines sink sink' medium medium' order syncs status
      → CallEnds tells words leaves source source' sink sink' medium medium' order syncs refused status
