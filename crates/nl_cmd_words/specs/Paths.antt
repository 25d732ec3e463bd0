-- The path that a word of a command line spells.
use Rattle.std.specs.Prelude.{ℕ, if◌then◌else◌, List, [], ◌∷◌, Option, Some, None, Result, Ok, Err}
use Rattle.std.specs.List.{list_all}
use Rattle.nl_field.specs.Names.{is_name}
use Rattle.nl_script.specs.Spellings.{path_of}
use Rattle.nl_script.specs.declared.why.Why.{Why}

-- a path, where each of its names is one but for its length: it has no space and no control byte, which no word of a script has
abbrev pub with_names : Result (List (List ℕ)) Why → Option (List (List ℕ))
with_names (Ok path) = if list_all is_name path then Some path else None
with_names (Err why) = None

-- the path that the word spells in a script, None where it spells none
abbrev pub spelled_path : List ℕ → Option (List (List ℕ))
spelled_path word = with_names (path_of word)

-- the path behind the word of a command
abbrev pub path_word : List (List ℕ) → Option (List (List ℕ))
path_word (word ∷ path ∷ []) = spelled_path path
path_word words = None
