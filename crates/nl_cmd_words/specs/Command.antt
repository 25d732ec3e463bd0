-- The words of a command line.
use Rattle.std.specs.Prelude.{ℕ, ⊤, Bool, true, false, ◌<◌, ◌≤◌, nat_le, nat_lt, ◌&&◌, IsTrue, if◌then◌else◌, List, [], ◌∷◌, codes, bytes_eq, Option, Some, None, IsSome}
use Rattle.nl_field.specs.Numbers.{is_legal}
use Rattle.nl_script.specs.Spellings.{digits_of}
use Rattle.nl_cmd_words.specs.Paths.{path_word, spelled_path}
use Rattle.nl_cmd_words.specs.declared.command.Command.{Command}
use Rattle.nl_cmd_words.specs.declared.command.Command.TheVariants.{Format, Run, Check, Tree, Report, Map, MapSvg, Get, Put, Soak, Compare}

-- a geometry that a volume can have
abbrev pub format_of : Option ℕ → Option ℕ → Option Command
format_of (Some blocks) (Some pages) = if is_legal blocks pages then Some (Format blocks pages) else None
format_of None pages = None
format_of (Some blocks) None = None

-- the command whose script is drawn: a comparison, or else a soak
abbrev pub drawing : Bool → ℕ → ℕ → ℕ → Command
drawing true = Compare
drawing false = Soak

-- 1 to 20,000 lines for each of 1 to 8 workers
abbrev pub drawn_of : (ℕ → ℕ → ℕ → Command) → Option ℕ → Option ℕ → Option ℕ → Option Command
drawn_of command (Some seed) (Some lines) (Some workers) =
    if nat_lt 0 lines && (nat_le lines 20000 && (nat_lt 0 workers && nat_le workers 8)) then Some (command seed lines workers) else None
drawn_of command None lines workers = None
drawn_of command (Some seed) None workers = None
drawn_of command (Some seed) (Some lines) None = None

-- a word alone
abbrev pub plain_command : List ℕ → Option Command
plain_command word =
    if bytes_eq word (codes "run") then Some Run
    else if bytes_eq word (codes "check") then Some Check
    else if bytes_eq word (codes "tree") then Some Tree
    else if bytes_eq word (codes "report") then Some Report
    else if bytes_eq word (codes "map") then Some Map
    else None

-- a word and a path
abbrev pub path_command : List ℕ → Option (List (List ℕ)) → Option Command
path_command word (Some path) =
    if bytes_eq word (codes "get") then Some Get else if bytes_eq word (codes "put") then Some Put else None
path_command word None = None

-- The command that the words name. None where they name none, where their numbers are no spellings or illegal, or where a path is none.
abbrev pub command_of : List (List ℕ) → Option Command
command_of (word ∷ []) = plain_command word
command_of (word ∷ path ∷ []) =
    if bytes_eq word (codes "map") && bytes_eq path (codes "svg") then Some MapSvg else path_command word (spelled_path path)
command_of (word ∷ blocks ∷ pages ∷ []) = if bytes_eq word (codes "format") then format_of (digits_of blocks) (digits_of pages) else None
command_of (word ∷ seed ∷ lines ∷ workers ∷ []) =
    if bytes_eq word (codes "soak") then drawn_of Soak (digits_of seed) (digits_of lines) (digits_of workers)
    else if bytes_eq word (codes "compare") then drawn_of Compare (digits_of seed) (digits_of lines) (digits_of workers)
    else None
command_of words = None

-- the numbers of a command are legal
abbrev pub IsLegalCommand : Command → Type 0
IsLegalCommand (Format blocks pages) = IsTrue (is_legal blocks pages)
IsLegalCommand (Soak seed lines workers) = (0 < lines) × (lines ≤ 20000) × (0 < workers) × (workers ≤ 8)
IsLegalCommand (Compare seed lines workers) = (0 < lines) × (lines ≤ 20000) × (0 < workers) × (workers ≤ 8)
IsLegalCommand command = ⊤

-- the words of a command on one path have it
abbrev pub HasPath : List (List ℕ) → Command → Type 0
HasPath words Get = IsSome (path_word words)
HasPath words Put = IsSome (path_word words)
HasPath words command = ⊤
