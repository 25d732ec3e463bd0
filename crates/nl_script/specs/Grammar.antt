-- What a line says, or why it is refused and at which column.
use Rattle.std.specs.Prelude.{ℕ, ◌+◌, ◌≤◌, ◌==◌, nat_lt, Bool, false, ◌||◌, if◌then◌else◌, List, [], ◌∷◌, length, slice_index, position, codes, bytes_eq, Option, Some, None, Result, Ok, Err}
use Rattle.nl_tree.specs.declared.call.Call.{Call}
use Rattle.nl_tree.specs.declared.call.Call.TheVariants as call
use Rattle.nl_script.specs.declared.command.Command.{Command}
use Rattle.nl_script.specs.declared.command.Command.TheVariants.{Mkdir, Rmdir, Create, Unlink, Stat, List as ListCommand, Rename, Write, Fill, Read, Truncate, Sync, Clean}
use Rattle.nl_script.specs.declared.fault.Fault.{Fault}
use Rattle.nl_script.specs.declared.said.Said.{Said}
use Rattle.nl_script.specs.declared.said.Said.TheVariants.{Nothing, Barrier, CallOf}
use Rattle.nl_script.specs.declared.why.Why.{Why}
use Rattle.nl_script.specs.declared.why.Why.TheVariants.{Long, Byte, Missing, Extra}
use Rattle.nl_script.specs.Spellings.{◌>>=◌, worker_of, command_of, path_of, number_of, length_of, data_of, byte_of}
use Rattle.nl_script.specs.Words.{Word, without_return, words_from}

abbrev pub refused : {T : Type 0} → ℕ → Why → Result T Fault
refused column why = Err (record { column = column; why = why })

abbrev pub at_column : {T : Type 0} → ℕ → Result T Why → Result T Fault
at_column column (Ok value) = Ok value
at_column column (Err why) = refused column why

-- what the first of these words spells, where a word is due. `after` is the column behind the line.
unfoldable pub read : {T : Type 0} → ℕ → (List ℕ → Result T Why) → List Word → Result T Fault
read after spells [] = refused after Missing
read after spells (word ∷ words) = at_column word.column (spells word.bytes)

abbrev pub others : List Word → List Word
others [] = []
others (word ∷ words) = words

-- where no word is due
unfoldable pub no_more : List Word → Result (Unit {0}) Fault
no_more [] = Ok tt
no_more (word ∷ words) = refused word.column Extra

-- a path, and nothing behind it
unfoldable pub lone_path : ℕ → List Word → Result (List (List ℕ)) Fault
lone_path after words = do
  path ← read after path_of words
  end ← no_more (others words)
  Ok path

unfoldable pub rename_of : ℕ → List Word → Result Call Fault
rename_of after words = do
  from ← read after path_of words
  to ← lone_path after (others words)
  Ok (call.Rename from to)

unfoldable pub write_of : ℕ → List Word → Result Call Fault
write_of after words = do
  path ← read after path_of words
  from ← read after number_of (others words)
  bytes ← read after data_of (others (others words))
  end ← no_more (others (others (others words)))
  Ok (call.Write path from bytes)

unfoldable pub fill_of : ℕ → List Word → Result Call Fault
fill_of after words = do
  path ← read after path_of words
  from ← read after number_of (others words)
  count ← read after length_of (others (others words))
  byte ← read after byte_of (others (others (others words)))
  end ← no_more (others (others (others (others words))))
  Ok (call.Fill path from count byte)

unfoldable pub read_of : ℕ → List Word → Result Call Fault
read_of after words = do
  path ← read after path_of words
  from ← read after number_of (others words)
  count ← read after length_of (others (others words))
  end ← no_more (others (others (others words)))
  Ok (call.Read path from count)

unfoldable pub truncate_of : ℕ → List Word → Result Call Fault
truncate_of after words = do
  path ← read after path_of words
  size ← read after number_of (others words)
  end ← no_more (others (others words))
  Ok (call.Truncate path size)

-- a call whose one word is a path
abbrev pub path_call : (List (List ℕ) → Call) → ℕ → List Word → Result Call Fault
path_call make after words = do
  path ← lone_path after words
  Ok (make path)

-- a call without words
abbrev pub bare_call : Call → List Word → Result Call Fault
bare_call made words = do
  end ← no_more words
  Ok made

-- the words behind a command
unfoldable pub call_of : ℕ → Command → List Word → Result Call Fault
call_of after Mkdir words = path_call call.Mkdir after words
call_of after Rmdir words = path_call call.Rmdir after words
call_of after Create words = path_call call.Create after words
call_of after Unlink words = path_call call.Unlink after words
call_of after Stat words = path_call call.Stat after words
call_of after ListCommand words = path_call call.List after words
call_of after Rename words = rename_of after words
call_of after Write words = write_of after words
call_of after Fill words = fill_of after words
call_of after Read words = read_of after words
call_of after Truncate words = truncate_of after words
call_of after Sync words = bare_call call.Sync words
call_of after Clean words = bare_call call.Clean words

-- the worker of a call is 0 to 7
abbrev pub HasWorker : Said → Type 0
HasWorker (CallOf worker made) = worker ≤ 7
HasWorker Nothing = Unit {0}
HasWorker Barrier = Unit {0}

-- a worker, a command and its words
unfoldable pub worker_call : ℕ → List Word → Result Said Fault
worker_call after words = do
  worker ← read after worker_of words
  command ← read after command_of (others words)
  made ← call_of after command (others (others words))
  Ok (CallOf worker made)

abbrev pub barrier : List Word → Result Said Fault
barrier words = do
  end ← no_more words
  Ok Barrier

unfoldable pub words_say : ℕ → List Word → Result Said Fault
words_say after [] = Ok Nothing
words_say after (word ∷ words) = if bytes_eq word.bytes (codes "barrier") then barrier words else worker_call after (word ∷ words)

-- the first word begins with #
abbrev pub is_comment : List Word → Bool
is_comment [] = false
is_comment (word ∷ words) = slice_index word.bytes 0 == 35

-- no byte of a line that is read
abbrev pub is_control : ℕ → Bool
is_control c = nat_lt c 32 || c == 127

abbrev pub control_or : Option ℕ → Result Said Fault → Result Said Fault
control_or None said = said
control_or (Some at) said = refused (at + 1) Byte

-- the most bytes of a line
abbrev pub max_line : ℕ
max_line = 140000

-- a line without its carriage return
unfoldable pub bytes_say : List ℕ → Result Said Fault
bytes_say line =
    let words = words_from 1 line in
    if nat_lt max_line (length line) then refused (max_line + 1) Long
    else if is_comment words then Ok Nothing
    else control_or (position is_control line) (words_say (length line + 1) words)

unfoldable pub line_says : List ℕ → Result Said Fault
line_says raw = bytes_say (without_return raw)
