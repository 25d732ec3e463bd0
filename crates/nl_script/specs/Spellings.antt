-- What a word spells: its value, or why it is no spelling of what is due.
use Rattle.std.specs.Prelude.{ℕ, ◌-◌, ◌^◌, ◌==◌, nat_le, nat_lt, Bool, not, ◌&&◌, if◌then◌else◌, List, [], ◌∷◌, length, slice_index, codes, bytes_eq, Option, Some, None, Result, Ok, Err}
use Rattle.std.specs.Char.{is_ascii_digit}
use Rattle.std.specs.List.{list_all}
use Rattle.std.specs.Option.{ok_or}
use Rattle.std.specs.Str.Parse.{digits_value}
use Rattle.nl_field.specs.Numbers.{max_bytes}
use Rattle.hex.specs.declared.error.FromHexError.{FromHexError}
use Rattle.hex.specs.Hex.{decode_of}
use Rattle.nl_script.specs.declared.command.Command.{Command}
use Rattle.nl_script.specs.declared.command.Command.TheVariants.{Mkdir, Rmdir, Create, Unlink, Stat, List as ListCommand, Rename, Write, Fill, Read, Truncate, Sync, Clean}
use Rattle.nl_script.specs.declared.why.Why.{Why}
use Rattle.nl_script.specs.declared.why.Why.TheVariants.{Long, Worker, Command as CommandCause, Path, Number, Hex}
use Rattle.nl_script.specs.Words.{parts}

-- the `?` of the grammar: what follows, where there is a value
infixl 10 ◌>>=◌
abbrev pub ◌>>=◌ : {E A B : Type 0} → Result A E → (A → Result B E) → Result B E
Ok value >>= next = next value
Err why >>= next = Err why

abbrev pub ok_or_cause : {T : Type 0} → Bool → T → Why → Result T Why
ok_or_cause is_spelled value why = if is_spelled then Ok value else Err why

-- one digit, 0 to 7
abbrev pub worker_of : List ℕ → Result ℕ Why
worker_of (c ∷ []) = ok_or_cause (nat_le 48 c && nat_le c 55) (c - 48) Worker
worker_of word = Err Worker

unfoldable pub command_of : List ℕ → Result Command Why
command_of word =
    if bytes_eq word (codes "mkdir") then Ok Mkdir
    else if bytes_eq word (codes "rmdir") then Ok Rmdir
    else if bytes_eq word (codes "create") then Ok Create
    else if bytes_eq word (codes "unlink") then Ok Unlink
    else if bytes_eq word (codes "stat") then Ok Stat
    else if bytes_eq word (codes "list") then Ok ListCommand
    else if bytes_eq word (codes "rename") then Ok Rename
    else if bytes_eq word (codes "write") then Ok Write
    else if bytes_eq word (codes "fill") then Ok Fill
    else if bytes_eq word (codes "read") then Ok Read
    else if bytes_eq word (codes "truncate") then Ok Truncate
    else if bytes_eq word (codes "sync") then Ok Sync
    else if bytes_eq word (codes "clean") then Ok Clean
    else Err CommandCause

-- a name is not empty, and neither . nor ..
abbrev pub is_name : List ℕ → Bool
is_name name = not (length name == 0) && (not (bytes_eq name (codes ".")) && not (bytes_eq name (codes "..")))

abbrev pub names_of : List (List ℕ) → Result (List (List ℕ)) Why
names_of names = ok_or_cause (list_all is_name names) names Path

-- A slash alone is the root. Else a slash stands before each name.
unfoldable pub path_of : List ℕ → Result (List (List ℕ)) Why
path_of [] = Err Path
path_of (c ∷ []) = ok_or_cause (c == 47) [] Path
path_of (c ∷ d ∷ bytes) = if c == 47 then names_of (parts 47 (d ∷ bytes)) else Err Path

-- 1 to 19 decimal digits, and a value below 2 ^ 63
abbrev pub digits_of : List ℕ → Option ℕ
digits_of word =
    if nat_lt 0 (length word) && (nat_le (length word) 19 && (list_all is_ascii_digit word && nat_lt (digits_value 10 word) (2 ^ 63)))
    then Some (digits_value 10 word) else None

abbrev pub number_of : List ℕ → Result ℕ Why
number_of word = ok_or (digits_of word) Number

-- a number, and at most that many bytes
unfoldable pub length_of : List ℕ → Result ℕ Why
length_of word = do
  count ← number_of word
  ok_or_cause (nat_le count max_bytes) count Long

-- two hexadecimal digits for each byte
abbrev pub hex_of : Result (List ℕ) FromHexError → Result (List ℕ) Why
hex_of (Ok bytes) = Ok bytes
hex_of (Err error) = Err Hex

-- two hexadecimal digits for each byte, and at most so many bytes
abbrev pub hex_data : List ℕ → Result (List ℕ) Why
hex_data word = do
  bytes ← hex_of (decode_of word)
  ok_or_cause (nat_le (length bytes) max_bytes) bytes Long

-- `-` for no bytes, or at least two hexadecimal digits. What is too long and no spelling is no spelling.
unfoldable pub data_of : List ℕ → Result (List ℕ) Why
data_of word =
    if bytes_eq word (codes "-") then Ok []
    else if length word == 0 then Err Hex
    else hex_data word

abbrev pub first_byte : Result (List ℕ) Why → Result ℕ Why
first_byte spelled = do
  bytes ← spelled
  Ok (slice_index bytes 0)

-- exactly two hexadecimal digits
unfoldable pub byte_of : List ℕ → Result ℕ Why
byte_of word = if length word == 2 then first_byte (hex_of (decode_of word)) else Err Hex
