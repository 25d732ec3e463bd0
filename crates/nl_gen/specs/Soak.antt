-- The script of a soak: a line of each worker in turn, from the draws of the worker's own generator.
use Rattle.std.specs.Prelude.{ℕ, zero, suc, ◌+◌, ◌-◌, ◌/◌, ◌%◌, ◌==◌, nat_lt, min, if◌then◌else◌, List, [], ◌∷◌, ◌++◌, flat_map, codes, decimal}
use Rattle.std.specs.List.{range_with_len}
use Rattle.hex.specs.Hex.{encode_lower}
use Rattle.rand_pcg.specs.Lcg.{Lcg, started, increment_of}
use Rattle.rand_pcg.specs.Pcg.{multiplier_64, pcg32}
use Rattle.nl_gen.specs.declared.drawn.Drawn.{Drawn}
use Rattle.nl_gen.specs.declared.drawn.Drawn.TheVariants.{Create, Fill, Write, Read, Truncate, Unlink, Rename, Stat, Sync}

-- ---- draws

-- three words of a generator
unfoldable pub first_word : Lcg → ℕ
first_word g = (pcg32 g).0

unfoldable pub after_word : Lcg → Lcg
after_word g = (pcg32 g).1

abbrev pub after_line : Lcg → Lcg
after_line g = after_word (after_word (after_word g))

-- the generator of a worker behind so many lines
unfoldable pub generator : ℕ → ℕ → ℕ → Lcg
generator seed worker zero = started 64 multiplier_64 seed (increment_of 64 worker)
generator seed worker (suc n) = after_line (generator seed worker n)

-- ---- a line, from its three draws

-- one of four files
abbrev pub file_number : ℕ → ℕ
file_number r = r / 16 % 4

-- the most bytes of a file
abbrev pub cap_of : ℕ → ℕ
cap_of file = if file == 0 then 98304 else 32768

abbrev pub filled : ℕ → ℕ → ℕ → ℕ → ℕ → Drawn
filled file cap from b byte = Fill file from (min (1 + b % 32768) (cap - from)) byte

abbrev pub renamed : ℕ → Drawn
renamed file = if file == 0 then Stat file else Rename file (1 + file % 3)

abbrev pub of_others : ℕ → ℕ → Drawn
of_others file b = if b == 0 then Unlink file else if b == 1 then renamed file else if b == 2 then Sync else Stat file

abbrev pub of_kind : ℕ → ℕ → ℕ → ℕ → ℕ → ℕ → Drawn
of_kind kind file cap a b byte =
    if nat_lt kind 2 then Create file
    else if nat_lt kind 5 then filled file cap (a % cap) b byte
    else if nat_lt kind 6 then Write file (a % (cap - 3)) b
    else if nat_lt kind 8 then Read file (a % cap) (1 + b % 256)
    else if nat_lt kind 9 then Truncate file (a % (cap + 1))
    else of_others file (b % 4)

unfoldable pub drawn_of : ℕ → ℕ → ℕ → Drawn
drawn_of r a b = let file = file_number r in of_kind (r % 10) file (cap_of file) a b (r / 16777216 % 256)

-- ---- the text of a line

-- `/wK`
abbrev pub directory_text : ℕ → List ℕ
directory_text worker = codes "/w" ++ decimal worker

-- `/wK/fF`
abbrev pub file_text : ℕ → ℕ → List ℕ
file_text worker file = directory_text worker ++ codes "/f" ++ decimal file

-- four bytes, the highest first
abbrev pub four_bytes : ℕ → List ℕ
four_bytes n = n / 16777216 % 256 ∷ n / 65536 % 256 ∷ n / 256 % 256 ∷ n % 256 ∷ []

abbrev pub drawn_text : ℕ → Drawn → List ℕ
drawn_text worker (Create file) = codes "create " ++ file_text worker file
drawn_text worker (Fill file from len byte) =
    codes "fill " ++ file_text worker file ++ codes " " ++ decimal from ++ codes " " ++ decimal len ++ codes " " ++ encode_lower (byte ∷ [])
drawn_text worker (Write file from word) =
    codes "write " ++ file_text worker file ++ codes " " ++ decimal from ++ codes " " ++ encode_lower (four_bytes word)
drawn_text worker (Read file from len) = codes "read " ++ file_text worker file ++ codes " " ++ decimal from ++ codes " " ++ decimal len
drawn_text worker (Truncate file size) = codes "truncate " ++ file_text worker file ++ codes " " ++ decimal size
drawn_text worker (Unlink file) = codes "unlink " ++ file_text worker file
drawn_text worker (Rename file other) = codes "rename " ++ file_text worker file ++ codes " " ++ file_text worker other
drawn_text worker (Stat file) = codes "stat " ++ file_text worker file
drawn_text worker Sync = codes "sync"

unfoldable pub line_text : ℕ → Drawn → List ℕ
line_text worker drawn = decimal worker ++ codes " " ++ drawn_text worker drawn ++ 10 ∷ []

-- ---- the script

-- the line of a worker with this generator
abbrev pub line_from : ℕ → Lcg → List ℕ
line_from worker g = line_text worker (drawn_of (first_word g) (first_word (after_word g)) (first_word (after_word (after_word g))))

-- the line of a worker in a round
abbrev pub soak_line : ℕ → ℕ → ℕ → List ℕ
soak_line seed round worker = line_from worker (generator seed worker round)

-- `K mkdir /wK`
abbrev pub mkdir_text : ℕ → List ℕ
mkdir_text worker = decimal worker ++ codes " mkdir " ++ directory_text worker ++ 10 ∷ []

abbrev pub round_text : ℕ → ℕ → ℕ → List ℕ
round_text seed workers round = flat_map (soak_line seed round) (range_with_len 0 workers)

unfoldable pub soak_text : ℕ → ℕ → ℕ → List ℕ
soak_text seed lines workers = flat_map mkdir_text (range_with_len 0 workers) ++ flat_map (round_text seed workers) (range_with_len 0 lines)
