-- Each call of a script is bounded: its names are names, and its texts and lengths are short.
use Rattle.std.proofs.Common.{◌≡◌, ◌≤◌, ℕ, ◌+◌, Bool, true, false, cond, List, [], ◌∷◌, length, refl, sym, ◌∙◌, ap, subst, arith}
use Rattle.std.specs.Prelude.{◌==◌, nat_le, nat_lt, ◌&&◌, IsTrue, Result, Ok, Err, Option, Some, None, position, bytes_eq, codes}
use Rattle.std.specs.List.{AllByRecursion, list_all, slice_split, onto_first, position_from}
use Rattle.std.proofs.lemmas.Bool.Decides.{nat_tests}
use Rattle.std.proofs.lemmas.List.Elements.{All-from_recursion}
use Rattle.hex.specs.Hex.{decode_of}
use Rattle.std.proofs.lemmas.Iterator.Adapters.{position_from-zero}
use Rattle.nl_field.specs.Names.{is_name_byte, is_name as is_field_name}
use Rattle.nl_field.specs.Numbers.{max_bytes}
use Rattle.nl_tree.specs.Calls.{AreNames, IsBounded}
use Rattle.nl_tree.specs.declared.call.Call.{Call}
use Rattle.nl_tree.specs.declared.call.Call.TheVariants as call
use Rattle.nl_script.specs.declared.command.Command.{Command}
use Rattle.nl_script.specs.declared.command.Command.TheVariants.{Mkdir, Rmdir, Create, Unlink, Stat, List as ListCommand, Rename, Write, Fill, Read, Truncate, Sync, Clean}
use Rattle.nl_script.specs.declared.said.Said.{Said}
use Rattle.nl_script.specs.declared.said.Said.TheVariants.{Nothing, Barrier, CallOf}
use Rattle.nl_script.specs.declared.why.Why.{Why}
use Rattle.nl_script.specs.declared.why.Why.TheVariants.{Path, Long, Hex}
use Rattle.nl_script.specs.Grammar.{read, others, no_more, lone_path, rename_of, write_of, fill_of, read_of, truncate_of, path_call, bare_call, call_of, worker_call, barrier, words_say, is_comment, is_control, control_or, max_line, bytes_say, line_says, at_column, refused}
use Rattle.nl_script.specs.Spellings.{◌>>=◌, ok_or_cause, is_name, names_of, path_of, length_of, number_of, data_of, hex_data, hex_of, worker_of, command_of, byte_of}
use Rattle.nl_script.specs.Words.{parts, Word, placed, words_from, without_return}

-- ---- what a choice of a value says

bind_ok : {E A B : Type 0} (x : Result A E) (f : A → Result B E) (v : B) → (x >>= f) ≡ Ok v → (a : A) × (x ≡ Ok a) × (f a ≡ Ok v)
bind_ok (Ok a) f v e = (a, refl, e)
bind_ok (Err w) f v e = absurd (cc e)

if_ok : {T : Type 0} (b : Bool) (value v : T) (why : Why) → ok_or_cause b value why ≡ Ok v → (b ≡ true) × (value ≡ v)
if_ok true value v why e = (refl, cc e)
if_ok false value v why e = absurd (cc e)

same_ok : {E A : Type 0} (a b : A) → (let x : Result A E = Ok a in x) ≡ Ok b → a ≡ b
same_ok a b e = cc e

-- ---- the bytes of words

-- no byte of a control, and not this one
abbrev IsByte : ℕ → Type 0
IsByte b = is_control b ≡ false

abbrev IsWordByte : ℕ → Type 0
IsWordByte b = IsByte b × ((b == 32) ≡ false)

abbrev AreWords : List Word → Type 0
AreWords words = AllByRecursion (λ (w : Word). AllByRecursion IsWordByte w.bytes) words

module _ (P Q : ℕ → Type 0) (p : ℕ → Bool) (keep : (b : ℕ) → P b → p b ≡ false → Q b) where
  onto : (x : ℕ) (ps : List (List ℕ)) → Q x → AllByRecursion (λ part. AllByRecursion Q part) ps → AllByRecursion (λ part. AllByRecursion Q part) (onto_first x ps)
  onto x [] q h = ((q, tt), tt)
  onto x (part ∷ ps) q h = ((q, h.0), h.1)

  one_more : (x : ℕ) (ps : List (List ℕ)) (b : Bool) → P x → p x ≡ b → AllByRecursion (λ part. AllByRecursion Q part) ps
      → AllByRecursion (λ part. AllByRecursion Q part) (cond b ([] ∷ ps) (onto_first x ps))
  one_more x ps true h e rest = (tt, rest)
  one_more x ps false h e rest = onto x ps (keep x h e) rest

  split_all : (xs : List ℕ) → AllByRecursion P xs → AllByRecursion (λ part. AllByRecursion Q part) (slice_split p xs)
  split_all [] h = (tt, tt)
  split_all (x ∷ xs) h = one_more x (slice_split p xs) (p x) h.0 refl (split_all xs h.1)

placed_all : (column : ℕ) (ps : List (List ℕ)) → AllByRecursion (λ part. AllByRecursion IsWordByte part) ps → AreWords (placed column ps)
unfolding placed
placed_all column [] h = tt
placed_all column ([] ∷ ps) h = placed_all (column + length {A = ℕ} [] + 1) ps h.1
placed_all column ((c ∷ part) ∷ ps) h = (h.0, placed_all (column + length (c ∷ part) + 1) ps h.1)

words_all : (column : ℕ) (bytes : List ℕ) → AllByRecursion IsByte bytes → AreWords (words_from column bytes)
words_all column bytes h = placed_all column (parts 32 bytes) (split_all IsByte IsWordByte (λ c. c == 32) (λ b is other. (is, other)) bytes h)

others_all : (words : List Word) → AreWords words → AreWords (others words)
others_all [] h = tt
others_all (w ∷ words) h = h.1

none_first : (x : ℕ) (xs : List ℕ) (k : ℕ) (b : Bool) → is_control x ≡ b → (position_from is_control (k + 1) xs ≡ None → AllByRecursion IsByte xs)
    → cond b (Some k) (position_from is_control (k + 1) xs) ≡ None → AllByRecursion IsByte (x ∷ xs)
none_first x xs k true is rest none = absurd (cc none)
none_first x xs k false is rest none = (is, rest none)

-- no control byte
none_from : (xs : List ℕ) (k : ℕ) → position_from is_control k xs ≡ None → AllByRecursion IsByte xs
none_from [] k e = tt
none_from (x ∷ xs) k e = none_first x xs k (is_control x) refl (none_from xs (k + 1)) e

none_all : (xs : List ℕ) → position is_control xs ≡ None → AllByRecursion IsByte xs
none_all xs e = none_from xs 0 (sym (position_from-zero is_control xs) ∙ e)

-- ---- names

name_byte : (b : ℕ) → IsWordByte b → (b == 47) ≡ false → is_name_byte b ≡ true
name_byte b h other = grind (arith, nat_tests)

all_name_bytes : (xs : List ℕ) → AllByRecursion (λ b. is_name_byte b ≡ true) xs → list_all is_name_byte xs ≡ true
all_name_bytes [] h = refl
all_name_bytes (x ∷ xs) h = let rest = all_name_bytes xs h.1 in let here = h.0 in cc

-- the script's test of a name is that of a name, where no byte is one that no name has
a_name : (name : List ℕ) → AllByRecursion (λ b. is_name_byte b ≡ true) name → is_name name ≡ true → IsTrue (is_field_name name)
unfolding is_field_name
a_name name bytes is = let each = all_name_bytes name bytes in grind (arith, nat_tests)

both_names : (name : List ℕ) (names : List (List ℕ)) (a b : Bool) → is_name name ≡ a → list_all is_name names ≡ b → AllByRecursion (λ c. is_name_byte c ≡ true) name
    → (list_all is_name names ≡ true → AllByRecursion (λ n. IsTrue (is_field_name n)) names) → (a && b) ≡ true → AllByRecursion (λ n. IsTrue (is_field_name n)) (name ∷ names)
both_names name names true true here rest bytes others e = (a_name name bytes here, others rest)
both_names name names true false here rest bytes others e = absurd (cc e)
both_names name names false b here rest bytes others e = absurd (cc e)

names_all : (names : List (List ℕ)) → AllByRecursion (λ name. AllByRecursion (λ b. is_name_byte b ≡ true) name) names → list_all is_name names ≡ true → AllByRecursion (λ name. IsTrue (is_field_name name)) names
names_all [] bytes is = tt
names_all (name ∷ names) bytes is = both_names name names (is_name name) (list_all is_name names) refl refl bytes.0 (names_all names bytes.1) is

slash_parts : (bytes : List ℕ) → AllByRecursion IsWordByte bytes → AllByRecursion (λ name. AllByRecursion (λ b. is_name_byte b ≡ true) name) (parts 47 bytes)
slash_parts bytes h = split_all IsWordByte (λ b. is_name_byte b ≡ true) (λ c. c == 47) name_byte bytes h

spelled_names : (names path : List (List ℕ)) → AllByRecursion (λ name. AllByRecursion (λ b. is_name_byte b ≡ true) name) names → names_of names ≡ Ok path → AreNames path
spelled_names names path bytes e =
    let h = if_ok (list_all is_name names) names path Path e in
    subst AreNames h.1 (All-from_recursion (λ name. IsTrue (is_field_name name)) names (names_all names bytes h.0))

spelled_path : (word : List ℕ) (path : List (List ℕ)) → AllByRecursion IsWordByte word → path_of word ≡ Ok path → AreNames path
unfolding path_of
spelled_path [] path h e = absurd (cc e)
spelled_path (c ∷ []) path h e = let root = if_ok (c == 47) [] path Path e in subst AreNames root.1 (λ k d lt. absurd (omega arith))
spelled_path (c ∷ d ∷ bytes) path h e = by_test (c == 47) e
  where
    by_test : (b : Bool) → cond b (names_of (parts 47 (d ∷ bytes))) (Err Path) ≡ Ok path → AreNames path
    by_test true is = spelled_names (parts 47 (d ∷ bytes)) path (slash_parts (d ∷ bytes) h.1) is
    by_test false is = absurd (cc is)

-- ---- lengths

spelled_length : (word : List ℕ) (n : ℕ) → length_of word ≡ Ok n → n ≤ max_bytes
unfolding length_of
spelled_length word n e =
    let b = bind_ok (number_of word) (λ count. ok_or_cause (nat_le count max_bytes) count Long) n e in
    let h = if_ok (nat_le b.0 max_bytes) b.0 n Long b.2 in
    let within : b.0 ≤ max_bytes = grind (arith, nat_tests) in
    subst (λ m. m ≤ max_bytes) h.1 within

short_data : (word bytes : List ℕ) → hex_data word ≡ Ok bytes → length bytes ≤ max_bytes
short_data word bytes e =
    let b = bind_ok (hex_of (decode_of word)) (λ bs. ok_or_cause (nat_le (length bs) max_bytes) bs Long) bytes e in
    let h = if_ok (nat_le (length b.0) max_bytes) b.0 bytes Long b.2 in
    let within : length b.0 ≤ max_bytes = grind (arith, nat_tests) in
    subst (λ (bs : List ℕ). length bs ≤ max_bytes) h.1 within

spelled_data : (word bytes : List ℕ) → data_of word ≡ Ok bytes → length bytes ≤ max_bytes
unfolding data_of
spelled_data word bytes e = by_dash (bytes_eq word (codes "-")) (length word == 0) e
  where
    by_dash : (dash empty : Bool) → cond dash (Ok []) (cond empty (Err Hex) (hex_data word)) ≡ Ok bytes → length bytes ≤ max_bytes
    by_dash true empty is = let same : [] ≡ bytes = cc is in subst (λ (bs : List ℕ). length bs ≤ max_bytes) same (omega arith)
    by_dash false true is = absurd (cc is)
    by_dash false false is = short_data word bytes is

-- ---- the words of a call

at_ok : {T : Type 0} (column : ℕ) (x : Result T Why) (v : T) → at_column column x ≡ Ok v → x ≡ Ok v
at_ok column (Ok a) v e = ap Ok (same_ok a v e)
at_ok column (Err why) v e = absurd (cc e)

read_ok : {T : Type 0} (after : ℕ) (spells : List ℕ → Result T Why) (words : List Word) (v : T) → AreWords words → read after spells words ≡ Ok v
    → (bytes : List ℕ) × AllByRecursion IsWordByte bytes × (spells bytes ≡ Ok v)
unfolding read
read_ok after spells [] v h e = absurd (cc e)
read_ok after spells (w ∷ words) v h e = (w.bytes, h.0, at_ok w.column (spells w.bytes) v e)

read_path : (after : ℕ) (words : List Word) (path : List (List ℕ)) → AreWords words → read after path_of words ≡ Ok path → AreNames path
read_path after words path h e = let r = read_ok after path_of words path h e in spelled_path r.0 path r.1 r.2

read_length : (after : ℕ) (words : List Word) (n : ℕ) → AreWords words → read after length_of words ≡ Ok n → n ≤ max_bytes
read_length after words n h e = let r = read_ok after length_of words n h e in spelled_length r.0 n r.2

read_data : (after : ℕ) (words : List Word) (bytes : List ℕ) → AreWords words → read after data_of words ≡ Ok bytes → length bytes ≤ max_bytes
read_data after words bytes h e = let r = read_ok after data_of words bytes h e in spelled_data r.0 bytes r.2

lone_names : (after : ℕ) (words : List Word) (path : List (List ℕ)) → AreWords words → lone_path after words ≡ Ok path → AreNames path
unfolding lone_path
lone_names after words path h e =
    let b = bind_ok (read after path_of words) (λ p. no_more (others words) >>= (λ end. Ok p)) path e in
    let last = bind_ok (no_more (others words)) (λ end. Ok b.0) path b.2 in
    subst AreNames (same_ok b.0 path last.2) (read_path after words b.0 h b.1)

of_path : (make : List (List ℕ) → Call) → ((path : List (List ℕ)) → AreNames path → IsBounded (make path)) → (after : ℕ) (words : List Word) (made : Call) → AreWords words
    → path_call make after words ≡ Ok made → IsBounded made
of_path make bounded after words made h e =
    let b = bind_ok (lone_path after words) (λ path. Ok (make path)) made e in
    subst IsBounded (same_ok (make b.0) made b.2) (bounded b.0 (lone_names after words b.0 h b.1))

of_rename : (after : ℕ) (words : List Word) (made : Call) → AreWords words → rename_of after words ≡ Ok made → IsBounded made
unfolding rename_of
of_rename after words made h e =
    let from = bind_ok (read after path_of words) (λ p. lone_path after (others words) >>= (λ q. Ok (call.Rename p q))) made e in
    let to = bind_ok (lone_path after (others words)) (λ q. Ok (call.Rename from.0 q)) made from.2 in
    subst IsBounded (same_ok (call.Rename from.0 to.0) made to.2)
    (record { names = (read_path after words from.0 h from.1, (lone_names after (others words) to.0 (others_all words h) to.1, tt)); bytes = tt })

of_write : (after : ℕ) (words : List Word) (made : Call) → AreWords words → write_of after words ≡ Ok made → IsBounded made
unfolding write_of
of_write after words made h e =
    let w2 = others words in
    let w3 = others w2 in
    let w4 = others w3 in
    let path = bind_ok (read after path_of words) (λ p. read after number_of w2 >>= (λ n. read after data_of w3 >>= (λ bs. no_more w4 >>= (λ end. Ok (call.Write p n bs))))) made e in
    let from = bind_ok (read after number_of w2) (λ n. read after data_of w3 >>= (λ bs. no_more w4 >>= (λ end. Ok (call.Write path.0 n bs)))) made path.2 in
    let bytes = bind_ok (read after data_of w3) (λ bs. no_more w4 >>= (λ end. Ok (call.Write path.0 from.0 bs))) made from.2 in
    let last = bind_ok (no_more w4) (λ end. Ok (call.Write path.0 from.0 bytes.0)) made bytes.2 in
    subst IsBounded (same_ok (call.Write path.0 from.0 bytes.0) made last.2)
    (record { names = (read_path after words path.0 h path.1, tt); bytes = read_data after w3 bytes.0 (others_all w2 (others_all words h)) bytes.1 })

of_fill : (after : ℕ) (words : List Word) (made : Call) → AreWords words → fill_of after words ≡ Ok made → IsBounded made
unfolding fill_of
of_fill after words made h e =
    let w2 = others words in
    let w3 = others w2 in
    let w4 = others w3 in
    let w5 = others w4 in
    let path = bind_ok (read after path_of words) (λ p. read after number_of w2 >>= (λ n. read after length_of w3 >>= (λ m. read after byte_of w4 >>= (λ b. no_more w5 >>= (λ end. Ok (call.Fill p n m b)))))) made e in
    let from = bind_ok (read after number_of w2) (λ n. read after length_of w3 >>= (λ m. read after byte_of w4 >>= (λ b. no_more w5 >>= (λ end. Ok (call.Fill path.0 n m b))))) made path.2 in
    let count = bind_ok (read after length_of w3) (λ m. read after byte_of w4 >>= (λ b. no_more w5 >>= (λ end. Ok (call.Fill path.0 from.0 m b)))) made from.2 in
    let byte = bind_ok (read after byte_of w4) (λ b. no_more w5 >>= (λ end. Ok (call.Fill path.0 from.0 count.0 b))) made count.2 in
    let last = bind_ok (no_more w5) (λ end. Ok (call.Fill path.0 from.0 count.0 byte.0)) made byte.2 in
    subst IsBounded (same_ok (call.Fill path.0 from.0 count.0 byte.0) made last.2)
    (record { names = (read_path after words path.0 h path.1, tt); bytes = read_length after w3 count.0 (others_all w2 (others_all words h)) count.1 })

of_read : (after : ℕ) (words : List Word) (made : Call) → AreWords words → read_of after words ≡ Ok made → IsBounded made
unfolding read_of
of_read after words made h e =
    let w2 = others words in
    let w3 = others w2 in
    let w4 = others w3 in
    let path = bind_ok (read after path_of words) (λ p. read after number_of w2 >>= (λ n. read after length_of w3 >>= (λ m. no_more w4 >>= (λ end. Ok (call.Read p n m))))) made e in
    let from = bind_ok (read after number_of w2) (λ n. read after length_of w3 >>= (λ m. no_more w4 >>= (λ end. Ok (call.Read path.0 n m)))) made path.2 in
    let count = bind_ok (read after length_of w3) (λ m. no_more w4 >>= (λ end. Ok (call.Read path.0 from.0 m))) made from.2 in
    let last = bind_ok (no_more w4) (λ end. Ok (call.Read path.0 from.0 count.0)) made count.2 in
    subst IsBounded (same_ok (call.Read path.0 from.0 count.0) made last.2)
    (record { names = (read_path after words path.0 h path.1, tt); bytes = read_length after w3 count.0 (others_all w2 (others_all words h)) count.1 })

of_truncate : (after : ℕ) (words : List Word) (made : Call) → AreWords words → truncate_of after words ≡ Ok made → IsBounded made
unfolding truncate_of
of_truncate after words made h e =
    let w2 = others words in
    let path = bind_ok (read after path_of words) (λ p. read after number_of w2 >>= (λ n. no_more (others w2) >>= (λ end. Ok (call.Truncate p n)))) made e in
    let size = bind_ok (read after number_of w2) (λ n. no_more (others w2) >>= (λ end. Ok (call.Truncate path.0 n))) made path.2 in
    let last = bind_ok (no_more (others w2)) (λ end. Ok (call.Truncate path.0 size.0)) made size.2 in
    subst IsBounded (same_ok (call.Truncate path.0 size.0) made last.2) (record { names = (read_path after words path.0 h path.1, tt); bytes = tt })

of_none : (one made : Call) → IsBounded one → (words : List Word) → bare_call one words ≡ Ok made → IsBounded made
of_none one made bounded words e =
    let b = bind_ok (no_more words) (λ end. Ok one) made e in
    subst IsBounded (same_ok one made b.2) bounded

called : (after : ℕ) (command : Command) (words : List Word) (made : Call) → AreWords words → call_of after command words ≡ Ok made → IsBounded made
unfolding call_of
called after Mkdir words made h e = of_path call.Mkdir (λ path names. record { names = (names, tt); bytes = tt }) after words made h e
called after Rmdir words made h e = of_path call.Rmdir (λ path names. record { names = (names, tt); bytes = tt }) after words made h e
called after Create words made h e = of_path call.Create (λ path names. record { names = (names, tt); bytes = tt }) after words made h e
called after Unlink words made h e = of_path call.Unlink (λ path names. record { names = (names, tt); bytes = tt }) after words made h e
called after Stat words made h e = of_path call.Stat (λ path names. record { names = (names, tt); bytes = tt }) after words made h e
called after ListCommand words made h e = of_path call.List (λ path names. record { names = (names, tt); bytes = tt }) after words made h e
called after Rename words made h e = of_rename after words made h e
called after Write words made h e = of_write after words made h e
called after Fill words made h e = of_fill after words made h e
called after Read words made h e = of_read after words made h e
called after Truncate words made h e = of_truncate after words made h e
called after Sync words made h e = of_none call.Sync made (record { names = tt; bytes = tt }) words e
called after Clean words made h e = of_none call.Clean made (record { names = tt; bytes = tt }) words e

-- ---- what a line says

abbrev IsSaid : Said → Type 0
IsSaid (CallOf worker made) = IsBounded made
IsSaid Nothing = Unit {0}
IsSaid Barrier = Unit {0}

of_worker : (after : ℕ) (words : List Word) (said : Said) → AreWords words → worker_call after words ≡ Ok said → IsSaid said
unfolding worker_call
of_worker after words said h e =
    let w2 = others words in
    let worker = bind_ok (read after worker_of words) (λ w. read after command_of w2 >>= (λ c. call_of after c (others w2) >>= (λ made. Ok (CallOf w made)))) said e in
    let command = bind_ok (read after command_of w2) (λ c. call_of after c (others w2) >>= (λ made. Ok (CallOf worker.0 made))) said worker.2 in
    let made = bind_ok (call_of after command.0 (others w2)) (λ one. Ok (CallOf worker.0 one)) said command.2 in
    subst IsSaid (same_ok (CallOf worker.0 made.0) said made.2) (called after command.0 (others w2) made.0 (others_all w2 (others_all words h)) made.1)

of_barrier : (words : List Word) (said : Said) → barrier words ≡ Ok said → IsSaid said
of_barrier words said e = let b = bind_ok (no_more words) (λ end. Ok Barrier) said e in subst IsSaid (same_ok Barrier said b.2) tt

of_words : (after : ℕ) (words : List Word) (said : Said) → AreWords words → words_say after words ≡ Ok said → IsSaid said
unfolding words_say
of_words after [] said h e = subst IsSaid (same_ok Nothing said e) tt
of_words after (w ∷ words) said h e = by_test (bytes_eq w.bytes (codes "barrier")) e
  where
    by_test : (b : Bool) → cond b (barrier words) (worker_call after (w ∷ words)) ≡ Ok said → IsSaid said
    by_test true is = of_barrier words said is
    by_test false is = of_worker after (w ∷ words) said h is

of_bytes : (line : List ℕ) (said : Said) → bytes_say line ≡ Ok said → IsSaid said
unfolding bytes_say
of_bytes line said e = by_tests (nat_lt max_line (length line)) (is_comment (words_from 1 line)) (position is_control line) refl e
  where
    by_tests : (long comment : Bool) (at : Option ℕ) → position is_control line ≡ at
        → cond long (refused (max_line + 1) Long) (cond comment (Ok Nothing) (control_or at (words_say (length line + 1) (words_from 1 line)))) ≡ Ok said → IsSaid said
    by_tests true comment at is e' = absurd (cc e')
    by_tests false true at is e' = subst IsSaid (same_ok Nothing said e') tt
    by_tests false false (Some k) is e' = absurd (cc e')
    by_tests false false None is e' = of_words (length line + 1) (words_from 1 line) said (words_all 1 line (none_all line is)) e'

pub said_bounded : (raw : List ℕ) (worker : ℕ) (made : Call) → line_says raw ≡ Ok (CallOf worker made) → IsBounded made
unfolding line_says
said_bounded raw worker made e = of_bytes (without_return raw) (CallOf worker made) e
