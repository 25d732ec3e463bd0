-- Each line of a soak says a call.
use Rattle.std.proofs.Common.{◌≡◌, ◌<◌, ◌≤◌, ℕ, ◌+◌, ◌-◌, ◌*◌, ◌/◌, ◌%◌, ◌^◌, Bool, true, false, cond, List, [], ◌∷◌, ◌++◌, length, refl, ◌∙◌, ap, arith, append_assoc, length-append}
use Rattle.std.specs.Prelude.{◌==◌, nat_lt, codes, decimal, bytes_eq, slice_index, ◌&&◌, min}
use Rattle.std.specs.List.{AllByRecursion, list_all}
use Rattle.std.proofs.lemmas.Bool.Decides.{nat_tests}
use Rattle.std.proofs.lemmas.Fmt.{length-decimal-le, decimal_digit}
use Rattle.hex.specs.Hex.{encode_with, encode_lower}
use Rattle.nl_tree.specs.declared.call.Call.TheVariants as call
use Rattle.nl_script.proofs.Tokens.{IsToken, is_plain, plain_literal, joined, no_line_feed}
use Rattle.nl_script.proofs.Says.{IsWorker, mkdir_line, create_line, unlink_line, stat_line, sync_line, rename_line, truncate_line, read_line, write_line, fill_line}
use Rattle.nl_script.proofs.Accepted.{IsCallOf, ended, HasNoEnd}
use Rattle.nl_gen.specs.declared.drawn.Drawn.{Drawn}
use Rattle.nl_gen.specs.declared.drawn.Drawn.TheVariants.{Create, Fill, Write, Read, Truncate, Unlink, Rename, Stat, Sync}
use Rattle.nl_gen.specs.Soak.{file_text, directory_text, four_bytes, line_text, mkdir_text, drawn_of, of_kind, of_others, renamed, filled, cap_of, file_number}
use Rattle.nl_gen.proofs.Spelled.{number_token, number_spelled, length_spelled, worker_token, worker_spelled, byte_token, byte_spelled, data_token, data_spelled, directory_path, file_path, directory_is, file_is, directory_spelled, file_spelled, directory_token, file_token}

-- ---- what is drawn

abbrev pub InRange : Drawn → Type 0
InRange (Create f) = f < 4
InRange (Fill f from len byte) = (f < 4) × (from < 2 ^ 32) × (len ≤ 65536) × (byte < 256)
InRange (Write f from word) = (f < 4) × (from < 2 ^ 32)
InRange (Read f from len) = (f < 4) × (from < 2 ^ 32) × (len ≤ 256)
InRange (Truncate f size) = (f < 4) × (size < 2 ^ 32)
InRange (Unlink f) = f < 4
InRange (Rename f other) = (f < 4) × (other < 4)
InRange (Stat f) = f < 4
InRange Sync = Unit {0}

either : (b : Bool) (x y : Drawn) → InRange x → InRange y → InRange (cond b x y)
either true x y h k = h
either false x y h k = k

others_in_range : (f b : ℕ) → f < 4 → InRange (of_others f b)
others_in_range f b h =
    either (b == 0) (Unlink f) (cond (b == 1) (renamed f) (cond (b == 2) Sync (Stat f))) h
    (either (b == 1) (renamed f) (cond (b == 2) Sync (Stat f)) (either (f == 0) (Stat f) (Rename f (1 + f % 3)) h (h, omega arith)) (either (b == 2) Sync (Stat f) tt h))

kind_in_range : (kind f cap a b byte : ℕ) → f < 4 → 32768 ≤ cap → cap ≤ 98304 → byte < 256 → InRange (of_kind kind f cap a b byte)
kind_in_range kind f cap a b byte h low high small =
    let some : 0 < cap = omega arith in
    let less : 0 < cap - 3 = omega arith in
    let at : a % cap < 2 ^ 32 = omega arith in
    let before : a % (cap - 3) < 2 ^ 32 = omega arith in
    let upto : a % (cap + 1) < 2 ^ 32 = omega arith in
    let len : min (1 + b % 32768) (cap - a % cap) ≤ 65536 = omega arith in
    let few : 1 + b % 256 ≤ 256 = omega arith in
    let last = cond (nat_lt kind 9) (Truncate f (a % (cap + 1))) (of_others f (b % 4)) in
    let third = cond (nat_lt kind 8) (Read f (a % cap) (1 + b % 256)) last in
    let second = cond (nat_lt kind 6) (Write f (a % (cap - 3)) b) third in
    let first = cond (nat_lt kind 5) (filled f cap (a % cap) b byte) second in
    either (nat_lt kind 2) (Create f) first h
    (either (nat_lt kind 5) (filled f cap (a % cap) b byte) second (h, at, len, small)
    (either (nat_lt kind 6) (Write f (a % (cap - 3)) b) third (h, before)
    (either (nat_lt kind 8) (Read f (a % cap) (1 + b % 256)) last (h, at, few)
    (either (nat_lt kind 9) (Truncate f (a % (cap + 1))) (of_others f (b % 4)) (h, upto) (others_in_range f (b % 4) h)))))

cap_low : (f : ℕ) (b : Bool) → 32768 ≤ cond {A = ℕ} b 98304 32768
cap_low f true = omega arith
cap_low f false = omega arith

cap_high : (f : ℕ) (b : Bool) → cond {A = ℕ} b 98304 32768 ≤ 98304
cap_high f true = omega arith
cap_high f false = omega arith

pub drawn_in_range : (r a b : ℕ) → InRange (drawn_of r a b)
unfolding drawn_of
drawn_in_range r a b =
    let f = file_number r in
    kind_in_range (r % 10) f (cap_of f) a b (r / 16777216 % 256) (omega arith) (cap_low f (f == 0)) (cap_high f (f == 0)) (omega arith)

-- ---- lengths

abbrev IsShort : List ℕ → Type 0
IsShort t = length t ≤ 12

short_joined : (ts : List (List ℕ)) → AllByRecursion IsShort ts → length (joined ts) ≤ 13 * length ts
short_joined [] h = omega arith
short_joined (t ∷ []) h = let one = h.0 in omega arith
short_joined (t ∷ u ∷ ts) h =
    let one = h.0 in
    let rest = short_joined (u ∷ ts) h.1 in
    omega (arith, length-append t (32 ∷ joined (u ∷ ts)))

short_number : (n : ℕ) → n < 2 ^ 32 → IsShort (decimal n)
short_number n h = let few = length-decimal-le 10 n (omega arith) (omega arith) (omega arith) in omega arith

short_file : (w f : ℕ) → w < 8 → f < 4 → IsShort (file_text w f)
short_file w f h k = let e = ap length (file_is w f h k) in omega arith

short_directory : (w : ℕ) → w < 8 → IsShort (directory_text w)
short_directory w h = let e = ap length (directory_is w h) in omega arith

short_byte : (b : ℕ) → IsShort (encode_lower (b ∷ []))
unfolding encode_with
short_byte b = omega arith

short_data : (n : ℕ) → IsShort (encode_lower (four_bytes n))
unfolding encode_with
short_data n = omega arith

-- ---- a line

and_false : (a : Bool) → (a && false) ≡ false
and_false true = refl
and_false false = refl

no_barrier : (c : ℕ) → bytes_eq (c ∷ []) (codes "barrier") ≡ false
no_barrier c = and_false (c == 98)

is_worker : (w : ℕ) → w < 8 → IsWorker (decimal w) w
is_worker w h = record {
  token = worker_token w h;
  spells = worker_spelled w h;
  no_barrier = ap (λ (d : List ℕ). bytes_eq d (codes "barrier")) (decimal_digit w (omega arith)) ∙ no_barrier (48 + w);
  no_comment = ap (λ (d : List ℕ). slice_index d 0 == 35) (decimal_digit w (omega arith)) ∙ let e : (48 + w == 35) ≡ false = grind (arith, nat_tests) in e;
}

-- the words of a line
abbrev pub tokens : ℕ → Drawn → List (List ℕ)
tokens w (Create f) = decimal w ∷ codes "create" ∷ file_text w f ∷ []
tokens w (Fill f from len byte) = decimal w ∷ codes "fill" ∷ file_text w f ∷ decimal from ∷ decimal len ∷ encode_lower (byte ∷ []) ∷ []
tokens w (Write f from word) = decimal w ∷ codes "write" ∷ file_text w f ∷ decimal from ∷ encode_lower (four_bytes word) ∷ []
tokens w (Read f from len) = decimal w ∷ codes "read" ∷ file_text w f ∷ decimal from ∷ decimal len ∷ []
tokens w (Truncate f size) = decimal w ∷ codes "truncate" ∷ file_text w f ∷ decimal size ∷ []
tokens w (Unlink f) = decimal w ∷ codes "unlink" ∷ file_text w f ∷ []
tokens w (Rename f other) = decimal w ∷ codes "rename" ∷ file_text w f ∷ file_text w other ∷ []
tokens w (Stat f) = decimal w ∷ codes "stat" ∷ file_text w f ∷ []
tokens w Sync = decimal w ∷ codes "sync" ∷ []

abbrev pub mkdir_tokens : ℕ → List (List ℕ)
mkdir_tokens w = decimal w ∷ codes "mkdir" ∷ directory_text w ∷ []

pub text_is : (w : ℕ) (d : Drawn) → line_text w d ≡ ended (joined (tokens w d))
unfolding line_text
text_is w (Create f) = simp append_assoc
text_is w (Fill f from len byte) = simp append_assoc
text_is w (Write f from word) = simp append_assoc
text_is w (Read f from len) = simp append_assoc
text_is w (Truncate f size) = simp append_assoc
text_is w (Unlink f) = simp append_assoc
text_is w (Rename f other) =
    let from = file_text w f in
    let to = file_text w other in
    ap (λ (t : List ℕ). t ++ 10 ∷ [])
    (append_assoc (decimal w) (codes " ") (codes "rename " ++ from ++ codes " " ++ to) ∙ ap (λ (t : List ℕ). decimal w ++ (codes " rename " ++ t)) (append_assoc from (codes " ") to))
text_is w (Stat f) = simp append_assoc
text_is w Sync = simp append_assoc

pub mkdir_is : (w : ℕ) → mkdir_text w ≡ ended (joined (mkdir_tokens w))
mkdir_is w = simp append_assoc

-- a line says a call, has no line feed, and is short
pub record IsGood (raw : List ℕ) : Type 0 where
  pub call_of : IsCallOf 256 raw
  pub no_end : HasNoEnd raw
  pub short : length raw ≤ 78

shorts : (w : ℕ) (d : Drawn) → w < 8 → InRange d → AllByRecursion IsShort (tokens w d)
shorts w (Create f) h r = (short_number w (omega arith), (omega arith, (short_file w f h r, tt)))
shorts w (Fill f from len byte) h r = (short_number w (omega arith), (omega arith, (short_file w f h r.0, (short_number from r.1, (short_number len (omega (arith, r.2)), (short_byte byte, tt))))))
shorts w (Write f from word) h r = (short_number w (omega arith), (omega arith, (short_file w f h r.0, (short_number from r.1, (short_data word, tt)))))
shorts w (Read f from len) h r = (short_number w (omega arith), (omega arith, (short_file w f h r.0, (short_number from r.1, (short_number len (omega (arith, r.2)), tt)))))
shorts w (Truncate f size) h r = (short_number w (omega arith), (omega arith, (short_file w f h r.0, (short_number size r.1, tt))))
shorts w (Unlink f) h r = (short_number w (omega arith), (omega arith, (short_file w f h r, tt)))
shorts w (Rename f other) h r = (short_number w (omega arith), (omega arith, (short_file w f h r.0, (short_file w other h r.1, tt))))
shorts w (Stat f) h r = (short_number w (omega arith), (omega arith, (short_file w f h r, tt)))
shorts w Sync h r = (short_number w (omega arith), (omega arith, tt))

few : (w : ℕ) (d : Drawn) → length (tokens w d) ≤ 6
few w (Create f) = omega arith
few w (Fill f from len byte) = omega arith
few w (Write f from word) = omega arith
few w (Read f from len) = omega arith
few w (Truncate f size) = omega arith
few w (Unlink f) = omega arith
few w (Rename f other) = omega arith
few w (Stat f) = omega arith
few w Sync = omega arith

word : (bs : List ℕ) → 0 < length bs → list_all is_plain bs ≡ true → IsToken bs
word bs some e = (some, plain_literal bs e)

words : (w : ℕ) (d : Drawn) → w < 8 → InRange d → AllByRecursion IsToken (tokens w d)
words w (Create f) h r = (worker_token w h, (word (codes "create") (omega arith) refl, (file_token w f h r, tt)))
words w (Fill f from len byte) h r = (worker_token w h, (word (codes "fill") (omega arith) refl, (file_token w f h r.0, (number_token from r.1, (number_token len (omega (arith, r.2)), (byte_token byte r.3, tt))))))
words w (Write f from n) h r = (worker_token w h, (word (codes "write") (omega arith) refl, (file_token w f h r.0, (number_token from r.1, (data_token n, tt)))))
words w (Read f from len) h r = (worker_token w h, (word (codes "read") (omega arith) refl, (file_token w f h r.0, (number_token from r.1, (number_token len (omega (arith, r.2)), tt)))))
words w (Truncate f size) h r = (worker_token w h, (word (codes "truncate") (omega arith) refl, (file_token w f h r.0, (number_token size r.1, tt))))
words w (Unlink f) h r = (worker_token w h, (word (codes "unlink") (omega arith) refl, (file_token w f h r, tt)))
words w (Rename f other) h r = (worker_token w h, (word (codes "rename") (omega arith) refl, (file_token w f h r.0, (file_token w other h r.1, tt))))
words w (Stat f) h r = (worker_token w h, (word (codes "stat") (omega arith) refl, (file_token w f h r, tt)))
words w Sync h r = (worker_token w h, (word (codes "sync") (omega arith) refl, tt))

small : (w : ℕ) (d : Drawn) → w < 8 → InRange d → length (joined (tokens w d)) ≤ 78
small w d h r = let all = short_joined (tokens w d) (shorts w d h r) in let six = few w d in omega arith

called : (w : ℕ) (d : Drawn) → w < 8 → InRange d → length (joined (tokens w d)) ≤ 140000 → IsCallOf 256 (joined (tokens w d))
called w (Create f) h r s =
    record { worker = w; made = call.Create (file_path w f); says = create_line (decimal w) w (is_worker w h) (file_text w f) (file_path w f) (file_token w f h r) (file_spelled w f h r) s; short = omega arith }
called w (Fill f from len byte) h r s =
    record {
      worker = w;
      made = call.Fill (file_path w f) from len byte;
      says =
          fill_line (decimal w) w (is_worker w h) (file_text w f) (decimal from) (decimal len) (encode_lower (byte ∷ [])) (file_path w f) from len byte (file_token w f h r.0) (number_token from r.1) (number_token len (omega (arith, r.2))) (byte_token byte r.3)
          (file_spelled w f h r.0) (number_spelled from r.1) (length_spelled len r.2) (byte_spelled byte r.3) s;
      short = omega arith;
    }
called w (Write f from n) h r s =
    record {
      worker = w;
      made = call.Write (file_path w f) from (four_bytes n);
      says =
          write_line (decimal w) w (is_worker w h) (file_text w f) (decimal from) (encode_lower (four_bytes n)) (file_path w f) from (four_bytes n) (file_token w f h r.0) (number_token from r.1) (data_token n) (file_spelled w f h r.0) (number_spelled from r.1)
          (data_spelled n) s;
      short = omega arith;
    }
called w (Read f from len) h r s =
    record {
      worker = w;
      made = call.Read (file_path w f) from len;
      says =
          read_line (decimal w) w (is_worker w h) (file_text w f) (decimal from) (decimal len) (file_path w f) from len (file_token w f h r.0) (number_token from r.1) (number_token len (omega (arith, r.2))) (file_spelled w f h r.0) (number_spelled from r.1)
          (length_spelled len (omega (arith, r.2))) s;
      short = r.2;
    }
called w (Truncate f size) h r s =
    record {
      worker = w;
      made = call.Truncate (file_path w f) size;
      says = truncate_line (decimal w) w (is_worker w h) (file_text w f) (decimal size) (file_path w f) size (file_token w f h r.0) (number_token size r.1) (file_spelled w f h r.0) (number_spelled size r.1) s;
      short = omega arith;
    }
called w (Unlink f) h r s =
    record { worker = w; made = call.Unlink (file_path w f); says = unlink_line (decimal w) w (is_worker w h) (file_text w f) (file_path w f) (file_token w f h r) (file_spelled w f h r) s; short = omega arith }
called w (Rename f other) h r s =
    record {
      worker = w;
      made = call.Rename (file_path w f) (file_path w other);
      says =
          rename_line (decimal w) w (is_worker w h) (file_text w f) (file_text w other) (file_path w f) (file_path w other) (file_token w f h r.0) (file_token w other h r.1) (file_spelled w f h r.0) (file_spelled w other h r.1) s;
      short = omega arith;
    }
called w (Stat f) h r s =
    record { worker = w; made = call.Stat (file_path w f); says = stat_line (decimal w) w (is_worker w h) (file_text w f) (file_path w f) (file_token w f h r) (file_spelled w f h r) s; short = omega arith }
called w Sync h r s = record { worker = w; made = call.Sync; says = sync_line (decimal w) w (is_worker w h) s; short = omega arith }

pub line_good : (w : ℕ) (d : Drawn) → w < 8 → InRange d → IsGood (joined (tokens w d))
line_good w d h r =
    let s = small w d h r in
    record { call_of = called w d h r (omega arith); no_end = no_line_feed (tokens w d) (words w d h r); short = s }

pub mkdir_good : (w : ℕ) → w < 8 → IsGood (joined (mkdir_tokens w))
mkdir_good w h =
    let all = short_joined (mkdir_tokens w) (short_number w (omega arith), (omega arith, (short_directory w h, tt))) in
    record {
      call_of = record {
        worker = w;
        made = call.Mkdir (directory_path w);
        says = mkdir_line (decimal w) w (is_worker w h) (directory_text w) (directory_path w) (directory_token w h) (directory_spelled w h) (omega arith);
        short = omega arith;
      };
      no_end = no_line_feed (mkdir_tokens w) (worker_token w h, (word (codes "mkdir") (omega arith) refl, (directory_token w h, tt)));
      short = omega arith;
    }
