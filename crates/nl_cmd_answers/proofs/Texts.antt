-- The text of rows, one after the other, and what they count.
use Rattle.std.proofs.Common.{◌≡◌, ◌<◌, ℕ, zero, suc, ◌+◌, List, [], ◌∷◌, ◌++◌, length, take, drop, flat_map, map, refl, sym, ap, subst, ◌∙◌, arith}
use Rattle.std.specs.Prelude.{Option, None, Some, IfSome, min, slice_get, cond}
use Rattle.nl_field.specs.CrashStates.{saturated}
use Rattle.std.proofs.lemmas.List.{append-nil, map-append, take-append-drop, take_more}
use Rattle.std.proofs.lemmas.List.Concat.{flat_map-cons}
use Rattle.std.proofs.lemmas.List.Sums.{sum_by_push}
use Rattle.std.proofs.lemmas.Grind.{flat_map-append}
use Rattle.std.proofs.lemmas.Option.{get_or_from_slice_get, slice_get_within}
use Rattle.nl_io.specs.Streams.{WritesStream}
use Rattle.nl_io.specs.declared.sink.SinkAnswer.TheVariants as sink
use Rattle.nl_print.specs.Texts.{Answered, answer_line, answer_lines}
use Rattle.nl_cmd_answers.specs.Rows.{HavePlaces, is_ok, ok_in, read_by, read_in, row_line, said, written_by, written_in}
use Rattle.nl_workers.specs.Table.{Row}

-- a sink that took nothing
pub took_nothing : (old : Option (List ℕ)) → WritesStream old old sink.Took []
took_nothing None = refl
took_nothing (Some taken) = ap Some (sym (append-nil taken))

one_more : (rows : List Row) (i : ℕ) (row : Row) → slice_get rows i ≡ Some row → take (i + 1) rows ≡ take i rows ++ row ∷ []
one_more rows i row e = take_more rows i row (slice_get_within rows i row e) ∙ ap (λ (r : Row). take i rows ++ r ∷ []) (get_or_from_slice_get rows i row row e)

-- the lines up to a row, with its line
pub lines_one : (rows : List Row) (i : ℕ) (row : Row) → slice_get rows i ≡ Some row → flat_map row_line (take i rows) ++ row_line row ≡ flat_map row_line (take (i + 1) rows)
lines_one rows i row e =
    sym (ap (flat_map row_line) (one_more rows i row e) ∙ flat_map-append row_line (take i rows) (row ∷ [])
    ∙ ap (λ (t : List ℕ). flat_map row_line (take i rows) ++ t) (append-nil (row_line row)))

-- the counts up to a row, with it
pub counts_one : (rows : List Row) (i : ℕ) (row : Row) → slice_get rows i ≡ Some row
    → (ok_in (map said (take (i + 1) rows)) ≡ ok_in (map said (take i rows)) + cond (is_ok row.answered.reply) 1 0)
    × (written_in (map said (take (i + 1) rows)) ≡ written_in (map said (take i rows)) + written_by row.answered.reply)
    × (read_in (map said (take (i + 1) rows)) ≡ read_in (map said (take i rows)) + read_by row.answered.reply row.bytes)
counts_one rows i row e =
    let more = ap (map said) (one_more rows i row e) ∙ map-append said (take i rows) (row ∷ []) in (
      ap ok_in more ∙ sum_by_push (λ (a : Answered). cond (is_ok a.1) 1 0) (map said (take i rows)) (said row),
      ap written_in more ∙ sum_by_push (λ (a : Answered). written_by a.1) (map said (take i rows)) (said row),
      ap read_in more ∙ sum_by_push (λ (a : Answered). read_by a.1 a.2) (map said (take i rows)) (said row),
    )

pub row_there : (rows : List Row) (i : ℕ) → i < length rows → (row : Row) × (slice_get rows i ≡ Some row)
row_there [] i lt = absurd (omega (arith, lt))
row_there (x ∷ rows) zero lt = (x, refl)
row_there (x ∷ rows) (suc i) lt = row_there rows i (omega (arith, lt))

-- one number more on a number that is kept up to the greatest
pub saturated_more : (a b : ℕ) → min (saturated a + b) 18446744073709551615 ≡ saturated (a + b)
saturated_more a b = omega arith

-- ---- rows in their places

pub if_some : {A : Type 0} {P Q : A → Type 0} (o : Option A) → ((x : A) → P x → Q x) → IfSome o P → IfSome o Q
if_some None step p = p
if_some (Some x) step p = step x p

pub lines_placed : (count : ℕ) (rows : List Row) → HavePlaces count rows → flat_map row_line rows ≡ answer_lines count (map said rows)
lines_placed count [] placed = refl
lines_placed count (r ∷ rows) placed =
    let first : r.answered.place ≡ count + 1 = omega (arith, placed 0) in
    let rest = lines_placed (count + 1) rows (λ i. if_some (slice_get rows i) (λ row is. omega (arith, is)) (placed (suc i))) in
    flat_map-cons row_line r rows ∙ (λ j. answer_line (first j) (said r) ++ rest j)
