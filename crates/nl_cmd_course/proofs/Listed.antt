-- One row more is listed.
use Rattle.std.proofs.Common.{◌≡◌, ℕ, ◌+◌, ◌≤◌, List, [], ◌∷◌, ◌++◌, take, length, Option, Some, None, refl, ap, ◌∙◌, arith}
use Rattle.std.proofs.lemmas.List.{take_more}
use Rattle.std.proofs.lemmas.List.Elements.{filter_map-append}
use Rattle.std.proofs.lemmas.Option.{get_or_from_slice_get, slice_get_within}
use Rattle.std.specs.List.{cons_option}
use Rattle.std.specs.Prelude.{option_to_list, slice_get}
use mathlib.Core.List.{map-append}
use Rattle.nl_workers.specs.Table.{Row}
use Rattle.nl_cmd_course.specs.Rounds.{order_of_rows, ordered_row, synced_row, syncs_of_rows}

one_more : {A : Type 0} (xs : List A) (i : ℕ) (x : A) → slice_get xs i ≡ Some x → take (i + 1) xs ≡ take i xs ++ x ∷ []
one_more xs i x e = take_more xs i x (slice_get_within xs i x e) ∙ ap (λ y. take i xs ++ y ∷ []) (get_or_from_slice_get xs i x x e)

one_option : {A : Type 0} (o : Option A) → cons_option o [] ≡ option_to_list o
one_option None = refl
one_option (Some a) = refl

pub order_more : (rows : List Row) (i : ℕ) (row : Row) → slice_get rows i ≡ Some row → order_of_rows (take (i + 1) rows) ≡ order_of_rows (take i rows) ++ ordered_row row ∷ []
order_more rows i row e = ap order_of_rows (one_more rows i row e) ∙ map-append ordered_row (take i rows) (row ∷ [])

pub syncs_more : (rows : List Row) (i : ℕ) (row : Row) → slice_get rows i ≡ Some row → syncs_of_rows (take (i + 1) rows) ≡ syncs_of_rows (take i rows) ++ option_to_list (synced_row row.line row.answered.reply)
syncs_more rows i row e =
    ap syncs_of_rows (one_more rows i row e)
    ∙ (filter_map-append (λ (r : Row). synced_row r.line r.answered.reply) (take i rows) (row ∷ []) ∙ ap (λ z. syncs_of_rows (take i rows) ++ z) (one_option (synced_row row.line row.answered.reply)))

pub few_options : {A : Type 0} (o : Option A) → length (option_to_list o) ≤ 1
few_options None = omega arith
few_options (Some a) = omega arith
