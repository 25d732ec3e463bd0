-- Text that is written and text that waits, put together.
use Rattle.std.proofs.Common.{◌≡◌, ◌<◌, ◌≤◌, ℕ, ◌+◌, List, [], ◌++◌, append_assoc, length, take, drop, flat_map, refl, sym, ap, subst, ◌∙◌, arith}
use Rattle.std.specs.Prelude.{Option, None, Some, IfSome, slice_get}
use Rattle.std.specs.Option.{option_map}
use Rattle.std.proofs.lemmas.List.{append-nil, take-append-drop, take_all}
use Rattle.std.proofs.Math.Seq.{take-append_seam}
use Rattle.std.proofs.lemmas.Grind.{flat_map-append}
use Rattle.nl_io.specs.Streams.{WritesStream}
use Rattle.nl_io.specs.declared.sink.SinkAnswer.{SinkAnswer}
use Rattle.nl_io.specs.declared.sink.SinkAnswer.TheVariants as sink
use Rattle.nl_io.proofs.StreamsLaws.{stopped, then_write}
use Rattle.nl_cmd_answers.specs.Gathering.{WritesFront}
use Rattle.nl_cmd_answers.specs.Rows.{row_line}
use Rattle.nl_cmd_answers.proofs.Texts.{if_some, lines_one, row_there, took_nothing}
use Rattle.nl_workers.specs.Table.{Row}

abbrev told : Option (List ℕ) → List ℕ
told None = []
told (Some text) = text

-- a line waits, and the sink took nothing
pub waits : (old : Option (List ℕ)) (text waiting : List ℕ) (row : Option Row)
    → IfSome row (λ row. WritesStream (Some text) (Some waiting) sink.Took (row_line row))
    → IfSome row (λ row. WritesFront old old (text ++ row_line row) waiting)
waits old text waiting row is = if_some row (λ row e. ([], ap told e, took_nothing old)) is

-- what a line that had no room left behind is cut off
pub cut_back : (rows : List Row) (i : ℕ) → i < length rows → (text longer : List ℕ)
    → IfSome (slice_get rows i) (λ row. WritesStream (Some text) (Some longer) sink.Failed (row_line row)) → take (length text) longer ≡ text
cut_back rows i lt text longer is =
    let row = row_there rows i lt in
    let (n, fits, e) = subst (λ o. IfSome o (λ row. WritesStream (Some text) (Some longer) sink.Failed (row_line row))) row.1 is in
    ap (λ (t : List ℕ). take (length text) t) (ap told e) ∙ take-append_seam text (take n (row_line row.0))

-- all that waited is written, and a line behind it
pub written : (old mid new : Option (List ℕ)) (text : List ℕ) (row : Option Row) → WritesStream old mid sink.Took text
    → IfSome row (λ row. WritesStream mid new sink.Took (row_line row)) → IfSome row (λ row. WritesFront old new (text ++ row_line row) [])
written old mid new text row first is =
    if_some row (λ row e. (text ++ row_line row, append-nil (text ++ row_line row), then_write old mid new sink.Took text (row_line row) first e)) is

-- a failure ended what waited
pub failed_first : (old new : Option (List ℕ)) (text : List ℕ) (rows : List Row) (i : ℕ) → i < length rows → WritesStream old new sink.Failed text
    → IfSome (slice_get rows i) (λ row. WritesStream old new sink.Failed (text ++ row_line row))
failed_first old new text rows i lt is =
    let row = row_there rows i lt in
    subst (λ o. IfSome o (λ row. WritesStream old new sink.Failed (text ++ row_line row))) (sym row.1) (stopped old new text (row_line row.0) is)

-- a failure ended the line behind it
pub failed_behind : (old mid new : Option (List ℕ)) (text : List ℕ) (row : Option Row) → WritesStream old mid sink.Took text
    → IfSome row (λ row. WritesStream mid new sink.Failed (row_line row)) → IfSome row (λ row. WritesStream old new sink.Failed (text ++ row_line row))
failed_behind old mid new text row first is = if_some row (λ row e. then_write old mid new sink.Failed text (row_line row) first e) is

-- a further write takes what waited, and more
further : (old mid new : Option (List ℕ)) (answer : SinkAnswer) (text waiting more : List ℕ) → WritesFront old mid text waiting
    → WritesStream mid new answer (waiting ++ more) → WritesStream old new answer (text ++ more)
further old mid new answer text waiting more (front, is, took) next =
    subst (λ (t : List ℕ). WritesStream old new answer t) (sym (append_assoc front waiting more) ∙ ap (λ (t : List ℕ). t ++ more) is)
    (then_write old mid new answer front (waiting ++ more) took next)

-- the lines up to a row are written or wait, with its line
pub one_line : (old mid new : Option (List ℕ)) (rows : List Row) (i : ℕ) → i < length rows → (waiting then : List ℕ)
    → WritesFront old mid (flat_map row_line (take i rows)) waiting
    → IfSome (slice_get rows i) (λ row. WritesFront mid new (waiting ++ row_line row) then)
    → WritesFront old new (flat_map row_line (take (i + 1) rows)) then
one_line old mid new rows i lt waiting then (front, is, took) next =
    let row = row_there rows i lt in
    let (more, gives, wrote) = subst (λ o. IfSome o (λ row. WritesFront mid new (waiting ++ row_line row) then)) row.1 next in (
      front ++ more,
      append_assoc front more then ∙ ap (λ (t : List ℕ). front ++ t) gives ∙ sym (append_assoc front waiting (row_line row.0))
          ∙ ap (λ (t : List ℕ). t ++ row_line row.0) is ∙ lines_one rows i row.0 row.1,
      then_write old mid new sink.Took front more took wrote,
    )

-- a failure ended the lines
pub failed_lines : (old mid new : Option (List ℕ)) (rows : List Row) (i : ℕ) → i < length rows → (waiting : List ℕ)
    → WritesFront old mid (flat_map row_line (take i rows)) waiting
    → IfSome (slice_get rows i) (λ row. WritesStream mid new sink.Failed (waiting ++ row_line row))
    → WritesStream old new sink.Failed (flat_map row_line rows)
failed_lines old mid new rows i lt waiting front next =
    let row = row_there rows i lt in
    let failed = further old mid new sink.Failed (flat_map row_line (take i rows)) waiting (row_line row.0) front
    (subst (λ o. IfSome o (λ row. WritesStream mid new sink.Failed (waiting ++ row_line row))) row.1 next) in
    let left = flat_map row_line (drop (i + 1) rows) in
    let whole : (flat_map row_line (take i rows) ++ row_line row.0) ++ left ≡ flat_map row_line rows =
    ap (λ (t : List ℕ). t ++ left) (lines_one rows i row.0 row.1) ∙ sym (flat_map-append row_line (take (i + 1) rows) (drop (i + 1) rows))
    ∙ ap (flat_map row_line) (take-append-drop (i + 1) rows) in
    subst (λ (t : List ℕ). WritesStream old new sink.Failed t) whole (stopped old new (flat_map row_line (take i rows) ++ row_line row.0) left failed)

-- the last lines that wait are written
pub last_lines : (old mid new : Option (List ℕ)) (answer : SinkAnswer) (rows : List Row) (i : ℕ) → length rows ≤ i → (waiting : List ℕ)
    → WritesFront old mid (flat_map row_line (take i rows)) waiting → WritesStream mid new answer waiting → WritesStream old new answer (flat_map row_line rows)
last_lines old mid new answer rows i le waiting front next =
    subst (λ (t : List ℕ). WritesStream old new answer t)
    (append-nil (flat_map row_line (take i rows)) ∙ ap (flat_map row_line) (take_all i rows le))
    (further old mid new answer (flat_map row_line (take i rows)) waiting [] front (subst (λ (t : List ℕ). WritesStream mid new answer t) (sym (append-nil waiting)) next))
