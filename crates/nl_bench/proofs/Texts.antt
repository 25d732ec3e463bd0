-- The text of lines, from the first on, as a sink takes it.
use Rattle.std.proofs.Common.{◌≡◌, ℕ, ◌+◌, List, [], ◌∷◌, ◌++◌, drop, refl, sym, ap, ◌∙◌, arith, append_assoc, subst}
use Rattle.std.proofs.lemmas.List.{append-nil, drop_more}
use Rattle.std.proofs.lemmas.Option.{get_or_from_slice_get, slice_get_within}
use Rattle.std.specs.Prelude.{Option, None, Some, Result, Ok, Err, IfOk, OnErr, slice_get}
use Rattle.nl_field.specs.declared.shape.Shape.{Shape}
use Rattle.nl_io.specs.Streams.{WritesStream}
use Rattle.nl_io.specs.declared.sink.SinkAnswer.{SinkAnswer}
use Rattle.nl_io.specs.declared.sink.SinkAnswer.TheVariants as sink
use Rattle.nl_io.proofs.StreamsLaws.{stopped, then_write}
use Rattle.nl_print.specs.Texts.{answer_line, opened_line}
use Rattle.nl_tree.specs.declared.call.Line.{Line}
use Rattle.nl_tree_model.specs.PlainTree.{PlainState}
use Rattle.nl_bench.specs.Played.{answered_by, lines_text, new_state, played_text, state_after}

-- a sink that took nothing took the whole of no text
took_nothing : (old : Option (List ℕ)) → WritesStream old old sink.Took []
took_nothing None = refl
took_nothing (Some taken) = ap Some (sym (append-nil taken))

-- a sink that took nothing took a beginning of any text
pub took_none_of : (old : Option (List ℕ)) (text : List ℕ) → WritesStream old old sink.Failed text
took_none_of old text = (0, omega arith, took_nothing old)

pub on_err : {T E P : Type 0} (r : Result T E) → P → OnErr r P
on_err (Ok x) p = tt
on_err (Err e) p = p

-- ---- the lines from one on

-- the text of the lines from one on is its own line, and behind it the text of the later ones
text_from : (state : PlainState) (lines : List Line) (at : ℕ) (line : Line) → slice_get lines at ≡ Some line
    → lines_text state (drop at lines) ≡ answer_line (state.calls + 1) (answered_by state line) ++ lines_text (state_after state line) (drop (at + 1) lines)
text_from state lines at line found =
    ap (lines_text state) (drop_more lines at line (slice_get_within lines at line found) ∙ ap (λ (l : Line). l ∷ drop (at + 1) lines) (get_or_from_slice_get lines at line line found))

-- a sink took a front of the whole text, and the lines from here on have the rest
abbrev pub Told : Option (List ℕ) → Option (List ℕ) → PlainState → List Line → ℕ → List ℕ → Type 0
Told old new state lines at whole = (front : List ℕ) × WritesStream old new sink.Took front × (front ++ lines_text state (drop at lines) ≡ whole)

-- a line more in the front
one_more : (state : PlainState) (lines : List Line) (at : ℕ) (line : Line) (front whole : List ℕ) → slice_get lines at ≡ Some line → front ++ lines_text state (drop at lines) ≡ whole
    → (front ++ answer_line (state.calls + 1) (answered_by state line)) ++ lines_text (state_after state line) (drop (at + 1) lines) ≡ whole
one_more state lines at line front whole found is =
    append_assoc front (answer_line (state.calls + 1) (answered_by state line)) (lines_text (state_after state line) (drop (at + 1) lines))
    ∙ ap (λ (t : List ℕ). front ++ t) (sym (text_from state lines at line found)) ∙ is

in_place : (mid new : Option (List ℕ)) (answer : SinkAnswer) (state : PlainState) (place : ℕ) (line : Line) → place ≡ state.calls + 1 → WritesStream mid new answer (answer_line place (answered_by state line))
    → WritesStream mid new answer (answer_line (state.calls + 1) (answered_by state line))
in_place mid new answer state place line is text = subst (λ (p : ℕ). WritesStream mid new answer (answer_line p (answered_by state line))) is text

-- a line was run, and its text taken
pub ran_one : (old mid new : Option (List ℕ)) (state next : PlainState) (lines : List Line) (at place : ℕ) (line : Line) (whole : List ℕ) → Told old mid state lines at whole → slice_get lines at ≡ Some line
    → place ≡ state.calls + 1 → next ≡ state_after state line → WritesStream mid new sink.Took (answer_line place (answered_by state line)) → Told old new next lines (at + 1) whole
ran_one old mid new state next lines at place line whole (front, took, is) found there after text =
    let one = answer_line (state.calls + 1) (answered_by state line) in (
      front ++ one,
      then_write old mid new sink.Took front one took (in_place mid new sink.Took state place line there text),
      ap (λ (s : PlainState). (front ++ one) ++ lines_text s (drop (at + 1) lines)) after ∙ one_more state lines at line front whole found is,
    )

-- a line was run, and its text not taken whole
pub failed_in : (old mid new : Option (List ℕ)) (state : PlainState) (lines : List Line) (at place : ℕ) (line : Line) (whole : List ℕ) → Told old mid state lines at whole → slice_get lines at ≡ Some line
    → place ≡ state.calls + 1 → WritesStream mid new sink.Failed (answer_line place (answered_by state line)) → WritesStream old new sink.Failed whole
failed_in old mid new state lines at place line whole (front, took, is) found there text =
    let one = answer_line (state.calls + 1) (answered_by state line) in
    let rest = lines_text (state_after state line) (drop (at + 1) lines) in
    let two = then_write old mid new sink.Failed front one took (in_place mid new sink.Failed state place line there text) in
    subst (λ (t : List ℕ). WritesStream old new sink.Failed t) (one_more state lines at line front whole found is) (stopped old new (front ++ one) rest two)

-- no more lines are run
pub left_off : (old new : Option (List ℕ)) (state : PlainState) (lines : List Line) (at : ℕ) (whole : List ℕ) → Told old new state lines at whole → WritesStream old new sink.Failed whole
left_off old new state lines at whole (front, took, is) =
    let rest = lines_text state (drop at lines) in
    subst (λ (t : List ℕ). WritesStream old new sink.Failed t) is (then_write old new new sink.Failed front rest took (took_none_of new rest))

-- ---- all lines, behind the line of the opening

pub behind_opening : {E : Type 0} (old mid new : Option (List ℕ)) (shape : Shape) (state : PlainState) (lines : List Line) (r : Result SinkAnswer E) → state ≡ new_state shape
    → WritesStream old mid sink.Took (opened_line 0) → IfOk r (λ answer. WritesStream mid new answer (lines_text state lines)) → IfOk r (λ answer. WritesStream old new answer (played_text shape lines))
behind_opening old mid new shape state lines (Ok answer) is opened told =
    then_write old mid new answer (opened_line 0) (lines_text (new_state shape) lines) opened (subst (λ (s : PlainState). WritesStream mid new answer (lines_text s lines)) is told)
behind_opening old mid new shape state lines (Err e) is opened told = tt

pub left_behind_opening : {E : Type 0} (old mid new : Option (List ℕ)) (shape : Shape) (state : PlainState) (lines : List Line) (r : Result SinkAnswer E) → state ≡ new_state shape
    → WritesStream old mid sink.Took (opened_line 0) → OnErr r (WritesStream mid new sink.Failed (lines_text state lines)) → OnErr r (WritesStream old new sink.Failed (played_text shape lines))
left_behind_opening old mid new shape state lines (Ok answer) is opened told = tt
left_behind_opening old mid new shape state lines (Err e) is opened told =
    then_write old mid new sink.Failed (opened_line 0) (lines_text (new_state shape) lines) opened (subst (λ (s : PlainState). WritesStream mid new sink.Failed (lines_text s lines)) is told)
