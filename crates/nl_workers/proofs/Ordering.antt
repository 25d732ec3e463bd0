-- All lines are answered, each once and in order, and the rows are the answers.
use Rattle.std.proofs.Common.{◌≡◌, ◌⊎◌, inl, inr, ◌==◌, ◌^◌, ℕ, zero, suc, ◌+◌, ◌-◌, ◌<◌, ◌≤◌, Bool, true, false, cond, not, List, [], ◌∷◌, ◌++◌, filter, length, Option, Some, None, refl, sym, ap, ◌∙◌, subst, arith, append_assoc, eq-eqb, ne_eqb, length-append}
use Rattle.std.proofs.Math.Nat.{min-eq_left}
use Rattle.std.proofs.lemmas.List.{length-map}
use Rattle.std.proofs.lemmas.List.Elements.{filter-append, filter_map-append}
use Rattle.std.proofs.lemmas.List.Sorted.{length_permutation}
use Rattle.std.proofs.lemmas.List.Sums.{sum_by-cons, sum_by-append, sum_by_push}
use Rattle.std.specs.Prelude.{slice_get, take, filter_map, option_map, IfSome, Contains, IsTrue, IsPermutation, AllPairs, IsFalse}
use mathlib.Core.List.{map-append}
use Rattle.nl_field.specs.CrashStates.{top, saturated}
use Rattle.nl_tree.specs.Calls.{AreLines}
use Rattle.nl_tree.specs.Order.{has_to_precede}
use Rattle.nl_tree.specs.Replay.{Answers, answer_due, replay, step_marked}
use Rattle.nl_tree.specs.declared.call.Call.{Call}
use Rattle.nl_tree.specs.declared.call.Line.{Line}
use Rattle.nl_tree.specs.declared.reply.FaultReply.{FaultReply}
use Rattle.nl_turns.specs.History.{Opening, line_at, call_at, is_effect, effects, marked_calls, tree_after, fault_of}
use Rattle.nl_turns.specs.Seat.{Passed, SeatState, entries, passed_by}
use Rattle.nl_turns.specs.Served.{effect_entry, outcome_due}
use Rattle.nl_turns.specs.declared.entry.Entry.{Entry}
use Rattle.nl_turns.proofs.Lines.{get_at}
use Rattle.nl_workers.specs.Placed.{LineTookEffect, EndsStaged, effects_of}
use Rattle.nl_workers.specs.Table.{Row}
use Rattle.nl_workers.specs.Worked.{IsAnswer}
use Rattle.nl_workers.specs.Going.{HasRunAll, times_in}
use Rattle.nl_workers.specs.Rounds.{answered_lines, IsRowAt, EpochsRan}
use Rattle.nl_workers.specs.Spots.{row_in, row_at, row_or, rows_at, AreSpots, OrdinalsFit, IsSpotted, AreSpotted}
use Rattle.nl_workers.specs.declared.placing.Spot.{Spot}
use Rattle.nl_workers.specs.declared.station.Station.{Station}
use Rattle.nl_workers.proofs.Answering.{found_number, times_found, times_once, IsFound, answered_append, AreAnswered, are_answered, StandsAt, stands_at_index, is_from, first_found}
use Rattle.nl_workers.proofs.Epochs.{found_at, line_is, get_below, index_read}
use Rattle.nl_workers.proofs.Going.{station_at}
use Rattle.nl_workers.proofs.Permuting.{Each, each_front, keyed, permuted, same_split}

-- ---- lists

each_from : {A : Type 0} (P : A → Type 0) (xs : List A) → ((i : ℕ) (x : A) → slice_get xs i ≡ Some x → P x) → Each P xs
each_from P [] h = tt
each_from P (x ∷ xs) h = (h 0 x refl, each_from P xs (λ i y e. h (suc i) y e))

get_middle : {A : Type 0} (xs ys : List A) (x : A) → slice_get (xs ++ x ∷ ys) (length xs) ≡ Some x
get_middle [] ys x = refl
get_middle (z ∷ xs) ys x = get_middle xs ys x

take_front : {A : Type 0} (xs ys : List A) → take (length xs) (xs ++ ys) ≡ xs
take_front [] ys = refl
take_front (x ∷ xs) ys = ap (λ z. x ∷ z) (take_front xs ys)

none_zero : (xs : List Line) → Each (λ (l : Line). 0 < l.line) xs → keyed (λ (l : Line). l.line) 0 xs ≡ 0
none_zero [] h = refl
none_zero (x ∷ xs) h =
    let a : keyed (λ (l : Line). l.line) 0 (x ∷ xs) ≡ cond {A = ℕ} (x.line == 0) 1 0 + keyed (λ (l : Line). l.line) 0 xs = sum_by-cons (λ (l : Line). cond (l.line == 0) 1 0) x xs in
    let b : cond {A = ℕ} (x.line == 0) 1 0 ≡ 0 = ap (λ (t : Bool). cond {A = ℕ} t 1 0) (ne_eqb x.line 0 (λ e. let p = h.0 in omega arith)) in
    let c = none_zero xs h.1 in
    omega arith

each_map : {A : Type 0} (P Q : A → Type 0) (xs : List A) → ((x : A) → P x → Q x) → Each P xs → Each Q xs
each_map P Q [] f h = tt
each_map P Q (x ∷ xs) f h = (f x h.0, each_map P Q xs f h.1)

passed_keyed : (m : ℕ) (history : List Passed) → keyed (λ (p : Passed). p.entry.line) m history ≡ effects_of m (entries history)
passed_keyed m [] = refl
passed_keyed m (p ∷ ps) =
    let a : keyed (λ (q : Passed). q.entry.line) m (p ∷ ps) ≡ cond {A = ℕ} (p.entry.line == m) 1 0 + keyed (λ (q : Passed). q.entry.line) m ps = sum_by-cons (λ (q : Passed). cond (q.entry.line == m) 1 0) p ps in
    let b : effects_of m (entries (p ∷ ps)) ≡ cond {A = ℕ} (p.entry.line == m) 1 0 + effects_of m (entries ps) = sum_by-cons (λ (e : Entry). cond (e.line == m) 1 0) p.entry (entries ps) in
    let c = passed_keyed m ps in
    omega arith

effects_length : (es : List Entry) → length (filter is_effect es) ≡ effects es
effects_length [] = refl
effects_length (e ∷ es) = go (effects_length es) (is_effect e) refl
  where
    c : effects (e ∷ es) ≡ cond {A = ℕ} (is_effect e) 1 0 + effects es
    c = sum_by-cons (λ (x : Entry). cond (is_effect x) 1 0) e es

    go : length (filter is_effect es) ≡ effects es → (b : Bool) → is_effect e ≡ b → length (cond b (e ∷ filter is_effect es) (filter is_effect es)) ≡ effects (e ∷ es)
    go k true h = let d = c in let f : cond {A = ℕ} (is_effect e) 1 0 ≡ 1 = ap (λ (t : Bool). cond {A = ℕ} t 1 0) h in omega arith
    go k false h = let d = c in let f : cond {A = ℕ} (is_effect e) 1 0 ≡ 0 = ap (λ (t : Bool). cond {A = ℕ} t 1 0) h in omega arith

is_one : (e : Entry) → 0 < e.line → is_effect e ≡ true
is_one e some = ap not (ne_eqb e.line 0 (λ z. omega arith))

effects_snoc : (es : List Entry) (e : Entry) → 0 < e.line → effects (es ++ e ∷ []) ≡ effects es + 1
effects_snoc es e some =
    let a : effects (es ++ e ∷ []) ≡ effects es + cond {A = ℕ} (is_effect e) 1 0 = sum_by_push (λ (x : Entry). cond (is_effect x) 1 0) es e in
    let b : cond {A = ℕ} (is_effect e) 1 0 ≡ 1 = ap (λ (t : Bool). cond {A = ℕ} t 1 0) (is_one e some) in
    omega arith

effects_before : (xs ys : List Entry) (e : Entry) → 0 < e.line → effects xs + 1 ≤ effects (xs ++ e ∷ ys)
effects_before xs ys e some =
    let a : effects (xs ++ e ∷ ys) ≡ effects xs + effects (e ∷ ys) = sum_by-append (λ (x : Entry). cond (is_effect x) 1 0) xs (e ∷ ys) in
    let b : effects (e ∷ ys) ≡ cond {A = ℕ} (is_effect e) 1 0 + effects ys = sum_by-cons (λ (x : Entry). cond (is_effect x) 1 0) e ys in
    let c : cond {A = ℕ} (is_effect e) 1 0 ≡ 1 = ap (λ (t : Bool). cond {A = ℕ} t 1 0) (is_one e some) in
    omega arith

effect_at : (xs ys : List Entry) (e : Entry) → 0 < e.line → slice_get (filter is_effect (xs ++ e ∷ ys)) (effects xs) ≡ Some e
effect_at xs ys e some =
    let a : filter is_effect (e ∷ ys) ≡ e ∷ filter is_effect ys = ap (λ (t : Bool). cond t (e ∷ filter is_effect ys) (filter is_effect ys)) (is_one e some) in
    let b : filter is_effect (xs ++ e ∷ ys) ≡ filter is_effect xs ++ e ∷ filter is_effect ys = filter-append is_effect xs (e ∷ ys) ∙ ap (λ z. filter is_effect xs ++ z) a in
    ap (λ z. slice_get z (effects xs)) b ∙ (ap (slice_get (filter is_effect xs ++ e ∷ filter is_effect ys)) (sym (effects_length xs)) ∙ get_middle (filter is_effect xs) (filter is_effect ys) e)

-- ---- the calls with their marks

abbrev mark_of : Opening → Entry → Option (Call × Option FaultReply)
mark_of opening e = option_map (λ call. (call, fault_of e.fault)) (call_at opening.lines e.line)

marked_append : (opening : Opening) (xs ys : List Entry) → marked_calls opening (xs ++ ys) ≡ marked_calls opening xs ++ marked_calls opening ys
unfolding marked_calls
marked_append opening xs ys = ap (filter_map (mark_of opening)) (filter-append is_effect xs ys) ∙ filter_map-append (mark_of opening) (filter is_effect xs) (filter is_effect ys)

marked_one : (opening : Opening) (e : Entry) (es : List Entry) (l : Line) → 0 < e.line → line_at opening.lines e.line ≡ Some l → marked_calls opening (e ∷ es) ≡ (l.call, fault_of e.fault) ∷ marked_calls opening es
unfolding marked_calls
marked_one opening e es l some is =
    ap (λ (t : Bool). filter_map (mark_of opening) (cond t (e ∷ filter is_effect es) (filter is_effect es))) (is_one e some)
    ∙ first_found (mark_of opening) e (filter is_effect es) (l.call, fault_of e.fault) (ap (λ (o : Option Line). option_map (λ (call : Call). (call, fault_of e.fault)) (option_map (λ (z : Line). z.call) o)) is)

marked_none : (opening : Opening) (e : Entry) (es : List Entry) → e.line ≡ 0 → marked_calls opening (e ∷ es) ≡ marked_calls opening es
unfolding marked_calls
marked_none opening e es none = ap (λ (t : Bool). filter_map (mark_of opening) (cond t (e ∷ filter is_effect es) (filter is_effect es))) (ap not (eq-eqb e.line 0 none))

no_marks : (opening : Opening) → length (marked_calls opening []) ≡ 0
unfolding marked_calls
no_marks opening = refl

zero_or : (n : ℕ) → (n ≡ 0) ⊎ (0 < n)
zero_or zero = inl refl
zero_or (suc n) = inr (omega arith)

marked_length : (opening : Opening) (es : List Entry) → Each (IsFound opening.lines) es → length (marked_calls opening es) ≡ effects es
marked_length opening [] found = no_marks opening
marked_length opening (e ∷ es) found = go (marked_length opening es found.1) (zero_or e.line)
  where
    c : effects (e ∷ es) ≡ cond {A = ℕ} (is_effect e) 1 0 + effects es
    c = sum_by-cons (λ (x : Entry). cond (is_effect x) 1 0) e es

    go : length (marked_calls opening es) ≡ effects es → (e.line ≡ 0) ⊎ (0 < e.line) → length (marked_calls opening (e ∷ es)) ≡ effects (e ∷ es)
    go r (inl none) =
        let a : length (marked_calls opening (e ∷ es)) ≡ length (marked_calls opening es) = ap length (marked_none opening e es none) in
        let b : cond {A = ℕ} (is_effect e) 1 0 ≡ 0 = ap (λ (t : Bool). cond {A = ℕ} (not t) 1 0) (eq-eqb e.line 0 none) in
        let d = r in
        let f = c in
        omega arith
    go r (inr some) =
        let x = found.0 some in
        let a : length (marked_calls opening (e ∷ es)) ≡ suc (length (marked_calls opening es)) = ap length (marked_one opening e es x.0 some x.1) in
        let b : cond {A = ℕ} (is_effect e) 1 0 ≡ 1 = ap (λ (t : Bool). cond {A = ℕ} t 1 0) (is_one e some) in
        let d = r in
        let f = c in
        omega arith

due_at : (opening : Opening) (xs ys : List Entry) (e : Entry) (l : Line) → Each (IsFound opening.lines) xs → 0 < e.line → line_at opening.lines e.line ≡ Some l
    → answer_due opening.shape opening.tree (marked_calls opening (xs ++ e ∷ ys)) (effects xs) ≡ Some (step_marked opening.shape (tree_after opening xs) (l.call, fault_of e.fault))
due_at opening xs ys e l found some is =
    let calls : marked_calls opening (xs ++ e ∷ ys) ≡ marked_calls opening xs ++ (l.call, fault_of e.fault) ∷ marked_calls opening ys = marked_append opening xs (e ∷ ys) ∙ ap (λ z. marked_calls opening xs ++ z) (marked_one opening e ys l some is) in
    let count : effects xs ≡ length (marked_calls opening xs) = sym (marked_length opening xs found) in
    (λ i. answer_due opening.shape opening.tree (calls i) (count i))
    ∙ (λ i. option_map (step_marked opening.shape (replay opening.shape opening.tree (take_front (marked_calls opening xs) ((l.call, fault_of e.fault) ∷ marked_calls opening ys) i)))
    (get_middle (marked_calls opening xs) (marked_calls opening ys) (l.call, fault_of e.fault) i))

deeper : {A : Type 0} (xs : List A) (x : A) (ys : List A) (y : A) (zs mid all : List A) → xs ++ x ∷ ys ≡ mid → mid ++ y ∷ zs ≡ all → xs ++ x ∷ (ys ++ y ∷ zs) ≡ all
deeper xs x ys y zs mid all inner outer = sym (append_assoc xs (x ∷ ys) (y ∷ zs)) ∙ (ap (λ z. z ++ y ∷ zs) inner ∙ outer)

not_above : (i j m n : ℕ) → i < j → m ≡ j → n ≡ i → m ≤ n → ⊥
not_above i j m n lt e f le = omega arith

fewer_before : (lines : List Line) (xs : List Passed) (x : Passed) (ys all : List Passed) → xs ++ x ∷ ys ≡ all → length (answered_lines lines (entries xs)) ≤ length (answered_lines lines (entries all))
fewer_before lines xs x ys all is =
    let d : length (answered_lines lines (entries all)) ≡ length (answered_lines lines (entries xs) ++ answered_lines lines (entries (x ∷ ys))) =
    ap (λ z. length (answered_lines lines (entries z))) (sym is) ∙ (ap (λ z. length (answered_lines lines z)) (map-append (λ (q : Passed). q.entry) xs (x ∷ ys)) ∙ ap length (answered_append lines (entries xs) (entries (x ∷ ys)))) in
    let g = length-append (answered_lines lines (entries xs)) (answered_lines lines (entries (x ∷ ys))) in
    omega arith

-- ---- the history of all lines

effects_some : (e : Entry) (es : List Entry) → 0 < effects_of e.line (e ∷ es)
effects_some e es =
    let a : effects_of e.line (e ∷ es) ≡ cond {A = ℕ} (e.line == e.line) 1 0 + effects_of e.line es = sum_by-cons (λ (x : Entry). cond (x.line == e.line) 1 0) e es in
    let b : cond {A = ℕ} (e.line == e.line) 1 0 ≡ 1 = ap (λ (t : Bool). cond {A = ℕ} t 1 0) (eq-eqb e.line e.line refl) in
    omega arith

each_found : (lines : List Line) (es : List Entry) → ((m : ℕ) → 0 < m → 0 < effects_of m es → 0 < times_in m lines) → Each (IsFound lines) es
each_found lines [] known = tt
each_found lines (e ∷ es) known = (
  λ some. times_found e.line lines (known e.line some (effects_some e es)),
  each_found lines es (λ m some there.
      let a : effects_of m (e ∷ es) ≡ cond {A = ℕ} (e.line == m) 1 0 + effects_of m es = sum_by-cons (λ (x : Entry). cond (x.line == m) 1 0) e es in
      known m some (omega arith)),
)

module _ (tells : Type 0) (lines : List Line) (seat after : SeatState) (stations : List Station) (are : AreLines lines) (has : seat.opening.lines ≡ lines) (small : length lines < 2 ^ 32)
    (w : HasRunAll tells lines seat after stations) where
  abbrev es : List Entry
  es = entries after.seen

  found : Each (IsFound lines) es
  found = each_found lines es (λ m some there. let d = w.done m some in omega arith)

  answered : AreAnswered lines es
  answered = are_answered lines es found

  each_line : Each (λ (l : Line). line_at lines l.line ≡ Some l) lines
  each_line = each_from (λ (l : Line). line_at lines l.line ≡ Some l) lines (λ i x e. found_at lines i x are e)

  some_number : (l : Line) → line_at lines l.line ≡ Some l → 0 < l.line
  some_number l e = let at = (found_number lines l.line l e).1 in (line_is lines at.0 l are at.1).number

  counts : (m : ℕ) → keyed (λ (l : Line). l.line) m lines ≡ keyed (λ (l : Line). l.line) m (answered_lines lines es)
  counts zero =
      none_zero lines (each_map (λ (l : Line). line_at lines l.line ≡ Some l) (λ (l : Line). 0 < l.line) lines some_number each_line)
      ∙ sym (none_zero (answered_lines lines es) (each_map (λ (l : Line). line_at lines l.line ≡ Some l) (λ (l : Line). 0 < l.line) (answered_lines lines es) some_number answered.each))
  counts (suc m) =
      let a = w.done (suc m) (omega arith) in
      let b = answered.often (suc m) (omega arith) in
      sym a ∙ sym b

  once_each : IsPermutation lines (answered_lines lines es)
  once_each = permuted (λ (l : Line). l.line) (line_at lines) lines (answered_lines lines es) each_line answered.each counts

  pub as_many : effects es ≡ length lines
  as_many = let a = length_permutation lines (answered_lines lines es) once_each in let b = answered.as_many in omega arith

  one_effect_each : (m : ℕ) → 0 < m → keyed (λ (p : Passed). p.entry.line) m after.seen ≤ 1
  one_effect_each m some = let a = passed_keyed m after.seen in let b = w.done m some in let c = times_once m lines are in omega arith

  -- ---- none before one that has to precede it

  contains_line : (l : Line) → line_at lines l.line ≡ Some l → Contains lines l
  contains_line l e = let at = (found_number lines l.line l e).1 in let g = get_at lines at.0 l l at.1 in (at.0, g.0, g.1)

  -- an effect that stands before another one is counted before it
  clash : (i j : ℕ) (a b : Line) → i < j → (s : StandsAt lines after.seen i a) → StandsAt lines after.seen j b → (xs : List Passed) (x : Passed) (ys : List Passed) → xs ++ x ∷ ys ≡ s.before → x.entry.line ≡ b.line → ⊥
  clash i j a b lt s t xs x ys front line_is =
      let all : xs ++ x ∷ (ys ++ s.entry ∷ s.after) ≡ after.seen = deeper xs x ys s.entry s.after s.before after.seen front s.split in
      let number : b.line ≡ t.entry.entry.line = (found_number lines t.entry.entry.line b t.found).0 in
      let some : 0 < b.line = subst (λ n. 0 < n) (sym number) t.some in
      let once : keyed (λ (q : Passed). q.entry.line) b.line (xs ++ x ∷ (ys ++ s.entry ∷ s.after)) ≤ 1 =
      subst (λ z. keyed (λ (q : Passed). q.entry.line) b.line z ≤ 1) (sym all) (one_effect_each b.line some) in
      let same = same_split (λ (q : Passed). q.entry.line) b.line xs t.before (ys ++ s.entry ∷ s.after) t.after x t.entry line_is (sym number) (all ∙ sym t.split) once in
      not_above i j (length (answered_lines lines (entries xs))) (length (answered_lines lines (entries s.before))) lt (ap (λ z. length (answered_lines lines (entries z))) same.0 ∙ t.index) s.index
      (fewer_before lines xs x ys s.before front)

  -- a line that has to precede the one that is staged for has its effect before the staging
  earlier_ran : (a b : Line) (before : List Passed) (one : Passed) (rest : List Passed) → before ++ one ∷ rest ≡ after.seen → line_at lines one.entry.staged ≡ Some a → 0 < one.entry.staged → line_at lines b.line ≡ Some b
      → IsTrue (has_to_precede b a) → LineTookEffect b.line before
  earlier_ran a b before one rest is here some found_b prec =
      subst (λ o. IfSome o (λ line. (earlier : Line) → Contains lines earlier → IsTrue (has_to_precede earlier line) → LineTookEffect earlier.line before)) here ((w.placed before one rest is).staged some) b
      (contains_line b found_b) prec

  too_late : (i j : ℕ) (a b : Line) → i < j → StandsAt lines after.seen i a → StandsAt lines after.seen j b → IsTrue (has_to_precede b a) → ⊥
  too_late i j a b lt s t prec =
      let ends : EndsStaged s.entry.entry.line _ = (w.placed s.before s.entry s.after s.split).effect s.some in
      let f = is_from s.entry.seat s.before ends.before [] ends.last ends.split in
      let staged : f.one.entry.staged ≡ s.entry.entry.line = ap (λ (e : Entry). e.staged) f.entry_is ∙ ends.line_is in
      let e = earlier_ran a b f.before f.one (f.after ++ s.entry ∷ s.after) (deeper f.before f.one f.after s.entry s.after s.before after.seen f.split s.split) (ap (line_at lines) staged ∙ s.found)
      (subst (λ n. 0 < n) (sym staged) s.some) (ap (line_at lines) (found_number lines t.entry.entry.line b t.found).0 ∙ t.found) prec in
      clash i j a b lt s t e.before e.entry (e.after ++ f.one ∷ f.after) (deeper e.before e.entry e.after f.one f.after f.before s.before e.split f.split) e.line_is

  not_before : (i j : ℕ) (a b : Line) → i < j → slice_get (answered_lines lines es) i ≡ Some a → slice_get (answered_lines lines es) j ≡ Some b → IsFalse (has_to_precede b a)
  not_before i j a b lt ea eb = go (has_to_precede b a) refl
    where
      go : (t : Bool) → has_to_precede b a ≡ t → t ≡ false
      go false e = refl
      go true e = absurd (too_late i j a b lt (stands_at_index lines after.seen found i a ea) (stands_at_index lines after.seen found j b eb) e)

  in_order : AllPairs (λ a b. IsFalse (has_to_precede b a)) (answered_lines lines es)
  in_order i j d lt inside =
      let a = get_below (answered_lines lines es) i (omega arith) in
      let b = get_below (answered_lines lines es) j inside in
      subst (λ (z : Line × Line). IsFalse (has_to_precede z.1 z.0)) (λ k. (sym (index_read (answered_lines lines es) i d a.0 a.1) k, sym (index_read (answered_lines lines es) j d b.0 b.1) k))
      (not_before i j a.0 b.0 lt a.1 b.1)

  -- ---- the rows

  -- the row is the answer at its ordinal
  record IsRow (row : Row) : Type 0 where
    pub before : List Passed
    pub number : ℕ
    pub rest : List Passed
    pub line : Line
    pub line_is : line_at lines row.line ≡ Some line
    pub some : 0 < row.line
    pub split : before ++ passed_by number (effect_entry row.line row.answered.reply) ∷ rest ≡ after.seen
    pub ordinal : row.answered.ordinal ≡ effects (entries before) + 1
    pub few : effects (entries before) + 1 ≤ length lines
    pub place : row.answered.place ≡ saturated (seat.opening.count + (effects (entries before) + 1))
    pub answer : tells → Answers (outcome_due seat.opening (entries before) line.call row.answered.reply) row.answered.reply row.bytes

  entries_split : (before rest : List Passed) (n : ℕ) (e : Entry) → before ++ passed_by n e ∷ rest ≡ after.seen → entries before ++ e ∷ entries rest ≡ es
  entries_split before rest n e is = sym (map-append (λ (p : Passed). p.entry) before (passed_by n e ∷ rest)) ∙ ap entries is

  is_row : (row : Row) → IsAnswer tells seat.opening lines after.seen row → IsRow row
  is_row row a =
      let x = a.answered_is in
      let e : Entry = effect_entry a.line.line row.answered.reply in
      let some : 0 < a.line.line = some_number a.line (ap (line_at lines) a.number ∙ a.line_is) in
      let split : entries x.before ++ e ∷ entries x.after ≡ es = entries_split x.before x.after x.number e x.split in
      let count : effects (entries x.before) + 1 ≤ effects (entries x.before ++ e ∷ entries x.after) = effects_before (entries x.before) (entries x.after) e some in
      let whole : effects (entries x.before ++ e ∷ entries x.after) ≡ effects es = ap effects split in
      let many = as_many in
      let few : effects (entries x.before) + 1 ≤ length lines = omega arith in
      let snoc = effects_snoc (entries x.before) e some in
      let low : effects (entries x.before) + 1 ≤ top = omega arith in
      let exact : saturated (effects (entries x.before ++ e ∷ [])) ≡ effects (entries x.before) + 1 = ap saturated snoc ∙ min-eq_left low in
      record {
        before = x.before;
        number = x.number;
        rest = x.after;
        line = a.line;
        line_is = a.line_is;
        some = subst (λ n. 0 < n) a.number some;
        split = subst (λ n. x.before ++ passed_by x.number (effect_entry n row.answered.reply) ∷ x.after ≡ after.seen) a.number x.split;
        ordinal = x.due.ordinal ∙ exact;
        few = few;
        place = x.due.place ∙ ap (λ n. saturated (seat.opening.count + n)) snoc;
        answer = x.due.answer;
      }

  row_answer : (k j : ℕ) (s : Station) (row : Row) → slice_get stations k ≡ Some s → slice_get s.desk.rows j ≡ Some row → IsAnswer tells seat.opening lines after.seen row
  row_answer k j s row e f = (w.stations_are k s e).desk.answers j row f

  pub ordinals_fit : OrdinalsFit stations (length lines)
  ordinals_fit k s j row e f =
      let r = is_row row (row_answer k j s row e f) in
      let a = r.ordinal in
      let b = r.few in
      (omega arith, omega arith)

  row_at_is : (i : ℕ) (row : Row) → row.answered.ordinal ≡ i + 1 → IsRow row → IfSome (slice_get (filter is_effect es) i) (λ e. IsRowAt tells seat.opening es i e row)
  row_at_is i row ordinal r =
      let e : Entry = effect_entry row.line row.answered.reply in
      let o = r.ordinal in
      let index : effects (entries r.before) ≡ i = omega arith in
      let split : entries r.before ++ e ∷ entries r.rest ≡ es = entries_split r.before r.rest r.number e r.split in
      let there : slice_get (filter is_effect es) i ≡ Some e = (λ k. slice_get (filter is_effect (sym split k)) (sym index k)) ∙ effect_at (entries r.before) (entries r.rest) e r.some in
      let known : line_at seat.opening.lines row.line ≡ Some r.line = ap (λ ls. line_at ls row.line) has ∙ r.line_is in
      let found_before : Each (IsFound seat.opening.lines) (entries r.before) = subst (λ ls. Each (IsFound ls) (entries r.before)) (sym has) (each_front (IsFound lines) (entries r.before) (e ∷ entries r.rest) (subst (Each (IsFound lines)) (sym split) found)) in
      let due : answer_due seat.opening.shape seat.opening.tree (marked_calls seat.opening es) i ≡ Some (outcome_due seat.opening (entries r.before) r.line.call row.answered.reply) =
      (λ k. answer_due seat.opening.shape seat.opening.tree (marked_calls seat.opening (sym split k)) (sym index k)) ∙ due_at seat.opening (entries r.before) (entries r.rest) e r.line found_before r.some known in
      subst (λ (o : Option Entry). IfSome o (λ x. IsRowAt tells seat.opening es i x row)) (sym there) (record {
        entry_is = refl;
        ordinal = ordinal;
        place = r.place ∙ ap (λ n. saturated (seat.opening.count + (n + 1))) index;
        answer = λ t. subst (λ o. IfSome o (λ d. Answers d row.answered.reply row.bytes)) (sym due) (r.answer t);
      })

  record HasPlace (i : ℕ) : Type 0 where
    pub k : ℕ
    pub s : Station
    pub j : ℕ
    pub row : Row
    pub station_is : slice_get stations k ≡ Some s
    pub row_is : slice_get s.desk.rows j ≡ Some row
    pub ordinal : row.answered.ordinal ≡ i + 1

  -- each place has a row
  has_place : (i : ℕ) → i < length lines → HasPlace i
  has_place i lt =
      let a = answered.as_many in
      let b = as_many in
      let l = get_below (answered_lines lines es) i (omega arith) in
      let t = stands_at_index lines after.seen found i l.0 l.1 in
      let number = found_number lines t.entry.entry.line l.0 t.found in
      let few = (line_is lines number.1.0 l.0 are number.1.1).worker in
      let size = w.size in
      let there = station_at stations l.0.worker (omega arith) in
      let r = (w.stations_are l.0.worker there.0 there.1).desk.each number.1.0 l.0 (get_at lines number.1.0 l.0 l.0 number.1.1).0 number.1.1 refl in
      let y = is_row r.row (row_answer l.0.worker r.at there.0 r.row there.1 r.row_is) in
      let e : Entry = effect_entry r.row.line r.row.answered.reply in
      let once : keyed (λ (q : Passed). q.entry.line) t.entry.entry.line (y.before ++ passed_by y.number e ∷ y.rest) ≤ 1 =
      subst (λ z. keyed (λ (q : Passed). q.entry.line) t.entry.entry.line z ≤ 1) (sym y.split) (one_effect_each t.entry.entry.line t.some) in
      let same = same_split (λ (q : Passed). q.entry.line) t.entry.entry.line y.before t.before y.rest t.after (passed_by y.number e) t.entry (r.line_is ∙ number.0) refl (y.split ∙ sym t.split) once in
      let o = y.ordinal in
      let found_before : Each (IsFound lines) (entries y.before) = each_front (IsFound lines) (entries y.before) (e ∷ entries y.rest) (subst (Each (IsFound lines)) (sym (entries_split y.before y.rest y.number e y.split)) found) in
      let index : effects (entries y.before) ≡ i =
      sym (are_answered lines (entries y.before) found_before).as_many ∙ (ap (λ z. length (answered_lines lines (entries z))) same.0 ∙ t.index) in
      record { k = l.0.worker; s = there.0; j = r.at; row = r.row; station_is = there.1; row_is = r.row_is; ordinal = omega arith }

  module _ (spots : List Spot) (many : length spots ≡ length lines) (spotted : AreSpotted stations (length stations) 0 spots) where
    inside : {A : Type 0} (xs : List A) (i : ℕ) (x : A) → slice_get xs i ≡ Some x → i < length xs
    inside [] i x e = absurd (cc e)
    inside (y ∷ xs) zero x e = omega arith
    inside (y ∷ xs) (suc i) x e = let h = inside xs i x e in omega arith

    spotted_at : (i : ℕ) → i < length lines → IsSpotted stations spots (i + 1)
    spotted_at i lt =
        let p = has_place i lt in
        subst (IsSpotted stations spots) p.ordinal (spotted.whole p.k p.s p.j p.row (inside stations p.k p.s p.station_is) p.station_is p.row_is)

    some_same : {A : Type 0} (a b : A) → Some a ≡ Some b → a ≡ b
    some_same a b e = cc e

    row_here : (i : ℕ) (spot : Spot) → slice_get spots i ≡ Some spot → (row : Row) × (row_at stations spot ≡ Some row) × (row.answered.ordinal ≡ i + 1)
    row_here i spot e =
        let lt = inside spots i spot e in
        let m = many in
        let p = spotted_at i (omega arith) in
        let n : i + 1 - 1 ≡ i = omega arith in
        let same : p.spot ≡ spot = some_same p.spot spot (sym p.spot_is ∙ (ap (slice_get spots) n ∙ e)) in
        (p.row, ap (row_at stations) (sym same) ∙ p.row_is, p.ordinal_is)

    pub are_spots : AreSpots stations spots
    are_spots i spot e = let r = row_here i spot e in (r.0, r.1)

    row_found : (o : Option Station) (at : ℕ) (row : Row) → row_in o at ≡ Some row → (s : Station) × (o ≡ Some s) × (slice_get s.desk.rows at ≡ Some row)
    row_found None at row e = absurd (cc e)
    row_found (Some s) at row e = (s, refl, e)

    map_get : (xs : List Spot) (i : ℕ) (row : Row) → slice_get (rows_at stations xs) i ≡ Some row → (spot : Spot) × (slice_get xs i ≡ Some spot) × (row_or (row_at stations spot) ≡ row)
    map_get [] i row e = absurd (cc e)
    map_get (x ∷ xs) zero row e = (x, refl, cc e)
    map_get (x ∷ xs) (suc i) row e = map_get xs i row e

    each_row : (i : ℕ) (row : Row) → slice_get (rows_at stations spots) i ≡ Some row → IfSome (slice_get (filter is_effect es) i) (λ e. IsRowAt tells seat.opening es i e row)
    each_row i row e =
        let g = map_get spots i row e in
        let r = row_here i g.0 g.1 in
        let same : r.0 ≡ row = ap row_or (sym r.1) ∙ g.2 in
        let f = row_found (slice_get stations g.0.worker) g.0.at r.0 r.1 in
        subst (λ z. IfSome (slice_get (filter is_effect es) i) (λ x. IsRowAt tells seat.opening es i x z)) same
        (row_at_is i r.0 r.2 (is_row r.0 (row_answer g.0.worker g.0.at f.0 r.0 f.1 f.2)))

    pub rounds_ran : EpochsRan tells seat lines (rows_at stations spots) after
    rounds_ran = record {
      same = w.same;
      order = record { each_once = once_each; in_order = in_order };
      table = record { one_each = length-map spots (λ (s : Spot). row_or (row_at stations s)) ∙ (many ∙ sym as_many); each = each_row };
      placed = w.placed;
    }
