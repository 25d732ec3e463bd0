-- The rows of a table are the effects of a history: what is read of the course of the rows is what is read of the history.
use Rattle.std.proofs.Common.{◌≡◌, ◌&&◌, ℕ, ◌+◌, Bool, true, false, cond, List, [], ◌∷◌, map, length, filter, Option, Some, None, refl, sym, ap, ◌∙◌, subst, arith}
use Rattle.std.proofs.lemmas.List.{length-map}
use Rattle.std.proofs.lemmas.List.Sums.{sum_by-cons}
use Rattle.std.proofs.lemmas.Option.{slice_get_within}
use Rattle.std.specs.Prelude.{IfSome, slice_get, filter_map, option_map, is_some, is_none, unwrap_or}
use Rattle.nl_field.specs.Members.{Has}
use Rattle.nl_tree.specs.Causes.{fault_in}
use Rattle.nl_tree.specs.Order.{line_sync, sync_answered}
use Rattle.nl_tree.specs.declared.call.Call.{Call}
use Rattle.nl_tree.specs.declared.call.Call.TheVariants.{Sync}
use Rattle.nl_tree.specs.declared.call.Line.{Line}
use Rattle.nl_tree.specs.declared.reply.FaultReply.{FaultReply}
use Rattle.nl_tree.specs.declared.reply.Reply.{Reply}
use Rattle.nl_tree.specs.declared.reply.Reply.TheVariants.{Done, Count, Content, Names, File, Dir, Synced as SyncReply, No, Fault}
use Rattle.nl_turns.specs.History.{IsKnown, Opening, call_at, call_of, effects, fault_of, is_effect, is_sync, line_at, marked_calls, sync_of, syncs_of}
use Rattle.nl_turns.specs.Served.{effect_entry, fault_mark, sync_mark}
use Rattle.nl_turns.specs.declared.entry.Entry.{Entry}
use Rattle.nl_workers.specs.Rounds.{AreRows, IsRowAt, answered_lines}
use Rattle.nl_workers.specs.Table.{Row}
use Rattle.nl_workers.proofs.Answering.{found_number}
use Rattle.nl_workers.proofs.Permuting.{Each}
use Rattle.nl_spec_headline.specs.Course.{RepliedLine, calls_in, line_sync_of, lines_in, order_in, replies_in}
use Rattle.nl_cmd_answers.specs.Rows.{said}
use Rattle.nl_cmd_course.specs.Rounds.{course_of, order_of_rows, ordered_row, replied, reply_of_row, synced_row, syncs_of_rows}
use Rattle.nl_cmd_course.proofs.Lists.{all_found, each_at, found_each, found_map, found_passing, item_at, item_of_map, map_each, map_found, map_map, passes, same_items}

-- ---- a row and its entry

abbrev pub entry_of : Row → Entry
entry_of row = effect_entry row.line row.answered.reply

pub marked : (reply : Reply) → fault_of (fault_mark reply) ≡ fault_in reply
marked Done = refl
marked (Count n) = refl
marked Content = refl
marked (Names n) = refl
marked (File size pages) = refl
marked (Dir entries) = refl
marked (SyncReply upto moment) = refl
marked (No refusal) = refl
marked (Fault fault) = refl

pub synced : (reply : Reply) → sync_of (sync_mark reply) ≡ sync_answered reply
synced Done = refl
synced (Count n) = refl
synced Content = refl
synced (Names n) = refl
synced (File size pages) = refl
synced (Dir entries) = refl
synced (SyncReply upto moment) = refl
synced (No refusal) = refl
synced (Fault fault) = refl

-- of the line of a number
abbrev pub HasItsLine : List Line → Row → Type 0
HasItsLine lines row = (l : Line) × (line_at lines row.line ≡ Some l)

abbrev pub no_line : Line
no_line = record { line = 0; round = 0; worker = 0; call = Sync }

abbrev pub line_or : List Line → ℕ → Line
line_or lines n = unwrap_or (line_at lines n) no_line

abbrev pub reply_or : List Line → Row → RepliedLine
reply_or lines row = replied row (line_or lines row.line)

pub line_or_is : (lines : List Line) (row : Row) → HasItsLine lines row → line_at lines row.line ≡ Some (line_or lines row.line)
line_or_is lines row known = known.1 ∙ ap Some (sym (ap (λ o. unwrap_or o no_line) known.1))

pub reply_found : (lines : List Line) (row : Row) → HasItsLine lines row → reply_of_row lines row ≡ Some (reply_or lines row)
reply_found lines row known = ap (option_map (replied row)) (line_or_is lines row known)

pub number_is : (lines : List Line) (row : Row) → HasItsLine lines row → (line_or lines row.line).line ≡ row.line
number_is lines row known = (found_number lines row.line (line_or lines row.line) (line_or_is lines row known)).0

pub effects_length : (es : List Entry) → length (filter is_effect es) ≡ effects es
effects_length [] = refl
effects_length (e ∷ es) = go (effects_length es) (is_effect e) refl
  where
    c : effects (e ∷ es) ≡ cond {A = ℕ} (is_effect e) 1 0 + effects es
    c = sum_by-cons (λ (x : Entry). cond (is_effect x) 1 0) e es

    go : length (filter is_effect es) ≡ effects es → (b : Bool) → is_effect e ≡ b → length (cond b (e ∷ filter is_effect es) (filter is_effect es)) ≡ effects (e ∷ es)
    go k true h = let d = c in let f : cond {A = ℕ} (is_effect e) 1 0 ≡ 1 = ap (λ (t : Bool). cond {A = ℕ} t 1 0) h in omega arith
    go k false h = let d = c in let f : cond {A = ℕ} (is_effect e) 1 0 ≡ 0 = ap (λ (t : Bool). cond {A = ℕ} t 1 0) h in omega arith

none_of : {A : Type 0} (o : Option A) → is_some o ≡ false → o ≡ None
none_of None e = refl
none_of (Some a) e = absurd (cc e)

-- ---- the rows

module _ (tells : Type 0) (o : Opening) (h : List Entry) (rows : List Row) (are : AreRows tells o h rows) where
  pub row_is_at : (i : ℕ) (row : Row) → slice_get rows i ≡ Some row → (e : Entry) × (slice_get (filter is_effect h) i ≡ Some e) × IsRowAt tells o h i e row
  row_is_at i row is =
      let low = slice_get_within rows i row is in
      let many = are.one_each in
      let all = effects_length h in
      let g = item_at (filter is_effect h) i (omega arith) in
      (g.0, g.1, subst (λ (x : Option Entry). IfSome x (λ e. IsRowAt tells o h i e row)) g.1 (are.each i row is))

  pub entry_at : (i : ℕ) (row : Row) → slice_get rows i ≡ Some row → slice_get (filter is_effect h) i ≡ Some (entry_of row)
  entry_at i row is = let r = row_is_at i row is in r.1 ∙ ap Some r.2.entry_is

  pub effects_are : filter is_effect h ≡ map entry_of rows
  effects_are = same_items entry_of (filter is_effect h) rows (are.one_each ∙ sym (effects_length h)) entry_at

  one_call : (row : Row) (x : Option Line) → option_map {U = Call × Option FaultReply} (λ (call : Call). (call, fault_of (fault_mark row.answered.reply))) (option_map (λ (line : Line). line.call) x)
      ≡ option_map {U = Call × Option FaultReply} (λ (a : RepliedLine). (a.line.call, fault_in a.reply)) (option_map (replied row) x)
  one_call row None = refl
  one_call row (Some l) = ap (λ (f : Option FaultReply). Some (l.call, f)) (marked row.answered.reply)

  -- the calls, each with its fault
  pub calls_are : marked_calls o h ≡ calls_in (course_of o rows)
  unfolding marked_calls
  calls_are =
      ap (filter_map (λ (e : Entry). option_map {U = Call × Option FaultReply} (λ (call : Call). (call, fault_of e.fault)) (call_at o.lines e.line))) effects_are
      ∙ (found_map (λ (e : Entry). option_map {U = Call × Option FaultReply} (λ (call : Call). (call, fault_of e.fault)) (call_at o.lines e.line)) entry_of rows
      ∙ ((λ k. filter_map (λ (row : Row). one_call row (line_at o.lines row.line) k) rows)
      ∙ sym (map_found (λ (a : RepliedLine). (a.line.call, fault_in a.reply)) (reply_of_row o.lines) rows)))

  one_line : (row : Row) (x : Option Line) → x ≡ option_map (λ (a : RepliedLine). a.line) (option_map (replied row) x)
  one_line row None = refl
  one_line row (Some l) = refl

  -- the lines
  pub lines_are : answered_lines o.lines h ≡ lines_in (course_of o rows)
  lines_are =
      ap (filter_map (λ (e : Entry). line_at o.lines e.line)) effects_are
      ∙ (found_map (λ (e : Entry). line_at o.lines e.line) entry_of rows
      ∙ ((λ k. filter_map (λ (row : Row). one_line row (line_at o.lines row.line) k) rows)
      ∙ sym (map_found (λ (a : RepliedLine). a.line) (reply_of_row o.lines) rows)))

  -- ---- where each effect has its line

  module _ (known : (e : Entry) → Has h e → IsKnown o e) where
    line_of : (n : ℕ) (x : Option Line) → line_at o.lines n ≡ x → is_some (option_map (λ (l : Line). l.call) x) ≡ true → (l : Line) × (line_at o.lines n ≡ Some l)
    line_of n None at some = absurd (cc some)
    line_of n (Some l) at some = (l, at)

    pub row_known : (i : ℕ) (row : Row) → slice_get rows i ≡ Some row → HasItsLine o.lines row
    row_known i row is =
        let p = passes is_effect h i (entry_of row) (entry_at i row is) in
        let some : is_some (call_at o.lines row.line) ≡ true = ap (λ (b : Bool). is_some (cond b (call_at o.lines row.line) None)) (sym p.1) ∙ (known (entry_of row) p.0).has_call p.1 in
        line_of row.line (line_at o.lines row.line) refl some

    pub rows_known : Each (HasItsLine o.lines) rows
    rows_known = each_at (HasItsLine o.lines) rows row_known

    pub answers_are : (course_of o rows).answers ≡ map (reply_or o.lines) rows
    answers_are = all_found (HasItsLine o.lines) (reply_of_row o.lines) (reply_or o.lines) rows (reply_found o.lines) rows_known

    pub as_many : length (course_of o rows).answers ≡ effects h
    as_many = ap length answers_are ∙ (length-map rows (reply_or o.lines) ∙ are.one_each)

    -- an answer of the course is that of a row
    pub row_of : (i : ℕ) (a : RepliedLine) → slice_get (course_of o rows).answers i ≡ Some a → (row : Row) × (slice_get rows i ≡ Some row) × (reply_or o.lines row ≡ a)
    row_of i a is = item_of_map (reply_or o.lines) rows i a (ap (λ xs. slice_get xs i) (sym answers_are) ∙ is)

    -- ---- syncs

    quiet : (e : Entry) → Has h e → is_effect e ≡ false → sync_of e.synced ≡ None
    quiet e has off =
        let none : call_of o e ≡ None = ap (λ (b : Bool). cond b (call_at o.lines e.line) None) off in
        none_of (sync_of e.synced) ((known e has).has_sync ∙ ap (λ (c : Option Call). is_sync c && is_none (fault_of e.fault)) none)

    -- the syncs, where each stands
    pub syncs_are : syncs_of h ≡ filter_map (λ (row : Row). sync_answered row.answered.reply) rows
    unfolding syncs_of
    syncs_are =
        found_passing is_effect (λ (e : Entry). sync_of e.synced) h quiet
        ∙ (ap (filter_map (λ (e : Entry). sync_of e.synced)) effects_are
        ∙ (found_map (λ (e : Entry). sync_of e.synced) entry_of rows
        ∙ (λ k. filter_map (λ (row : Row). synced row.answered.reply k) rows)))

    pub syncs_in_course : syncs_of h ≡ filter_map (λ (a : RepliedLine). sync_answered a.reply) (course_of o rows).answers
    syncs_in_course =
        syncs_are
        ∙ sym (ap (filter_map (λ (a : RepliedLine). sync_answered a.reply)) answers_are
        ∙ found_map (λ (a : RepliedLine). sync_answered a.reply) (reply_or o.lines) rows)

    -- ---- what is told of the rows

    pub order_told : order_of_rows rows ≡ order_in (course_of o rows)
    order_told =
        map_each (HasItsLine o.lines) ordered_row (λ (row : Row). record { line = (line_or o.lines row.line).line; fault = fault_in row.answered.reply }) rows
        (λ row is. λ k. record { line = sym (number_is o.lines row is) k; fault = fault_in row.answered.reply }) rows_known
        ∙ sym (ap (map (λ (a : RepliedLine). record { line = a.line.line; fault = fault_in a.reply })) answers_are ∙ map_map (λ (a : RepliedLine). record { line = a.line.line; fault = fault_in a.reply }) (reply_or o.lines) rows)

    pub printed : map said rows ≡ map (λ (a : RepliedLine). (a.line.line, a.reply, a.bytes)) (course_of o rows).answers
    printed =
        map_each (HasItsLine o.lines) (λ (row : Row). (row.line, row.answered.reply, row.bytes)) (λ (row : Row). ((line_or o.lines row.line).line, row.answered.reply, row.bytes)) rows
        (λ row is. λ k. (sym (number_is o.lines row is) k, row.answered.reply, row.bytes)) rows_known
        ∙ sym (ap (map (λ (a : RepliedLine). (a.line.line, a.reply, a.bytes))) answers_are ∙ map_map (λ (a : RepliedLine). (a.line.line, a.reply, a.bytes)) (reply_or o.lines) rows)

    one_told : (n : ℕ) (l : Line) (reply : Reply) → l.line ≡ n → option_map line_sync_of (synced_row n reply) ≡ line_sync (l, reply)
    one_told n l Done same = refl
    one_told n l (Count m) same = refl
    one_told n l Content same = refl
    one_told n l (Names m) same = refl
    one_told n l (File size pages) same = refl
    one_told n l (Dir entries) same = refl
    one_told n l (SyncReply upto moment) same = λ k. Some (record { line = sym same k; sync = record { upto = upto; moment = moment } })
    one_told n l (No refusal) same = refl
    one_told n l (Fault fault) same = refl

    pub syncs_told : map line_sync_of (syncs_of_rows rows) ≡ filter_map line_sync (replies_in (course_of o rows))
    syncs_told =
        map_found line_sync_of (λ (row : Row). synced_row row.line row.answered.reply) rows
        ∙ (found_each (HasItsLine o.lines) (λ (row : Row). option_map line_sync_of (synced_row row.line row.answered.reply)) (λ (row : Row). line_sync (line_or o.lines row.line, row.answered.reply)) rows
        (λ row is. one_told row.line (line_or o.lines row.line) row.answered.reply (number_is o.lines row is)) rows_known
        ∙ sym (ap (λ (xs : List RepliedLine). filter_map line_sync (map (λ (a : RepliedLine). (a.line, a.reply)) xs)) answers_are
        ∙ (ap (filter_map line_sync) (map_map (λ (a : RepliedLine). (a.line, a.reply)) (reply_or o.lines) rows) ∙ found_map line_sync (λ (row : Row). (line_or o.lines row.line, row.answered.reply)) rows)))
