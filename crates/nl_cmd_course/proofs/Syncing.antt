-- The syncs of the course: how many calls each made durable, and when.
use Rattle.std.proofs.Common.{◌≡◌, ◌==◌, ◌^◌, ℕ, zero, suc, ◌+◌, ◌<◌, ◌≤◌, Bool, true, false, cond, not, List, [], ◌∷◌, ◌++◌, map, take, length, filter, Option, Some, None, refl, sym, ap, ◌∙◌, subst, arith, append_assoc, eq-eqb, ne_eqb, length-append, inl, inr}
use Rattle.std.proofs.Math.ListN.{get_or}
use Rattle.std.proofs.lemmas.Bool.Decides.{nat_tests}
use Rattle.std.proofs.lemmas.List.{length-map}
use Rattle.std.proofs.lemmas.List.Elements.{filter-append}
use Rattle.std.proofs.lemmas.List.Sorted.{sum_by-IsPermutation}
use Rattle.std.proofs.lemmas.List.Sums.{sum_by-cons, sum_by-append}
use Rattle.std.specs.List.{AllByRecursion, position_or_len}
use Rattle.std.specs.Prelude.{AllPairs, Contains, IfSome, IsTrue, nat_lt, slice_get, filter_map, option_map, position, unwrap_or, is_some}
use mathlib.Core.List.{map-append}
use Rattle.nl_field.specs.CrashStates.{saturated, top}
use Rattle.nl_field.specs.Members.{Has}
use Rattle.nl_tree.specs.Calls.{AreLines}
use Rattle.nl_tree.specs.Order.{AreSyncs, IsOrderOf, IsSyncAt, LineSync, SyncPoint, has_to_precede, sync_answered}
use Rattle.nl_tree.specs.declared.call.Line.{Line}
use Rattle.nl_tree.specs.declared.reply.Reply.{Reply}
use Rattle.nl_tree.specs.declared.reply.Reply.TheVariants.{Done, Count, Content, Names, File, Dir, Synced as SyncReply, No, Fault}
use Rattle.nl_turns.specs.History.{IsKnown, IsSyncInRange, Opening, SyncsInRange, begun_at, call_at, effects, effects_before, is_effect, line_at, place_of, sync_of, syncs_of}
use Rattle.nl_turns.specs.Seat.{Passed, entries}
use Rattle.nl_turns.specs.declared.entry.Entry.{Entry}
use Rattle.nl_turns.proofs.Lines.{get_at}
use Rattle.nl_workers.specs.Going.{times_in}
use Rattle.nl_workers.specs.Placed.{EndsStaged, LineTookEffect, LineMayRun, effects_of}
use Rattle.nl_workers.specs.Rounds.{AllPlaced, AreRows, answered_lines}
use Rattle.nl_workers.specs.Table.{Row}
use Rattle.nl_workers.proofs.Answering.{IsFound, StandsAt, are_answered, found_number, is_from, stands_at_index, times_once}
use Rattle.nl_workers.proofs.Epochs.{line_is}
use Rattle.nl_workers.proofs.Permuting.{Each, each_front, keyed, same_split}
use Rattle.nl_spec_headline.specs.Course.{Course, RepliedLine, line_sync_of, lines_in, replies_in}
use Rattle.nl_spec_headline.specs.declared.lists.Synced.{Synced}
use Rattle.nl_cmd_course.specs.Rounds.{course_of, synced_row, syncs_of_rows}
use Rattle.nl_cmd_course.proofs.Lists.{item_of_map, map_found, map_map, some_same}
use Rattle.nl_cmd_course.proofs.Replies.{effects_length, entry_at, entry_of, lines_are, row_of, synced, syncs_are, syncs_told}

-- ---- lists

middle : {A : Type 0} (xs ys : List A) (x : A) → slice_get (xs ++ x ∷ ys) (length xs) ≡ Some x
middle [] ys x = refl
middle (z ∷ xs) ys x = middle xs ys x

front : {A : Type 0} (xs ys : List A) → take (length xs) (xs ++ ys) ≡ xs
front [] ys = refl
front (x ∷ xs) ys = ap (λ z. x ∷ z) (front xs ys)

front_and_one : {A : Type 0} (xs ys : List A) (x : A) → take (length xs + 1) (xs ++ x ∷ ys) ≡ xs ++ x ∷ []
front_and_one xs ys x =
    let n : length (xs ++ x ∷ []) ≡ length xs + 1 = length-append xs (x ∷ []) in
    ap (λ k. take k (xs ++ x ∷ ys)) (sym n) ∙ (ap (take (length (xs ++ x ∷ []))) (sym (append_assoc xs (x ∷ []) ys)) ∙ front (xs ++ x ∷ []) ys)

one_of : (e : Entry) → 0 < e.line → is_effect e ≡ true
one_of e some = ap not (ne_eqb e.line 0 (λ z. omega arith))

effects_snoc : (xs : List Entry) (e : Entry) → 0 < e.line → effects (xs ++ e ∷ []) ≡ effects xs + 1
effects_snoc xs e some =
    let a : effects (xs ++ e ∷ []) ≡ effects xs + effects (e ∷ []) = sum_by-append (λ (x : Entry). cond (is_effect x) 1 0) xs (e ∷ []) in
    let b : effects (e ∷ []) ≡ cond {A = ℕ} (is_effect e) 1 0 + effects [] = sum_by-cons (λ (x : Entry). cond (is_effect x) 1 0) e [] in
    let c : cond {A = ℕ} (is_effect e) 1 0 ≡ 1 = ap (λ (t : Bool). cond {A = ℕ} t 1 0) (one_of e some) in
    let d : effects [] ≡ 0 = refl in
    omega arith

effects_past : (xs ys : List Entry) (e : Entry) → 0 < e.line → effects xs + 1 ≤ effects (xs ++ e ∷ ys)
effects_past xs ys e some =
    let a : effects (xs ++ e ∷ ys) ≡ effects xs + effects (e ∷ ys) = sum_by-append (λ (x : Entry). cond (is_effect x) 1 0) xs (e ∷ ys) in
    let b : effects (e ∷ ys) ≡ cond {A = ℕ} (is_effect e) 1 0 + effects ys = sum_by-cons (λ (x : Entry). cond (is_effect x) 1 0) e ys in
    let c : cond {A = ℕ} (is_effect e) 1 0 ≡ 1 = ap (λ (t : Bool). cond {A = ℕ} t 1 0) (one_of e some) in
    omega arith

effects_within : (xs ys : List Entry) → effects xs ≤ effects (xs ++ ys)
effects_within xs ys = let a : effects (xs ++ ys) ≡ effects xs + effects ys = sum_by-append (λ (x : Entry). cond (is_effect x) 1 0) xs ys in omega arith

effect_at : (xs ys : List Entry) (e : Entry) → 0 < e.line → slice_get (filter is_effect (xs ++ e ∷ ys)) (effects xs) ≡ Some e
effect_at xs ys e some =
    let a : filter is_effect (e ∷ ys) ≡ e ∷ filter is_effect ys = ap (λ (t : Bool). cond t (e ∷ filter is_effect ys) (filter is_effect ys)) (one_of e some) in
    let b : filter is_effect (xs ++ e ∷ ys) ≡ filter is_effect xs ++ e ∷ filter is_effect ys = filter-append is_effect xs (e ∷ ys) ∙ ap (λ z. filter is_effect xs ++ z) a in
    ap (λ z. slice_get z (effects xs)) b ∙ (ap (slice_get (filter is_effect xs ++ e ∷ filter is_effect ys)) (sym (effects_length xs)) ∙ middle (filter is_effect xs) (filter is_effect ys) e)

entries_split : (xs ys : List Passed) (p : Passed) → entries (xs ++ p ∷ ys) ≡ entries xs ++ p.entry ∷ entries ys
entries_split xs ys p = map-append (λ (q : Passed). q.entry) xs (p ∷ ys)

passed_keyed : (m : ℕ) (history : List Passed) → keyed (λ (p : Passed). p.entry.line) m history ≡ effects_of m (entries history)
passed_keyed m [] = refl
passed_keyed m (p ∷ ps) =
    let a : keyed (λ (q : Passed). q.entry.line) m (p ∷ ps) ≡ cond {A = ℕ} (p.entry.line == m) 1 0 + keyed (λ (q : Passed). q.entry.line) m ps = sum_by-cons (λ (q : Passed). cond (q.entry.line == m) 1 0) p ps in
    let b : effects_of m (entries (p ∷ ps)) ≡ cond {A = ℕ} (p.entry.line == m) 1 0 + effects_of m (entries ps) = sum_by-cons (λ (e : Entry). cond (e.line == m) 1 0) p.entry (entries ps) in
    let c = passed_keyed m ps in
    omega arith

-- ---- places, and where the staging of a line began

place_is : (o : Opening) (xs ys : List Entry) (e : Entry) → 0 < e.line → place_of o (xs ++ e ∷ ys) (length xs) ≡ o.count + (effects xs + 1)
unfolding place_of
place_is o xs ys e some = ap (λ z. o.count + effects z) (front_and_one xs ys e) ∙ ap (λ n. o.count + n) (effects_snoc xs e some)

-- the first entry that staged this line
record IsBegun (line : ℕ) (before : List Passed) : Type 0 where
  pub early : List Passed
  pub one : Passed
  pub late : List Passed
  pub split : early ++ one ∷ late ≡ before
  pub staged : one.entry.staged ≡ line
  pub at : position_or_len (λ (e : Entry). e.staged == line) (entries before) ≡ length early

begun : (line : ℕ) (before xs ys : List Passed) (p : Passed) → xs ++ p ∷ ys ≡ before → p.entry.staged ≡ line → IsBegun line before
begun line [] [] ys p is staged = absurd (cc is)
begun line [] (x ∷ xs) ys p is staged = absurd (cc is)
begun line (q ∷ qs) xs ys p is staged = go (λ zs f. begun line qs zs ys p f staged) (q.entry.staged == line) refl xs is
  where
    go : ((zs : List Passed) → zs ++ p ∷ ys ≡ qs → IsBegun line qs) → (b : Bool) → (q.entry.staged == line) ≡ b → (zs : List Passed) → zs ++ p ∷ ys ≡ q ∷ qs → IsBegun line (q ∷ qs)
    go again true e zs f = record {
      early = [];
      one = q;
      late = qs;
      split = refl;
      staged = grind (arith, nat_tests);
      at = ap (λ b. cond {A = ℕ} (not b) (1 + position_or_len (λ (x : Entry). x.staged == line) (entries qs)) 0) e;
    }
    go again false e [] f =
        let same : p ≡ q = cc f in
        let here : q.entry.staged ≡ line = ap (λ (z : Passed). z.entry.staged) (sym same) ∙ staged in
        absurd (cc (sym (eq-eqb q.entry.staged line here) ∙ e))
    go again false e (z ∷ zs) f =
        let rest : zs ++ p ∷ ys ≡ qs = cc f in
        let r = again zs rest in
        record {
          early = q ∷ r.early;
          one = r.one;
          late = r.late;
          split = ap (λ w. q ∷ w) r.split;
          staged = r.staged;
          at = ap (λ b. cond {A = ℕ} (not b) (1 + position_or_len (λ (x : Entry). x.staged == line) (entries qs)) 0) e ∙ (let a = r.at in omega arith);
        }

-- up to there stand the effects before it
begun_behind : (line k : ℕ) (history : List Entry) (early late : List Passed) (one : Passed) → take k history ≡ entries (early ++ one ∷ late) → take (length early) history ≡ entries early
    → position_or_len (λ (e : Entry). e.staged == line) (entries (early ++ one ∷ late)) ≡ length early → effects_before history (begun_at history line k) ≡ effects (entries early)
unfolding effects_before begun_at
begun_behind line k history early late one is begins at =
    let all : entries (early ++ one ∷ late) ≡ entries early ++ one.entry ∷ entries late = entries_split early late one in
    let many : length (entries (early ++ one ∷ late)) ≡ length early + suc (length late) = length-map (early ++ one ∷ late) (λ (q : Passed). q.entry) ∙ length-append early (one ∷ late) in
    let low : nat_lt (position_or_len (λ (e : Entry). e.staged == line) (entries (early ++ one ∷ late))) (length (entries (early ++ one ∷ late))) ≡ true = grind (arith, nat_tests, at, many) in
    let found : position (λ (e : Entry). e.staged == line) (entries (early ++ one ∷ late)) ≡ Some (length early) =
    ap (λ b. cond b (Some (position_or_len (λ (e : Entry). e.staged == line) (entries (early ++ one ∷ late)))) None) low ∙ ap Some at in
    let place : unwrap_or (position (λ (e : Entry). e.staged == line) (take k history)) k ≡ length early = ap (λ xs. unwrap_or (position (λ (e : Entry). e.staged == line) xs) k) is ∙ ap (λ x. unwrap_or x k) found in
    ap (λ n. effects (take n history)) place ∙ ap effects begins

module _ (tells : Type 0) (o : Opening) (history : List Passed) (rows : List Row) (are : AreRows tells o (entries history) rows) (known : (e : Entry) → Has (entries history) e → IsKnown o e) where
  abbrev course : Course
  course = course_of o rows

  abbrev h : List Entry
  h = entries history

  -- ---- how many calls

  module _ (lines_rise : AreLines o.lines) (order : IsOrderOf o.lines (answered_lines o.lines h)) (placed : AllPlaced o.lines history) (ranges : SyncsInRange o h) (few : o.count + effects h ≤ top) where
    each_found : (xs : List Entry) → ((e : Entry) → Has xs e → IsKnown o e) → Each (IsFound o.lines) xs
    each_found [] is = tt
    each_found (e ∷ xs) is = (one (is e (inl refl)), each_found xs (λ x has. is x (inr has)))
      where
        line_of : (x : Option Line) → line_at o.lines e.line ≡ x → is_some (option_map (λ (l : Line). l.call) x) ≡ true → (l : Line) × (line_at o.lines e.line ≡ Some l)
        line_of None at some = absurd (cc some)
        line_of (Some l) at some = (l, at)

        one : IsKnown o e → IsFound o.lines e
        one k some =
            let effect = one_of e some in
            line_of (line_at o.lines e.line) refl (ap (λ (b : Bool). is_some (cond b (call_at o.lines e.line) None)) (sym effect) ∙ k.has_call effect)

    found : Each (IsFound o.lines) h
    found = each_found h known

    once : (m : ℕ) → 0 < m → keyed (λ (p : Passed). p.entry.line) m history ≤ 1
    once m some =
        let a = passed_keyed m history in
        let b = (are_answered o.lines h found).often m some in
        let c : keyed (λ (l : Line). l.line) m (answered_lines o.lines h) ≡ times_in m o.lines = sum_by-IsPermutation (λ (l : Line). cond (l.line == m) 1 0) o.lines (answered_lines o.lines h) order.each_once in
        let d = times_once m o.lines lines_rise in
        omega arith

    -- how many effects stand before an answered line
    effects_there : (i : ℕ) (l : Line) (t : StandsAt o.lines history i l) → effects (entries t.before) ≡ i
    effects_there i l t =
        let split : entries t.before ++ t.entry.entry ∷ entries t.after ≡ h = sym (entries_split t.before t.after t.entry) ∙ ap entries t.split in
        let before : Each (IsFound o.lines) (entries t.before) = each_front (IsFound o.lines) (entries t.before) (t.entry.entry ∷ entries t.after) (subst (Each (IsFound o.lines)) (sym split) found) in
        sym (are_answered o.lines (entries t.before) before).as_many ∙ t.index

    stands : (i : ℕ) (l : Line) → slice_get (lines_in course) i ≡ Some l → StandsAt o.lines history i l
    stands i l is = stands_at_index o.lines history found i l (ap (λ xs. slice_get xs i) (lines_are tells o h rows are) ∙ is)

    -- the line has begun to stage behind all that have to precede it
    module _ (i : ℕ) (l : Line) (t : StandsAt o.lines history i l) where
      began : IsBegun t.entry.entry.line t.before
      began =
          let ends : EndsStaged t.entry.entry.line _ = (placed t.before t.entry t.after t.split).effect t.some in
          let f = is_from t.entry.seat t.before ends.before [] ends.last ends.split in
          begun t.entry.entry.line t.before f.before f.after f.one f.split (ap (λ (e : Entry). e.staged) f.entry_is ∙ ends.line_is)

      whole : began.early ++ began.one ∷ (began.late ++ t.entry ∷ t.after) ≡ history
      whole = sym (append_assoc began.early (began.one ∷ began.late) (t.entry ∷ t.after)) ∙ (ap (λ z. z ++ t.entry ∷ t.after) began.split ∙ t.split)

      runs : (earlier : Line) → Contains o.lines earlier → IsTrue (has_to_precede earlier l) → LineTookEffect earlier.line began.early
      runs =
          let p = t.some in
          let at = began.staged in
          let may : LineMayRun o.lines began.one.entry.staged began.early = (placed began.early began.one (began.late ++ t.entry ∷ t.after) whole).staged (omega arith) in
          subst (λ x. IfSome x (λ line. (earlier : Line) → Contains o.lines earlier → IsTrue (has_to_precede earlier line) → LineTookEffect earlier.line began.early)) (ap (line_at o.lines) at ∙ t.found) may

      behind : (j : ℕ) (b : Line) → slice_get (lines_in course) j ≡ Some b → IsTrue (has_to_precede b l) → j + 1 ≤ effects (entries began.early)
      behind j b is prec =
          let u = stands j b is in
          let number = found_number o.lines u.entry.entry.line b u.found in
          let e = runs b (number.1.0, (get_at o.lines number.1.0 b b number.1.1).0, (get_at o.lines number.1.0 b b number.1.1).1) prec in
          let some : 0 < b.line = (line_is o.lines number.1.0 b lines_rise number.1.1).number in
          let all : e.before ++ e.entry ∷ (e.after ++ began.one ∷ (began.late ++ t.entry ∷ t.after)) ≡ history =
          sym (append_assoc e.before (e.entry ∷ e.after) (began.one ∷ (began.late ++ t.entry ∷ t.after))) ∙ (ap (λ z. z ++ began.one ∷ (began.late ++ t.entry ∷ t.after)) e.split ∙ whole) in
          let only : keyed (λ (q : Passed). q.entry.line) b.line (e.before ++ e.entry ∷ (e.after ++ began.one ∷ (began.late ++ t.entry ∷ t.after))) ≤ 1 = subst (λ z. keyed (λ (q : Passed). q.entry.line) b.line z ≤ 1) (sym all) (once b.line some) in
          let same = same_split (λ (q : Passed). q.entry.line) b.line e.before u.before (e.after ++ began.one ∷ (began.late ++ t.entry ∷ t.after)) u.after e.entry u.entry e.line_is (sym number.0) (all ∙ sym u.split) only in
          let count : effects (entries e.before) ≡ j = ap (λ (z : List Passed). effects (entries z)) same.0 ∙ effects_there j b u in
          let at : e.entry.entry.line ≡ b.line = e.line_is in
          let past : effects (entries e.before) + 1 ≤ effects (entries e.before ++ e.entry.entry ∷ entries e.after) = effects_past (entries e.before) (entries e.after) e.entry.entry (omega arith) in
          let there : effects (entries e.before ++ e.entry.entry ∷ entries e.after) ≡ effects (entries began.early) = ap effects (sym (entries_split e.before e.after e.entry)) ∙ ap (λ (z : List Passed). effects (entries z)) e.split in
          omega arith

      split : entries t.before ++ t.entry.entry ∷ entries t.after ≡ h
      split = sym (entries_split t.before t.after t.entry) ∙ ap entries t.split

      entry_there : slice_get (filter is_effect h) i ≡ Some t.entry.entry
      entry_there = (λ k. slice_get (filter is_effect (sym split k)) (sym (effects_there i l t) k)) ∙ effect_at (entries t.before) (entries t.after) t.entry.entry t.some

      begins_there : effects_before h (begun_at h t.entry.entry.line (length (entries t.before))) ≡ effects (entries began.early)
      begins_there =
          begun_behind t.entry.entry.line (length (entries t.before)) h began.early began.late began.one
          (ap (take (length (entries t.before))) (sym split) ∙ (front (entries t.before) (t.entry.entry ∷ entries t.after) ∙ ap entries (sym began.split)))
          (let n : length began.early ≡ length (entries began.early) = sym (length-map began.early (λ (q : Passed). q.entry)) in
          let all : h ≡ entries began.early ++ began.one.entry ∷ entries (began.late ++ t.entry ∷ t.after) = ap entries (sym whole) ∙ entries_split began.early (began.late ++ t.entry ∷ t.after) began.one in
          (λ k. take (n k) (all k)) ∙ front (entries began.early) (began.one.entry ∷ entries (began.late ++ t.entry ∷ t.after)))
          (ap (λ (z : List Passed). position_or_len (λ (e : Entry). e.staged == t.entry.entry.line) (entries z)) began.split ∙ began.at)

      sync_there : (s : SyncPoint) → sync_of t.entry.entry.synced ≡ Some s → IsSyncAt o.count (lines_in course) i l s
      sync_there s is =
          let here : slice_get h (length (entries t.before)) ≡ Some t.entry.entry = ap (λ z. slice_get z (length (entries t.before))) (sym split) ∙ middle (entries t.before) (entries t.after) t.entry.entry in
          let r : IsSyncInRange o h (length (entries t.before)) t.entry.entry.line s =
          subst (λ (y : Option SyncPoint). IfSome y (λ sync. IsSyncInRange o h (length (entries t.before)) t.entry.entry.line sync)) is
          (subst (λ (x : Option Entry). IfSome x (λ e. IfSome (sync_of e.synced) (λ sync. IsSyncInRange o h (length (entries t.before)) e.line sync))) here (ranges (length (entries t.before)))) in
          let count = effects_there i l t in
          let place : place_of o h (length (entries t.before)) ≡ o.count + (effects (entries t.before) + 1) = ap (λ z. place_of o z (length (entries t.before))) (sym split) ∙ place_is o (entries t.before) (entries t.after) t.entry.entry t.some in
          let low = r.below_place in
          record {
            not_below_opening = r.not_below_opening;
            below_place = omega (arith, low, place, count);
            earlier_lines = λ j below. each j (slice_get (lines_in course) j) refl r.not_below_begin;
          }
        where
          within : effects (entries began.early) ≤ effects h
          within =
              let all : h ≡ entries began.early ++ began.one.entry ∷ entries (began.late ++ t.entry ∷ t.after) = ap entries (sym whole) ∙ entries_split began.early (began.late ++ t.entry ∷ t.after) began.one in
              subst (λ z. effects (entries began.early) ≤ effects z) (sym all) (effects_within (entries began.early) (began.one.entry ∷ entries (began.late ++ t.entry ∷ t.after)))

          each : (j : ℕ) (x : Option Line) → slice_get (lines_in course) j ≡ x → saturated (o.count + effects_before h (begun_at h t.entry.entry.line (length (entries t.before)))) ≤ s.upto
              → IfSome x (λ earlier. IsTrue (has_to_precede earlier l) → o.count + j + 1 ≤ s.upto)
          each j None e low = tt
          each j (Some b) e low = λ prec.
              let up = behind j b e prec in
              let most = within in
              let at = begins_there in
              omega (arith, low, up, most, at, few)

    lines_of_replies : map (λ (y : Line × Reply). y.0) (replies_in course) ≡ lines_in course
    lines_of_replies = map_map (λ (y : Line × Reply). y.0) (λ (a : RepliedLine). (a.line, a.reply)) course.answers

    at_reply : (i : ℕ) (x : Line × Reply) (s : SyncPoint) → slice_get (replies_in course) i ≡ Some x → sync_answered x.1 ≡ Some s → IsSyncAt o.count (map (λ (y : Line × Reply). y.0) (replies_in course)) i x.0 s
    at_reply i x s is sync =
        let a = item_of_map (λ (a : RepliedLine). (a.line, a.reply)) course.answers i x is in
        let r = row_of tells o h rows are known i a.0 a.1 in
        let reply : r.0.answered.reply ≡ x.1 = ap (λ (z : RepliedLine). z.reply) r.2 ∙ ap (λ (z : Line × Reply). z.1) a.2 in
        let line : slice_get (lines_in course) i ≡ Some x.0 = ap (λ z. slice_get z i) (sym lines_of_replies) ∙ line_got (replies_in course) i x is in
        let t = stands i x.0 line in
        let entry : t.entry.entry ≡ entry_of r.0 = some_same t.entry.entry (entry_of r.0) (sym (entry_there i x.0 t) ∙ entry_at tells o h rows are i r.0 r.1) in
        let mark : sync_of t.entry.entry.synced ≡ Some s = ap (λ (e : Entry). sync_of e.synced) entry ∙ (synced r.0.answered.reply ∙ (ap sync_answered reply ∙ sync)) in
        subst (λ xs. IsSyncAt o.count xs i x.0 s) (sym lines_of_replies) (sync_there i x.0 t s mark)
      where
        line_got : (xs : List (Line × Reply)) (i : ℕ) (x : Line × Reply) → slice_get xs i ≡ Some x → slice_get (map (λ (y : Line × Reply). y.0) xs) i ≡ Some x.0
        line_got [] i x e = absurd (cc e)
        line_got (y ∷ xs) zero x e = ap (λ (z : Line × Reply). Some z.0) (some_same y x e)
        line_got (y ∷ xs) (suc i) x e = line_got xs i x e

    pub each_sync : (i : ℕ) → IfSome (slice_get (replies_in course) i) (λ x. IfSome (sync_answered x.1) (IsSyncAt o.count (map (λ (y : Line × Reply). y.0) (replies_in course)) i x.0))
    each_sync i = go (slice_get (replies_in course) i) refl
      where
        go : (x : Option (Line × Reply)) → slice_get (replies_in course) i ≡ x → IfSome x (λ x. IfSome (sync_answered x.1) (IsSyncAt o.count (map (λ (y : Line × Reply). y.0) (replies_in course)) i x.0))
        go None e = tt
        go (Some x) e = by (sync_answered x.1) refl
          where
            by : (s : Option SyncPoint) → sync_answered x.1 ≡ s → IfSome s (IsSyncAt o.count (map (λ (y : Line × Reply). y.0) (replies_in course)) i x.0)
            by None f = tt
            by (Some s) f = at_reply i x s e f

  -- ---- when

  abbrev told : List LineSync
  told = map line_sync_of (syncs_of_rows rows)

  one_point : (n : ℕ) (reply : Reply) → option_map (λ (s : Synced). (line_sync_of s).sync) (synced_row n reply) ≡ sync_answered reply
  one_point n Done = refl
  one_point n (Count m) = refl
  one_point n Content = refl
  one_point n (Names m) = refl
  one_point n (File size pages) = refl
  one_point n (Dir count) = refl
  one_point n (SyncReply upto moment) = refl
  one_point n (No refusal) = refl
  one_point n (Fault fault) = refl

  points : map (λ (s : LineSync). s.sync) told ≡ syncs_of h
  points =
      map_map (λ (s : LineSync). s.sync) line_sync_of (syncs_of_rows rows)
      ∙ (map_found (λ (s : Synced). (line_sync_of s).sync) (λ (row : Row). synced_row row.line row.answered.reply) rows
      ∙ ((λ k. filter_map (λ (row : Row). one_point row.line row.answered.reply k) rows) ∙ sym (syncs_are tells o h rows are known)))

  each_moment : (first last : ℕ) (xs : List LineSync) → ((s : SyncPoint) → Has (map (λ (x : LineSync). x.sync) xs) s → (first ≤ s.moment) × (s.moment ≤ last)) → AllByRecursion (λ (s : LineSync). (first ≤ s.sync.moment) × (s.sync.moment ≤ last)) xs
  each_moment first last [] within = tt
  each_moment first last (x ∷ xs) within = (within x.sync (inl refl), each_moment first last xs (λ s has. within s (inr has)))

  got_sync : (xs : List LineSync) (i : ℕ) (d : LineSync) → get_or (map (λ (x : LineSync). x.sync) xs) i d.sync ≡ (get_or xs i d).sync
  got_sync [] i d = refl
  got_sync (x ∷ xs) zero d = refl
  got_sync (x ∷ xs) (suc i) d = got_sync xs i d

  moments_rise : AllPairs (λ a b. a.moment ≤ b.moment) (syncs_of h) → AllPairs (λ (a b : LineSync). a.sync.moment ≤ b.sync.moment) told
  moments_rise rising i j d low high =
      let many = length-map told (λ (s : LineSync). s.sync) in
      let all : AllPairs (λ a b. a.moment ≤ b.moment) (map (λ (s : LineSync). s.sync) told) = subst (AllPairs (λ (a b : SyncPoint). a.moment ≤ b.moment)) (sym points) rising in
      let k = all i j d.sync low (omega (arith, high, many)) in
      let a = ap (λ (s : SyncPoint). s.moment) (got_sync told i d) in
      let b = ap (λ (s : SyncPoint). s.moment) (got_sync told j d) in
      omega (arith, k, a, b)

  pub are_syncs : (first last : ℕ) → AreLines o.lines → IsOrderOf o.lines (answered_lines o.lines h) → AllPlaced o.lines history → SyncsInRange o h → o.count + effects h ≤ top
      → AllPairs (λ a b. a.moment ≤ b.moment) (syncs_of h) → ((s : SyncPoint) → Has (syncs_of h) s → (first ≤ s.moment) × (s.moment ≤ last)) → AreSyncs o.count first last (replies_in course) told
  are_syncs first last lines_rise order placed ranges few rising within = record {
    listed = syncs_told tells o h rows are known;
    numbers = each_sync lines_rise order placed ranges few;
    moments = each_moment first last told (λ s has. within s (subst (λ xs. Has xs s) points has));
    moments_rise = moments_rise rising;
  }
