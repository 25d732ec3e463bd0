-- Each answer of the course is the one that is due; each fault has its cause, and a failed line a number of its own.
use Rattle.std.proofs.Common.{◌≡◌, ℕ, ◌+◌, ◌<◌, Bool, true, cond, List, filter, Option, Some, None, refl, sym, ap, ◌∙◌, subst, arith}
use Rattle.std.proofs.Math.Nat.{min-eq_left}
use Rattle.std.proofs.lemmas.List.Kept.{AllPairs-filter}
use Rattle.std.proofs.lemmas.Option.{slice_get_within}
use Rattle.std.specs.Prelude.{◌^◌, ◌≤◌, AllPairs, IfSome, slice_get, filter_map, option_map}
use Rattle.nl_field.specs.CrashStates.{top}
use Rattle.nl_field.specs.Members.{Has}
use Rattle.nl_tree.specs.Causes.{AreOneNumber, Counts, DifferBelowTop, HasCause, eio_of, erofs_of, fault_in}
use Rattle.nl_tree.specs.Replay.{Answers, answer_due}
use Rattle.nl_tree.specs.declared.call.Call.{Call}
use Rattle.nl_tree.specs.declared.call.Line.{Line}
use Rattle.nl_tree.specs.declared.reply.FaultReply.{FaultReply}
use Rattle.nl_turns.specs.History.{IsKnown, Opening, call_at, call_of, effects, fault_of, is_effect, marked_calls}
use Rattle.nl_turns.specs.declared.entry.Entry.{Entry}
use Rattle.nl_workers.specs.Rounds.{AreRows}
use Rattle.nl_workers.specs.Table.{Row}
use Rattle.nl_spec_headline.specs.Course.{Course, RepliedLine, calls_in}
use Rattle.nl_cmd_answers.specs.Rows.{HavePlaces}
use Rattle.nl_cmd_course.specs.Rounds.{course_of}
use Rattle.nl_cmd_course.proofs.Lists.{found_map, pairs_of_each, pairs_of_found, passes, some_same}
use Rattle.nl_cmd_course.proofs.Replies.{answers_are, calls_are, effects_are, entry_at, entry_of, line_or, line_or_is, marked, reply_or, row_is_at, row_known, row_of}

module _ (tells : Type 0) (o : Opening) (h : List Entry) (rows : List Row) (are : AreRows tells o h rows) (known : (e : Entry) → Has h e → IsKnown o e) where
  abbrev course : Course
  course = course_of o rows

  -- ---- places

  pub have_places : o.count + effects h ≤ top → HavePlaces o.count rows
  have_places few i = go (slice_get rows i) refl
    where
      go : (x : Option Row) → slice_get rows i ≡ x → IfSome x (λ row. row.answered.place ≡ o.count + i + 1)
      go None e = tt
      go (Some row) e =
          let r = row_is_at tells o h rows are i row e in
          let low = slice_get_within rows i row e in
          let all = are.one_each in
          let place = r.2.place in
          let within : o.count + (i + 1) ≤ top = omega (arith, low, all, few) in
          let same : o.count + (i + 1) ≡ o.count + i + 1 = omega arith in
          place ∙ (min-eq_left within ∙ same)

  -- ---- as the tree replies

  pub each_due : tells → (i : ℕ) → IfSome (slice_get course.answers i) (λ a. IfSome (answer_due course.shape course.tree (calls_in course) i) (λ due. Answers due a.reply a.bytes))
  each_due t i = go (slice_get course.answers i) refl
    where
      go : (x : Option RepliedLine) → slice_get course.answers i ≡ x → IfSome x (λ a. IfSome (answer_due course.shape course.tree (calls_in course) i) (λ due. Answers due a.reply a.bytes))
      go None e = tt
      go (Some a) e =
          let x = row_of tells o h rows are known i a e in
          let r = row_is_at tells o h rows are i x.0 x.1 in
          let here : IfSome (answer_due o.shape o.tree (marked_calls o h) i) (λ due. Answers due x.0.answered.reply x.0.bytes) = r.2.answer t in
          let there : IfSome (answer_due o.shape o.tree (calls_in course) i) (λ due. Answers due x.0.answered.reply x.0.bytes) =
          subst (λ calls. IfSome (answer_due o.shape o.tree calls i) (λ due. Answers due x.0.answered.reply x.0.bytes)) (calls_are tells o h rows are) here in
          subst (λ (b : RepliedLine). IfSome (answer_due o.shape o.tree (calls_in course) i) (λ due. Answers due b.reply b.bytes)) x.2 there

  -- ---- causes

  -- each fault of the history has a cause, and such a cause is one until now
  module _ (before then now : Counts) (next_stamp : ℕ) (marks : (e : Entry) → Has h e → IfSome (fault_of e.fault) (λ fault. (call : Call) × (call_of o e ≡ Some call) × HasCause tells before then next_stamp call fault))
      (still : (call : Call) (fault : FaultReply) → HasCause tells before then next_stamp call fault → HasCause tells before now next_stamp call fault) where
    cause_of : (row : Row) (i : ℕ) → slice_get rows i ≡ Some row → IfSome (fault_in row.answered.reply) (HasCause tells before now next_stamp (line_or o.lines row.line).call)
    cause_of row i is =
        go (fault_in row.answered.reply)
        (subst (λ (x : Option FaultReply). IfSome x (λ fault. (call : Call) × (call_of o (entry_of row) ≡ Some call) × HasCause tells before then next_stamp call fault)) (marked row.answered.reply) (marks (entry_of row) p.0))
      where
        p : Has h (entry_of row) × (is_effect (entry_of row) ≡ true)
        p = passes is_effect h i (entry_of row) (entry_at tells o h rows are i row is)

        call_is : call_of o (entry_of row) ≡ Some (line_or o.lines row.line).call
        call_is = ap (λ (b : Bool). cond b (call_at o.lines row.line) None) p.1 ∙ ap (λ (x : Option Line). option_map (λ (l : Line). l.call) x) (line_or_is o.lines row (row_known tells o h rows are known i row is))

        go : (x : Option FaultReply) → IfSome x (λ fault. (call : Call) × (call_of o (entry_of row) ≡ Some call) × HasCause tells before then next_stamp call fault) → IfSome x (HasCause tells before now next_stamp (line_or o.lines row.line).call)
        go None none = tt
        go (Some fault) has =
            let same : has.0 ≡ (line_or o.lines row.line).call = some_same has.0 (line_or o.lines row.line).call (sym has.1 ∙ call_is) in
            subst (λ (c : Call). HasCause tells before now next_stamp c fault) same (still has.0 fault has.2)

    pub each_cause : (i : ℕ) → IfSome (slice_get course.answers i) (λ a. IfSome (fault_in a.reply) (HasCause tells before now next_stamp a.line.call))
    each_cause i = go (slice_get course.answers i) refl
      where
        go : (x : Option RepliedLine) → slice_get course.answers i ≡ x → IfSome x (λ a. IfSome (fault_in a.reply) (HasCause tells before now next_stamp a.line.call))
        go None e = tt
        go (Some a) e =
            let x = row_of tells o h rows are known i a e in
            subst (λ (b : RepliedLine). IfSome (fault_in b.reply) (HasCause tells before now next_stamp b.line.call)) x.2 (cause_of x.0 i x.1)

  -- ---- numbers

  -- what is read of each fault is read of the effects
  faults_are : (f : Option FaultReply → Option ℕ) → filter_map (λ (e : Entry). f (fault_of e.fault)) (filter is_effect h) ≡ filter_map (λ (a : RepliedLine). f (fault_in a.reply)) course.answers
  faults_are f =
      ap (filter_map (λ (e : Entry). f (fault_of e.fault))) (effects_are tells o h rows are)
      ∙ (found_map (λ (e : Entry). f (fault_of e.fault)) entry_of rows
      ∙ ((λ k. filter_map (λ (row : Row). f (marked row.answered.reply k)) rows)
      ∙ sym (ap (filter_map (λ (a : RepliedLine). f (fault_in a.reply))) (answers_are tells o h rows are known)
      ∙ found_map (λ (a : RepliedLine). f (fault_in a.reply)) (reply_or o.lines) rows)))

  pub failed_differ : AllPairs (λ a b. (n : ℕ) → eio_of (fault_of a.fault) ≡ Some n → eio_of (fault_of b.fault) ≡ Some n → n ≡ top) h → DifferBelowTop (filter_map (λ (a : RepliedLine). eio_of (fault_in a.reply)) course.answers)
  failed_differ past =
      subst DifferBelowTop (faults_are eio_of)
      (pairs_of_found (λ (a b : Entry). (n : ℕ) → eio_of (fault_of a.fault) ≡ Some n → eio_of (fault_of b.fault) ≡ Some n → n ≡ top) (λ m n. m ≡ n → m ≡ top) (λ (e : Entry). eio_of (fault_of e.fault)) (filter is_effect h)
      (λ x y m n differ is is' same. differ m is (is' ∙ ap Some (sym same)))
      (AllPairs-filter (λ (a b : Entry). (n : ℕ) → eio_of (fault_of a.fault) ≡ Some n → eio_of (fault_of b.fault) ≡ Some n → n ≡ top) is_effect h past))

  pub refused_alike : (number : ℕ) → ((e : Entry) (n : ℕ) → Has h e → erofs_of (fault_of e.fault) ≡ Some n → n ≡ number) → AreOneNumber (filter_map (λ (a : RepliedLine). erofs_of (fault_in a.reply)) course.answers)
  refused_alike number one =
      subst AreOneNumber (faults_are erofs_of)
      (pairs_of_found (λ (a b : Entry). (n : ℕ) → (erofs_of (fault_of a.fault) ≡ Some n → n ≡ number) × (erofs_of (fault_of b.fault) ≡ Some n → n ≡ number)) (λ m n. m ≡ n) (λ (e : Entry). erofs_of (fault_of e.fault)) (filter is_effect h)
      (λ x y m n both is is'. (both m).0 is ∙ sym ((both n).1 is'))
      (AllPairs-filter (λ (a b : Entry). (n : ℕ) → (erofs_of (fault_of a.fault) ≡ Some n → n ≡ number) × (erofs_of (fault_of b.fault) ≡ Some n → n ≡ number)) is_effect h
      (pairs_of_each (λ (a b : Entry). (n : ℕ) → (erofs_of (fault_of a.fault) ≡ Some n → n ≡ number) × (erofs_of (fault_of b.fault) ≡ Some n → n ≡ number)) h (λ x y hx hy n. (λ is. one x n hx is, λ is. one y n hy is)))))
