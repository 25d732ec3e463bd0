-- A put was run on a volume that opened on its medium, and it was closed: what is said of its course.
use Rattle.std.proofs.Common.{◌≡◌, ◌⊎◌, ◌^◌, ◌||◌, ℕ, zero, suc, ◌+◌, ◌-◌, ◌==◌, ◌<◌, ◌≤◌, not, Bool, true, false, cond, get_or, List, [], ◌∷◌, ◌++◌, map, length, filter, take, Option, Some, None, IsTrue, refl, sym, ap, subst, ◌∙◌, inl, inr, ⊎_elim, arith}
use Rattle.std.proofs.lemmas.Bool.{cases_lt, ne_eqb}
use Rattle.std.proofs.Math.Seq.{take-append_seam}
use Rattle.std.specs.Prelude.{IfSome, filter_map, position, slice_get, unwrap_or}
use Rattle.std.proofs.lemmas.List.Quantifiers.{position-Some}
use Rattle.std.specs.List.{cons_option, list_any}
use Rattle.nl_field.specs.CrashStates.{saturated, top}
use Rattle.nl_field.specs.Members.{Has}
use Rattle.nl_tree.specs.Causes.{Counts, FaultRose, HasCause, MayBeExhausted, NeverFall, fault_in, max_stamp}
use Rattle.nl_tree.specs.Order.{SyncPoint, sync_answered}
use Rattle.nl_tree.specs.Replay.{replay}
use Rattle.nl_tree.specs.Step.{space_refusal}
use Rattle.nl_tree.specs.Tree.{Tree}
use Rattle.nl_tree.specs.declared.call.Call.{Call}
use Rattle.nl_tree.specs.declared.call.Line.{Line}
use Rattle.nl_tree.specs.declared.call.Call.TheVariants.{Sync}
use Rattle.nl_tree.specs.declared.reply.FaultReply.{FaultReply}
use Rattle.nl_tree.specs.declared.reply.Reply.{Reply}
use Rattle.nl_tree.specs.declared.reply.Reply.TheVariants.{Done, Count, Content, Names, File, Dir, Synced, No, Fault}
use Rattle.nl_iface.specs.declared.counts.Counts.{Ghosts}
use Rattle.nl_core.specs.Core.{begun_of, running_of}
use Rattle.nl_core.specs.declared.state.Core.{Core}
use Rattle.nl_spec_image.specs.Crash.{Run}
use Rattle.nl_spec_image.specs.Stands.{ConsistentAs}
use Rattle.nl_turns.specs.History.{IsSyncInRange, Opening, SyncsInRange, begun_at, effects, effects_before, fault_of, is_effect, marked_calls, opening_counts, sync_of, syncs_of, tree_after as tree_of_history, with_lines}
use Rattle.nl_turns.specs.Served.{effect_entry}
use Rattle.nl_turns.specs.declared.entry.Entry.{Entry}
use Rattle.nl_calls_files.proofs.Directories.{room}
use Rattle.nl_calls_steps.specs.Calls.{counts_of}
use Rattle.nl_volume_stage.specs.Standing.{FaultReplyHasCause, RepresentsHistory, run_of}
use Rattle.nl_volume_stage.proofs.Causes.{still_cause}
use Rattle.nl_volume.specs.Closing.{IsYoungAtEnd}
use Rattle.nl_volume.specs.Opened.{OpensOn}
use Rattle.nl_volume.specs.Opening.{opening_of}
use Rattle.nl_spec_headline.specs.Course.{Course, RepliedLine, calls_in, count_after, run_in, tree_after as tree_of_course}
use Rattle.nl_spec_headline.specs.Headline.{BeginsSpelled, CrashesLeavePrefixes, EndsAfterAll, IsYoung, OpensAs}
use Rattle.nl_spec_headline.specs.Streams.{Medium, MediumRose}
use Rattle.nl_cmd_course.proofs.Replies.{effects_length, marked as marked_reply, synced as synced_reply}
use Rattle.nl_cmd_course.proofs.Stopping.{starts_as}
use Rattle.nl_put_tree.specs.Putting.{IsBeside, IsPut, IsUnderWay, Path, is_fault}
use Rattle.nl_cmd_put.specs.Asking.{MetFault, answers_from, course_of}
use Rattle.nl_cmd_course.specs.Asking.{Asked, entries_from, line_of, lines_from, marked, tree_after}
use Rattle.nl_cmd_put.specs.Phases.{EndsSynced, IsEnd}
use Rattle.nl_cmd_put.specs.OnVolume.{CourseEnds, IsDurable, RunsPut, last_of}
use Rattle.nl_cmd_put.specs.declared.ending.End.{End}
use Rattle.nl_cmd_put.specs.declared.ending.End.TheVariants as ends
use Rattle.nl_cmd_course.proofs.Asked.{calls_are, knows, length_more}

-- ---- the course, and the history

calls_of_answers : (k : ℕ) (asked : Asked) → map (λ (a : RepliedLine). (a.line.call, fault_in a.reply)) (answers_from k asked) ≡ marked asked
calls_of_answers k [] = refl
calls_of_answers k ((call, reply) ∷ asked) = (λ i. (call, fault_in reply) ∷ calls_of_answers (k + 1) asked i)

many_answers : (k : ℕ) (asked : Asked) → length (answers_from k asked) ≡ length asked
many_answers k [] = refl
many_answers k ((call, reply) ∷ asked) = ap suc (many_answers (k + 1) asked)

many_entries : (k : ℕ) (asked : Asked) → length (entries_from k asked) ≡ length asked
many_entries k [] = refl
many_entries k ((call, reply) ∷ asked) = ap suc (many_entries (k + 1) asked)

all_effects : (k : ℕ) (asked : Asked) → 0 < k → filter is_effect (entries_from k asked) ≡ entries_from k asked
all_effects k [] low = refl
all_effects k ((call, reply) ∷ asked) low =
    (λ i. cond (not (ne_eqb k 0 (λ same. omega (arith, same, low)) i)) (effect_entry k reply ∷ filter is_effect (entries_from (k + 1) asked)) (filter is_effect (entries_from (k + 1) asked)))
    ∙ (λ i. effect_entry k reply ∷ all_effects (k + 1) asked (omega arith) i)

many_effects : (k : ℕ) (asked : Asked) → 0 < k → effects (entries_from k asked) ≡ length asked
many_effects k asked low = sym (effects_length (entries_from k asked)) ∙ ap length (all_effects k asked low) ∙ many_entries k asked

syncs_from : (k : ℕ) (asked : Asked) → filter_map (λ (a : RepliedLine). sync_answered a.reply) (answers_from k asked) ≡ filter_map (λ (e : Entry). sync_of e.synced) (entries_from k asked)
syncs_from k [] = refl
syncs_from k ((call, reply) ∷ asked) = (λ i. cons_option (sym (synced_reply reply) i) (syncs_from (k + 1) asked i))

syncs_are : (k : ℕ) (asked : Asked) → filter_map (λ (a : RepliedLine). sync_answered a.reply) (answers_from k asked) ≡ syncs_of (entries_from k asked)
unfolding syncs_of
syncs_are k asked = syncs_from k asked

-- ---- a fault that was met

or_else : (a b : Bool) → (a || b) ≡ true → (a ≡ true) ⊎ (b ≡ true)
or_else true b e = inl refl
or_else false b e = inr e

fault_is : (reply : Reply) → is_fault reply ≡ true → (f : FaultReply) × (fault_in reply ≡ Some f)
fault_is (Fault f) e = (f, refl)
fault_is Done e = absurd (cc e)
fault_is (Count n) e = absurd (cc e)
fault_is (No r) e = absurd (cc e)
fault_is Content e = absurd (cc e)
fault_is (Names k) e = absurd (cc e)
fault_is (File z k) e = absurd (cc e)
fault_is (Dir k) e = absurd (cc e)
fault_is (Synced u m) e = absurd (cc e)

met : (k : ℕ) (asked : Asked) → MetFault asked → (e : Entry) × Has (entries_from k asked) e × ((f : FaultReply) × (fault_of e.fault ≡ Some f))
met k [] h = absurd (cc h)
met k ((call, reply) ∷ asked) h = by (met (k + 1) asked) (or_else (is_fault reply) (list_any (λ (x : Call × Reply). is_fault x.1) asked) h)
  where
    by : (MetFault asked → (e : Entry) × Has (entries_from (k + 1) asked) e × ((f : FaultReply) × (fault_of e.fault ≡ Some f)))
        → (is_fault reply ≡ true) ⊎ (list_any (λ (x : Call × Reply). is_fault x.1) asked ≡ true) → (e : Entry) × Has (entries_from k ((call, reply) ∷ asked)) e × ((f : FaultReply) × (fault_of e.fault ≡ Some f))
    by rest (inl e) = let f = fault_is reply e in (effect_entry k reply, inl refl, (f.0, marked_reply reply ∙ f.1))
    by rest (inr e) = let r = rest e in (r.0, inr r.1, r.2)

-- ---- the last entry

split_entries : (k : ℕ) (before last : Asked) → entries_from k (before ++ last) ≡ entries_from k before ++ entries_from (k + length before) last
split_entries k [] last = ap (λ (n : ℕ). entries_from n last) (omega arith)
split_entries k ((call, reply) ∷ before) last =
    let same : k + 1 + length before ≡ k + suc (length before) = omega arith in
    (λ i. effect_entry k reply ∷ split_entries (k + 1) before last i) ∙ (λ i. effect_entry k reply ∷ entries_from (k + 1) before ++ entries_from (same i) last)

last_at : {A : Type 0} (xs : List A) (y : A) → slice_get (xs ++ y ∷ []) (length xs) ≡ Some y
last_at [] y = refl
last_at (x ∷ xs) y = last_at xs y

has_last : {A : Type 0} (xs : List A) (y : A) → Has (xs ++ y ∷ []) y
has_last [] y = inl refl
has_last (x ∷ xs) y = inr (has_last xs y)

staged_none : (k : ℕ) (asked : Asked) (i : ℕ) (d : Entry) → i < length (entries_from k asked) → (get_or (entries_from k asked) i d).staged ≡ 0
staged_none k [] i d low = absurd (omega (arith, low))
staged_none k ((call, reply) ∷ asked) zero d low = refl
staged_none k ((call, reply) ∷ asked) (suc i) d low = staged_none (k + 1) asked i d (omega (arith, low))

no_entry : Entry
no_entry = effect_entry 0 Done

eqb_no : (a b : ℕ) → (a == b) ≡ true → (a ≡ b → ⊥) → ⊥
eqb_no a b same differ = cc (same, ne_eqb a b differ)

none_began : (k line : ℕ) (asked : Asked) → 0 < line → position (λ (e : Entry). e.staged == line) (entries_from k asked) ≡ None
none_began k line asked low = go (position (λ (e : Entry). e.staged == line) (entries_from k asked)) refl
  where
    go : (x : Option ℕ) → position (λ (e : Entry). e.staged == line) (entries_from k asked) ≡ x → position (λ (e : Entry). e.staged == line) (entries_from k asked) ≡ None
    go None e = e
    go (Some i) e =
        let p = position-Some (λ (e : Entry). e.staged == line) (entries_from k asked) i no_entry e in
        absurd (eqb_no _ _ p.1 (λ same. let z = staged_none k asked i no_entry p.0 in omega (arith, same, z, low)))

-- ---- a sync that was answered last made all calls before it durable

module _ (o : Opening) (before : Asked) (upto moment : ℕ) (h : List Entry) (is : h ≡ entries_from 1 (before ++ (Sync, Synced upto moment) ∷ [])) (syncs : SyncsInRange o h) (few : o.count + length before ≤ top) where
  abbrev last : Entry
  last = effect_entry (1 + length before) (Synced upto moment)

  h_is : h ≡ entries_from 1 before ++ last ∷ []
  h_is = is ∙ split_entries 1 before ((Sync, Synced upto moment) ∷ [])

  found_last : slice_get h (length before) ≡ Some last
  found_last = (λ i. slice_get (h_is i) (sym (many_entries 1 before) i)) ∙ last_at (entries_from 1 before) last

  taken : take (length before) h ≡ entries_from 1 before
  taken = (λ i. take (sym (many_entries 1 before) i) (h_is i)) ∙ take-append_seam (entries_from 1 before) (last ∷ [])

  begun : begun_at h (1 + length before) (length before) ≡ length before
  unfolding begun_at
  begun =
      ap (λ (es : List Entry). unwrap_or (position (λ (e : Entry). e.staged == (1 + length before)) es) (length before)) taken
      ∙ ap (λ (x : Option ℕ). unwrap_or x (length before)) (none_began 1 (1 + length before) before (omega arith))

  earlier : effects_before h (begun_at h (1 + length before) (length before)) ≡ length before
  unfolding effects_before
  earlier = ap (λ (n : ℕ). effects (take n h)) begun ∙ ap effects taken ∙ many_effects 1 before (omega arith)

  pub all_durable : o.count + length before ≤ upto
  all_durable =
      let range = subst (λ (x : Option Entry). IfSome x (λ e. IfSome (sync_of e.synced) (IsSyncInRange o h (length before) e.line))) found_last (syncs (length before)) in
      let low = range.not_below_begin in
      let same : saturated (o.count + effects_before h (begun_at h (1 + length before) (length before))) ≡ saturated (o.count + length before) = ap (λ (n : ℕ). saturated (o.count + n)) earlier in
      let most : saturated (o.count + length before) ≡ o.count + length before = omega (arith, few) in
      omega (arith, low, same, most)

final_of : (k : ℕ) (before : Asked) (call : Call) (reply : Reply) → (final : RepliedLine) × (last_of (answers_from k (before ++ (call, reply) ∷ [])) ≡ Some final) × ((final.line.call ≡ call) × (final.reply ≡ reply))
final_of k [] call reply = (record { line = line_of k call; reply = reply; bytes = [] }, refl, (refl, refl))
final_of k ((c, r) ∷ []) call reply = (record { line = line_of (k + 1) call; reply = reply; bytes = [] }, refl, (refl, refl))
final_of k ((c, r) ∷ (d, s) ∷ before) call reply = final_of (k + 1) ((d, s) ∷ before) call reply

has_sync : (k : ℕ) (before : Asked) (upto moment : ℕ) → Has (filter_map (λ (a : RepliedLine). sync_answered a.reply) (answers_from k (before ++ (Sync, Synced upto moment) ∷ []))) (record { upto = upto; moment = moment })
has_sync k [] upto moment = inl refl
has_sync k ((call, reply) ∷ before) upto moment = by (sync_answered reply) (has_sync (k + 1) before upto moment)
  where
    by : (x : Option SyncPoint) → Has (filter_map (λ (a : RepliedLine). sync_answered a.reply) (answers_from (k + 1) (before ++ (Sync, Synced upto moment) ∷ []))) (record { upto = upto; moment = moment })
        → Has (cons_option x (filter_map (λ (a : RepliedLine). sync_answered a.reply) (answers_from (k + 1) (before ++ (Sync, Synced upto moment) ∷ [])))) (record { upto = upto; moment = moment })
    by None h = h
    by (Some s) h = inr h

-- ---- the tree of an opening fits its volume

none_replayed : (o : Opening) → tree_of_history o [] ≡ o.tree
unfolding marked_calls replay
none_replayed o = refl

pub fits_so : {D : Type 0} (g : Ghosts D) (origin v : Core D) (tree : Tree) (lines : List Line) (done : ℕ) → RepresentsHistory g origin (opening_of g v tree lines) [] v done → g.tells → space_refusal (g.shape v.device) tree ≡ None
fits_so g origin v tree lines done s t =
    let runs = s.serves.along.runs t in
    sym (subst (λ (x : Tree). None ≡ space_refusal (g.shape v.device) x) (none_replayed (opening_of g v tree lines))
    (room (g.shape v.device) (running_of g v) runs.0 (tree_of_history (opening_of g v tree lines) []) runs.1.runs))

-- ---- the whole

module _ {D : Type 0} (g : Ghosts D) (origin v : Core D) (done : ℕ) (tree : Tree) (asked : Asked) (stands : RepresentsHistory g origin (with_lines (opening_of g origin tree []) (lines_from 1 asked ++ [])) (entries_from 1 asked) v done) where
  abbrev o0 : Opening
  o0 = opening_of g origin tree []

  abbrev o : Opening
  o = with_lines o0 (lines_from 1 asked ++ [])

  abbrev h : List Entry
  h = entries_from 1 asked

  abbrev course : Course
  course = course_of o0 asked

  many : count_after course ≡ o.count + effects h
  many = ap (λ (n : ℕ). o.count + n) (many_answers 1 asked ∙ sym (many_effects 1 asked (omega arith)))

  calls_so : calls_in course ≡ marked asked
  calls_so = calls_of_answers 1 asked

  history_so : calls_in course ≡ marked_calls o h
  history_so = calls_so ∙ sym (calls_are o 1 asked (omega arith) (knows 1 asked []))

  run_is : run_in course ≡ run_of o h
  run_is = λ k. record { shape = o.shape; count = o.count; tree = o.tree; calls = history_so k; syncs = syncs_are 1 asked k }

  tree_is : tree_of_history o h ≡ tree_of_course course
  tree_is = ap (replay o.shape o.tree) (sym history_so)

  module _ (path : Path) (bytes : List ℕ) (stops : Run → Type 0) (medium medium' : Medium) (end : End) (lost worn : Bool) (own : Path) (beside : IsBeside path own)
      (under_way : g.tells → (n : ℕ) → IsUnderWay tree own path bytes (replay o0.shape tree (take n (marked asked)))) (is_end : IsEnd g.tells o0 own path bytes asked end)
      (counts : medium.counts ≡ opening_counts o0) (later : NeverFall (counts_of g v.device) medium'.counts) (clock : medium'.counts.clock ≤ top) (writes : medium'.counts.write_faults ≤ top)
      (opened : OpensOn g medium.contents origin) (sound : g.tells → ConsistentAs medium.contents origin.count tree) (short : length asked < 2 ^ 32)
      (leaves : IsYoungAtEnd g.tells o h (begun_of origin) medium'.counts.clock → stops (run_of o h))
      (ends_well : IsYoungAtEnd g.tells o h (begun_of origin) medium'.counts.clock → (FaultRose (opening_counts o) medium'.counts → ⊥) → worn ≡ false → ConsistentAs medium'.contents (o.count + effects h) (tree_of_history o h))
      (none_lost : g.tells → lost ≡ false) (worn_is : IsTrue worn → 2 ^ 62 ≤ g.next_stamp v.device) where
    abbrev before : Counts
    before = medium.counts

    abbrev now : Counts
    now = medium'.counts

    opens_so : g.tells → OpensAs medium.contents course
    opens_so t = let k = opened.opens t in record { sound = sound t; shape = k.shape; next_stamp = k.next_stamp }

    begins_so : BeginsSpelled course
    begins_so = record { count = opened.few; next_stamp = opened.spelled }

    -- the numbers last to the end
    young_so : g.tells → IsYoung medium.contents before now course → IsYoungAtEnd g.tells o h (begun_of origin) now.clock
    young_so t young =
        let a = young.transactions in
        let b = young.places in
        let c = stands.serves.since.clock in
        let l = later.clock in
        let n = opened.number t in
        let begin : before.clock ≡ o.clock = ap (λ (x : Counts). x.clock) counts in
        let m = many in
        record {
          told = t;
          moments = young.clock;
          calls = omega (arith, b, m);
          numbers = omega (arith, a, n, c, l, begin);
        }

    worn_so : 2 ^ 62 ≤ g.next_stamp v.device → MayBeExhausted (opening_counts o) now o.next_stamp
    worn_so much = ⊎_elim (λ low. ⊎_elim (λ less. inl (used low less)) (λ full. inr (inr (omega (arith, full, writes)))) (cases_lt now.write_faults top)) (λ full. inr (inl (omega (arith, full, clock)))) (cases_lt now.clock top)
      where
        used : now.clock < top → now.write_faults < top → max_stamp ≤ o.next_stamp + (now.clock - o.clock) + (now.write_faults - o.write_faults)
        used low less =
            let c = later.clock in
            let w = later.write_faults in
            let at = stands.serves.next_stamp (omega (arith, c, low)) (omega (arith, w, less)) in
            omega (arith, c, w, at, much)

    -- a fault has its cause
    fault_so : MetFault asked → (call : Call) × (fault : FaultReply) × HasCause g.tells before now course.next_stamp call fault
    fault_so some =
        let e = met 1 asked some in
        let mark = subst (λ (x : Option FaultReply). IfSome x (FaultReplyHasCause g.tells o (counts_of g v.device) e.0)) e.2.1 (stands.serves.marks e.0 e.1) in (
          mark.0,
          e.2.0,
          subst (λ (x : Counts). HasCause g.tells x now o.next_stamp mark.0 e.2.0) (sym counts)
              (still_cause (opening_counts o) (counts_of g v.device) now later stands.serves.since writes clock g.tells o.next_stamp mark.0 e.2.0 mark.2),
        )

    syncs_within : (s : SyncPoint) → Has (run_in course).syncs s → (before.clock ≤ s.moment) × (s.moment ≤ now.clock) × ((now.clock < 2 ^ 63) → (before.clock < s.moment) ⊎ (s.upto ≡ o.count))
    syncs_within s has =
        let w = stands.serves.moments.within s (subst (λ (xs : List SyncPoint). Has xs s) (syncs_are 1 asked) has) in
        let begin : before.clock ≡ o.clock = ap (λ (x : Counts). x.clock) counts in
        let e = stands.serves.moments.ends in
        let l = later.clock in
        let first = w.1 in
        let last = w.2 in
        (omega (arith, begin, first), omega (arith, e, l, last), λ young. ⊎_elim (λ so. inl (let strict = so (omega (arith, e, l, last, young)) in omega (arith, strict, begin))) inr w.0)

    stopped_so : g.tells → IsYoung medium.contents before now course → CrashesLeavePrefixes medium.contents before stops course
    stopped_so t young = record {
      starts = starts_as (run_in course) before.clock medium.contents (sound t) (λ s has. (syncs_within s has).2 young.clock);
      leaves = subst stops (sym run_is) (leaves (young_so t young));
    }

    ends_so : g.tells → IsYoung medium.contents before now course → (MediumRose medium medium' → ⊥) → worn ≡ false → EndsAfterAll medium'.contents course
    ends_so t young none unworn =
        subst (λ (x : ℕ × Tree). ConsistentAs medium'.contents x.0 x.1) (λ k. (sym many k, tree_is k))
        (ends_well (young_so t young) (λ rose. none (subst (λ (x : Counts). FaultRose x now) (sym counts) rose)) unworn)

    same_tree : tree_of_course course ≡ tree_after o0 asked
    same_tree = ap (replay o0.shape tree) calls_so

    durable_so : EndsSynced asked → IsDurable course before.clock now.clock
    durable_so e =
        let has = subst (λ (xs : Asked). Has (filter_map (λ (a : RepliedLine). sync_answered a.reply) (answers_from 1 xs)) (record { upto = e.upto; moment = e.moment })) (sym e.is) (has_sync 1 e.before e.upto e.moment) in
        let w = syncs_within (record { upto = e.upto; moment = e.moment }) has in
        let len : length asked ≡ suc (length e.before) = ap length e.is ∙ length_more e.before Sync (Synced e.upto e.moment) in
        let count = opened.few in
        let all = all_durable o e.before e.upto e.moment h (ap (entries_from 1) e.is) stands.serves.syncs (omega (arith, len, count, short)) in
        let answers = many_answers 1 asked in
        let final = final_of 1 e.before Sync (Synced e.upto e.moment) in
        record {
          sync = record { upto = e.upto; moment = e.moment };
          listed = has;
          final = final.0;
          is_final = ap (λ (xs : Asked). last_of (answers_from 1 xs)) e.is ∙ final.1;
          is_sync = final.2;
          all = omega (arith, len, all, answers);
          moment = (w.0, w.1);
        }

    ended_so : (x : End) → IsEnd g.tells o0 own path bytes asked x → CourseEnds g.tells own path bytes medium medium' course x
    ended_so (ends.Put count) is = (is.0, durable_so is.1, λ t. subst (IsPut tree path bytes) (sym same_tree) (is.2 t))
    ended_so (ends.Refused r) is = λ t. (same_tree ∙ (is t).0, (is t).1)
    ended_so ends.Memory is = λ t. same_tree ∙ is t
    ended_so ends.Fault is = by (MetFault_or asked)
      where
        MetFault_or : (xs : Asked) → (MetFault xs) ⊎ (MetFault xs → ⊥)
        MetFault_or xs = go (list_any (λ (x : Call × Reply). is_fault x.1) xs) refl
          where
            go : (b : Bool) → list_any (λ (x : Call × Reply). is_fault x.1) xs ≡ b → (MetFault xs) ⊎ (MetFault xs → ⊥)
            go true e = inl e
            go false e = inr (λ some. cc (e, some))

        by : MetFault asked ⊎ (MetFault asked → ⊥) → CourseEnds g.tells own path bytes medium medium' course ends.Fault
        by (inl some) = inl (fault_so some)
        by (inr none) = inr (λ t. none (is t))

    pub runs_put : RunsPut g.tells path bytes stops medium medium' end lost worn course
    runs_put = record {
      opens = opens_so;
      begins = begins_so;
      own = own;
      beside = beside;
      under_way = λ t n. subst (λ (calls : List (Call × Option FaultReply)). IsUnderWay tree own path bytes (replay o0.shape tree (take n calls))) (sym calls_so) (under_way t n);
      ended = ended_so end is_end;
      causes = record { lost_is = none_lost; worn_is = λ is. subst (λ (x : Counts). MayBeExhausted x now o.next_stamp) (sym counts) (worn_so (worn_is is)) };
      stopped = stopped_so;
      ends = ends_so;
    }
