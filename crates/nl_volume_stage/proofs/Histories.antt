-- What one entry more adds to a history.
use Rattle.std.proofs.Common.{◌≡◌, ◌≢◌, ◌⊎◌, inl, inr, ⊎_elim, ℕ, zero, suc, ◌+◌, ◌<◌, ◌≤◌, ◌==◌, Bool, true, false, not, cond, List, [], ◌∷◌, ◌++◌, length, filter, take, Option, Some, None, refl, sym, ap, subst, ◌∙◌, arith, length-append, eq-eqb, ne_eqb}
use Rattle.std.specs.Prelude.{nat_lt, IfSome, AllPairs, slice_get, sum_by, filter_map, position, unwrap_or, option_map, is_some}
use Rattle.std.proofs.lemmas.Bool.{cases_eq, cases_lt, cond-false, cond-true, le-ltb, lt-ltb}
use Rattle.std.proofs.Math.ListN.{get_or}
use Rattle.std.proofs.Math.Seq.{get_or-append_seam}
use Rattle.std.proofs.lemmas.List.{get_or_append_left, take-append-le, take_all, length-take}
use Rattle.std.proofs.lemmas.List.Elements.{filter-append, filter_map-append}
use Rattle.std.specs.List.{position_or_len}
use Rattle.std.proofs.lemmas.List.Folds.{position_or_len_push}
use Rattle.std.proofs.lemmas.List.Sums.{prefix_len-le-length, sum_by-append, sum_by-take-le}
use Rattle.std.proofs.lemmas.List.Quantifiers.{position-Some}
use Rattle.std.proofs.lemmas.Option.{slice_get_past}
use Rattle.nl_field.specs.CrashStates.{saturated}
use Rattle.nl_field.specs.Members.{Has}
use Rattle.nl_tree.specs.Order.{SyncPoint}
use Rattle.nl_tree.specs.declared.call.Call.{Call}
use Rattle.nl_tree.specs.declared.reply.FaultReply.{FaultReply}
use Rattle.nl_turns.specs.History.{IsKnown, IsSyncInRange, Opening, SyncsInRange, begun_at, call_at, effects, effects_before, fault_of, is_effect, marked_calls, place_of, sync_of, syncs_of}
use Rattle.nl_tree.specs.declared.turn.DutyAnswer.TheVariants.{Did}
use Rattle.nl_turns.specs.Served.{duty_entry}
use Rattle.nl_turns.specs.declared.entry.Entry.{Entry}
use Rattle.nl_turns.specs.declared.entry.SyncMark.TheVariants.{NoSync, At}
use Rattle.nl_volume_stage.specs.Standing.{IsGoal}

-- ---- members

pub has_before : {X : Type 0} (xs : List X) (x y : X) → Has xs y → Has (xs ++ x ∷ []) y
has_before [] x y none = absurd none
has_before (z ∷ xs) x y (inl e) = inl e
has_before (z ∷ xs) x y (inr has) = inr (has_before xs x y has)

pub has_last : {X : Type 0} (xs : List X) (x : X) → Has (xs ++ x ∷ []) x
has_last [] x = inl refl
has_last (z ∷ xs) x = inr (has_last xs x)

pub has_or_last : {X : Type 0} (xs : List X) (x y : X) → Has (xs ++ x ∷ []) y → Has xs y ⊎ (x ≡ y)
has_or_last [] x y (inl e) = inr e
has_or_last [] x y (inr none) = absurd none
has_or_last (z ∷ xs) x y (inl e) = inl (inl e)
has_or_last (z ∷ xs) x y (inr has) = ⊎_elim (λ h. inl (inr h)) inr (has_or_last xs x y has)

pub has_at : {X : Type 0} (xs : List X) (i : ℕ) (d : X) → i < length xs → Has xs (get_or xs i d)
has_at [] i d low = absurd (omega (arith, low))
has_at (x ∷ xs) zero d low = inl refl
has_at (x ∷ xs) (suc i) d low = inr (has_at xs i d (omega (arith, low)))

-- all pairs of a list, and each of its members with one more
pub pairs_more : {X : Type 0} (R : X → X → Type 0) (xs : List X) (x : X) → AllPairs R xs → ((y : X) → Has xs y → R y x) → AllPairs R (xs ++ x ∷ [])
pairs_more R xs x all each i j d low high = ⊎_elim before last (cases_lt j (length xs))
  where
    before : j < length xs → R (get_or (xs ++ x ∷ []) i d) (get_or (xs ++ x ∷ []) j d)
    before within = subst (λ y. R y (get_or (xs ++ x ∷ []) j d)) (sym (get_or_append_left xs (x ∷ []) d i (omega (arith, low, within)))) (subst (λ y. R (get_or xs i d) y) (sym (get_or_append_left xs (x ∷ []) d j within)) (all i j d low within))

    last : length xs ≤ j → R (get_or (xs ++ x ∷ []) i d) (get_or (xs ++ x ∷ []) j d)
    last past =
        let n = length-append xs (x ∷ []) in
        let is : j ≡ length xs = omega (arith, past, high, n) in
        let here : get_or (xs ++ x ∷ []) j d ≡ x = ap (λ k. get_or (xs ++ x ∷ []) k d) is ∙ get_or-append_seam xs x [] d in
        subst (λ y. R y (get_or (xs ++ x ∷ []) j d)) (sym (get_or_append_left xs (x ∷ []) d i (omega (arith, low, is)))) (subst (λ y. R (get_or xs i d) y) (sym here) (each (get_or xs i d) (has_at xs i d (omega (arith, low, is)))))

-- ---- what an entry adds

pub effects_more : (h : List Entry) (e : Entry) → effects (h ++ e ∷ []) ≡ effects h + cond (is_effect e) 1 0
effects_more h e = sum_by-append (λ x. cond (is_effect x) 1 0) h (e ∷ []) ∙ (let one : sum_by (λ (x : Entry). cond (is_effect x) 1 0) (e ∷ []) ≡ 0 + cond (is_effect e) 1 0 = refl in omega (arith, one))

calls_append : (o : Opening) (h k : List Entry) → marked_calls o (h ++ k) ≡ marked_calls o h ++ marked_calls o k
unfolding marked_calls
calls_append o h k =
    let f : Entry → Option (Call × Option FaultReply) = λ x. option_map (λ call. (call, fault_of x.fault)) (call_at o.lines x.line) in
    ap (filter_map f) (filter-append is_effect h k) ∙ filter_map-append f (filter is_effect h) (filter is_effect k)

pub calls_more : (o : Opening) (h : List Entry) (e : Entry) → marked_calls o (h ++ e ∷ []) ≡ marked_calls o h ++ marked_calls o (e ∷ [])
calls_more o h e = calls_append o h (e ∷ [])

pub no_call : (o : Opening) (e : Entry) → e.line ≡ 0 → marked_calls o (e ∷ []) ≡ []
unfolding marked_calls
no_call o e none =
    let f : Entry → Option (Call × Option FaultReply) = λ x. option_map (λ call. (call, fault_of x.fault)) (call_at o.lines x.line) in
    ap (λ b. filter_map f (cond b (e ∷ []) [])) (ap not (eq-eqb e.line 0 none))

pub one_call : (o : Opening) (e : Entry) (call : Call) → is_effect e ≡ true → call_at o.lines e.line ≡ Some call → marked_calls o (e ∷ []) ≡ (call, fault_of e.fault) ∷ []
unfolding marked_calls
one_call o e call some at =
    let f : Entry → Option (Call × Option FaultReply) = λ x. option_map (λ call. (call, fault_of x.fault)) (call_at o.lines x.line) in
    ap (λ b. filter_map f (cond b (e ∷ []) [])) some ∙ ap (λ (c : Option Call). filter_map (λ (y : Option (Call × Option FaultReply)). y) (option_map (λ call. (call, fault_of e.fault)) c ∷ [])) at

no_calls : (o : Opening) → marked_calls o [] ≡ []
unfolding marked_calls
no_calls o = refl

-- there is a call for each effect, where each has its line in the opening
pub calls_length : (o : Opening) (h : List Entry) → ((e : Entry) → Has h e → IsKnown o e) → length (marked_calls o h) ≡ effects h
calls_length o [] known = ap length (no_calls o)
calls_length o (e ∷ h) known =
    let rest = calls_length o h (λ x has. known x (inr has)) in
    let all = ap length (calls_append o (e ∷ []) h) ∙ length-append (marked_calls o (e ∷ [])) (marked_calls o h) in
    let split = sum_by-append (λ x. cond (is_effect x) 1 0) (e ∷ []) h in
    let first : sum_by (λ (x : Entry). cond (is_effect x) 1 0) (e ∷ []) ≡ 0 + cond (is_effect e) 1 0 = refl in
    let mine = one (known e (inl refl)) in
    all ∙ omega (arith, mine, rest, split, first)
  where
    one : IsKnown o e → length (marked_calls o (e ∷ [])) ≡ cond (is_effect e) 1 0
    one is = by (is_effect e) refl
      where
        found : (c : Option Call) → call_at o.lines e.line ≡ c → is_effect e ≡ true → is_some c ≡ true → length (marked_calls o (e ∷ [])) ≡ 1
        found None at effect some = absurd (cc some)
        found (Some call) at effect some = ap length (one_call o e call effect at)

        by : (b : Bool) → is_effect e ≡ b → length (marked_calls o (e ∷ [])) ≡ cond b 1 0
        by true effect = found (call_at o.lines e.line) refl effect (ap (λ b. is_some (cond b (call_at o.lines e.line) None)) (sym effect) ∙ is.has_call effect)
        by false none = by_line (cases_eq e.line 0)
          where
            by_line : (e.line ≡ 0) ⊎ (e.line ≢ 0) → length (marked_calls o (e ∷ [])) ≡ 0
            by_line (inl is) = ap length (no_call o e is)
            by_line (inr some) = absurd (cc (sym (ap not (ne_eqb e.line 0 some)) ∙ none))

pub syncs_more : (h : List Entry) (e : Entry) → syncs_of (h ++ e ∷ []) ≡ syncs_of h ++ syncs_of (e ∷ [])
unfolding syncs_of
syncs_more h e = filter_map-append (λ (x : Entry). sync_of x.synced) h (e ∷ [])

pub no_sync : (e : Entry) → e.synced ≡ NoSync → syncs_of (e ∷ []) ≡ []
unfolding syncs_of
no_sync e none = ap (λ s. filter_map (λ (y : Option SyncPoint). y) (sync_of s ∷ [])) none

pub one_sync : (e : Entry) (upto moment : ℕ) → e.synced ≡ At upto moment → syncs_of (e ∷ []) ≡ record { upto = upto; moment = moment } ∷ []
unfolding syncs_of
one_sync e upto moment at = ap (λ s. filter_map (λ (y : Option SyncPoint). y) (sync_of s ∷ [])) at

-- ---- the entries before

pub at_before : {X : Type 0} (xs : List X) (x : X) (i : ℕ) → i < length xs → slice_get (xs ++ x ∷ []) i ≡ slice_get xs i
at_before [] x i low = absurd (omega (arith, low))
at_before (y ∷ xs) x zero low = refl
at_before (y ∷ xs) x (suc i) low = at_before xs x i (omega (arith, low))

pub at_last : {X : Type 0} (xs : List X) (x : X) → slice_get (xs ++ x ∷ []) (length xs) ≡ Some x
at_last [] x = refl
at_last (y ∷ xs) x = at_last xs x

-- a staging that was begun, was begun before
begun_within : (h : List Entry) (line i : ℕ) → begun_at h line i ≤ i
unfolding begun_at
begun_within h line i = by (position (λ (e : Entry). e.staged == line) (take i h)) refl
  where
    by : (p : Option ℕ) → position (λ (e : Entry). e.staged == line) (take i h) ≡ p → unwrap_or p i ≤ i
    by None is = omega arith
    by (Some k) is =
        let low = (position-Some (λ (e : Entry). e.staged == line) (take i h) k (duty_entry Did) is).0 in
        let most = length-take i h in
        omega (arith, low, most)

pub effects_within : (h : List Entry) (i : ℕ) → effects (take i h) ≤ effects h
effects_within h i = sum_by-take-le (λ x. cond (is_effect x) 1 0) h i

module _ (o : Opening) (h : List Entry) (e : Entry) where
  range_stays : (i line : ℕ) (s : SyncPoint) → i < length h → IsSyncInRange o h i line s → IsSyncInRange o (h ++ e ∷ []) i line s
  unfolding effects_before begun_at place_of
  range_stays i line s low is =
      let same : take i (h ++ e ∷ []) ≡ take i h = take-append-le i h (e ∷ []) (omega (arith, low)) in
      let begun : begun_at (h ++ e ∷ []) line i ≡ begun_at h line i = ap (λ (xs : List Entry). unwrap_or (position (λ (x : Entry). x.staged == line) xs) i) same in
      let k = begun_at h line i in
      let below = begun_within h line i in
      let earlier : effects (take (begun_at (h ++ e ∷ []) line i) (h ++ e ∷ [])) ≡ effects (take k h) = ap (λ n. effects (take n (h ++ e ∷ []))) begun ∙ ap effects (take-append-le k h (e ∷ []) (omega (arith, low, below))) in
      let place : effects (take (i + 1) (h ++ e ∷ [])) ≡ effects (take (i + 1) h) = ap effects (take-append-le (i + 1) h (e ∷ []) (omega (arith, low))) in
      record {
        not_below_begin = subst (λ n. saturated (o.count + n) ≤ s.upto) (sym earlier) is.not_below_begin;
        not_below_opening = is.not_below_opening;
        below_place = subst (λ n. s.upto < o.count + n) (sym place) is.below_place;
      }

  -- The syncs before are in range as they were, and the last one is, if it is one.
  pub syncs_in_range : SyncsInRange o h → IfSome (sync_of e.synced) (λ s. IsSyncInRange o (h ++ e ∷ []) (length h) e.line s) → SyncsInRange o (h ++ e ∷ [])
  syncs_in_range before last i = ⊎_elim
      (λ low. subst (λ (x : Option Entry). IfSome x (λ e'. IfSome (sync_of e'.synced) (λ s. IsSyncInRange o (h ++ e ∷ []) i e'.line s))) (sym (at_before h e i low)) (earlier i low (slice_get h i) (before i)))
      (λ high. later i high (cases_lt (length h) i))
      (cases_lt i (length h))
    where
      earlier : (i : ℕ) → i < length h → (x : Option Entry) → IfSome x (λ e'. IfSome (sync_of e'.synced) (λ s. IsSyncInRange o h i e'.line s)) → IfSome x (λ e'. IfSome (sync_of e'.synced) (λ s. IsSyncInRange o (h ++ e ∷ []) i e'.line s))
      earlier i low None is = tt
      earlier i low (Some e') is = each (sync_of e'.synced) is
        where
          each : (s : Option SyncPoint) → IfSome s (λ s. IsSyncInRange o h i e'.line s) → IfSome s (λ s. IsSyncInRange o (h ++ e ∷ []) i e'.line s)
          each None is = tt
          each (Some s) is = range_stays i e'.line s low is

      later : (i : ℕ) → length h ≤ i → (length h < i) ⊎ (i ≤ length h) → IfSome (slice_get (h ++ e ∷ []) i) (λ e'. IfSome (sync_of e'.synced) (λ s. IsSyncInRange o (h ++ e ∷ []) i e'.line s))
      later i high (inl past) = subst (λ (x : Option Entry). IfSome x (λ e'. IfSome (sync_of e'.synced) (λ s. IsSyncInRange o (h ++ e ∷ []) i e'.line s))) (sym (slice_get_past (h ++ e ∷ []) i (let n = length-append h (e ∷ []) in omega (arith, past, n)))) tt
      later i high (inr low) =
          let at : i ≡ length h = omega (arith, high, low) in
          subst (λ n. IfSome (slice_get (h ++ e ∷ []) n) (λ e'. IfSome (sync_of e'.synced) (λ s. IsSyncInRange o (h ++ e ∷ []) n e'.line s))) (sym at)
          (subst (λ (x : Option Entry). IfSome x (λ e'. IfSome (sync_of e'.synced) (λ s. IsSyncInRange o (h ++ e ∷ []) (length h) e'.line s))) (sym (at_last h e)) last)

  -- A sync that made safe its goal is in range: all calls before its line began, and not more than were answered.
  pub last_in_range : (s : SyncPoint) → saturated (o.count + effects (take (begun_at (h ++ e ∷ []) e.line (length h)) h)) ≤ s.upto → o.count ≤ s.upto → s.upto ≤ saturated (o.count + effects h) → is_effect e ≡ true → IsSyncInRange o (h ++ e ∷ []) (length h) e.line s
  unfolding effects_before begun_at place_of
  last_in_range s begun from to effect =
      let k = begun_at (h ++ e ∷ []) e.line (length h) in
      let low = begun_within (h ++ e ∷ []) e.line (length h) in
      let same : effects (take k (h ++ e ∷ [])) ≡ effects (take k h) = ap effects (take-append-le k h (e ∷ []) low) in
      let whole : take (length h + 1) (h ++ e ∷ []) ≡ h ++ e ∷ [] = take_all (length h + 1) (h ++ e ∷ []) (let n = length-append h (e ∷ []) in omega (arith, n)) in
      let place : effects (take (length h + 1) (h ++ e ∷ [])) ≡ effects h + 1 = ap effects whole ∙ (effects_more h e ∙ ap (λ b. effects h + cond b 1 0) effect) in
      record {
        not_below_begin = omega (arith, same, begun);
        not_below_opening = from;
        below_place = omega (arith, place, to);
      }

-- ---- goals in flight

-- where a line was staged in the history, its first staging is the same with an entry more
pub begun_is : (h : List Entry) (e : Entry) (line begun : ℕ) → position (λ (x : Entry). x.staged == line) h ≡ Some begun → effects (take (begun_at (h ++ e ∷ []) line (length h)) h) ≡ effects (take begun h)
unfolding begun_at
begun_is h e line begun at =
    let same : take (length h) (h ++ e ∷ []) ≡ h = take-append-le (length h) h (e ∷ []) (omega arith) ∙ take_all (length h) h (omega arith) in
    ap (λ (n : ℕ). effects (take n h)) (ap (λ (xs : List Entry). unwrap_or (position (λ (x : Entry). x.staged == line) xs) (length h)) same ∙ ap (λ (x : Option ℕ). unwrap_or x (length h)) at)

module _ (p : Entry → Bool) (h : List Entry) (e : Entry) where
  abbrev first : ℕ
  first = position_or_len p h

  pushed : position_or_len p (h ++ e ∷ []) ≡ cond (first == length h) (length h + cond (p e) 0 1) first
  pushed = position_or_len_push p h e

  more : length (h ++ e ∷ []) ≡ length h + 1
  more = length-append h (e ∷ [])

  at_place : (k : ℕ) → position_or_len p (h ++ e ∷ []) ≡ k → k < length h + 1 → position p (h ++ e ∷ []) ≡ Some k
  at_place k is low =
      let n = more in
      ap (λ j. cond (nat_lt j (length (h ++ e ∷ []))) (Some j) None) is ∙ cond-true (nat_lt k (length (h ++ e ∷ []))) (Some k) None (lt-ltb k (length (h ++ e ∷ [])) (omega (arith, low, n)))

  -- what was at a place is there still
  pub position_before : (k : ℕ) → position p h ≡ Some k → position p (h ++ e ∷ []) ≡ Some k
  position_before k is =
      let low = (position-Some p h k e is).0 in
      let same : first ≡ k = ⊎_elim
      (λ below. let at : Some first ≡ Some k = sym (cond-true (nat_lt first (length h)) (Some first) None (lt-ltb first (length h) below)) ∙ is in cc at)
      (λ past. absurd (let no : None ≡ Some k = sym (cond-false (nat_lt first (length h)) (Some first) None (le-ltb first (length h) past)) ∙ is in cc no))
      (cases_lt first (length h)) in
      at_place k (pushed ∙ cond-false (first == length h) (length h + cond (p e) 0 1) first (ne_eqb first (length h) (λ end. let no : ⊥ = omega (arith, same, end, low) in no)) ∙ same) (omega (arith, low))

  -- the new one is the first
  pub position_last : position p h ≡ None → p e ≡ true → position p (h ++ e ∷ []) ≡ Some (length h)
  position_last none is =
      let most = prefix_len-le-length (λ x. not (p x)) h in
      let end : first ≡ length h = ⊎_elim
      (λ below. absurd (let no : Some first ≡ None = sym (cond-true (nat_lt first (length h)) (Some first) None (lt-ltb first (length h) below)) ∙ none in cc no))
      (λ past. omega (arith, past, most)) (cases_lt first (length h)) in
      at_place (length h) (pushed ∙ cond-true (first == length h) (length h + cond (p e) 0 1) first (eq-eqb first (length h) end) ∙ ap (λ b. length h + cond b 0 1) is ∙ (omega arith)) (omega arith)

pub goal_more : (o : Opening) (h : List Entry) (e : Entry) (count line goal : ℕ) → IsGoal o h count line goal → IsGoal o (h ++ e ∷ []) count line goal
goal_more o h e count line goal is =
    let low = (position-Some (λ (x : Entry). x.staged == line) h is.begun e is.staged).0 in
    let same : take is.begun (h ++ e ∷ []) ≡ take is.begun h = take-append-le is.begun h (e ∷ []) (omega (arith, low)) in
    record {
      begun = is.begun;
      staged = position_before (λ (x : Entry). x.staged == line) h e is.begun is.staged;
      not_below_begin = subst (λ (xs : List Entry). saturated (o.count + effects xs) ≤ goal) (sym same) is.not_below_begin;
      not_beyond = is.not_beyond;
    }

-- The goal of a line whose first staging this is, or an earlier one: all calls so far.
pub goal_new : (o : Opening) (h : List Entry) (e : Entry) (count line : ℕ) → (e.staged == line) ≡ true → count ≡ saturated (o.count + effects h) → IsGoal o (h ++ e ∷ []) count line count
goal_new o h e count line is all = by (position (λ (x : Entry). x.staged == line) h) refl
  where
    by : (x : Option ℕ) → position (λ (x : Entry). x.staged == line) h ≡ x → IsGoal o (h ++ e ∷ []) count line count
    by None none = record {
      begun = length h;
      staged = position_last (λ (x : Entry). x.staged == line) h e none is;
      not_below_begin =
          let same : effects (take (length h) (h ++ e ∷ [])) ≡ effects h = ap effects (take-append-le (length h) h (e ∷ []) (omega arith) ∙ take_all (length h) h (omega arith)) in
          omega (arith, all, same);
      not_beyond = omega arith;
    }
    by (Some k) at =
        let low = (position-Some (λ (x : Entry). x.staged == line) h k e at).0 in
        record {
          begun = k;
          staged = position_before (λ (x : Entry). x.staged == line) h e k at;
          not_below_begin =
              let same : effects (take k (h ++ e ∷ [])) ≡ effects (take k h) = ap effects (take-append-le k h (e ∷ []) (omega (arith, low))) in
              let most = effects_within h k in
              omega (arith, all, same, most);
          not_beyond = omega arith;
        }
