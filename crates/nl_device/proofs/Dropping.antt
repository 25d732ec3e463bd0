-- A callback is gone, and its old name.
use Rattle.std.proofs.Common.{◌≡◌, ◌≢◌, inl, inr, ⊎_elim, ℕ, zero, suc, ◌<◌, ◌≤◌, ◌==◌, Bool, true, false, not, cond, List, [], ◌∷◌, length, get_or, Option, Some, None, refl, sym, ◌∙◌, ap, subst, arith, eq-eqb, ne_eqb, eqb-true}
use Rattle.std.specs.Prelude.{Contains, filter}
use Rattle.std.proofs.lemmas.Bool.{cases_Bool, cases_lt, cond-true, cond-false, le-leb, lt-leb, true≢false}
use Rattle.std.proofs.lemmas.List.Edits.{length-remove}
use Rattle.nl_callbacks.specs.Pending.{ArePendingEntries, PendingTable, entry_at, is_over, number_of, unacknowledged, without}
use Rattle.nl_callbacks.specs.declared.entry.Entry.{Entry}
use Rattle.nl_field.specs.Live.{resolve}
use Rattle.nl_iface.specs.Moves.{Acknowledges, IsHandledBy}
use Rattle.nl_iface.specs.Names.{Has}
use Rattle.nl_iface.specs.Space.{NamesGone, Space}
use Rattle.nl_iface.specs.declared.Callback.{Callback}
use Rattle.nl_pseg.specs.Cleaning.{without_name}
use Rattle.nl_pseg.specs.Segment.{IsOldName, Physical, held_at}
use Rattle.nl_pseg.specs.Space.{IsWhole}
use Rattle.nl_pseg.specs.declared.held.Held.{Held}
use Rattle.nl_device.specs.Callbacks.{AreCalled, DropsNames, callbacks_of, handled_in, names_with}
use Rattle.nl_device.specs.Shown.{live_page}
use Rattle.nl_device.specs.State.{at_has, at_once, has_at, led_by, old_or, to_itself}
use Rattle.nl_device.proofs.Called.{handled_at}
use Rattle.nl_device.proofs.Lists.{filter_one, has_kept, kept_has}
use Rattle.nl_device.proofs.Spacing.{names_gone}

-- the pairs but that of an old name
pub unnamed_of : (xs : List (ℕ × ℕ)) (name n t : ℕ) → Contains (without_name name xs) (n, t) → Contains xs (n, t) × (n ≢ name)
unnamed_of [] name n t h = let lt = h.1 in absurd (omega (arith, lt))
unnamed_of (x ∷ xs) name n t h = by (unnamed_of xs name n t) (x.0 == name) refl h
  where
    more : Contains xs (n, t) → Contains (x ∷ xs) (n, t)
    more k = let lt = k.1 in (suc k.0, omega (arith, lt), k.2)

    by : (Contains (without_name name xs) (n, t) → Contains xs (n, t) × (n ≢ name)) → (b : Bool) → (x.0 == name) ≡ b → Contains (cond (not b) (x ∷ without_name name xs) (without_name name xs)) (n, t) → Contains (x ∷ xs) (n, t) × (n ≢ name)
    by rest true e k = let r = rest k in (more r.0, r.1)
    by rest false e (zero, lt, is) = ((zero, omega arith, is), λ same. true≢false (sym (eq-eqb x.0 name (ap (λ (p : ℕ × ℕ). p.0) is ∙ same)) ∙ e))
    by rest false e (suc i, lt, is) = let r = rest (i, omega (arith, lt), is) in (more r.0, r.1)

pub of_unnamed : (xs : List (ℕ × ℕ)) (name n t : ℕ) → Contains xs (n, t) → n ≢ name → Contains (without_name name xs) (n, t)
of_unnamed [] name n t h far = let lt = h.1 in absurd (omega (arith, lt))
of_unnamed (x ∷ xs) name n t h far = by (λ k. of_unnamed xs name n t k far) (x.0 == name) refl h
  where
    by : (Contains xs (n, t) → Contains (without_name name xs) (n, t)) → (b : Bool) → (x.0 == name) ≡ b → Contains (x ∷ xs) (n, t) → Contains (cond (not b) (x ∷ without_name name xs) (without_name name xs)) (n, t)
    by rest true e (zero, lt, is) = absurd (far (sym (ap (λ (p : ℕ × ℕ). p.0) is) ∙ eqb-true x.0 name e))
    by rest true e (suc i, lt, is) = rest (i, omega (arith, lt), is)
    by rest false e (zero, lt, is) = (zero, omega arith, is)
    by rest false e (suc i, lt, is) = let k = rest (i, omega (arith, lt), is) in let below = k.1 in (suc k.0, omega (arith, below), k.2)

pub unnamed_length : (xs : List (ℕ × ℕ)) (name : ℕ) → length (without_name name xs) ≤ length xs
unnamed_length [] name = omega arith
unnamed_length (x ∷ xs) name = by (unnamed_length xs name) (not (x.0 == name))
  where
    by : length (without_name name xs) ≤ length xs → (b : Bool) → length (cond b (x ∷ without_name name xs) (without_name name xs)) ≤ suc (length xs)
    by rest true = omega (arith, rest)
    by rest false = omega (arith, rest)

-- one callback is gone, and the pair of its old name
module _ (old new : Physical) (t u : PendingTable) (at : ℕ) (within : at < length t.callbacks) (called : AreCalled old t) (was : IsWhole old) (is : IsWhole new) (gone : u ≡ without t at) (pairs : new.pairs ≡ without_name (entry_at t.callbacks at).callback.before old.pairs) where
  abbrev name : ℕ
  name = (entry_at t.callbacks at).callback.before

  abbrev number : ℕ
  number = number_of (entry_at t.callbacks at)

  back : (n x : ℕ) → Contains new.pairs (n, x) → Contains old.pairs (n, x) × (n ≢ name)
  back n x h = unnamed_of old.pairs name n x (subst (λ (l : List (ℕ × ℕ)). Contains l (n, x)) pairs h)

  on : (n x : ℕ) → Contains old.pairs (n, x) → n ≢ name → Contains new.pairs (n, x)
  on n x h far = subst (λ (l : List (ℕ × ℕ)). Contains l (n, x)) (sym pairs) (of_unnamed old.pairs name n x h far)

  kept : u.callbacks ≡ filter (λ e. not (e.callback.number == number)) t.callbacks
  kept = ap (λ (x : PendingTable). x.callbacks) gone ∙ filter_one (λ e. not (e.callback.number == number)) t.callbacks at within (ap not (eq-eqb number number refl))
      (λ i below apart. ap not (ne_eqb (number_of (entry_at t.callbacks i)) number (λ same. apart (at_once t.callbacks called.numbers.rising at i within below same))))

  has_back : (c : Callback) → Has (callbacks_of u.callbacks) c → Has (callbacks_of t.callbacks) c × (c.before ≢ name)
  has_back c has =
      let k = kept_has (λ c. not (c.number == number)) t.callbacks c (subst (λ l. Has (callbacks_of l) c) kept has) in (
        k.0,
        λ same.
            let e = called.once c (entry_at t.callbacks at).callback k.0 (has_at t.callbacks at within) same in
            true≢false (sym k.1 ∙ ap not (eq-eqb c.number number (ap (λ (x : Callback). x.number) e))),
      )

  has_on : (c : Callback) → Has (callbacks_of t.callbacks) c → c.before ≢ name → Has (callbacks_of u.callbacks) c
  has_on c has far =
      subst (λ l. Has (callbacks_of l) c) (sym kept) (has_kept (λ c. not (c.number == number)) t.callbacks c has (ap not (ne_eqb c.number number (λ same.
      let r = at_has t.callbacks c has in
      let i = at_once t.callbacks called.numbers.rising at r.0 within r.1 (ap (λ (x : Callback). x.number) r.2 ∙ same) in
      far (sym (ap (λ (x : Callback). x.before) r.2) ∙ ap (λ j. (entry_at t.callbacks j).callback.before) i)))))

  pub called_dropped : ArePendingEntries u.callbacks u.posted → new.held ≡ old.held → new.size ≡ old.size → AreCalled new u
  called_dropped table held size = record {
    numbers = table;
    told = λ c has.
        let b = has_back c has in
        let o = called.old c b.0 in
        let now = led_by new.pairs c.before o.0 is.pages.one_target (on c.before o.0 o.1 b.1) in
        let then = led_by old.pairs c.before o.0 was.pages.one_target o.1 in
        ap (λ (l : List (Option Held)). get_or l (resolve new.pairs c.before) None) held ∙ (ap (held_at old) (now ∙ sym then) ∙ called.told c b.0);
    old = λ c has. let b = has_back c has in let o = called.old c b.0 in (o.0, on c.before o.0 o.1 b.1);
    each = λ n o.
        let k = back n o.0 o.1 in
        let r = called.each n (o.0, k.0) in
        (r.0, has_on r.0 r.1 (λ same. k.1 (sym r.2 ∙ same)), r.2);
    once = λ c d has other same. called.once c d (has_back c has).0 (has_back d other).0 same;
    room =
        let fewer = length-remove t.callbacks at within in
        let a = ap (λ (x : PendingTable). length x.callbacks) gone in
        let b = ap (λ (x : PendingTable). x.room) gone in
        let whole = called.room in
        omega (arith, fewer, a, b, whole, size, within);
  }

  pub dropped_fewer : (n x : ℕ) → Contains new.pairs (n, x) → Contains old.pairs (n, x)
  dropped_fewer n x h = (back n x h).0

-- nothing is gone
pub drops_none : (seg : Physical) (t : PendingTable) → IsWhole seg → AreCalled seg t → DropsNames seg seg t
drops_none seg t whole called = record {
  whole = whole;
  called = called;
  same = record { same_first = refl; same_blocks = refl; same_size = refl; same_wear = λ block. refl };
  held = refl;
  fewer = λ n x h. h;
  victim = refl;
  space = names_gone seg;
  segment = λ image is. is;
  spare = λ image is. is;
  block = λ is. is;
  clean = λ is. is;
}

-- one after the other
pub gone_then : (r s t : Space) → NamesGone r s → NamesGone s t → NamesGone r t
gone_then r s t a b = record {
  same = record { block = b.same.block ∙ a.same.block; all = b.same.all ∙ a.same.all; bad = let x = a.same.bad in let y = b.same.bad in omega (arith, x, y); kept = b.same.kept ∙ a.same.kept };
  bad = b.bad ∙ a.bad;
  lessened = record {
    victim = b.lessened.victim ∙ a.lessened.victim;
    waiting = let x = a.lessened.waiting in let y = b.lessened.waiting in omega (arith, x, y);
    pairs = let x = a.lessened.pairs in let y = b.lessened.pairs in omega (arith, x, y);
    left = let x = a.lessened.left in let y = b.lessened.left in omega (arith, x, y);
    left_most = let x = a.lessened.left_most in let y = b.lessened.left_most in omega (arith, x, y);
    lands = λ none lands. b.lessened.lands b.bad (a.lessened.lands a.bad lands);
  };
  blocks = b.blocks ∙ a.blocks;
  live = b.live ∙ a.live;
  reach = b.reach ∙ a.reach;
  room = let x = a.room in let y = b.room in omega (arith, x, y);
}

-- ---- the callbacks that were handled up to a transaction

left_in : (f : Entry → Bool) (es : List Entry) (c : Callback) → Has (callbacks_of (filter f es)) c → (i : ℕ) × (i < length es) × ((entry_at es i).callback ≡ c) × (f (entry_at es i) ≡ true)
left_in f [] c h = absurd h
left_in f (e ∷ es) c h = by (left_in f es c) (f e) refl h
  where
    by : (Has (callbacks_of (filter f es)) c → (i : ℕ) × (i < length es) × ((entry_at es i).callback ≡ c) × (f (entry_at es i) ≡ true)) → (b : Bool) → f e ≡ b → Has (callbacks_of (cond b (e ∷ filter f es) (filter f es))) c
        → (i : ℕ) × (i < length (e ∷ es)) × ((entry_at (e ∷ es) i).callback ≡ c) × (f (entry_at (e ∷ es) i) ≡ true)
    by rest true is (inl same) = (zero, omega arith, same, is)
    by rest true is (inr k) = let r = rest k in let lt = r.1 in (suc r.0, omega (arith, lt), r.2, r.3)
    by rest false is k = let r = rest k in let lt = r.1 in (suc r.0, omega (arith, lt), r.2, r.3)

in_left : (f : Entry → Bool) (es : List Entry) (i : ℕ) → i < length es → f (entry_at es i) ≡ true → Has (callbacks_of (filter f es)) (entry_at es i).callback
in_left f [] i lt is = absurd (omega (arith, lt))
in_left f (e ∷ es) zero lt is = subst (λ b. Has (callbacks_of (cond b (e ∷ filter f es) (filter f es))) e.callback) (sym is) (inl refl)
in_left f (e ∷ es) (suc i) lt is = by (in_left f es i (omega (arith, lt)) is) (f e)
  where
    by : Has (callbacks_of (filter f es)) (entry_at es i).callback → (b : Bool) → Has (callbacks_of (cond b (e ∷ filter f es) (filter f es))) (entry_at es i).callback
    by rest true = inr rest
    by rest false = rest

left_handled : (f : Entry → Bool) (es : List Entry) → ((i j : ℕ) → i < j → j < length es → number_of (entry_at es i) < number_of (entry_at es j)) → (c : Callback) → Has (callbacks_of (filter f es)) c
    → handled_in (filter f es) c.number ≡ handled_in es c.number
left_handled f [] rising c h = absurd h
left_handled f (e ∷ es) rising c h = by (left_handled f es (λ i j less below. rising (suc i) (suc j) (omega (arith, less)) (omega (arith, below))) c) (f e) h
  where
    kept : List Entry
    kept = filter f es

    far : Has (callbacks_of kept) c → e.callback.number ≢ c.number
    far k same =
        let r = left_in f es c k in
        let lt = r.1 in
        let less = rising zero (suc r.0) (omega arith) (omega (arith, lt)) in
        let e_is : number_of (entry_at es r.0) ≡ c.number = ap (λ (x : Callback). x.number) r.2 in
        absurd (omega (arith, less, e_is, same))

    by : (Has (callbacks_of kept) c → handled_in kept c.number ≡ handled_in es c.number) → (b : Bool) → Has (callbacks_of (cond b (e ∷ kept) kept)) c → handled_in (cond b (e ∷ kept) kept) c.number ≡ handled_in (e ∷ es) c.number
    by rest true (inl same) =
        let here = eq-eqb e.callback.number c.number (ap (λ (x : Callback). x.number) same) in
        cond-true (e.callback.number == c.number) e.transaction (handled_in kept c.number) here ∙ sym (cond-true (e.callback.number == c.number) e.transaction (handled_in es c.number) here)
    by rest true (inr k) = ap (λ o. cond (e.callback.number == c.number) e.transaction o) (rest k)
    by rest false k =
        rest k ∙ sym (cond-false (e.callback.number == c.number) e.transaction (handled_in es c.number) (ne_eqb e.callback.number c.number (far k)))

over_true : (upto : ℕ) (o : Option ℕ) (n : ℕ) → o ≡ Some n → n ≤ upto → is_over upto o ≡ true
over_true upto o n is le = ap (is_over upto) is ∙ le-leb n upto le

true_over : (upto : ℕ) (o : Option ℕ) → is_over upto o ≡ true → (n : ℕ) × (o ≡ Some n) × (n ≤ upto)
true_over upto None is = absurd (true≢false (sym is))
true_over upto (Some n) is = (n, refl, ⊎_elim (λ less. absurd (true≢false (sym is ∙ lt-leb n upto less))) (λ le. le) (cases_lt upto n))

pub acknowledged : (upto : ℕ) (old new : Physical) (t u : PendingTable) → IsWhole old → AreCalled old t → DropsNames old new u → u.callbacks ≡ unacknowledged upto t.callbacks → u.posted ≡ t.posted → Acknowledges upto (names_with old t) (names_with new u)
acknowledged upto old new t u was called d kept posted = record {
  live = λ q. ap (λ (l : List (Option Held)). live_page (get_or l q None)) d.held;
  gone = λ c has over. to_itself new.pairs c.before (λ o.
      let r = d.called.each c.before o in
      let s = only r.0 r.1 in
      let same = called.once c r.0 has s.0 (sym r.2) in
      s.1 (subst (IsHandledBy (names_with old t) upto) same over));
  ways = λ n off. ⊎_elim
      (λ own. to_itself new.pairs n (λ o.
      let h = was.pages.to_live n o.0 (d.fewer n o.0 o.1) in
      was.pages.own o.0 h.0 h.1 (absurd_old n o own)) ∙ sym own)
      (λ pair.
      let x = resolve old.pairs n in
      let c = called.each n (x, pair) in
      let here = stays c.0 c.1 (λ over. off c.0 c.1 over (sym c.2)) in
      let o = d.called.old c.0 here in
      let now : Contains new.pairs (n, o.0) = subst (λ m. Contains new.pairs (m, o.0)) c.2 o.1 in
      led_by new.pairs n o.0 d.whole.pages.one_target now ∙ sym (led_by old.pairs n o.0 was.pages.one_target (d.fewer n o.0 now)))
      (old_or old.pairs n);
  only = only;
  kept = stays;
  handled = λ c has. ap (λ l. handled_in l c.number) kept ∙ left_handled (λ e. not (is_over upto e.transaction)) t.callbacks called.numbers.rising c (subst (λ l. Has (callbacks_of l) c) kept has);
  posted = posted;
  space = d.space;
}
  where
    handled_of : (i : ℕ) → i < length t.callbacks → (c : Callback) → (entry_at t.callbacks i).callback ≡ c → handled_in t.callbacks c.number ≡ (entry_at t.callbacks i).transaction
    handled_of i lt c is = ap (λ (x : Callback). handled_in t.callbacks x.number) (sym is) ∙ handled_at t.callbacks i called.numbers.rising lt

    absurd_old : (n : ℕ) (o : IsOldName new n) → resolve old.pairs n ≡ n → IsOldName old o.0
    absurd_old n o own = absurd (
        let pair = d.fewer n o.0 o.1 in
        let same = led_by old.pairs n o.0 was.pages.one_target pair in
        let h = was.pages.to_live n o.0 pair in
        was.pages.own n h.0 (ap (held_at old) (sym own ∙ same) ∙ h.1) (o.0, pair))

    only : (c : Callback) → Has (callbacks_of u.callbacks) c → Has (callbacks_of t.callbacks) c × (IsHandledBy (names_with old t) upto c → ⊥)
    only c has =
        let r = left_in (λ e. not (is_over upto e.transaction)) t.callbacks c (subst (λ l. Has (callbacks_of l) c) kept has) in (
          subst (Has (callbacks_of t.callbacks)) r.2 (has_at t.callbacks r.0 r.1),
          λ over.
              true≢false (sym r.3 ∙ ap not (over_true upto (entry_at t.callbacks r.0).transaction over.0 (sym (handled_of r.0 r.1 c r.2) ∙ over.1) over.2)),
        )

    stays : (c : Callback) → Has (callbacks_of t.callbacks) c → (IsHandledBy (names_with old t) upto c → ⊥) → Has (callbacks_of u.callbacks) c
    stays c has off =
        let r = at_has t.callbacks c has in
        let un : is_over upto (entry_at t.callbacks r.0).transaction ≡ false = ⊎_elim
        (λ over. let o = true_over upto (entry_at t.callbacks r.0).transaction over in absurd (off (o.0, handled_of r.0 r.1 c r.2 ∙ o.1, o.2)))
        (λ un. un)
        (cases_Bool (is_over upto (entry_at t.callbacks r.0).transaction)) in
        subst (λ l. Has (callbacks_of l) c) (sym kept) (subst (Has (callbacks_of (unacknowledged upto t.callbacks))) r.2 (in_left (λ e. not (is_over upto e.transaction)) t.callbacks r.0 r.1 (ap not un)))
