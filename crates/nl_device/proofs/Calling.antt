-- Old names and pending callbacks stay one to one.
use Rattle.std.proofs.Common.{◌≡◌, ◌≢◌, inl, ⊎_elim, ℕ, zero, suc, ◌+◌, ◌*◌, ◌≤◌, ◌==◌, ◌&&◌, ◌||◌, Bool, true, false, not, cond, List, [], ◌∷◌, length, Some, None, refl, sym, ◌∙◌, ap, subst, arith, eq-eqb, ne_eqb, eqb-true}
use Rattle.std.specs.Prelude.{Contains, filter}
use Rattle.std.specs.List.{list_any}
use Rattle.std.proofs.lemmas.Bool.{cases_eq, cond-false, cond-true, true≢false}
use Rattle.std.proofs.lemmas.Option.{none-some, same_Some}
use Rattle.nl_callbacks.specs.Pending.{ArePendingEntries, PendingTable, beside_stamp, entry_at}
use Rattle.nl_callbacks.specs.declared.entry.Entry.{Entry}
use Rattle.nl_field.specs.Live.{resolve}
use Rattle.nl_iface.specs.Names.{Has, callbacks_beside}
use Rattle.nl_iface.specs.declared.Callback.{Callback}
use Rattle.nl_pseg.specs.Segment.{IsOldName, Physical, held_at, without_target}
use Rattle.nl_pseg.specs.Space.{IsWhole}
use Rattle.nl_pseg.specs.declared.held.Held.{Held}
use Rattle.nl_device.specs.Callbacks.{AreCalled, callbacks_of, handled_in, is_led}
use Rattle.nl_device.specs.Device.{HasLive}
use Rattle.nl_device.specs.State.{has_at, led_by, old_or}
use Rattle.nl_device.proofs.Lists.{filter_same, has_kept, kept_handled, kept_has, kept_list}

-- the pairs that lead to another page
pub beside_of : (xs : List (ℕ × ℕ)) (place n t : ℕ) → Contains (without_target place xs) (n, t) → Contains xs (n, t) × (t ≢ place)
beside_of [] place n t h = let lt = h.1 in absurd (omega (arith, lt))
beside_of (x ∷ xs) place n t h = by (beside_of xs place n t) (x.1 == place) refl h
  where
    more : Contains xs (n, t) → Contains (x ∷ xs) (n, t)
    more k = let lt = k.1 in (suc k.0, omega (arith, lt), k.2)

    by : (Contains (without_target place xs) (n, t) → Contains xs (n, t) × (t ≢ place)) → (b : Bool) → (x.1 == place) ≡ b → Contains (cond (not b) (x ∷ without_target place xs) (without_target place xs)) (n, t) → Contains (x ∷ xs) (n, t) × (t ≢ place)
    by rest true e k = let r = rest k in (more r.0, r.1)
    by rest false e (zero, lt, is) = ((zero, omega arith, is), λ same. true≢false (sym (eq-eqb x.1 place (ap (λ (p : ℕ × ℕ). p.1) is ∙ same)) ∙ e))
    by rest false e (suc i, lt, is) = let r = rest (i, omega (arith, lt), is) in (more r.0, r.1)

pub of_beside : (xs : List (ℕ × ℕ)) (place n t : ℕ) → Contains xs (n, t) → t ≢ place → Contains (without_target place xs) (n, t)
of_beside [] place n t h far = let lt = h.1 in absurd (omega (arith, lt))
of_beside (x ∷ xs) place n t h far = by (λ k. of_beside xs place n t k far) (x.1 == place) refl h
  where
    by : (Contains xs (n, t) → Contains (without_target place xs) (n, t)) → (b : Bool) → (x.1 == place) ≡ b → Contains (x ∷ xs) (n, t) → Contains (cond (not b) (x ∷ without_target place xs) (without_target place xs)) (n, t)
    by rest true e (zero, lt, is) = absurd (far (sym (ap (λ (p : ℕ × ℕ). p.1) is) ∙ eqb-true x.1 place e))
    by rest true e (suc i, lt, is) = rest (i, omega (arith, lt), is)
    by rest false e (zero, lt, is) = (zero, omega arith, is)
    by rest false e (suc i, lt, is) = let k = rest (i, omega (arith, lt), is) in let below = k.1 in (suc k.0, omega (arith, below), k.2)

pub beside_length : (xs : List (ℕ × ℕ)) (place : ℕ) → length (without_target place xs) ≤ length xs
beside_length [] place = omega arith
beside_length (x ∷ xs) place = by (beside_length xs place) (not (x.1 == place))
  where
    by : length (without_target place xs) ≤ length xs → (b : Bool) → length (cond b (x ∷ without_target place xs) (without_target place xs)) ≤ suc (length xs)
    by rest true = omega (arith, rest)
    by rest false = omega (arith, rest)

-- whether the name leads there
pub leads_there : (xs : List (ℕ × ℕ)) (n place : ℕ) → Contains xs (n, place) → list_any (λ pair. pair.0 == n && pair.1 == place) xs ≡ true
leads_there [] n place h = let lt = h.1 in absurd (omega (arith, lt))
leads_there (x ∷ xs) n place (zero, lt, is) =
    let first = eq-eqb x.0 n (ap (λ (p : ℕ × ℕ). p.0) is) in
    let second = eq-eqb x.1 place (ap (λ (p : ℕ × ℕ). p.1) is) in
    (λ i. (first i && second i) || list_any (λ pair. pair.0 == n && pair.1 == place) xs)
leads_there (x ∷ xs) n place (suc i, lt, is) = or_right (x.0 == n && x.1 == place) (leads_there xs n place (i, omega (arith, lt), is))
  where
    or_right : (a : Bool) {b : Bool} → b ≡ true → (a || b) ≡ true
    or_right true e = refl
    or_right false e = e

pub leads_elsewhere : (xs : List (ℕ × ℕ)) (n place : ℕ) → (Contains xs (n, place) → ⊥) → list_any (λ pair. pair.0 == n && pair.1 == place) xs ≡ false
leads_elsewhere [] n place off = refl
leads_elsewhere (x ∷ xs) n place off = by (leads_elsewhere xs n place (λ k. let lt = k.1 in off (suc k.0, omega (arith, lt), k.2))) (x.0 == n) (x.1 == place) refl refl
  where
    by : list_any (λ pair. pair.0 == n && pair.1 == place) xs ≡ false → (a b : Bool) → (x.0 == n) ≡ a → (x.1 == place) ≡ b → ((a && b) || list_any (λ pair. pair.0 == n && pair.1 == place) xs) ≡ false
    by rest true true a_is b_is = absurd (off (zero, omega arith, λ i. (eqb-true x.0 n a_is i, eqb-true x.1 place b_is i)))
    by rest true false a_is b_is = rest
    by rest false b a_is b_is = rest

-- the callbacks of the names that lead to a page still
abbrev pub led_test : List (ℕ × ℕ) → Callback → Bool
led_test pairs c = not (resolve pairs c.before == c.before)

-- the same old names
pub called_same : (old new : Physical) (t u : PendingTable) → AreCalled old t → callbacks_of u.callbacks ≡ callbacks_of t.callbacks → ArePendingEntries u.callbacks u.posted → length u.callbacks + u.room ≡ length t.callbacks + t.room → new.pairs ≡ old.pairs → new.size ≡ old.size → ((p : ℕ) (h : Held) → held_at old p ≡ Some h → held_at new p ≡ Some h) → AreCalled new u
called_same old new t u called same table room pairs size keeps =
    let back : (c : Callback) → Has (callbacks_of u.callbacks) c → Has (callbacks_of t.callbacks) c = λ c has. subst (λ l. Has l c) same has in
    record {
      numbers = table;
      told = λ c has. keeps (resolve new.pairs c.before) (record { tag = c.tag; stamp = c.stamp }) (ap (λ l. held_at old (resolve l c.before)) pairs ∙ called.told c (back c has));
      old = λ c has. subst (λ (l : List (ℕ × ℕ)). (target : ℕ) × Contains l (c.before, target)) (sym pairs) (called.old c (back c has));
      each = λ name is. let r = called.each name (subst (λ (l : List (ℕ × ℕ)). (target : ℕ) × Contains l (name, target)) pairs is) in (r.0, subst (λ l. Has l r.0) (sym same) r.1, r.2);
      once = λ c d has other. called.once c d (back c has) (back d other);
      room = room ∙ (called.room ∙ ap (λ n. 4 * n) (sym size));
    }

-- The pairs to one page are gone, and the callbacks of their names.
module _ (old new : Physical) (place : ℕ) (t : PendingTable) (called : AreCalled old t) (was : IsWhole old) (is : IsWhole new) (pairs : new.pairs ≡ without_target place old.pairs) where
  pair_back : (n x : ℕ) → Contains new.pairs (n, x) → Contains old.pairs (n, x) × (x ≢ place)
  pair_back n x h = beside_of old.pairs place n x (subst (λ (l : List (ℕ × ℕ)). Contains l (n, x)) pairs h)

  pub pair_before : (n x : ℕ) → Contains new.pairs (n, x) → Contains old.pairs (n, x)
  pair_before n x h = (pair_back n x h).0

  pair_on : (n x : ℕ) → Contains old.pairs (n, x) → x ≢ place → Contains new.pairs (n, x)
  pair_on n x h far = subst (λ (l : List (ℕ × ℕ)). Contains l (n, x)) (sym pairs) (of_beside old.pairs place n x h far)

  -- an old name of the new table leads elsewhere
  led_away : (n : ℕ) → IsOldName new n → resolve new.pairs n ≢ n
  led_away n old_name same =
      let t = led_by new.pairs n old_name.0 is.pages.one_target old_name.1 in
      let h = is.pages.to_live n old_name.0 old_name.1 in
      is.pages.own n h.0 (ap (held_at new) (sym same ∙ t) ∙ h.1) old_name

  away_old : (n : ℕ) → resolve new.pairs n ≢ n → IsOldName new n
  away_old n far = ⊎_elim (λ own. absurd (far own)) (λ pair. (resolve new.pairs n, pair)) (old_or new.pairs n)

  away_true : (c : Callback) → IsOldName new c.before → led_test new.pairs c ≡ true
  away_true c o = ap not (ne_eqb (resolve new.pairs c.before) c.before (led_away c.before o))

  true_away : (c : Callback) → led_test new.pairs c ≡ true → IsOldName new c.before
  true_away c e = ⊎_elim
      (λ same. absurd (true≢false (sym e ∙ ap not (eq-eqb (resolve new.pairs c.before) c.before same))))
      (λ far. away_old c.before far)
      (cases_eq (resolve new.pairs c.before) c.before)

  pub called_less : (u : PendingTable) → u.callbacks ≡ filter (is_led new.pairs) t.callbacks → ArePendingEntries u.callbacks u.posted → length u.callbacks + u.room ≡ length t.callbacks + t.room → new.size ≡ old.size → ((p : ℕ) (h : Held) → p ≢ place → held_at old p ≡ Some h → held_at new p ≡ Some h) → AreCalled new u
  called_less u kept table room size keeps =
      let back : (c : Callback) → Has (callbacks_of u.callbacks) c → Has (callbacks_of t.callbacks) c × (led_test new.pairs c ≡ true) = λ c has. kept_has (led_test new.pairs) t.callbacks c (subst (λ l. Has (callbacks_of l) c) kept has) in
      record {
        numbers = table;
        told = λ c has.
            let b = back c has in
            let o = true_away c b.1 in
            let k = pair_back c.before o.0 o.1 in
            let now = led_by new.pairs c.before o.0 is.pages.one_target o.1 in
            let then = led_by old.pairs c.before o.0 was.pages.one_target k.0 in
            ap (held_at new) now ∙ keeps o.0 (record { tag = c.tag; stamp = c.stamp }) k.1 (ap (held_at old) (sym then) ∙ called.told c b.0);
        old = λ c has. true_away c (back c has).1;
        each = λ name o.
            let r = called.each name (o.0, pair_before name o.0 o.1) in
            let here : IsOldName new r.0.before = subst (IsOldName new) (sym r.2) o in
            (r.0, subst (λ l. Has (callbacks_of l) r.0) (sym kept) (has_kept (led_test new.pairs) t.callbacks r.0 r.1 (away_true r.0 here)), r.2);
        once = λ c d has other same. called.once c d (back c has).0 (back d other).0 same;
        room = room ∙ (called.room ∙ ap (λ n. 4 * n) (sym size));
      }

  -- the old name of a callback that led to the page leads to no other page
  gone_own : (c : Callback) → Contains old.pairs (c.before, place) → resolve new.pairs c.before ≡ c.before
  gone_own c pair = ⊎_elim
      (λ same. same)
      (λ led. let k = pair_back c.before (resolve new.pairs c.before) led in absurd (k.1 (sym (led_by old.pairs c.before (resolve new.pairs c.before) was.pages.one_target k.0) ∙ led_by old.pairs c.before place was.pages.one_target pair)))
      (old_or new.pairs c.before)

  -- the callbacks whose names led to the page are those of its stamp
  pub led_by_stamp : HasLive old → (h : Held) → held_at old place ≡ Some h → beside_stamp t.callbacks h.stamp ≡ filter (is_led new.pairs) t.callbacks
  led_by_stamp live h here = filter_same (λ e. not (e.callback.stamp == h.stamp)) (is_led new.pairs) t.callbacks (λ i within.
      let c = (entry_at t.callbacks i).callback in
      let has = has_at t.callbacks i within in
      let o = called.old c has in
      let to = led_by old.pairs c.before o.0 was.pages.one_target o.1 in
      let told = called.told c has in
      ⊎_elim
      (λ (same : c.stamp ≡ h.stamp).
      let at : o.0 ≡ place = sym to ∙ live.differ (resolve old.pairs c.before) place (record { tag = c.tag; stamp = c.stamp }) h told here same in
      ap not (eq-eqb c.stamp h.stamp same) ∙ sym (ap not (eq-eqb (resolve new.pairs c.before) c.before (gone_own c (subst (λ x. Contains old.pairs (c.before, x)) at o.1)))))
      (λ (far : c.stamp ≢ h.stamp).
      let away : o.0 ≢ place = λ at. far (ap (λ (x : Held). x.stamp) (same_Some (record { tag = c.tag; stamp = c.stamp }) h (sym told ∙ (ap (held_at old) (to ∙ at) ∙ here)))) in
      ap not (ne_eqb c.stamp h.stamp far) ∙ sym (away_true c (o.0, pair_on c.before o.0 o.1 away)))
      (cases_eq c.stamp h.stamp))

  -- the callbacks whose names led to the page are no longer pending
  pub pending_less : (u : PendingTable) → u.callbacks ≡ filter (is_led new.pairs) t.callbacks → callbacks_of u.callbacks ≡ callbacks_beside old.pairs (callbacks_of t.callbacks) place
  pending_less u kept = ap callbacks_of kept ∙ kept_list (led_test new.pairs) (λ c. not (list_any (λ pair. pair.0 == c.before && pair.1 == place) old.pairs)) t.callbacks agree
    where
      agree : (c : Callback) → Has (callbacks_of t.callbacks) c → led_test new.pairs c ≡ not (list_any (λ pair. pair.0 == c.before && pair.1 == place) old.pairs)
      agree c has =
          let o = called.old c has in
          ⊎_elim
          (λ (here : o.0 ≡ place).
          let pair = subst (λ x. Contains old.pairs (c.before, x)) here o.1 in
          ap not (eq-eqb (resolve new.pairs c.before) c.before (gone_own c pair)) ∙ sym (ap not (leads_there old.pairs c.before place pair)))
          (λ (far : o.0 ≢ place).
          away_true c (o.0, pair_on c.before o.0 o.1 far)
          ∙ sym (ap not (leads_elsewhere old.pairs c.before place (λ pair. far (sym (led_by old.pairs c.before o.0 was.pages.one_target o.1) ∙ led_by old.pairs c.before place was.pages.one_target pair)))))
          (cases_eq o.0 place)

  pub handled_less : (u : PendingTable) → u.callbacks ≡ filter (is_led new.pairs) t.callbacks → (c : Callback) → Has (callbacks_of u.callbacks) c → handled_in u.callbacks c.number ≡ handled_in t.callbacks c.number
  handled_less u kept c has = ap (λ l. handled_in l c.number) kept ∙ kept_handled (led_test new.pairs) t.callbacks called.numbers.rising c (subst (λ l. Has (callbacks_of l) c) kept has)

-- what is cancelled where a page is gone: the callbacks of its stamp, and so of the names that led to it
pub gone_led : (old new : Physical) (place : ℕ) (t : PendingTable) → AreCalled old t → IsWhole old → IsWhole new → new.pairs ≡ without_target place old.pairs → HasLive old → (h : Held) → held_at old place ≡ Some h → (stamp : ℕ) → h.stamp ≡ stamp
    → (gone : Bool) → gone ≡ true → (es : List Entry) → es ≡ cond gone (beside_stamp t.callbacks stamp) t.callbacks → es ≡ filter (is_led new.pairs) t.callbacks
gone_led old new place t called was is pairs live h here stamp same gone yes_gone es cancelled =
    cancelled ∙ (cond-true gone (beside_stamp t.callbacks stamp) t.callbacks yes_gone
    ∙ (ap (λ s. beside_stamp t.callbacks s) (sym same) ∙ led_by_stamp old new place t called was is pairs live h here))

pub none_cancelled : (stamp : ℕ) (t : PendingTable) (gone : Bool) → gone ≡ false → (es : List Entry) → es ≡ cond gone (beside_stamp t.callbacks stamp) t.callbacks → es ≡ t.callbacks
none_cancelled stamp t gone un es cancelled = cancelled ∙ cond-false gone (beside_stamp t.callbacks stamp) t.callbacks un

-- where no page is live there is no old name, and no callback is pending
pub none_called : (seg : Physical) (t : PendingTable) → AreCalled seg t → ((page : ℕ) → held_at seg page ≡ None) → t.callbacks ≡ []
none_called seg t called dead = by t.callbacks (λ c has. none-some (record { tag = c.tag; stamp = c.stamp }) (sym (dead (resolve seg.pairs c.before)) ∙ called.told c has))
  where
    by : (es : List Entry) → ((c : Callback) → Has (callbacks_of es) c → ⊥) → es ≡ []
    by [] off = refl
    by (e ∷ es) off = absurd (off e.callback (inl refl))

pub none_paired : (seg : Physical) → IsWhole seg → ((page : ℕ) → held_at seg page ≡ None) → seg.pairs ≡ []
none_paired seg whole dead = by seg.pairs (λ n t has. let h = whole.pages.to_live n t has in none-some h.0 (sym (dead t) ∙ h.1))
  where
    by : (xs : List (ℕ × ℕ)) → ((n t : ℕ) → Contains xs (n, t) → ⊥) → xs ≡ []
    by [] off = refl
    by (x ∷ xs) off = absurd (off x.0 x.1 (zero, omega arith, refl))

pub called_none : (seg : Physical) (t : PendingTable) → seg.pairs ≡ [] → t.callbacks ≡ [] → length t.callbacks + t.room ≡ 4 * seg.size → AreCalled seg t
called_none seg t none empty room =
    let off : (c : Callback) → Has (callbacks_of t.callbacks) c → ⊥ = λ c has. subst (λ l. Has (callbacks_of l) c) empty has in
    let few = ap (λ (l : List Entry). length l) empty in
    record {
      numbers = record { rising = λ i j less below. absurd (omega (arith, below, few)); given = λ i below. absurd (omega (arith, below, few)) };
      told = λ c has. absurd (off c has);
      old = λ c has. absurd (off c has);
      each = λ name o. absurd (by seg.pairs none name o.0 o.1);
      once = λ c d has. absurd (off c has);
      room = room;
    }
  where
    by : (xs : List (ℕ × ℕ)) → xs ≡ [] → (n t : ℕ) → Contains xs (n, t) → ⊥
    by xs none n t h = let lt = h.1 in let e = ap (λ (l : List (ℕ × ℕ)). length l) none in omega (arith, lt, e)
