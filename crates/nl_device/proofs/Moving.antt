-- A live page of the victim is at another page, and one callback more tells of it.
use Rattle.std.proofs.Common.{◌≡◌, ◌≢◌, ◌⊎◌, inl, inr, ⊎_elim, ℕ, zero, suc, ◌+◌, ◌<◌, ◌≤◌, ◌==◌, cond, Bool, true, false, not, List, [], ◌∷◌, length, insert, get_or, set, Option, Some, None, refl, sym, ◌∙◌, ap, subst, arith, eq-eqb, ne_eqb}
use Rattle.std.specs.Prelude.{Contains}
use Rattle.std.proofs.lemmas.Bool.{cases_eq, cond-true, cond-false}
use Rattle.std.proofs.lemmas.List.{get_or-set_other, get_or-set_same, length-set}
use Rattle.std.proofs.lemmas.Option.{none-some}
use Rattle.nl_callbacks.specs.Pending.{ArePendingEntries, PendingTable, callback_of, entry_at, new_entry, number_of, place_of}
use Rattle.nl_callbacks.specs.declared.entry.Entry.{Entry}
use Rattle.nl_field.specs.Live.{resolve}
use Rattle.nl_iface.specs.Names.{Has, LivePage, led}
use Rattle.nl_iface.specs.declared.Callback.{Callback}
use Rattle.nl_pseg.specs.Cleaning.{MovesLivePage, without_name}
use Rattle.nl_pseg.specs.Segment.{IsOldName, Physical, held_at}
use Rattle.nl_pseg.specs.Space.{IsWhole}
use Rattle.nl_pseg.specs.declared.held.Held.{Held}
use Rattle.nl_device.specs.Callbacks.{AreCalled, CallbackNamesDiffer, callbacks_of, held_of_callback}
use Rattle.nl_device.specs.Device.{HasLive}
use Rattle.nl_device.specs.Shown.{live_page, names_of}
use Rattle.nl_device.specs.State.{at_has, held_of, led_by, old_or, to_itself}
use Rattle.nl_device.proofs.Dropping.{of_unnamed, unnamed_length}
use Rattle.nl_device.proofs.Living.{swap_held}
use Rattle.nl_device.proofs.Posting.{posted_either, posted_new, posted_old}

-- ---- there are no more callbacks than pairs

shorter : (xs : List (ℕ × ℕ)) (n t : ℕ) → Contains xs (n, t) → length (without_name n xs) + 1 ≤ length xs
shorter [] n t h = let lt = h.1 in absurd (omega (arith, lt))
shorter (x ∷ xs) n t (zero, lt, is) =
    let e = eq-eqb x.0 n (ap (λ (p : ℕ × ℕ). p.0) is) in
    let gone : without_name n (x ∷ xs) ≡ without_name n xs = ap (λ b. cond (not b) (x ∷ without_name n xs) (without_name n xs)) e in
    let l = ap (λ (l : List (ℕ × ℕ)). length l) gone in
    let most = unnamed_length xs n in
    omega (arith, l, most)
shorter (x ∷ xs) n t (suc i, lt, is) = by (shorter xs n t (i, omega (arith, lt), is)) (not (x.0 == n))
  where
    by : length (without_name n xs) + 1 ≤ length xs → (b : Bool) → length (cond b (x ∷ without_name n xs) (without_name n xs)) + 1 ≤ suc (length xs)
    by rest true = omega (arith, rest)
    by rest false = omega (arith, rest)

pub few_called : (es : List Entry) (pairs : List (ℕ × ℕ)) → ((i j : ℕ) → i < j → j < length es → number_of (entry_at es i) < number_of (entry_at es j)) → CallbackNamesDiffer es → ((c : Callback) → Has (callbacks_of es) c → (t : ℕ) × Contains pairs (c.before, t)) → length es ≤ length pairs
few_called [] pairs rising differ has = omega arith
few_called (e ∷ es) pairs rising differ has =
    let far : (c : Callback) → Has (callbacks_of es) c → c.before ≢ e.callback.before = λ c h same.
    let number = ap (λ (x : Callback). x.number) (differ c e.callback (inr h) (inl refl) same) in
    let r = at_has es c h in
    let lt = r.1 in
    let less = rising zero (suc r.0) (omega arith) (omega (arith, lt)) in
    let is : number_of (entry_at es r.0) ≡ c.number = ap (λ (x : Callback). x.number) r.2 in
    absurd (omega (arith, number, less, is)) in
    let here = has e.callback (inl refl) in
    let rest = few_called es (without_name e.callback.before pairs) (λ i j less below. rising (suc i) (suc j) (omega (arith, less)) (omega (arith, below)))
    (λ c d h k same. differ c d (inr h) (inr k) same)
    (λ c h. let t = has c (inr h) in (t.0, of_unnamed pairs e.callback.before c.before t.0 t.1 (far c h))) in
    let less = shorter pairs e.callback.before here.0 here.1 in
    omega (arith, rest, less)

pub insert_length : (es : List Entry) (at : ℕ) (e : Entry) → length (insert es at e) ≡ length es + 1
insert_length es zero e = omega arith
insert_length [] (suc at) e = omega arith
insert_length (x ∷ es) (suc at) e = let l = insert_length es at e in omega (arith, l)

-- ---- what a move leaves of the tables

module _ (before after : ℕ) (h : Held) (old new : Physical) (m : MovesLivePage before after h old new) (was : IsWhole old) (is : IsWhole new) (within : before < length old.held) (below : after < length old.held) where
  apart : after ≡ before → ⊥
  apart same = none-some h (sym m.dead.dead ∙ (ap (held_at old) same ∙ m.was))

  put : Option Held
  put = Some h

  pub now_at : (p : ℕ) → held_at new p ≡ get_or (set (set old.held after (Some h)) before None) p None
  now_at p = ap (λ (l : List (Option Held)). get_or l p None) m.held

  pub here_now : held_at new after ≡ Some h
  here_now = now_at after ∙ (get_or-set_other (set old.held after (Some h)) before after None None apart ∙ get_or-set_same old.held after (Some h) None below)

  pub still : (p : ℕ) (x : Held) → p ≢ before → held_at old p ≡ Some x → held_at new p ≡ Some x
  still p x far has =
      now_at p ∙ (get_or-set_other (set old.held after (Some h)) before p None None far
      ∙ (get_or-set_other old.held after p (Some h) None (λ same. none-some x (sym m.dead.dead ∙ (ap (held_at old) (sym same) ∙ has))) ∙ has))

  gone : held_at new before ≡ None
  gone = now_at before ∙ get_or-set_same (set old.held after (Some h)) before None None (let l = length-set old.held after (Some h) in omega (arith, l, within))

  -- what is live now is the page that was moved, or was live elsewhere
  pub split : (p : ℕ) (x : Held) → held_at new p ≡ Some x → ((p ≡ after) × (h ≡ x)) ⊎ ((p ≢ before) × (held_at old p ≡ Some x))
  split p x has = ⊎_elim
      (λ here. inl here)
      (λ there. inr ((λ same. none-some x (sym gone ∙ (ap (held_at new) (sym same) ∙ has))), there.1))
      (swap_held old.held after before h p x below within (sym (now_at p) ∙ has))

  pub live_moved : HasLive old → HasLive new
  live_moved live = record {
    in_segment = λ p x has. is.pages.live_within p x has;
    blank_in = is.pages.erased_within;
    differ = λ p q g x p_has q_has same. ⊎_elim
        (λ a. ⊎_elim
        (λ b. a.0 ∙ sym b.0)
        (λ b. absurd (b.0 (live.differ q before x h b.1 m.was (sym same ∙ ap (λ (y : Held). y.stamp) (sym a.1)))))
        (split q x q_has))
        (λ a. ⊎_elim
        (λ b. absurd (a.0 (live.differ p before g h a.1 m.was (same ∙ ap (λ (y : Held). y.stamp) (sym b.1)))))
        (λ b. live.differ p q g x a.1 b.1 same)
        (split q x q_has))
        (split p g p_has);
  }

  own_before : resolve old.pairs before ≡ before
  own_before = to_itself old.pairs before (was.pages.own before h m.was)

  led_here : (n : ℕ) → resolve old.pairs n ≡ before → resolve new.pairs n ≡ after
  led_here n same = m.ways n ∙ cond-true (resolve old.pairs n == before) after (resolve old.pairs n) (eq-eqb (resolve old.pairs n) before same)

  led_still : (n : ℕ) → resolve old.pairs n ≢ before → resolve new.pairs n ≡ resolve old.pairs n
  led_still n far = m.ways n ∙ cond-false (resolve old.pairs n == before) after (resolve old.pairs n) (ne_eqb (resolve old.pairs n) before far)

  -- a name that leads elsewhere is an old name
  by_pair : (n : ℕ) → resolve new.pairs n ≢ n → IsOldName new n
  by_pair n far = ⊎_elim (λ own. absurd (far own)) (λ pair. (resolve new.pairs n, pair)) (old_or new.pairs n)

  stays_old : (n : ℕ) → IsOldName old n → IsOldName new n
  stays_old n o = by_pair n (λ own. ⊎_elim
      (λ same. m.dead.own (subst (IsOldName old) (sym own ∙ led_here n same) o))
      (λ far.
      let x = was.pages.to_live n o.0 o.1 in
      let led_is = led_by old.pairs n o.0 was.pages.one_target o.1 in
      was.pages.own n x.0 (ap (held_at old) (sym own ∙ (led_still n far ∙ led_is)) ∙ x.1) o)
      (cases_eq (resolve old.pairs n) before))

  before_old : IsOldName new before
  before_old = by_pair before (λ own. apart (sym (led_here before own_before) ∙ own))

  pub called_moved : (t u : PendingTable) (number : ℕ) → AreCalled old t → ArePendingEntries u.callbacks u.posted → u.callbacks ≡ insert t.callbacks (place_of t.callbacks number) (new_entry (callback_of number before after h.tag h.stamp)) → length u.callbacks + u.room ≡ length t.callbacks + t.room → AreCalled new u
  called_moved t u number called table inserted room = record {
    numbers = table;
    told = λ c has. ⊎_elim
        (λ same. subst (λ (x : Callback). held_at new (resolve new.pairs x.before) ≡ held_of_callback x) same (ap (held_at new) (led_here before own_before) ∙ here_now))
        (λ had.
        let told = called.told c had in
        ⊎_elim
        (λ same. ap (held_at new) (led_here c.before same) ∙ (here_now ∙ (sym m.was ∙ (ap (held_at old) (sym same) ∙ told))))
        (λ far. ap (held_at new) (led_still c.before far) ∙ still (resolve old.pairs c.before) (record { tag = c.tag; stamp = c.stamp }) far told)
        (cases_eq (resolve old.pairs c.before) before))
        (split_has c has);
    old = λ c has. ⊎_elim
        (λ same. subst (λ (x : Callback). IsOldName new x.before) same before_old)
        (λ had. stays_old c.before (called.old c had))
        (split_has c has);
    each = λ n o. ⊎_elim
        (λ same. (c_new, subst (λ l. Has (callbacks_of l) c_new) (sym inserted) (posted_new t.callbacks at e), sym same))
        (λ o_old. let r = called.each n o_old in (r.0, subst (λ l. Has (callbacks_of l) r.0) (sym inserted) (posted_old t.callbacks at e r.0 r.1), r.2))
        (m.names n o);
    once = λ c d has other same. ⊎_elim
        (λ a. ⊎_elim
        (λ b. sym a ∙ b)
        (λ b. absurd (was.pages.own before h m.was (subst (IsOldName old) (sym same ∙ ap (λ (x : Callback). x.before) (sym a)) (called.old d b))))
        (split_has d other))
        (λ a. ⊎_elim
        (λ b. absurd (was.pages.own before h m.was (subst (IsOldName old) (same ∙ ap (λ (x : Callback). x.before) (sym b)) (called.old c a))))
        (λ b. called.once c d a b same)
        (split_has d other))
        (split_has c has);
    room = let w = called.room in let s = m.same_size in omega (arith, w, s, room);
  }
    where
      c_new : Callback
      c_new = callback_of number before after h.tag h.stamp

      e : Entry
      e = new_entry (callback_of number before after h.tag h.stamp)

      at : ℕ
      at = place_of t.callbacks number

      split_has : (c : Callback) → Has (callbacks_of u.callbacks) c → (callback_of number before after h.tag h.stamp ≡ c) ⊎ Has (callbacks_of t.callbacks) c
      split_has c has = posted_either t.callbacks (place_of t.callbacks number) (new_entry (callback_of number before after h.tag h.stamp)) c (subst (λ l. Has (callbacks_of l) c) inserted has)

  -- a name leads to the page to which it led, or is that of the new place
  pub led_moved : (name : ℕ) (page : LivePage) → (names_of new).live (led (names_of new) name) ≡ Some page → ((names_of old).live (led (names_of old) name) ≡ Some page) ⊎ ((names_of new).live name ≡ Some page)
  led_moved name page live = ⊎_elim
      (λ same.
      let told : live_page (Some h) ≡ Some page = ap live_page (sym here_now) ∙ (ap (λ n. live_page (held_at new n)) (sym (led_here name same)) ∙ live) in
      inl (ap (λ n. live_page (held_at old n)) same ∙ (ap live_page m.was ∙ told)))
      (λ far.
      let x = held_of (held_at new (resolve new.pairs name)) page live in
      let told : live_page (Some x.0) ≡ Some page = ap live_page (sym x.1) ∙ live in
      ⊎_elim
      (λ here. ⊎_elim
      (λ own. inr (ap (λ n. live_page (held_at new n)) (sym (led_still name far ∙ own)) ∙ live))
      (λ pair.
      let y = was.pages.to_live name (resolve old.pairs name) pair in
      absurd (none-some y.0 (sym m.dead.dead ∙ (ap (held_at old) (sym (sym (led_still name far) ∙ here.0)) ∙ y.1))))
      (old_or old.pairs name))
      (λ there. inl (ap (λ n. live_page (held_at old n)) (sym (led_still name far)) ∙ (ap live_page there.1 ∙ told)))
      (split (resolve new.pairs name) x.0 x.1))
      (cases_eq (resolve old.pairs name) before)

  pub moved_below : (next : ℕ) → ((p : ℕ) (x : Held) → held_at old p ≡ Some x → x.stamp < next) → (p : ℕ) (x : Held) → held_at new p ≡ Some x → x.stamp < next
  moved_below next under p x has = ⊎_elim
      (λ here. subst (λ (y : Held). y.stamp < next) here.1 (under before h m.was))
      (λ there. under p x there.1)
      (split p x has)
