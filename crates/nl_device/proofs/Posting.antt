-- A move as the names show it: the page at its new place, the pairs led on, and one callback posted.
use Rattle.std.proofs.Common.{◌≡◌, ◌≢◌, ◌⊎◌, inl, inr, ⊎_elim, ℕ, zero, suc, ◌+◌, ◌-◌, ◌^◌, ◌<◌, ◌==◌, min, cond, List, [], ◌∷◌, length, get_or, insert, Option, Some, None, refl, sym, ◌∙◌, ap, subst, arith, eq-eqb, ne_eqb}
use Rattle.std.proofs.lemmas.Bool.{cond-true, cond-false}
use Rattle.nl_field.specs.declared.pointer.Tag.{Tag}
use Rattle.nl_callbacks.specs.Pending.{IsPending, PendingTable, callback_of, new_entry, number_of, place_of}
use Rattle.nl_callbacks.specs.declared.entry.Entry.{Entry}
use Rattle.nl_iface.specs.Moves.{Copies}
use Rattle.nl_iface.specs.Names.{Has}
use Rattle.nl_iface.specs.declared.Callback.{Callback}
use Rattle.nl_pseg.specs.Cleaning.{MovesLivePage}
use Rattle.nl_pseg.specs.Segment.{Physical, held_at}
use Rattle.nl_pseg.specs.declared.held.Held.{Held}
use Rattle.nl_device.specs.Callbacks.{callbacks_of, handled_in, names_with}
use Rattle.nl_device.specs.Shown.{live_page}
use Rattle.nl_device.specs.State.{at_has, to_itself}
use Rattle.nl_device.proofs.Living.{swap_live}

-- a callback that is put among the others
pub posted_new : (es : List Entry) (at : ℕ) (e : Entry) → Has (callbacks_of (insert es at e)) e.callback
posted_new es zero e = inl refl
posted_new [] (suc at) e = inl refl
posted_new (x ∷ es) (suc at) e = inr (posted_new es at e)

pub posted_old : (es : List Entry) (at : ℕ) (e : Entry) (c : Callback) → Has (callbacks_of es) c → Has (callbacks_of (insert es at e)) c
posted_old es zero e c h = inr h
posted_old [] (suc at) e c h = absurd h
posted_old (x ∷ es) (suc at) e c (inl same) = inl same
posted_old (x ∷ es) (suc at) e c (inr h) = inr (posted_old es at e c h)

pub posted_either : (es : List Entry) (at : ℕ) (e : Entry) (c : Callback) → Has (callbacks_of (insert es at e)) c → (e.callback ≡ c) ⊎ Has (callbacks_of es) c
posted_either es zero e c (inl same) = inl same
posted_either es zero e c (inr h) = inr h
posted_either [] (suc at) e c (inl same) = inl same
posted_either [] (suc at) e c (inr h) = absurd h
posted_either (x ∷ es) (suc at) e c (inl same) = inr (inl same)
posted_either (x ∷ es) (suc at) e c (inr h) = ⊎_elim (λ new. inl new) (λ old. inr (inr old)) (posted_either es at e c h)

pub handled_new : (es : List Entry) (at : ℕ) (e : Entry) → ((c : Callback) → Has (callbacks_of es) c → c.number ≢ number_of e) → handled_in (insert es at e) (number_of e) ≡ e.transaction
handled_new es zero e off = cond-true (number_of e == number_of e) e.transaction (handled_in es (number_of e)) (eq-eqb (number_of e) (number_of e) refl)
handled_new [] (suc at) e off = cond-true (number_of e == number_of e) e.transaction None (eq-eqb (number_of e) (number_of e) refl)
handled_new (x ∷ es) (suc at) e off =
    cond-false (number_of x == number_of e) x.transaction (handled_in (insert es at e) (number_of e)) (ne_eqb (number_of x) (number_of e) (off x.callback (inl refl)))
    ∙ handled_new es at e (λ c h. off c (inr h))

pub handled_old : (es : List Entry) (at : ℕ) (e : Entry) (n : ℕ) → number_of e ≢ n → handled_in (insert es at e) n ≡ handled_in es n
handled_old es zero e n off = cond-false (number_of e == n) e.transaction (handled_in es n) (ne_eqb (number_of e) n off)
handled_old [] (suc at) e n off = cond-false (number_of e == n) e.transaction None (ne_eqb (number_of e) n off)
handled_old (x ∷ es) (suc at) e n off = ap (λ o. cond (number_of x == n) x.transaction o) (handled_old es at e n off)

-- a move shows one page moved, under one new callback
pub copies : (before after number : ℕ) (tag : Tag) (stamp : ℕ) (old new : Physical) (t u : PendingTable) → MovesLivePage before after (record { tag = tag; stamp = stamp }) old new
    → before < length old.held → after < length old.held → (IsPending t.callbacks number → ⊥) → (t.posted + 1 < 2 ^ 64 → number ≡ t.posted + 1) → t.posted < 2 ^ 64
    → u.callbacks ≡ insert t.callbacks (place_of t.callbacks number) (new_entry (callback_of number before after tag stamp)) → u.posted ≡ min (t.posted + 1) (2 ^ 64 - 1)
    → Copies (callback_of number before after tag stamp) (names_with old t) (names_with new u)
copies before after number tag stamp old new t u m within below fresh next fits put posted = record {
  was = ap live_page m.was;
  dead = ap live_page m.dead.dead;
  own = to_itself old.pairs after m.dead.own;
  live = λ q. ap (λ (l : List (Option Held)). live_page (get_or l q None)) m.held ∙ swap_live old.held after before tag stamp below within apart q;
  ways = m.ways;
  added = subst (λ es. Has (callbacks_of es) c) (sym put) (posted_new t.callbacks at e);
  kept = λ d h. subst (λ es. Has (callbacks_of es) d) (sym put) (posted_old t.callbacks at e d h);
  only = λ d h. ⊎_elim (λ same. inl (sym same)) (λ was. inr was) (posted_either t.callbacks at e d (subst (λ es. Has (callbacks_of es) d) put h));
  new_number = off;
  numbered = λ less. (next (omega (arith, less)), omega (arith, posted, less));
  stands = λ most. omega (arith, posted, most, fits);
  unhandled = ap (λ es. handled_in es number) put ∙ handled_new t.callbacks at e off;
  handled = λ d h. ap (λ es. handled_in es d.number) put ∙ handled_old t.callbacks at e d.number (λ same. off d h (sym same));
}
  where
    c : Callback
    c = callback_of number before after tag stamp

    e : Entry
    e = new_entry c

    at : ℕ
    at = place_of t.callbacks number

    apart : after ≡ before → ⊥
    apart same = none_some (sym m.dead.dead ∙ (ap (held_at old) same ∙ m.was))
      where
        none_some : ◌≡◌ {A = Option Held} None (Some (record { tag = tag; stamp = stamp })) → ⊥
        none_some is = cc

    off : (d : Callback) → Has (callbacks_of t.callbacks) d → d.number ≢ number
    off d h same = let r = at_has t.callbacks d h in fresh (r.0, r.1, ap (λ (x : Callback). x.number) r.2 ∙ same)
