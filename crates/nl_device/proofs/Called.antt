-- The pending callbacks that a device shows: by place in the table, and as a list.
use Rattle.std.proofs.Common.{◌≡◌, ◌≢◌, ℕ, zero, suc, ◌<◌, ◌≤◌, ◌==◌, false, List, [], ◌∷◌, length, Option, Some, None, refl, sym, ◌∙◌, ap, subst, arith, eq-eqb, ne_eqb}
use Rattle.std.specs.Prelude.{IfNone, IfSome}
use Rattle.std.proofs.lemmas.Bool.{cond-true, cond-false}
use Rattle.nl_callbacks.specs.Pending.{HasCallback, IsPending, ArePendingEntries, IsWaiting, entry_at, number_of}
use Rattle.nl_callbacks.specs.declared.entry.Entry.{Entry}
use Rattle.nl_iface.specs.Names.{Has}
use Rattle.nl_iface.specs.declared.Callback.{Callback}
use Rattle.nl_device.specs.Callbacks.{HasUnhandled, callbacks_of, handled_in}
use Rattle.nl_device.specs.State.{at_has, has_at}

-- the callback of a number
pub called_some : (es : List Entry) (number : ℕ) (o : Option Callback) → IfSome o (HasCallback es) → IfSome o (λ c. c.number ≡ number) → IfSome o (λ c. Has (callbacks_of es) c × (c.number ≡ number))
called_some es number None has is = tt
called_some es number (Some c) has is = (subst (Has (callbacks_of es)) has.2 (has_at es has.0 has.1), is)

pub called_none : (es : List Entry) (number : ℕ) (o : Option Callback) → IfNone o (IsPending es number → ⊥) → IfNone o ((c : Callback) → Has (callbacks_of es) c → c.number ≢ number)
called_none es number None none = λ c has is. let r = at_has es c has in none (r.0, r.1, ap (λ (x : Callback). x.number) r.2 ∙ is)
called_none es number (Some c) none = tt

-- which transaction handled the callback at a place, where numbers rise
pub handled_at : (es : List Entry) (i : ℕ) → ((a b : ℕ) → a < b → b < length es → number_of (entry_at es a) < number_of (entry_at es b)) → i < length es → handled_in es (number_of (entry_at es i)) ≡ (entry_at es i).transaction
handled_at [] i rising lt = absurd (omega (arith, lt))
handled_at (e ∷ es) zero rising lt = cond-true (e.callback.number == e.callback.number) e.transaction (handled_in es e.callback.number) (eq-eqb e.callback.number e.callback.number refl)
handled_at (e ∷ es) (suc i) rising lt =
    let less : number_of e < number_of (entry_at es i) = rising zero (suc i) (omega arith) lt in
    let off : (e.callback.number == number_of (entry_at es i)) ≡ false = ne_eqb e.callback.number (number_of (entry_at es i)) (λ is. omega (arith, is, less)) in
    cond-false (e.callback.number == number_of (entry_at es i)) e.transaction (handled_in es (number_of (entry_at es i))) off
    ∙ handled_at es i (λ a b before below. rising (suc a) (suc b) (omega (arith, before)) (omega (arith, below))) (omega (arith, lt))

pub unhandled_of : (es : List Entry) (posted n : ℕ) → ArePendingEntries es posted → IsWaiting es n → HasUnhandled (callbacks_of es) (handled_in es) n
unhandled_of es posted n table w = ((entry_at es w.0).callback, has_at es w.0 w.1, w.2, ap (handled_in es) (sym w.2) ∙ (handled_at es w.0 table.rising w.1 ∙ w.3))

pub waiting_of : (es : List Entry) (posted n : ℕ) → ArePendingEntries es posted → HasUnhandled (callbacks_of es) (handled_in es) n → IsWaiting es n
waiting_of es posted n table u =
    let r = at_has es u.0 u.1 in
    let number : number_of (entry_at es r.0) ≡ n = ap (λ (x : Callback). x.number) r.2 ∙ u.2 in
    (r.0, r.1, number, sym (handled_at es r.0 table.rising r.1) ∙ (ap (handled_in es) number ∙ u.3))

pub least_some : (es : List Entry) (posted : ℕ) (o : Option ℕ) → ArePendingEntries es posted → IfSome o (IsWaiting es) → IfSome o (HasUnhandled (callbacks_of es) (handled_in es))
least_some es posted None table w = tt
least_some es posted (Some n) table w = unhandled_of es posted n table w

pub least_is : (es : List Entry) (posted : ℕ) (o : Option ℕ) → ArePendingEntries es posted → IfSome o (λ n. (other : ℕ) → IsWaiting es other → n ≤ other) → IfSome o (λ n. (other : ℕ) → HasUnhandled (callbacks_of es) (handled_in es) other → n ≤ other)
least_is es posted None table w = tt
least_is es posted (Some n) table w = λ other u. w other (waiting_of es posted other table u)

pub least_none : (es : List Entry) (posted : ℕ) (o : Option ℕ) → ArePendingEntries es posted → IfNone o ((n : ℕ) → IsWaiting es n → ⊥) → IfNone o ((n : ℕ) → HasUnhandled (callbacks_of es) (handled_in es) n → ⊥)
least_none es posted None table w = λ n u. w n (waiting_of es posted n table u)
least_none es posted (Some n) table w = tt

-- where none is pending
pub no_callback : (es : List Entry) (c : Callback) → es ≡ [] → Has (callbacks_of es) c → ⊥
no_callback es c none has = subst (λ (l : List Entry). Has (callbacks_of l) c) none has
