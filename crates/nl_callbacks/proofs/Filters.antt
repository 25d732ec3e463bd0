-- What calls leave of the list of pending callbacks, as filters.
use Rattle.std.proofs.Common.{◌≡◌, ℕ, suc, zero, ◌+◌, ◌<◌, ◌==◌, Bool, true, false, cond, not, nat_lt, eq-eqb, List, [], ◌∷◌, ◌++◌, length, insert, remove, Option, Some, None, refl, sym, ◌∙◌, ap, arith}
use Rattle.std.specs.Prelude.{filter}
use Rattle.std.proofs.lemmas.Bool.{ne_eqb, le-leb, lt-leb, lt-ltb}
use Rattle.std.proofs.lemmas.List.Sums.{sum_by-cons}
use Rattle.nl_callbacks.specs.declared.entry.Entry.{Entry}
use Rattle.nl_callbacks.specs.Pending.{PendingTable, AcknowledgesName, Cancels, IsName, ArePendingEntries, beside_name, beside_stamp, entry_at, is_over, number_of, place_of, unacknowledged}

-- an item that does not pass is taken out
pub filter_remove : (p : Entry → Bool) (es : List Entry) (at : ℕ) → at < length es → p (entry_at es at) ≡ false → filter p (remove es at) ≡ filter p es
filter_remove p [] at within out = absurd (omega arith)
filter_remove p (e ∷ es) zero within out = sym (ap (λ b. cond b (e ∷ filter p es) (filter p es)) out)
filter_remove p (e ∷ es) (suc at) within out = ap (λ l. cond (p e) (e ∷ l) l) (filter_remove p es at (omega arith) out)

-- each item passes
pub filter_all : (p : Entry → Bool) (es : List Entry) → ((i : ℕ) → i < length es → p (entry_at es i) ≡ true) → filter p es ≡ es
filter_all p [] each = refl
filter_all p (e ∷ es) each =
    ap (λ b. cond b (e ∷ filter p es) (filter p es)) (each 0 (omega arith)) ∙ ap (λ l. e ∷ l) (filter_all p es (λ i within. each (suc i) (omega arith)))

over_not : (upto : ℕ) (o : Option ℕ) → ((transaction : ℕ) → o ≡ Some transaction → upto < transaction) → not (is_over upto o) ≡ true
over_not upto None later = refl
over_not upto (Some transaction) later = ap not (lt-leb transaction upto (later transaction refl))

pub acknowledged_over : {old new : PendingTable} {upto name : ℕ} → AcknowledgesName old new upto name → unacknowledged upto new.callbacks ≡ unacknowledged upto old.callbacks
acknowledged_over {old} {new} {upto} {name} is =
    ap (λ (t : PendingTable). unacknowledged upto t.callbacks) is.gone
    ∙ filter_remove (λ e. not (is_over upto e.transaction)) old.callbacks is.at is.within
    (ap (λ (o : Option ℕ). not (is_over upto o)) is.handled ∙ ap not (le-leb is.transaction upto is.acknowledged))

pub none_over : (es : List Entry) (upto : ℕ) → ((i transaction : ℕ) → i < length es → (entry_at es i).transaction ≡ Some transaction → upto < transaction) → unacknowledged upto es ≡ es
none_over es upto later = filter_all (λ e. not (is_over upto e.transaction)) es (λ i within. over_not upto (entry_at es i).transaction (λ transaction is. later i transaction within is))

pub cancelled_beside : {old new : PendingTable} {name : ℕ} → Cancels old new name → beside_name new.callbacks name ≡ beside_name old.callbacks name
cancelled_beside {old} {new} {name} is =
    ap (λ (t : PendingTable). beside_name t.callbacks name) is.gone
    ∙ filter_remove (λ e. not (e.callback.before == name)) old.callbacks is.at is.within (ap not (eq-eqb (entry_at old.callbacks is.at).callback.before name is.named))

pub none_named : (es : List Entry) (name : ℕ) → (IsName es name → ⊥) → beside_name es name ≡ es
none_named es name none = filter_all (λ e. not (e.callback.before == name)) es
    (λ i within. ap not (ne_eqb (entry_at es i).callback.before name (λ is. none (i, within, is))))

pub none_stamped : (es : List Entry) (stamp : ℕ) → ((i : ℕ) → i < length es → (entry_at es i).callback.stamp ≡ stamp → ⊥) → beside_stamp es stamp ≡ es
none_stamped es stamp none = filter_all (λ e. not (e.callback.stamp == stamp)) es (λ i within. ap not (ne_eqb (entry_at es i).callback.stamp stamp (λ is. none i within is)))

-- a number above all that were given comes last
insert_end : (es : List Entry) (e : Entry) → insert es (length es) e ≡ es ++ e ∷ []
insert_end [] e = refl
insert_end (f ∷ es) e = ap (λ l. f ∷ l) (insert_end es e)

all_counted : (es : List Entry) (number : ℕ) → ((i : ℕ) → i < length es → number_of (entry_at es i) < number) → place_of es number ≡ length es
all_counted [] number each = refl
all_counted (e ∷ es) number each =
    let here : nat_lt (number_of e) number ≡ true = lt-ltb (number_of e) number (each 0 (omega arith)) in
    let rest : place_of es number ≡ length es = all_counted es number (λ i within. each (suc i) (omega arith)) in
    rw (sum_by-cons (λ (x : Entry). cond (nat_lt (number_of x) number) 1 0) e es, here) (omega arith)

pub appended : (es : List Entry) (posted number : ℕ) (e : Entry) → ArePendingEntries es posted → number ≡ posted + 1 → insert es (place_of es number) e ≡ es ++ e ∷ []
appended es posted number e is next =
    ap (λ k. insert es k e) (all_counted es number (λ i within. let given = is.given i within in omega (arith, given.1, next))) ∙ insert_end es e
