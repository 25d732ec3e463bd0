-- A callback is marked as handled.
use Rattle.std.proofs.Common.{◌≡◌, ◌≢◌, ⊎_elim, ℕ, zero, suc, ◌<◌, ◌==◌, cond, List, [], ◌∷◌, length, set, Option, Some, None, refl, sym, ◌∙◌, ap, arith, ne_eqb}
use Rattle.std.proofs.lemmas.Bool.{cases_lt, cond-false}
use Rattle.std.proofs.lemmas.List.{get_or-set_same, length-set}
use Rattle.nl_callbacks.specs.Pending.{IsPending, ArePendingEntries, PendingTable, entry_at, first_transaction, with_transaction, no_entry, number_of, place_of}
use Rattle.nl_callbacks.specs.declared.entry.Entry.{Entry}
use Rattle.nl_callbacks.proofs.IndexProofs.{place_counts}
use Rattle.nl_iface.specs.Moves.{MarksHandled}
use Rattle.nl_iface.specs.Moves as moves
use Rattle.nl_iface.specs.declared.Callback.{Callback}
use Rattle.nl_pseg.specs.Segment.{Physical}
use Rattle.nl_device.specs.Callbacks.{callbacks_of, handled_in, names_with}
use Rattle.nl_device.specs.State.{has_at}
use Rattle.nl_device.proofs.Called.{handled_at}

-- the place of a callback that is pending
pub pending_place : (es : List Entry) (posted i n : ℕ) → ArePendingEntries es posted → i < length es → number_of (entry_at es i) ≡ n → place_of es n ≡ i
pending_place es posted i n t lt is = place_counts es n i (record {
  bound = omega (arith, lt);
  below = λ j less. let x = t.rising j i less lt in omega (arith, x, is);
  above = λ j le within. ⊎_elim (λ less. let x = t.rising i j less within in omega (arith, x, is)) (λ most. let same : j ≡ i = omega (arith, most, le) in let e = ap (λ k. number_of (entry_at es k)) same in omega (arith, e, is)) (cases_lt i j);
})

pub marked_list : (es : List Entry) (at transaction : ℕ) → callbacks_of (set es at (with_transaction (entry_at es at) transaction)) ≡ callbacks_of es
marked_list [] at transaction = refl
marked_list (e ∷ es) zero transaction = refl
marked_list (e ∷ es) (suc at) transaction = ap (λ l. e.callback ∷ l) (marked_list es at transaction)

marked_elsewhere : (es : List Entry) (at transaction n : ℕ) → n ≢ number_of (entry_at es at) → handled_in (set es at (with_transaction (entry_at es at) transaction)) n ≡ handled_in es n
marked_elsewhere [] at transaction n off = refl
marked_elsewhere (e ∷ es) zero transaction n off =
    let far = ne_eqb (number_of e) n (λ same. off (sym same)) in
    cond-false (number_of e == n) (first_transaction e.transaction transaction) (handled_in es n) far ∙ sym (cond-false (number_of e == n) e.transaction (handled_in es n) far)
marked_elsewhere (e ∷ es) (suc at) transaction n off = ap (λ o. cond (number_of e == n) e.transaction o) (marked_elsewhere es at transaction n off)

same_first : (o : Option ℕ) (transaction : ℕ) → first_transaction o transaction ≡ moves.first_handled o transaction
same_first None transaction = refl
same_first (Some n) transaction = refl

-- the callback of this number is marked
pub marks : (seg : Physical) (t u : PendingTable) (number transaction : ℕ) → ArePendingEntries t.callbacks t.posted → ArePendingEntries u.callbacks u.posted → IsPending t.callbacks number
    → u ≡ record { callbacks = set t.callbacks (place_of t.callbacks number) (with_transaction (entry_at t.callbacks (place_of t.callbacks number)) transaction); posted = t.posted; room = t.room }
    → (c : Callback) × (c.number ≡ number) × MarksHandled c transaction (names_with seg t) (names_with seg u)
marks seg t u number transaction table after pending is =
    let i = pending.0 in
    let at = place_of t.callbacks number in
    let here : at ≡ i = pending_place t.callbacks t.posted i number table pending.1 pending.2 in
    let e = entry_at t.callbacks i in
    let m : Entry = with_transaction e transaction in
    let to_set : u.callbacks ≡ set t.callbacks i m = ap (λ (x : PendingTable). x.callbacks) is ∙ ap (λ k. set t.callbacks k (with_transaction (entry_at t.callbacks k) transaction)) here in
    let same : entry_at u.callbacks i ≡ m = ap (λ l. entry_at l i) to_set ∙ get_or-set_same t.callbacks i m no_entry pending.1 in
    let within : i < length u.callbacks = let l = ap (λ (x : List Entry). length x) to_set ∙ length-set t.callbacks i m in let lt = pending.1 in omega (arith, l, lt) in (
      e.callback,
      pending.2,
      record {
        has = has_at t.callbacks i pending.1;
        live = λ q. refl;
        pairs = refl;
        pending = ap callbacks_of to_set ∙ marked_list t.callbacks i transaction;
        posted = ap (λ (x : PendingTable). x.posted) is;
        space = refl;
        here = ap (λ (x : Entry). handled_in u.callbacks (number_of x)) (sym same) ∙ (handled_at u.callbacks i after.rising within ∙ (ap (λ (x : Entry). x.transaction) same
            ∙ (ap (λ o. first_transaction o transaction) (sym (handled_at t.callbacks i table.rising pending.1)) ∙ same_first (handled_in t.callbacks (number_of e)) transaction)));
        elsewhere = λ n off. ap (λ l. handled_in l n) to_set ∙ marked_elsewhere t.callbacks i transaction n off;
      },
    )
