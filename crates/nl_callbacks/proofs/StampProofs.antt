-- The list by stamp, when a callback is put in, marked or taken away.
use Rattle.std.proofs.Common.{◌≡◌, ℕ, ◌+◌, ◌*◌, ◌^◌, ◌<◌, ◌≤◌, Bool, true, false, cond, nat_lt, List, [], ◌∷◌, length, get_or, set, insert, remove, Some, None, refl, sym, ◌∙◌, ap, subst, arith}
use Rattle.std.proofs.lemmas.List.{length-set}
use Rattle.std.proofs.lemmas.List.Edits.{length-insert, length-remove}
use Rattle.std.proofs.lemmas.List.Sums.{sum_by-cons}
use Rattle.nl_iface.specs.declared.Callback.{Callback}
use Rattle.nl_callbacks.specs.declared.entry.Entry.{Entry}
use Rattle.nl_callbacks.specs.declared.links.Link.{Link}
use Rattle.nl_callbacks.specs.Links.{link, no_link, link_at, rank}
use Rattle.nl_callbacks.specs.Lists.{IsInsertionPoint, Rises}
use Rattle.nl_callbacks.specs.Pending.{IsPending, entry_at, no_entry, number_of, place_of}
use Rattle.nl_callbacks.specs.Kept.{IsIndex, IsInside, AreIndexed, IsStamped, stamp_key}
use Rattle.nl_callbacks.proofs.ListsProofs.{EachAt-insert, at_is, insert-remove}
use Rattle.nl_callbacks.proofs.IndexProofs.{TellsNumber, index_insert_link, index_remove_link, index_same, lacks, link_found, some_same}

tells_stamp : TellsNumber stamp_key
tells_stamp e x is = sym (ap (λ (l : Link). l.number) (some_same (link e.callback.stamp e.callback.number) x (stamp_key e) refl is))

stamp_keyed : (es : List Entry) (at : ℕ) (e : Entry) → entry_at es at ≡ e → stamp_key (entry_at es at) ≡ Some (link e.callback.stamp e.callback.number)
stamp_keyed es at e here = ap stamp_key here

at_most_one : (b : Bool) → cond b 1 0 ≤ 1
at_most_one true = omega arith
at_most_one false = omega arith

place_bounded : (es : List Entry) (n : ℕ) → place_of es n ≤ length es
place_bounded [] n = omega arith
place_bounded (e ∷ es) n =
    let rest = place_bounded es n in
    let here = at_most_one (nat_lt (number_of e) n) in
    let sum = sum_by-cons (λ (x : Entry). cond (nat_lt (number_of x) n) 1 0) e es in
    omega (arith, rest, here, sum)

pub stamped_add : (es es' : List Entry) (ss ss' : List Link) (j : ℕ) (cb : Callback) → IsStamped es ss → (IsPending es cb.number → ⊥) → cb.number < 2 ^ 64
    → IsInsertionPoint rank no_link ss (cb.stamp * 2 ^ 64 + cb.number) j → ss' ≡ insert ss j (link cb.stamp cb.number)
    → es' ≡ insert es (place_of es cb.number) (record { callback = cb; transaction = None }) → IsStamped es' ss'
stamped_add es es' ss ss' j cb is fresh fits ps s e =
    let new : Entry = record { callback = cb; transaction = None } in
    let at = place_of es cb.number in
    let bound = place_bounded es cb.number in
    let x = link cb.stamp cb.number in
    let stamped : IsStamped (insert es at new) (insert ss j x) = record {
      by_stamp = index_insert_link stamp_key es ss at j new x is.by_stamp bound refl fits ps (lacks stamp_key es ss x tells_stamp is.by_stamp fresh);
      stamps_size = omega (arith, is.stamps_size, length-insert es at new bound, length-insert ss j x ps.bound);
    } in
    rw (e, s) stamped

pub inside_add : (room posted later : ℕ) (es es' : List Entry) (ns ns' ws ws' ds ss ss' : List Link) (cb : Callback) (a a' b b' c c' d e e' : ℕ) → IsInside room posted es ns ws ds ss a b c d e → length es < room
    → AreIndexed es' ns' ws' ds → IsStamped es' ss' → es' ≡ insert es (place_of es cb.number) (record { callback = cb; transaction = None }) → posted ≤ later → 0 < cb.number → cb.number ≤ later → a ≤ a' → b ≤ b' → c ≤ c' → e ≤ e'
    → IsInside room later es' ns' ws' ds ss' a' b' c' d e'
inside_add room posted later es es' ns ns' ws ws' ds ss ss' cb a a' b b' c c' d e e' is few kept stamped items more some given p q r t =
    let new : Entry = record { callback = cb; transaction = None } in
    let bound = place_bounded es cb.number in
    record {
      kept = kept;
      stamped = stamped;
      table = record {
        rising = kept.rising;
        given = rw items (EachAt-insert (λ (f : Entry). (0 < number_of f) × (number_of f ≤ later)) no_entry es (place_of es cb.number) new bound
            (λ i within. let was = is.table.given i within in (was.0, omega (arith, was.1, more))) (some, given));
      };
      few = rw items (omega (arith, few, length-insert es (place_of es cb.number) new bound));
      entries_room = omega (arith, is.entries_room);
      names_room = omega (arith, is.names_room);
      waiting_room = omega (arith, is.waiting_room);
      done_room = is.done_room;
      stamps_room = omega (arith, is.stamps_room);
    }

pub stamp_found : (es : List Entry) (ss : List Link) (at j : ℕ) (e : Entry) → IsStamped es ss → at < length es → e ≡ get_or es at e → IsInsertionPoint rank no_link ss (e.callback.stamp * 2 ^ 64 + e.callback.number) j
    → (j < length ss) × (link_at ss j ≡ link e.callback.stamp e.callback.number)
stamp_found es ss at j e is bound there place = link_found stamp_key es ss at j (link e.callback.stamp e.callback.number) is.by_stamp bound (stamp_keyed es at e (at_is no_entry es at e bound there)) place

pub stamped_drop : (es es' : List Entry) (ss ss' : List Link) (at j : ℕ) (e : Entry) → IsStamped es ss → Rises number_of no_entry es → at < length es → e ≡ get_or es at e
    → IsInsertionPoint rank no_link ss (e.callback.stamp * 2 ^ 64 + e.callback.number) j → ss' ≡ remove ss j → es' ≡ remove es at → IsStamped es' ss'
stamped_drop es es' ss ss' at j e is up bound there ps s gone =
    let here = at_is no_entry es at e bound there in
    let f = stamp_found es ss at j e is bound there ps in
    let stamped : IsStamped (remove es at) (remove ss j) = record {
      by_stamp = index_remove_link stamp_key es ss at j (link e.callback.stamp e.callback.number) tells_stamp up is.by_stamp bound (stamp_keyed es at e here) f.0 f.1;
      stamps_size = omega (arith, is.stamps_size, length-remove es at bound, length-remove ss j f.0);
    } in
    rw (gone, s) stamped

pub stamped_mark : (es es' : List Entry) (ss : List Link) (at t : ℕ) → IsStamped es ss → at < length es → es' ≡ set es at (record { callback = (entry_at es at).callback; transaction = Some t }) → IsStamped es' ss
stamped_mark es es' ss at t is bound marks =
    let new : Entry = record { callback = (entry_at es at).callback; transaction = Some t } in
    let stamped : IsStamped (set es at new) ss = record {
      by_stamp = subst (λ (l : List Entry). IsIndex stamp_key l ss) (insert-remove es at new bound) (index_same stamp_key es ss at new is.by_stamp bound refl);
      stamps_size = is.stamps_size ∙ sym (length-set es at new);
    } in
    rw marks stamped
