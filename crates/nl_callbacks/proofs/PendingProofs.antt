-- What the calls on pending callbacks find and leave.
use Rattle.std.proofs.Common.{◌≡◌, ℕ, ◌+◌, ◌-◌, ◌*◌, ◌^◌, ◌<◌, ◌≤◌, ⊎_elim, List, length, get_or, set, remove, Option, Some, None, refl, sym, ◌∙◌, ap, subst, arith}
use Rattle.std.proofs.lemmas.Bool.{cases_lt, cases_order}
use Rattle.std.proofs.lemmas.List.{length-set, set-get_or}
use Rattle.std.proofs.lemmas.List.Edits.{length-remove}
use Rattle.nl_callbacks.specs.declared.entry.Entry.{Entry}
use Rattle.nl_callbacks.specs.declared.links.Link.{Link}
use Rattle.nl_callbacks.specs.Links.{link, no_link, link_at, HasLink, rank, AreRisingLinks}
use Rattle.nl_callbacks.specs.Lists.{Rises, IsInsertionPoint}
use Rattle.nl_callbacks.specs.Pending.{PendingTable, AcknowledgesName, Cancels, IsLeastFree, IsWaiting, entry_at, first_transaction, with_transaction, no_entry, number_of, place_of}
use Rattle.nl_callbacks.specs.Kept.{HasKey, IsIndex, IsInside, AreIndexed, IsStamped, name_key, stamp_key, done_key, waiting_of, done_of}
use Rattle.nl_callbacks.proofs.ListsProofs.{at_is, EachAt-remove, place_has}
use Rattle.nl_callbacks.proofs.IndexProofs.{TellsNumber, tells_name, tells_done, some_same, not_both}

waiting_back : (o : Option ℕ) (n : ℕ) (x : Link) → waiting_of o n ≡ Some x → (o ≡ None) × (link 0 n ≡ x)
waiting_back None n x is = (refl, some_same (link 0 n) x (Some (link 0 n)) refl is)
waiting_back (Some t) n x is = absurd (not_both x None refl is)

done_back : (o : Option ℕ) (n : ℕ) (x : Link) → done_of o n ≡ Some x → (o ≡ Some x.key) × (n ≡ x.number)
done_back None n x is = absurd (not_both x None refl is)
done_back (Some t) n x is =
    let same : link t n ≡ x = some_same (link t n) x (Some (link t n)) refl is in
    (ap (λ (l : Link). Some l.key) same, ap (λ (l : Link). l.number) same)

-- no link ranks below the first
head_least : (xs : List Link) (j : ℕ) → AreRisingLinks xs → j < length xs → rank (link_at xs 0) ≤ rank (link_at xs j)
head_least xs j rising within = ⊎_elim
    (λ same. let e : rank (link_at xs j) ≡ rank (link_at xs 0) = ap (λ k. rank (link_at xs k)) same in omega arith)
    (λ apart. ⊎_elim (λ less. absurd (omega arith)) (λ more. let up = rising.order 0 j more within in omega arith) apart)
    (cases_order j 0)

pub least_some : (es : List Entry) (ns ws ds : List Link) (x : Link) → AreIndexed es ns ws ds → 0 < length ws → x ≡ get_or ws 0 x → IsWaiting es x.number
least_some es ns ws ds x is some e =
    let back = is.not_handled.back x (0, some, at_is no_link ws 0 x some e) in
    let told = waiting_back (entry_at es back.0).transaction (number_of (entry_at es back.0)) x back.2 in
    (back.0, back.1, ap (λ (l : Link). l.number) told.1, told.0)

waiting_there : (es : List Entry) (ns ws ds : List Link) (number : ℕ) → AreIndexed es ns ws ds → IsWaiting es number → HasLink ws (link 0 number)
waiting_there es ns ws ds number is waits = is.not_handled.there (link 0 number)
    (waits.0, waits.1, ap (λ (o : Option ℕ). waiting_of o (number_of (entry_at es waits.0))) waits.3 ∙ ap (λ (n : ℕ). Some (link 0 n)) waits.2)

pub least_least : (es : List Entry) (ns ws ds : List Link) (x : Link) (other : ℕ) → AreIndexed es ns ws ds → 0 < length ws → x ≡ get_or ws 0 x → IsWaiting es other → x.number ≤ other
least_least es ns ws ds x other is some e waits =
    let here = at_is no_link ws 0 x some e in
    let there = waiting_there es ns ws ds other is waits in
    let low = head_least ws there.0 is.not_handled.rising there.1 in
    let left : rank (link_at ws 0) ≡ rank x = ap rank here in
    let right : rank (link_at ws there.0) ≡ 0 * 2 ^ 64 + other = ap rank there.2 in
    omega arith

pub least_none : (es : List Entry) (ns ws ds : List Link) (number : ℕ) → AreIndexed es ns ws ds → length ws ≡ 0 → IsWaiting es number → ⊥
least_none es ns ws ds number is none waits = let there = waiting_there es ns ws ds number is waits in omega (arith, there.1)

-- a table seen with one callback marked
pub handled_view : (es es' : List Entry) (room posted at n t : ℕ) → es' ≡ set es at (record { callback = (entry_at es at).callback; transaction = Some t }) → (entry_at es at).transaction ≡ None → place_of es n ≡ at
    → let seen : PendingTable = record { callbacks = es'; posted = posted; room = room - length es' } in seen ≡ record { callbacks = set es (place_of es n) (with_transaction (entry_at es (place_of es n)) t); posted = posted; room = room - length es }
handled_view es es' room posted at n t e free place =
    let new : Entry = record { callback = (entry_at es at).callback; transaction = Some t } in
    let mark : with_transaction (entry_at es at) t ≡ new = ap (λ (o : Option ℕ). let f : Entry = record { callback = (entry_at es at).callback; transaction = first_transaction o t } in f) free in
    let left : room - length (set es at new) ≡ room - length es = ap (λ (k : ℕ). room - k) (length-set es at new) in
    rw (e, place, mark) (ap (λ (k : ℕ). let seen : PendingTable = record { callbacks = set es at new; posted = posted; room = k } in seen) left)

pub kept_view : (es : List Entry) (room posted at n t u : ℕ) → (entry_at es at).transaction ≡ Some u → place_of es n ≡ at
    → let seen : PendingTable = record { callbacks = es; posted = posted; room = room } in seen ≡ record { callbacks = set es (place_of es n) (with_transaction (entry_at es (place_of es n)) t); posted = posted; room = room }
kept_view es room posted at n t u by place =
    let mark : with_transaction (entry_at es at) t ≡ entry_at es at =
    ap (λ (o : Option ℕ). let f : Entry = record { callback = (entry_at es at).callback; transaction = first_transaction o t } in f) by
    ∙ ap (λ (o : Option ℕ). let f : Entry = record { callback = (entry_at es at).callback; transaction = o } in f) (sym by) in
    let same : set es at (with_transaction (entry_at es at) t) ≡ es = ap (λ (f : Entry). set es at f) mark ∙ set-get_or es at no_entry in
    rw place (ap (λ (l : List Entry). let seen : PendingTable = record { callbacks = l; posted = posted; room = room } in seen) (sym same))

pub inside_drop : (room posted at : ℕ) (es es' : List Entry) (ns ns' ws ws' ds ds' ss ss' : List Link) (a a' b b' c c' d d' e e' : ℕ) → IsInside room posted es ns ws ds ss a b c d e → at < length es
    → AreIndexed es' ns' ws' ds' → IsStamped es' ss' → es' ≡ remove es at → a ≤ a' → b ≤ b' → c ≤ c' → d ≤ d' → e ≤ e' → IsInside room posted es' ns' ws' ds' ss' a' b' c' d' e'
inside_drop room posted at es es' ns ns' ws ws' ds ds' ss ss' a a' b b' c c' d d' e e' is bound kept stamped gone p q r s t = record {
  kept = kept;
  stamped = stamped;
  table = record {
    rising = kept.rising;
    given = rw gone (EachAt-remove (λ (e : Entry). (0 < number_of e) × (number_of e ≤ posted)) no_entry es at bound is.table.given);
  };
  few = rw gone (omega (arith, is.few, length-remove es at bound));
  entries_room = omega (arith, is.entries_room);
  names_room = omega (arith, is.names_room);
  waiting_room = omega (arith, is.waiting_room);
  done_room = omega (arith, is.done_room);
  stamps_room = omega (arith, is.stamps_room);
}

-- the entry of a link stands at the place of the link's number
pub link_entry : (key : Entry → Option Link) (es : List Entry) (at : ℕ) (x : Link) → TellsNumber key → Rises number_of no_entry es → HasKey key es x → IsInsertionPoint number_of no_entry es x.number at → (at < length es) × (key (entry_at es at) ≡ Some x)
link_entry key es at x tells up has place =
    let same : has.0 ≡ at = place_has number_of no_entry es x.number at has.0 up place has.1 (sym (tells (entry_at es has.0) x has.2)) in
    (subst (λ (k : ℕ). k < length es) same has.1, subst (λ (k : ℕ). key (entry_at es k) ≡ Some x) same has.2)

-- the first link by transaction ranks below that of each callback that was handled
done_first : (es : List Entry) (ns ws ds : List Link) (x : Link) (i other : ℕ) → AreIndexed es ns ws ds → 0 < length ds → x ≡ get_or ds 0 x → i < length es → (entry_at es i).transaction ≡ Some other
    → (rank x ≤ other * 2 ^ 64 + number_of (entry_at es i)) × (number_of (entry_at es i) < 2 ^ 64)
done_first es ns ws ds x i other is some e within by =
    let keyed : done_key (entry_at es i) ≡ Some (link other (number_of (entry_at es i))) = ap (λ (o : Option ℕ). done_of o (number_of (entry_at es i))) by in
    let there = is.by_transaction.there (link other (number_of (entry_at es i))) (i, within, keyed) in
    let low = head_least ds there.0 is.by_transaction.rising there.1 in
    let left : rank (link_at ds 0) ≡ rank x = ap rank (at_is no_link ds 0 x some e) in
    let right : rank (link_at ds there.0) ≡ other * 2 ^ 64 + number_of (entry_at es i) = ap rank there.2 in
    let fits : number_of (entry_at es i) < 2 ^ 64 = subst (λ (l : Link). l.number < 2 ^ 64) there.2 (is.by_transaction.rising.fits there.0 there.1) in
    (omega arith, fits)

pub acknowledge_none : (es : List Entry) (ns ws ds : List Link) (x : Link) (upto i other : ℕ) → AreIndexed es ns ws ds → 0 < length ds → x ≡ get_or ds 0 x → upto < x.key → i < length es → (entry_at es i).transaction ≡ Some other → upto < other
acknowledge_none es ns ws ds x upto i other is some e above within by = let low = done_first es ns ws ds x i other is some e within by in omega (arith, low.0, low.1)

pub acknowledge_empty : (es : List Entry) (ns ws ds : List Link) (i other : ℕ) → AreIndexed es ns ws ds → length ds ≡ 0 → i < length es → (entry_at es i).transaction ≡ Some other → ⊥
acknowledge_empty es ns ws ds i other is none within by =
    let there = is.by_transaction.there (link other (number_of (entry_at es i))) (i, within, ap (λ (o : Option ℕ). done_of o (number_of (entry_at es i))) by) in
    omega (arith, there.1)

pub acknowledge_at : (es : List Entry) (ns ws ds : List Link) (x : Link) (at : ℕ) → AreIndexed es ns ws ds → 0 < length ds → x ≡ get_or ds 0 x → IsInsertionPoint number_of no_entry es x.number at → (at < length es) × (done_key (entry_at es at) ≡ Some x)
acknowledge_at es ns ws ds x at is some e place = link_entry done_key es at x tells_done is.rising (is.by_transaction.back x (0, some, at_is no_link ds 0 x some e)) place

pub acknowledged : (es es' : List Entry) (ns ws ds : List Link) (x : Link) (f : Entry) (room posted upto at : ℕ) → AreIndexed es ns ws ds → 0 < length ds → x ≡ get_or ds 0 x → IsInsertionPoint number_of no_entry es x.number at
    → x.key ≤ upto → f ≡ get_or es at f → es' ≡ remove es at → length es ≤ room
    → AcknowledgesName (record { callbacks = es; posted = posted; room = room - length es }) (record { callbacks = es'; posted = posted; room = room - length es' }) upto f.callback.before
acknowledged es es' ns ws ds x f room posted upto at is some e place up there gone few =
    let found = acknowledge_at es ns ws ds x at is some e place in
    let told = done_back (entry_at es at).transaction (number_of (entry_at es at)) x found.1 in
    let here = at_is no_entry es at f found.0 there in
    let size = length-remove es at found.0 in
    let left : room - length (remove es at) ≡ (room - length es) + 1 = omega arith in
    record {
      at = at;
      transaction = x.key;
      within = found.0;
      named = ap (λ (g : Entry). g.callback.before) here;
      handled = told.0;
      acknowledged = up;
      first = λ i other within by. (let low = done_first es ns ws ds x i other is some e within by in omega (arith, low.0, low.1));
      least = λ i within by. (let low = done_first es ns ws ds x i x.key is some e within by in omega (arith, low.0, low.1, told.1));
      gone = rw gone (ap (λ (k : ℕ). let seen : PendingTable = record { callbacks = remove es at; posted = posted; room = k } in seen) left);
    }

-- Callbacks by a number of theirs: the first link of a key stands at the key's place.
module _ (key : Entry → ℕ) (es : List Entry) (ls : List Link) (up : Rises number_of no_entry es) (is : IsIndex (λ e. Some (link (key e) e.callback.number)) es ls) where
  pub keyed_found : (k here i : ℕ) → IsInsertionPoint rank no_link ls (k * 2 ^ 64 + 0) here → i < length es → key (entry_at es i) ≡ k
      → (here < length ls) × ((link_at ls here).key ≡ k) × ((link_at ls here).number ≤ number_of (entry_at es i))
  keyed_found k here i place within named =
      let there = is.there (link k (number_of (entry_at es i))) (i, within, ap (λ (n : ℕ). Some (link n (number_of (entry_at es i)))) named) in
      let j : ℕ = there.0 in
      let inside : j < length ls = there.1 in
      let ranked : rank (link_at ls j) ≡ k * 2 ^ 64 + number_of (entry_at es i) = ap rank there.2 in
      let small : number_of (entry_at es i) < 2 ^ 64 = subst (λ (l : Link). l.number < 2 ^ 64) there.2 (is.rising.fits j inside) in
      ⊎_elim
      (λ less. absurd (let low = place.below j less in omega arith))
      (λ (from : here ≤ j).
      let bound : here < length ls = omega arith in
      let high : k * 2 ^ 64 + 0 ≤ rank (link_at ls here) = place.above here (omega arith) bound in
      let fits : (link_at ls here).number < 2 ^ 64 = is.rising.fits here bound in
      let up : rank (link_at ls here) ≤ rank (link_at ls j) = ⊎_elim
      (λ equal. (let e : rank (link_at ls j) ≡ rank (link_at ls here) = ap (λ k. rank (link_at ls k)) equal in omega arith))
      (λ apart. ⊎_elim (λ before. absurd (omega arith)) (λ after. let step = is.rising.order here j after inside in omega arith) apart)
      (cases_order j here) in
      (bound, omega arith, omega arith))
      (cases_lt j here)

  pub keyed_at : (here at : ℕ) (x : Link) → here < length ls → x ≡ get_or ls here x → IsInsertionPoint number_of no_entry es x.number at
      → (at < length es) × (key (entry_at es at) ≡ x.key) × (number_of (entry_at es at) ≡ x.number)
  keyed_at here at x bound e place =
      let tells : TellsNumber (λ f. Some (link (key f) f.callback.number)) = λ f y told. sym (ap (λ (l : Link). l.number) (some_same (link (key f) f.callback.number) y (Some (link (key f) f.callback.number)) refl told)) in
      let found = link_entry (λ f. Some (link (key f) f.callback.number)) es at x tells up (is.back x (here, bound, at_is no_link ls here x bound e)) place in
      let same : link (key (entry_at es at)) (number_of (entry_at es at)) ≡ x = some_same (link (key (entry_at es at)) (number_of (entry_at es at))) x (Some (link (key (entry_at es at)) (number_of (entry_at es at)))) refl found.1 in
      (found.0, ap (λ (l : Link). l.key) same, ap (λ (l : Link). l.number) same)

pub cancel_found : (es : List Entry) (ns ws ds : List Link) (name here i : ℕ) → AreIndexed es ns ws ds → IsInsertionPoint rank no_link ns (name * 2 ^ 64 + 0) here → i < length es → (entry_at es i).callback.before ≡ name
    → (here < length ns) × ((link_at ns here).key ≡ name) × ((link_at ns here).number ≤ number_of (entry_at es i))
cancel_found es ns ws ds name here i is place within named = keyed_found (λ e. e.callback.before) es ns is.rising is.by_name name here i place within named

pub cancel_at : (es : List Entry) (ns ws ds : List Link) (here at : ℕ) (x : Link) → AreIndexed es ns ws ds → here < length ns → x ≡ get_or ns here x → IsInsertionPoint number_of no_entry es x.number at
    → (at < length es) × ((entry_at es at).callback.before ≡ x.key) × (number_of (entry_at es at) ≡ x.number)
cancel_at es ns ws ds here at x is bound e place = keyed_at (λ e. e.callback.before) es ns is.rising is.by_name here at x bound e place

pub cancelled : (es es' : List Entry) (ns ws ds : List Link) (x : Link) (room posted name here at : ℕ) → AreIndexed es ns ws ds → IsInsertionPoint rank no_link ns (name * 2 ^ 64 + 0) here → here < length ns → x ≡ get_or ns here x → x.key ≡ name
    → IsInsertionPoint number_of no_entry es x.number at → es' ≡ remove es at → length es ≤ room
    → Cancels (record { callbacks = es; posted = posted; room = room - length es }) (record { callbacks = es'; posted = posted; room = room - length es' }) name
cancelled es es' ns ws ds x room posted name here at is place bound e key there gone few =
    let found = cancel_at es ns ws ds here at x is bound e there in
    let standing = at_is no_link ns here x bound e in
    let number : (link_at ns here).number ≡ x.number = ap (λ (l : Link). l.number) standing in
    let size = length-remove es at found.0 in
    let left : room - length (remove es at) ≡ (room - length es) + 1 = omega arith in
    record {
      at = at;
      within = found.0;
      named = found.1 ∙ key;
      least = λ i within named. (let low = cancel_found es ns ws ds name here i is place within named in omega (arith, low.2, found.2));
      gone = rw gone (ap (λ (k : ℕ). let seen : PendingTable = record { callbacks = remove es at; posted = posted; room = k } in seen) left);
    }

-- the first gap in the numbers
pub first_gap : (es : List Entry) (at : ℕ) → Rises number_of no_entry es → ((i : ℕ) → i < length es → 0 < number_of (entry_at es i)) → ((k : ℕ) → k < at → number_of (entry_at es k) ≡ k + 1)
    → at ≤ length es → (at < length es → number_of (entry_at es at) ≡ at + 1 → ⊥) → IsLeastFree es (at + 1)
first_gap es at up some below bound gap = record {
  some = omega arith;
  free = λ pending.
      let i : ℕ = pending.0 in
      let within : i < length es = pending.1 in
      let is : number_of (entry_at es i) ≡ at + 1 = pending.2 in
      ⊎_elim
      (λ less. let e = below i less in omega arith)
      (λ (from : at ≤ i).
      let bound' : at < length es = omega arith in
      let low : at < number_of (entry_at es at) = ⊎_elim
      (λ zero_at. (let p = some at bound' in omega arith))
      (λ apart. ⊎_elim (λ lt. absurd (omega arith))
      (λ gt. (let before = below (at - 1) (omega arith) in let step = up (at - 1) at (omega arith) bound' in omega arith)) apart)
      (cases_order at 0) in
      ⊎_elim
      (λ same. (let e : number_of (entry_at es i) ≡ number_of (entry_at es at) = ap (λ k. number_of (entry_at es k)) same in gap bound' (sym e ∙ is)))
      (λ apart. ⊎_elim (λ lt. omega arith) (λ gt. (let step = up at i gt within in omega arith)) apart)
      (cases_order i at))
      (cases_lt i at);
  least = λ other low less. (other - 1, omega arith, below (other - 1) (omega arith) ∙ omega arith);
}
