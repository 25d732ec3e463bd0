-- The lists by which callbacks are found, when one is put in, marked or taken away.
use Rattle.std.proofs.Common.{◌≡◌, ℕ, ◌+◌, ◌*◌, ◌^◌, ◌<◌, ◌≤◌, ⊎_elim, List, length, get_or, set, insert, remove, Option, Some, None, refl, sym, ◌∙◌, ap, subst, arith, nat_lt}
use Rattle.std.proofs.lemmas.Bool.{cases_order, cases_eq, lt-ltb, le-ltb}
use Rattle.std.proofs.lemmas.List.Edits.{length-insert, length-remove}
use Rattle.std.proofs.lemmas.List.{length-set}
use Rattle.nl_iface.specs.declared.Callback.{Callback}
use Rattle.nl_callbacks.specs.declared.entry.Entry.{Entry}
use Rattle.nl_callbacks.specs.declared.links.Link.{Link}
use Rattle.nl_callbacks.specs.Links.{link, no_link, link_at, HasLink, rank, AreRisingLinks}
use Rattle.nl_callbacks.specs.Lists.{Rises, IsInsertionPoint}
use Rattle.nl_callbacks.specs.Pending.{entry_at, no_entry, number_of, IsPending, place_of}
use Rattle.nl_callbacks.specs.Kept.{IsIndex, AreIndexed, name_key, waiting_key, done_key, waiting_of, done_of}
use Rattle.nl_callbacks.proofs.ListsProofs.{at_is, SomeAt-insert_kept, SomeAt-insert_new, SomeAt-insert_back, SomeAt-remove_back, SomeAt-remove_kept, Rises-remove, Rises-insert, Rises-set, EachAt-remove, EachAt-insert, once, place_has, place_lacks, insert-remove, count_place}

same_rank : (x y : Link) → x.number < 2 ^ 64 → y.number < 2 ^ 64 → rank x ≡ rank y → x ≡ y
same_rank x y p q e = ⊎_elim
    (λ same.
    let number : x.number ≡ y.number = omega arith in
    ap (λ (n : ℕ). link n x.number) same ∙ ap (λ (n : ℕ). link y.key n) number)
    (λ apart. absurd (⊎_elim (λ less. omega arith) (λ more. omega arith) apart))
    (cases_order x.key y.key)

pub IsRising-remove : (xs : List Link) (at : ℕ) → at < length xs → AreRisingLinks xs → AreRisingLinks (remove xs at)
IsRising-remove xs at bound rising = record {
  order = Rises-remove rank no_link xs at bound rising.order;
  fits = EachAt-remove (λ (x : Link). x.number < 2 ^ 64) no_link xs at bound rising.fits;
}

IsRising-insert : (xs : List Link) (at : ℕ) (y : Link) → AreRisingLinks xs → y.number < 2 ^ 64 → IsInsertionPoint rank no_link xs (rank y) at → (HasLink xs y → ⊥) → AreRisingLinks (insert xs at y)
IsRising-insert xs at y rising fits place lacks = record {
  order = Rises-insert rank no_link xs at y place.bound rising.order place.below
      (place_lacks rank no_link xs (rank y) at place (λ i within same. lacks (i, within, same_rank (link_at xs i) y (rising.fits i within) fits same)));
  fits = EachAt-insert (λ (x : Link). x.number < 2 ^ 64) no_link xs at y place.bound rising.fits fits;
}

pub some_same : (x y : Link) (o : Option Link) → o ≡ Some x → o ≡ Some y → x ≡ y
some_same x y o p q = cc

pub not_both : (x : Link) (o : Option Link) → o ≡ None → o ≡ Some x → ⊥
not_both x o p q = cc

-- a key tells the number of its entry
abbrev pub TellsNumber : (Entry → Option Link) → Type 0
TellsNumber key = (e : Entry) (x : Link) → key e ≡ Some x → x.number ≡ number_of e

pub index_insert_link : (key : Entry → Option Link) (es : List Entry) (links : List Link) (at j : ℕ) (e : Entry) (x : Link) → IsIndex key es links → at ≤ length es
    → key e ≡ Some x → x.number < 2 ^ 64 → IsInsertionPoint rank no_link links (rank x) j → (HasLink links x → ⊥) → IsIndex key (insert es at e) (insert links j x)
index_insert_link key es links at j e x is bound keyed fits place lacks = record {
  rising = IsRising-insert links j x is.rising fits place lacks;
  there = λ y has. ⊎_elim
      (λ old. SomeAt-insert_kept (λ (l : Link). l ≡ y) no_link links j x place.bound (is.there y old))
      (λ new. SomeAt-insert_new (λ (l : Link). l ≡ y) no_link links j x place.bound (some_same x y (key e) keyed new))
      (SomeAt-insert_back (λ (f : Entry). key f ≡ Some y) no_entry es at e bound has);
  back = λ y has. ⊎_elim
      (λ old. SomeAt-insert_kept (λ (f : Entry). key f ≡ Some y) no_entry es at e bound (is.back y old))
      (λ new. SomeAt-insert_new (λ (f : Entry). key f ≡ Some y) no_entry es at e bound (keyed ∙ ap (λ (l : Link). Some l) new))
      (SomeAt-insert_back (λ (l : Link). l ≡ y) no_link links j x place.bound has);
}

pub index_insert_none : (key : Entry → Option Link) (es : List Entry) (links : List Link) (at : ℕ) (e : Entry) → IsIndex key es links → at ≤ length es → key e ≡ None → IsIndex key (insert es at e) links
index_insert_none key es links at e is bound keyed = record {
  rising = is.rising;
  there = λ y has. ⊎_elim
      (λ old. is.there y old)
      (λ new. absurd (not_both y (key e) keyed new))
      (SomeAt-insert_back (λ (f : Entry). key f ≡ Some y) no_entry es at e bound has);
  back = λ y has. SomeAt-insert_kept (λ (f : Entry). key f ≡ Some y) no_entry es at e bound (is.back y has);
}

pub index_remove_link : (key : Entry → Option Link) (es : List Entry) (links : List Link) (at j : ℕ) (x : Link) → TellsNumber key → Rises number_of no_entry es → IsIndex key es links → at < length es
    → key (entry_at es at) ≡ Some x → j < length links → link_at links j ≡ x → IsIndex key (remove es at) (remove links j)
index_remove_link key es links at j x tells up is bound keyed within linked = record {
  rising = IsRising-remove links j within is.rising;
  there = λ y has.
      let was = SomeAt-remove_back (λ (f : Entry). key f ≡ Some y) no_entry es at bound has in
      let there = is.there y (was.0, was.1, was.3) in
      let stays : there.0 ≡ j → ⊥ = λ same.
      let e : y ≡ x = sym there.2 ∙ (ap (λ k. link_at links k) same ∙ linked) in
      let left : y.number ≡ number_of (entry_at es was.0) = tells (entry_at es was.0) y was.3 in
      let right : x.number ≡ number_of (entry_at es at) = tells (entry_at es at) x keyed in
      let mid : y.number ≡ x.number = ap (λ (l : Link). l.number) e in
      was.2 (once number_of no_entry es up was.0 at was.1 bound (sym left ∙ (mid ∙ right))) in
      SomeAt-remove_kept (λ (l : Link). l ≡ y) no_link links j there.0 within there.1 stays there.2;
  back = λ y has.
      let was = SomeAt-remove_back (λ (l : Link). l ≡ y) no_link links j within has in
      let there = is.back y (was.0, was.1, was.3) in
      let stays : there.0 ≡ at → ⊥ = λ same.
      let mine : key (entry_at es at) ≡ Some y = subst (λ (k : ℕ). key (entry_at es k) ≡ Some y) same there.2 in
      let e : x ≡ y = some_same x y (key (entry_at es at)) keyed mine in
      was.2 (once rank no_link links is.rising.order was.0 j was.1 within (ap rank (was.3 ∙ (sym e ∙ sym linked)))) in
      SomeAt-remove_kept (λ (f : Entry). key f ≡ Some y) no_entry es at there.0 bound there.1 stays there.2;
}

pub index_remove_none : (key : Entry → Option Link) (es : List Entry) (links : List Link) (at : ℕ) → IsIndex key es links → at < length es → key (entry_at es at) ≡ None → IsIndex key (remove es at) links
index_remove_none key es links at is bound keyed = record {
  rising = is.rising;
  there = λ y has. let was = SomeAt-remove_back (λ (f : Entry). key f ≡ Some y) no_entry es at bound has in is.there y (was.0, was.1, was.3);
  back = λ y has.
      let there = is.back y has in
      let stays : there.0 ≡ at → ⊥ = λ same. not_both y (key (entry_at es at)) keyed (subst (λ (k : ℕ). key (entry_at es k) ≡ Some y) same there.2) in
      SomeAt-remove_kept (λ (f : Entry). key f ≡ Some y) no_entry es at there.0 bound there.1 stays there.2;
}

pub index_same : (key : Entry → Option Link) (es : List Entry) (links : List Link) (at : ℕ) (e : Entry) → IsIndex key es links → at < length es → key e ≡ key (entry_at es at) → IsIndex key (insert (remove es at) at e) links
index_same key es links at e is bound same =
    let size = length-remove es at bound in
    let fits : at ≤ length (remove es at) = omega arith in
    record {
      rising = is.rising;
      there = λ y has. ⊎_elim
          (λ old. let was = SomeAt-remove_back (λ (f : Entry). key f ≡ Some y) no_entry es at bound old in is.there y (was.0, was.1, was.3))
          (λ new. is.there y (at, bound, sym same ∙ new))
          (SomeAt-insert_back (λ (f : Entry). key f ≡ Some y) no_entry (remove es at) at e fits has);
      back = λ y has.
          let there = is.back y has in
          ⊎_elim
          (λ here. SomeAt-insert_new (λ (f : Entry). key f ≡ Some y) no_entry (remove es at) at e fits (same ∙ subst (λ (k : ℕ). key (entry_at es k) ≡ Some y) here there.2))
          (λ apart. SomeAt-insert_kept (λ (f : Entry). key f ≡ Some y) no_entry (remove es at) at e fits
          (SomeAt-remove_kept (λ (f : Entry). key f ≡ Some y) no_entry es at there.0 bound there.1 apart there.2))
          (cases_eq there.0 at);
    }

-- the link of an entry stands at its place
pub link_found : (key : Entry → Option Link) (es : List Entry) (links : List Link) (at j : ℕ) (x : Link) → IsIndex key es links → at < length es → key (entry_at es at) ≡ Some x → IsInsertionPoint rank no_link links (rank x) j → (j < length links) × (link_at links j ≡ x)
link_found key es links at j x is bound keyed place =
    let there = is.there x (at, bound, keyed) in
    let same : there.0 ≡ j = place_has rank no_link links (rank x) j there.0 is.rising.order place there.1 (ap rank there.2) in
    (subst (λ (k : ℕ). k < length links) same there.1, subst (λ (k : ℕ). link_at links k ≡ x) same there.2)

pub tells_name : TellsNumber name_key
tells_name e x is = sym (ap (λ (l : Link). l.number) (some_same (link e.callback.before e.callback.number) x (name_key e) refl is))

waiting_tells : (o : Option ℕ) (n : ℕ) (x : Link) → waiting_of o n ≡ Some x → x.number ≡ n
waiting_tells None n x is = sym (ap (λ (l : Link). l.number) (some_same (link 0 n) x (Some (link 0 n)) refl is))
waiting_tells (Some t) n x is = absurd (not_both x None refl is)

done_tells : (o : Option ℕ) (n : ℕ) (x : Link) → done_of o n ≡ Some x → x.number ≡ n
done_tells None n x is = absurd (not_both x None refl is)
done_tells (Some t) n x is = sym (ap (λ (l : Link). l.number) (some_same (link t n) x (Some (link t n)) refl is))

pub tells_waiting : TellsNumber waiting_key
tells_waiting e x is = waiting_tells e.transaction (number_of e) x is

pub tells_done : TellsNumber done_key
tells_done e x is = done_tells e.transaction (number_of e) x is

-- a number that is not pending is in no list
pub lacks : (key : Entry → Option Link) (es : List Entry) (links : List Link) (x : Link) → TellsNumber key → IsIndex key es links → (IsPending es x.number → ⊥) → HasLink links x → ⊥
lacks key es links x tells is fresh has =
    let there = is.back x has in
    fresh (there.0, there.1, sym (tells (entry_at es there.0) x there.2))

-- the place of a number is the number of lesser ones
pub place_counts : (es : List Entry) (n at : ℕ) → IsInsertionPoint number_of no_entry es n at → place_of es n ≡ at
place_counts es n at place = count_place (λ e. nat_lt (number_of e) n) no_entry es at place.bound
    (λ i less. lt-ltb _ _ (place.below i less)) (λ i from within. le-ltb _ _ (place.above i from within))

pub kept_add : (es es' : List Entry) (ns ns' ws ws' ds : List Link) (at j k : ℕ) (cb : Callback) → AreIndexed es ns ws ds → (IsPending es cb.number → ⊥) → cb.number < 2 ^ 64
    → IsInsertionPoint rank no_link ns (cb.before * 2 ^ 64 + cb.number) j → ns' ≡ insert ns j (link cb.before cb.number)
    → IsInsertionPoint rank no_link ws (0 * 2 ^ 64 + cb.number) k → ws' ≡ insert ws k (link 0 cb.number)
    → IsInsertionPoint number_of no_entry es cb.number at → es' ≡ insert es at (record { callback = cb; transaction = None })
    → AreIndexed es' ns' ws' ds
kept_add es es' ns ns' ws ws' ds at j k cb is fresh fits pn n pw w place e =
    let new : Entry = record { callback = cb; transaction = None } in
    let kept : AreIndexed (insert es at new) (insert ns j (link cb.before cb.number)) (insert ws k (link 0 cb.number)) ds = record {
      rising = Rises-insert number_of no_entry es at new place.bound is.rising place.below (place_lacks number_of no_entry es cb.number at place (λ i within same. fresh (i, within, same)));
      by_name = index_insert_link name_key es ns at j new (link cb.before cb.number) is.by_name place.bound refl fits pn (lacks name_key es ns (link cb.before cb.number) tells_name is.by_name fresh);
      not_handled = index_insert_link waiting_key es ws at k new (link 0 cb.number) is.not_handled place.bound refl fits pw (lacks waiting_key es ws (link 0 cb.number) tells_waiting is.not_handled fresh);
      by_transaction = index_insert_none done_key es ds at new is.by_transaction place.bound refl;
      names_size = omega (arith, is.names_size, length-insert es at new place.bound, length-insert ns j (link cb.before cb.number) pn.bound);
      split = omega (arith, is.split, length-insert es at new place.bound, length-insert ws k (link 0 cb.number) pw.bound);
    } in
    rw (e, n, w) kept

name_keyed : (es : List Entry) (at : ℕ) (e : Entry) → entry_at es at ≡ e → name_key (entry_at es at) ≡ Some (link e.callback.before e.callback.number)
name_keyed es at e here = ap name_key here

waiting_keyed : (es : List Entry) (at : ℕ) (e : Entry) → entry_at es at ≡ e → (entry_at es at).transaction ≡ None → waiting_key (entry_at es at) ≡ Some (link 0 e.callback.number)
waiting_keyed es at e here free = ap (λ (o : Option ℕ). waiting_of o (number_of (entry_at es at))) free ∙ ap (λ (f : Entry). Some (link 0 f.callback.number)) here

done_keyed : (es : List Entry) (at t : ℕ) (e : Entry) → entry_at es at ≡ e → (entry_at es at).transaction ≡ Some t → done_key (entry_at es at) ≡ Some (link t e.callback.number)
done_keyed es at t e here by = ap (λ (o : Option ℕ). done_of o (number_of (entry_at es at))) by ∙ ap (λ (f : Entry). Some (link t f.callback.number)) here

pub name_found : (es : List Entry) (ns ws ds : List Link) (at j : ℕ) (e : Entry) → AreIndexed es ns ws ds → at < length es → e ≡ get_or es at e → IsInsertionPoint rank no_link ns (e.callback.before * 2 ^ 64 + e.callback.number) j
    → (j < length ns) × (link_at ns j ≡ link e.callback.before e.callback.number)
name_found es ns ws ds at j e is bound there place = link_found name_key es ns at j (link e.callback.before e.callback.number) is.by_name bound (name_keyed es at e (at_is no_entry es at e bound there)) place

pub waiting_found : (es : List Entry) (ns ws ds : List Link) (at k : ℕ) (e : Entry) → AreIndexed es ns ws ds → at < length es → e ≡ get_or es at e → (entry_at es at).transaction ≡ None → IsInsertionPoint rank no_link ws (0 * 2 ^ 64 + e.callback.number) k
    → (k < length ws) × (link_at ws k ≡ link 0 e.callback.number)
waiting_found es ns ws ds at k e is bound there free place = link_found waiting_key es ws at k (link 0 e.callback.number) is.not_handled bound (waiting_keyed es at e (at_is no_entry es at e bound there) free) place

pub done_found : (es : List Entry) (ns ws ds : List Link) (at m t : ℕ) (e : Entry) → AreIndexed es ns ws ds → at < length es → e ≡ get_or es at e → (entry_at es at).transaction ≡ Some t → IsInsertionPoint rank no_link ds (t * 2 ^ 64 + e.callback.number) m
    → (m < length ds) × (link_at ds m ≡ link t e.callback.number)
done_found es ns ws ds at m t e is bound there by place = link_found done_key es ds at m (link t e.callback.number) is.by_transaction bound (done_keyed es at t e (at_is no_entry es at e bound there) by) place

pub kept_drop_waiting : (es es' : List Entry) (ns ns' ws ws' ds : List Link) (at j k : ℕ) (e : Entry) → AreIndexed es ns ws ds → at < length es → e ≡ get_or es at e → (entry_at es at).transaction ≡ None
    → IsInsertionPoint rank no_link ns (e.callback.before * 2 ^ 64 + e.callback.number) j → ns' ≡ remove ns j → IsInsertionPoint rank no_link ws (0 * 2 ^ 64 + e.callback.number) k → ws' ≡ remove ws k → es' ≡ remove es at → AreIndexed es' ns' ws' ds
kept_drop_waiting es es' ns ns' ws ws' ds at j k e is bound there free pn n pw w gone =
    let here = at_is no_entry es at e bound there in
    let fn = name_found es ns ws ds at j e is bound there pn in
    let fw = waiting_found es ns ws ds at k e is bound there free pw in
    let kept : AreIndexed (remove es at) (remove ns j) (remove ws k) ds = record {
      rising = Rises-remove number_of no_entry es at bound is.rising;
      by_name = index_remove_link name_key es ns at j (link e.callback.before e.callback.number) tells_name is.rising is.by_name bound (name_keyed es at e here) fn.0 fn.1;
      not_handled = index_remove_link waiting_key es ws at k (link 0 e.callback.number) tells_waiting is.rising is.not_handled bound (waiting_keyed es at e here free) fw.0 fw.1;
      by_transaction = index_remove_none done_key es ds at is.by_transaction bound (ap (λ (o : Option ℕ). done_of o (number_of (entry_at es at))) free);
      names_size = omega (arith, is.names_size, length-remove es at bound, length-remove ns j fn.0);
      split = omega (arith, is.split, length-remove es at bound, length-remove ws k fw.0);
    } in
    rw (gone, n, w) kept

pub kept_drop_done : (es es' : List Entry) (ns ns' ws ds ds' : List Link) (at j m t : ℕ) (e : Entry) → AreIndexed es ns ws ds → at < length es → e ≡ get_or es at e → (entry_at es at).transaction ≡ Some t
    → IsInsertionPoint rank no_link ns (e.callback.before * 2 ^ 64 + e.callback.number) j → ns' ≡ remove ns j → IsInsertionPoint rank no_link ds (t * 2 ^ 64 + e.callback.number) m → ds' ≡ remove ds m → es' ≡ remove es at → AreIndexed es' ns' ws ds'
kept_drop_done es es' ns ns' ws ds ds' at j m t e is bound there by pn n pd d gone =
    let here = at_is no_entry es at e bound there in
    let fn = name_found es ns ws ds at j e is bound there pn in
    let fd = done_found es ns ws ds at m t e is bound there by pd in
    let kept : AreIndexed (remove es at) (remove ns j) ws (remove ds m) = record {
      rising = Rises-remove number_of no_entry es at bound is.rising;
      by_name = index_remove_link name_key es ns at j (link e.callback.before e.callback.number) tells_name is.rising is.by_name bound (name_keyed es at e here) fn.0 fn.1;
      not_handled = index_remove_none waiting_key es ws at is.not_handled bound (ap (λ (o : Option ℕ). waiting_of o (number_of (entry_at es at))) by);
      by_transaction = index_remove_link done_key es ds at m (link t e.callback.number) tells_done is.rising is.by_transaction bound (done_keyed es at t e here by) fd.0 fd.1;
      names_size = omega (arith, is.names_size, length-remove es at bound, length-remove ns j fn.0);
      split = omega (arith, is.split, length-remove es at bound, length-remove ds m fd.0);
    } in
    rw (gone, n, d) kept

pub kept_mark : (es : List Entry) (ns ws ws' ds ds' : List Link) (at k m t : ℕ) (e : Entry) → AreIndexed es ns ws ds → at < length es → e ≡ get_or es at e → (entry_at es at).transaction ≡ None
    → IsInsertionPoint rank no_link ws (0 * 2 ^ 64 + e.callback.number) k → ws' ≡ remove ws k → IsInsertionPoint rank no_link ds (t * 2 ^ 64 + e.callback.number) m → ds' ≡ insert ds m (link t e.callback.number)
    → AreIndexed (set es at (record { callback = e.callback; transaction = Some t })) ns ws' ds'
kept_mark es ns ws ws' ds ds' at k m t e is bound there free pw w pd d =
    let here = at_is no_entry es at e bound there in
    let new : Entry = record { callback = e.callback; transaction = Some t } in
    let size = length-remove es at bound in
    let within : at ≤ length (remove es at) = omega arith in
    let fw = waiting_found es ns ws ds at k e is bound there free pw in
    let fits : e.callback.number < 2 ^ 64 = subst (λ (l : Link). l.number < 2 ^ 64) fw.1 (is.not_handled.rising.fits k fw.0) in
    let left = index_remove_link waiting_key es ws at k (link 0 e.callback.number) tells_waiting is.rising is.not_handled bound (waiting_keyed es at e here free) fw.0 fw.1 in
    let none : done_key (entry_at es at) ≡ None = ap (λ (o : Option ℕ). done_of o (number_of (entry_at es at))) free in
    let gone = index_remove_none done_key es ds at is.by_transaction bound none in
    let fresh : HasLink ds (link t e.callback.number) → ⊥ = λ has.
    let back = is.by_transaction.back (link t e.callback.number) has in
    let number : e.callback.number ≡ number_of (entry_at es back.0) = tells_done (entry_at es back.0) (link t e.callback.number) back.2 in
    let same : back.0 ≡ at = once number_of no_entry es is.rising back.0 at back.1 bound (sym number ∙ ap number_of (sym here)) in
    not_both (link t e.callback.number) (done_key (entry_at es at)) none (subst (λ (i : ℕ). done_key (entry_at es i) ≡ Some (link t e.callback.number)) same back.2) in
    let marks : insert (remove es at) at new ≡ set es at new = insert-remove es at new bound in
    let named : IsIndex name_key (insert (remove es at) at new) ns = index_same name_key es ns at new is.by_name bound (sym (name_keyed es at e here)) in
    let waits : IsIndex waiting_key (insert (remove es at) at new) (remove ws k) = index_insert_none waiting_key (remove es at) (remove ws k) at new left within refl in
    let handled : IsIndex done_key (insert (remove es at) at new) (insert ds m (link t e.callback.number)) = index_insert_link done_key (remove es at) ds at m new (link t e.callback.number) gone within refl fits pd fresh in
    let long = length-set es at new in
    let kept : AreIndexed (set es at new) ns (remove ws k) (insert ds m (link t e.callback.number)) = record {
      rising = Rises-set number_of no_entry es at new bound (ap number_of (sym here)) is.rising;
      by_name = subst (λ (l : List Entry). IsIndex name_key l ns) marks named;
      not_handled = subst (λ (l : List Entry). IsIndex waiting_key l (remove ws k)) marks waits;
      by_transaction = subst (λ (l : List Entry). IsIndex done_key l (insert ds m (link t e.callback.number))) marks handled;
      names_size = omega (arith, is.names_size);
      split = omega (arith, is.split, length-remove ws k fw.0, length-insert ds m (link t e.callback.number) pd.bound);
    } in
    rw (w, d) kept
