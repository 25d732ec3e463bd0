-- The callbacks of the pointers that are loaded, in their order.
use Rattle.std.proofs.Common.{◌≡◌, ◌≢◌, ◌⊎◌, ⊎_elim, ℕ, zero, suc, ◌+◌, ◌^◌, ◌<◌, ◌==◌, ◌++◌, not, cond, Bool, true, false, List, [], ◌∷◌, insert, length, map, take, option_map, unwrap_or, Option, Some, None, refl, sym, ◌∙◌, ap, subst, arith, eq-eqb, ne_eqb}
use Rattle.std.specs.Prelude.{filter, find, slice_get}
use Rattle.std.specs.BTreeMap.{BTreeMap}
use Rattle.std.proofs.lemmas.Bool.{cases_eq}
use Rattle.std.proofs.lemmas.List.{take_all, take_more}
use Rattle.std.proofs.lemmas.Option.{get_or_from_slice_get, none-some, same_Some, slice_get_within}
use Rattle.nl_field.specs.declared.pointer.Pointer.{Pointer}
use Rattle.nl_callbacks.specs.Pending.{PendingTable, new_entry, place_of}
use Rattle.nl_callbacks.specs.declared.entry.Entry.{Entry}
use Rattle.nl_iface.specs.Names.{Has}
use Rattle.nl_iface.specs.declared.Callback.{Callback}
use Rattle.nl_pseg.specs.Segment.{Physical, held_at}
use Rattle.nl_pseg.specs.declared.held.Held.{Held}
use Rattle.nl_device.specs.Callbacks.{callbacks_of, handled_in, held_of_callback, names_with}
use Rattle.nl_device.specs.Kept.{AreKeptPages, KeptPages}
use Rattle.nl_device.specs.Posting.{Posts}
use Rattle.nl_device.specs.Retain.{CanRetain, HasCalled, HasLoaded, HasPosted, IsCalled, IsFreshSegment, IsEmptyPending, IsSegmentFor, LoadsPointer, call_for, calls_beside, calls_for, held_for, is_moved, moved_among, no_tag, retained_at, spare_for}
use Rattle.nl_device.specs.State.{at_has}
use Rattle.nl_device.specs.declared.kept.copies.Copies.{Copies}
use Rattle.nl_device.specs.declared.kept.page.KeptPage.{KeptPage}
use Rattle.nl_device.proofs.Counted.{bit}
use Rattle.nl_device.proofs.FewMoved.{one_more_moved, room_for}
use Rattle.nl_device.proofs.Called.{no_callback}
use Rattle.nl_device.proofs.Posting.{handled_new, handled_old, posted_either, posted_new, posted_old}
use Rattle.nl_device.proofs.Retaining.{apart, held_now, names_differ, there_at, there_still}

-- how many were posted
pub calls_count : (kept : KeptPages) (spare : Option ℕ) (posted : ℕ) (ps : List Pointer) → length (calls_beside kept spare posted ps) ≡ length (filter (is_moved kept spare) ps)
unfolding calls_beside
calls_count kept spare posted [] = refl
calls_count kept spare posted (p ∷ ps) = by (is_moved kept spare p) (calls_count kept spare (posted + 1) ps) (calls_count kept spare posted ps)
  where
    by : (b : Bool) → length (calls_beside kept spare (posted + 1) ps) ≡ length (filter (is_moved kept spare) ps) → length (calls_beside kept spare posted ps) ≡ length (filter (is_moved kept spare) ps)
        → length (cond b (call_for kept spare (posted + 1) p ∷ calls_beside kept spare (posted + 1) ps) (calls_beside kept spare posted ps)) ≡ length (cond b (p ∷ filter (is_moved kept spare) ps) (filter (is_moved kept spare) ps))
    by true more same = ap suc more
    by false more same = same

-- the last one
calls_last : (kept : KeptPages) (spare : Option ℕ) (posted : ℕ) (ps : List Pointer) (p : Pointer)
    → calls_beside kept spare posted (ps ++ p ∷ []) ≡ calls_beside kept spare posted ps ++ cond (is_moved kept spare p) (call_for kept spare (posted + length (filter (is_moved kept spare) ps) + 1) p ∷ []) []
unfolding calls_beside
calls_last kept spare posted [] p = ap (λ n. cond (is_moved kept spare p) (call_for kept spare n p ∷ []) []) (omega arith)
calls_last kept spare posted (x ∷ xs) p = by (is_moved kept spare x) (calls_last kept spare (posted + 1) xs p) (calls_last kept spare posted xs p)
  where
    last : ℕ → List Callback
    last n = cond (is_moved kept spare p) (call_for kept spare n p ∷ []) []

    by : (b : Bool)
        → calls_beside kept spare (posted + 1) (xs ++ p ∷ []) ≡ calls_beside kept spare (posted + 1) xs ++ cond (is_moved kept spare p) (call_for kept spare (posted + 1 + length (filter (is_moved kept spare) xs) + 1) p ∷ []) []
        → calls_beside kept spare posted (xs ++ p ∷ []) ≡ calls_beside kept spare posted xs ++ cond (is_moved kept spare p) (call_for kept spare (posted + length (filter (is_moved kept spare) xs) + 1) p ∷ []) []
        → cond b (call_for kept spare (posted + 1) x ∷ calls_beside kept spare (posted + 1) (xs ++ p ∷ [])) (calls_beside kept spare posted (xs ++ p ∷ []))
        ≡ cond b (call_for kept spare (posted + 1) x ∷ calls_beside kept spare (posted + 1) xs) (calls_beside kept spare posted xs)
        ++ cond (is_moved kept spare p) (call_for kept spare (posted + length (cond b (x ∷ filter (is_moved kept spare) xs) (filter (is_moved kept spare) xs)) + 1) p ∷ []) []
    by true more same =
        ap (λ l. call_for kept spare (posted + 1) x ∷ l) more
        ∙ ap (λ n. call_for kept spare (posted + 1) x ∷ (calls_beside kept spare (posted + 1) xs ++ cond (is_moved kept spare p) (call_for kept spare n p ∷ []) [])) (omega arith)
    by false more same = same

insert_length : (es : List Entry) (at : ℕ) (e : Entry) → length (insert es at e) ≡ suc (length es)
insert_length es zero e = refl
insert_length [] (suc at) e = refl
insert_length (x ∷ es) (suc at) e = ap suc (insert_length es at e)

map_last : (xs ys : List Callback) → map new_entry (xs ++ ys) ≡ map new_entry xs ++ map new_entry ys
map_last [] ys = refl
map_last (x ∷ xs) ys = ap (λ l. new_entry x ∷ l) (map_last xs ys)

pub called_none : (kept : KeptPages) (pointers : List Pointer) (seg : Physical) (t : PendingTable) → IsEmptyPending kept t → t.posted < 2 ^ 64 → HasCalled kept pointers 0 seg t t
unfolding calls_beside
called_none kept pointers seg t idle fits =
    let count = ap (λ (l : List Entry). length l) idle.empty in
    record {
      numbers = record { rising = λ i j less below. absurd (omega (arith, below, count)); given = λ i below. absurd (omega (arith, below, count)) };
      only = λ c has. absurd (no_callback t.callbacks c idle.empty has);
      each = λ i p less is. absurd (omega (arith, less));
      once = λ c d has. absurd (no_callback t.callbacks c idle.empty has);
      unhandled = λ n. ap (λ es. handled_in es n) idle.empty;
      count = count;
      room = let r = idle.room in omega (arith, r, count);
      posted = omega (arith, count, fits);
      unchanged = λ none. refl;
      in_order = λ few. idle.empty;
    }

module _ (kept : KeptPages) (copies : BTreeMap ℕ Copies) (pointers : List Pointer) (is : AreKeptPages kept copies) (can : CanRetain kept pointers) (at : ℕ) (p : Pointer) (old seg new : Physical) (t_old t now : PendingTable)
    (fresh : IsFreshSegment old) (first : IsSegmentFor kept old) (loaded : HasLoaded kept pointers at old seg) (called : HasCalled kept pointers at seg t_old t) (here : slice_get pointers at ≡ Some p) (loads : LoadsPointer kept (retained_at kept pointers p) p seg new)
    (calls : IsCalled kept (spare_for kept pointers) p t now) where
  abbrev Of : ℕ → Physical → Callback → Type 0
  Of n s c = (i : ℕ) × (q : Pointer) × (i < n) × (slice_get pointers i ≡ Some q) × (q.name ≡ c.before) × (retained_at kept pointers q ≢ q.name) × (held_at s (retained_at kept pointers q) ≡ held_of_callback c)

  -- the callbacks that were there before stay
  before : (c : Callback) → Has (callbacks_of t.callbacks) c → Of (at + 1) new c
  before c has =
      let one = called.only c has in
      let lt = one.2 in (
        one.0,
        one.1,
        omega (arith, lt),
        one.3,
        one.4,
        one.5,
        there_still kept copies pointers is can at p old seg new t_old t fresh first loaded called here loads (retained_at kept pointers one.1) (apart kept copies pointers is can at p old seg new t_old t fresh first loaded called here loads one.0 one.1 lt one.3) ∙ one.6,
      )

  -- the list of the first pointers with one more
  next_calls : calls_beside kept (spare_for kept pointers) t_old.posted (take (at + 1) pointers)
      ≡ calls_beside kept (spare_for kept pointers) t_old.posted (take at pointers) ++ cond (is_moved kept (spare_for kept pointers) p) (call_for kept (spare_for kept pointers) (t_old.posted + length (filter (is_moved kept (spare_for kept pointers)) (take at pointers)) + 1) p ∷ []) []
  next_calls =
      ap (calls_beside kept (spare_for kept pointers) t_old.posted) (take_more pointers at p (slice_get_within pointers at p here) ∙ ap (λ q. take at pointers ++ q ∷ []) (get_or_from_slice_get pointers at p p here))
      ∙ calls_last kept (spare_for kept pointers) t_old.posted (take at pointers) p

  append_none : (xs : List Callback) → xs ++ [] ≡ xs
  append_none [] = refl
  append_none (x ∷ xs) = ap (λ l. x ∷ l) (append_none xs)

  at_name : retained_at kept pointers p ≡ p.name → HasCalled kept pointers (at + 1) new t_old t
  at_name same =
      let stays : is_moved kept (spare_for kept pointers) p ≡ false = ap not (eq-eqb (retained_at kept pointers p) p.name same) in
      record {
        numbers = called.numbers;
        only = before;
        each = λ i q less listed away. ⊎_elim
            (λ last. let e = same_Some p q (sym here ∙ ap (slice_get pointers) (sym last) ∙ listed) in absurd (subst (λ (r : Pointer). retained_at kept pointers r ≢ r.name) (sym e) away same))
            (λ other. called.each i q (omega (arith, less, other)) listed away)
            (cases_eq i at);
        once = called.once;
        unhandled = called.unhandled;
        count =
            let more = one_more_moved kept pointers at p here in
            let none : bit (is_moved kept (spare_for kept pointers) p) ≡ 0 = ap bit stays in
            let was = called.count in
            omega (arith, more, none, was);
        room = called.room;
        posted = called.posted;
        unchanged = λ none. absurd (omega (arith, none));
        in_order = λ few. called.in_order few
            ∙ ap (map new_entry) (sym (next_calls ∙ ap (λ b. calls_beside kept (spare_for kept pointers) t_old.posted (take at pointers) ++ cond b (call_for kept (spare_for kept pointers) (t_old.posted + length (filter (is_moved kept (spare_for kept pointers)) (take at pointers)) + 1) p ∷ []) []) stays
            ∙ append_none (calls_beside kept (spare_for kept pointers) t_old.posted (take at pointers))));
      }

  module _ (away : retained_at kept pointers p ≢ p.name) (number : ℕ) (posts : Posts (call_for kept (spare_for kept pointers) number p) t now) where
    abbrev c : Callback
    c = call_for kept (spare_for kept pointers) number p

    abbrev place : ℕ
    place = place_of t.callbacks number

    put : now.callbacks ≡ insert t.callbacks (place_of t.callbacks number) (new_entry (call_for kept (spare_for kept pointers) number p))
    put = ap (λ (x : PendingTable). x.callbacks) posts.posted

    told : held_for kept (retained_at kept pointers p) p ≡ held_of_callback (call_for kept (spare_for kept pointers) number p)
    told = by (find (λ (k : KeptPage). k.page == retained_at kept pointers p) kept.pages) (there_at kept copies pointers is can at p here).kept_page (there_at kept copies pointers is can at p here).found
      where
        by : (o : Option KeptPage) (k : KeptPage) → o ≡ Some k → option_map {U = Held} (λ (k : KeptPage). record { tag = k.tag; stamp = p.stamp }) o ≡ Some (record { tag = unwrap_or (option_map (λ (k : KeptPage). k.tag) o) no_tag; stamp = p.stamp })
        by None k none = absurd (none-some k none)
        by (Some x) k some = refl

    one_of : (d : Callback) → Has (callbacks_of now.callbacks) d → (call_for kept (spare_for kept pointers) number p ≡ d) ⊎ Has (callbacks_of t.callbacks) d
    one_of d has = posted_either t.callbacks (place_of t.callbacks number) (new_entry (call_for kept (spare_for kept pointers) number p)) d (subst (λ es. Has (callbacks_of es) d) put has)

    mine : Of (at + 1) new (call_for kept (spare_for kept pointers) number p)
    mine = (at, p, omega arith, here, refl, away, held_now kept copies pointers is can at p old seg new t_old t fresh first loaded called here loads ∙ told)

    off : (d : Callback) → Has (callbacks_of t.callbacks) d → d.number ≢ number
    off d h same = let r = at_has t.callbacks d h in posts.fresh (r.0, r.1, ap (λ (x : Callback). x.number) r.2 ∙ same)

    -- an earlier callback has another name
    other_name : (d : Callback) → Has (callbacks_of t.callbacks) d → d.before ≡ p.name → ⊥
    other_name d has same = let one = called.only d has in names_differ kept copies pointers is can one.0 at one.1 p one.2 one.3 here (one.4 ∙ same)

    more : length now.callbacks ≡ suc (length t.callbacks)
    more = ap (λ (l : List Entry). length l) put ∙ insert_length t.callbacks (place_of t.callbacks number) (new_entry (call_for kept (spare_for kept pointers) number p))

    moves : is_moved kept (spare_for kept pointers) p ≡ true
    moves = ap not (ne_eqb (retained_at kept pointers p) p.name away)

    at_last : HasCalled kept pointers (at + 1) new t_old now
    at_last = record {
      numbers = posts.table;
      only = λ d has. ⊎_elim (λ same. subst (Of (at + 1) new) same mine) (λ was. before d was) (one_of d has);
      each = λ i q less listed far. ⊎_elim
          (λ last. let e = same_Some p q (sym here ∙ ap (slice_get pointers) (sym last) ∙ listed) in
          (c, subst (λ es. Has (callbacks_of es) c) (sym put) (posted_new t.callbacks place (new_entry c)), ap (λ (r : Pointer). r.name) e))
          (λ other. let was = called.each i q (omega (arith, less, other)) listed far in (was.0, subst (λ es. Has (callbacks_of es) was.0) (sym put) (posted_old t.callbacks place (new_entry c) was.0 was.1), was.2))
          (cases_eq i at);
      once = λ d e has other same. ⊎_elim
          (λ d_new. ⊎_elim
          (λ e_new. sym d_new ∙ e_new)
          (λ e_old. absurd (other_name e e_old (sym same ∙ sym (ap (λ (x : Callback). x.before) d_new))))
          (one_of e other))
          (λ d_old. ⊎_elim
          (λ e_new. absurd (other_name d d_old (same ∙ sym (ap (λ (x : Callback). x.before) e_new))))
          (λ e_old. called.once d e d_old e_old same)
          (one_of e other))
          (one_of d has);
      unhandled = λ n. ap (λ es. handled_in es n) put ∙ ⊎_elim
          (λ same. ap (handled_in (insert t.callbacks place (new_entry c))) (sym same) ∙ handled_new t.callbacks place (new_entry c) off)
          (λ far. handled_old t.callbacks place (new_entry c) n far ∙ called.unhandled n)
          (cases_eq number n);
      count =
          let all = one_more_moved kept pointers at p here in
          let one : bit (is_moved kept (spare_for kept pointers) p) ≡ 1 = ap bit moves in
          let was = called.count in
          omega (arith, all, one, was, more);
      room =
          let was = called.room in
          let few = ap (λ (x : PendingTable). x.room) posts.posted in
          omega (arith, was, few, more, some);
      posted =
          let was = called.posted in
          let next = ap (λ (x : PendingTable). x.posted) posts.posted in
          omega (arith, was, next, more);
      unchanged = λ none. absurd (omega (arith, none));
      in_order = λ few.
          let was = called.posted in
          let count = called.count in
          let below : t.posted + 1 < 2 ^ 64 = omega (arith, few, more, was) in
          let numbered : number ≡ t_old.posted + length (filter (is_moved kept (spare_for kept pointers)) (take at pointers)) + 1 = let n = posts.next below in omega (arith, n, few, more, was, count) in
          posts.appends below
          ∙ ap (λ es. es ++ new_entry c ∷ []) (called.in_order (omega (arith, few, more)))
          ∙ sym (map_last (calls_beside kept (spare_for kept pointers) t_old.posted (take at pointers)) (c ∷ []))
          ∙ ap (λ n. map new_entry (calls_beside kept (spare_for kept pointers) t_old.posted (take at pointers) ++ call_for kept (spare_for kept pointers) n p ∷ [])) numbered
          ∙ ap (map new_entry) (sym (next_calls ∙ ap (λ b. calls_beside kept (spare_for kept pointers) t_old.posted (take at pointers) ++ cond b (call_for kept (spare_for kept pointers) (t_old.posted + length (filter (is_moved kept (spare_for kept pointers)) (take at pointers)) + 1) p ∷ []) []) moves));
    }
      where
        some : 0 < t.room
        some = let r = room_for kept pointers at p is.some can here moves in let count = called.count in let all = called.room in omega (arith, r, count, all)

  pub called_more : HasCalled kept pointers (at + 1) new t_old now
  called_more = ⊎_elim
      (λ same. subst (HasCalled kept pointers (at + 1) new t_old) (sym (calls.here same)) (at_name same))
      (λ far. let c = calls.away far in at_last far c.0 c.1)
      (cases_eq (retained_at kept pointers p) p.name)

as_callbacks : (xs : List Callback) → callbacks_of (map new_entry xs) ≡ xs
as_callbacks [] = refl
as_callbacks (x ∷ xs) = ap (λ l. x ∷ l) (as_callbacks xs)

-- what is shown of the callbacks in the end
pub called_listed : (kept : KeptPages) (pointers : List Pointer) (seg : Physical) (old t : PendingTable) → HasCalled kept pointers (length pointers) seg old t → old.posted + length (moved_among kept pointers) < 2 ^ 64
    → HasPosted (calls_for kept pointers old.posted) old.posted (names_with seg t)
called_listed kept pointers seg old t called few =
    let all : take (length pointers) pointers ≡ pointers = take_all (length pointers) pointers (omega arith) in
    let count : length t.callbacks ≡ length (moved_among kept pointers) = called.count ∙ ap (λ (l : List Pointer). length (filter (is_moved kept (spare_for kept pointers)) l)) all in
    let listed = calls_count kept (spare_for kept pointers) old.posted pointers in
    let posted = called.posted in
    record {
      pending = ap callbacks_of (called.in_order (omega (arith, few, count)) ∙ ap (λ (l : List Pointer). map new_entry (calls_beside kept (spare_for kept pointers) old.posted l)) all) ∙ as_callbacks (calls_for kept pointers old.posted);
      posted_now = omega (arith, few, count, listed, posted);
    }
