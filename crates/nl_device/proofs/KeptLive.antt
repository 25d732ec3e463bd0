-- The listed pointers as they are shown once they are live.
use Rattle.std.proofs.Common.{◌≡◌, ◌≢◌, inl, inr, ⊎_elim, ℕ, zero, suc, ◌+◌, ◌*◌, ◌<◌, ◌==◌, ◌||◌, not, ◌∙◌, true, false, Bool, cond, List, [], ◌∷◌, length, map, Option, Some, None, refl, sym, ap, subst, arith, eqb-true}
use Rattle.std.specs.Prelude.{filter, find, option_map, slice_get}
use Rattle.std.specs.List.{list_any}
use Rattle.std.specs.BTreeMap.{BTreeMap}
use Rattle.std.proofs.lemmas.Bool.{cases_Bool, cond-true, true≢false}
use Rattle.std.proofs.lemmas.List.{length-map}
use Rattle.std.proofs.lemmas.Option.{get_or_from_slice_get, none-some, same_Some, slice_get_within}
use Rattle.nl_field.specs.Live.{resolve}
use Rattle.nl_field.specs.declared.pointer.Pointer.{Pointer}
use Rattle.nl_field.specs.declared.shape.Shape.{Shape}
use Rattle.nl_callbacks.specs.Pending.{PendingTable}
use Rattle.nl_iface.specs.Left.{HoldsLive, HoldsStamp}
use Rattle.nl_iface.specs.Moves.{Retains}
use Rattle.nl_iface.specs.Names.{Has, LivePage, led}
use Rattle.nl_iface.specs.Stored.{Stored}
use Rattle.nl_pseg.specs.Segment.{IsOldName, Physical, held_at}
use Rattle.nl_pseg.specs.Space.{waiting}
use Rattle.nl_pseg.specs.declared.held.Held.{Held}
use Rattle.nl_device.specs.Callbacks.{AreCalled, names_with}
use Rattle.nl_device.specs.Device.{HasSpareBlock, IsFoundStored}
use Rattle.nl_device.specs.Kept.{AreKeptPages, KeptPages, has_stamp}
use Rattle.nl_device.specs.Retain.{CanRetain, HasCalled, HasLoaded, IsReopened, is_stale, owns_name, retained_at}
use Rattle.nl_device.specs.Shown.{found_by_number, found_in, found_on, live_page, names_of}
use Rattle.nl_device.specs.Space.{space_of}
use Rattle.nl_device.specs.State.{held_of, old_or}
use Rattle.nl_device.specs.declared.kept.copies.Copies.{Copies}
use Rattle.nl_device.specs.declared.kept.page.KeptPage.{KeptPage}
use Rattle.nl_device.proofs.Leaving.{NamesHold}
use Rattle.nl_device.proofs.Lookups.{number_is, stamp_of_found, stamp_of_none}
use Rattle.nl_device.proofs.Retained.{live_is, room_is}
use Rattle.nl_device.proofs.Retaining.{there_at}
use Rattle.nl_device.proofs.Spacing.{free_is, none_victim, pairs_is, space_is, waiting_is}

to_index : (xs : List Pointer) (p : Pointer) → Has xs p → (at : ℕ) × (slice_get xs at ≡ Some p)
to_index [] p has = absurd has
to_index (x ∷ xs) p (inl same) = (zero, ap (λ (q : Pointer). Some q) same)
to_index (x ∷ xs) p (inr rest) = let r = to_index xs p rest in (suc r.0, r.1)

from_index : (xs : List Pointer) (at : ℕ) (p : Pointer) → slice_get xs at ≡ Some p → Has xs p
from_index [] at p is = absurd (none-some p is)
from_index (x ∷ xs) zero p is = inl (same_Some x p is)
from_index (x ∷ xs) (suc at) p is = inr (from_index xs at p is)

abbrev pair : ℕ → KeptPage → ℕ × LivePage
pair n k = (n, found_on k)

abbrev numbered : List KeptPage → List (ℕ × LivePage)
numbered pages = map (λ k. (k.page, found_on k)) pages

-- the page of a number is listed under it
by_number : (pages : List KeptPage) (n : ℕ) (k : KeptPage) → find (λ k. k.page == n) pages ≡ Some k → Has (numbered pages) (pair n k)
by_number [] n k is = absurd (none-some k is)
by_number (x ∷ xs) n k is = by (x.page == n) refl is (by_number xs n k)
  where
    by : (b : Bool) → (x.page == n) ≡ b → cond b (Some x) (find (λ k. k.page == n) xs) ≡ Some k → (find (λ k. k.page == n) xs ≡ Some k → Has (numbered xs) (pair n k))
        → Has (numbered (x ∷ xs)) (pair n k)
    by true e here rest = let same = same_Some x k here in inl (λ i. (eqb-true x.page n e i, found_on (same i)))
    by false e other rest = inr (rest other)

page_there : (pages : List KeptPage) (n s : ℕ) → has_stamp pages n s ≡ true → (k : KeptPage) × (find (λ k. k.page == n) pages ≡ Some k)
unfolding has_stamp
page_there pages n s has = by (find (λ k. k.page == n) pages) refl
  where
    by : (o : Option KeptPage) → find (λ k. k.page == n) pages ≡ o → (k : KeptPage) × (find (λ k. k.page == n) pages ≡ Some k)
    by None none = absurd (true≢false (sym has ∙ stamp_of_none pages n s none))
    by (Some k) some = (k, some)

module _ (kept : KeptPages) (copies : BTreeMap ℕ Copies) (pointers : List Pointer) (is : AreKeptPages kept copies) (can : CanRetain kept pointers) (old seg : Physical) (loaded : HasLoaded kept pointers (length pointers) old seg) where
  within : (i : ℕ) (p : Pointer) → slice_get pointers i ≡ Some p → i < length pointers
  within i p here = slice_get_within pointers i p here

  held_there : (i : ℕ) (p : Pointer) (here : slice_get pointers i ≡ Some p) → held_at seg (retained_at kept pointers p) ≡ Some (record { tag = (there_at kept copies pointers is can i p here).kept_page.tag; stamp = p.stamp })
  held_there i p here = loaded.listed i p (within i p here) here ∙ ap (option_map {U = Held} (λ (k : KeptPage). record { tag = k.tag; stamp = p.stamp })) (there_at kept copies pointers is can i p here).found

  away_old : (i : ℕ) (p : Pointer) → slice_get pointers i ≡ Some p → retained_at kept pointers p ≢ p.name → IsOldName seg p.name
  away_old i p here away = ⊎_elim
      (λ own. absurd (away (sym (loaded.ways i p (within i p here) here) ∙ own)))
      (λ pair. (resolve seg.pairs p.name, pair))
      (old_or seg.pairs p.name)

  -- old names and callbacks are one to one
  pub are_called : (t_old t : PendingTable) → HasCalled kept pointers (length pointers) seg t_old t → AreCalled seg t
  are_called t_old t called = record {
    numbers = called.numbers;
    told = λ c has.
        let one = called.only c has in
        ap (held_at seg) (ap (resolve seg.pairs) (sym one.4) ∙ loaded.ways one.0 one.1 one.2 one.3) ∙ one.6;
    old = λ c has. let one = called.only c has in subst (IsOldName seg) one.4 (away_old one.0 one.1 one.3 one.5);
    each = λ name old_name.
        let one = loaded.olds name old_name in
        let c = called.each one.0 one.1 one.2 one.3 (λ same. one.5 (same ∙ one.4)) in
        (c.0, c.1, c.2 ∙ one.4);
    once = called.once;
    room = called.room ∙ ap (λ n. 4 * n) (sym loaded.segment.size);
  }

  abbrev Lives : ℕ → Pointer → Type 0
  Lives place p = (page : LivePage) × ((names_of seg).live place ≡ Some page) × (page.stamp ≡ p.stamp) × Has {X = ℕ × LivePage} (found_by_number kept) (place, page)

  lives_at : (i : ℕ) (p : Pointer) → slice_get pointers i ≡ Some p → Lives (retained_at kept pointers p) p
  lives_at i p here =
      let t = there_at kept copies pointers is can i p here in
      let listed = by_number kept.pages (retained_at kept pointers p) t.kept_page t.found in (
        record { tag = t.kept_page.tag; stamp = p.stamp },
        ap live_page (held_there i p here),
        refl,
        subst (λ (n : ℕ). Has {X = ℕ × LivePage} (found_by_number kept) (retained_at kept pointers p, record { tag = t.kept_page.tag; stamp = n })) t.stamp listed,
      )

  pub retains_are : (t_old t : PendingTable) → HasCalled kept pointers (length pointers) seg t_old t → Retains pointers (retained_at kept pointers) (found_by_number kept) (names_with seg t)
  retains_are t_old t called = record {
    lives = λ p has. let at = to_index pointers p has in lives_at at.0 p at.1;
    only = λ q page shown.
        let h = held_of (held_at seg q) page shown in
        let one = loaded.only q h.0 h.1 in
        (one.1, from_index pointers one.0 one.1 one.3, one.4, sym h.2 ∙ one.5);
    ways = λ p has. let at = to_index pointers p has in loaded.ways at.0 p (within at.0 p at.1) at.1;
    own = λ n off. ⊎_elim
        (λ own. own)
        (λ pair. let one = loaded.olds n (resolve seg.pairs n, pair) in absurd (off one.1 (from_index pointers one.0 one.1 one.3) (sym one.4)))
        (old_or seg.pairs n);
    told = λ c has. let one = called.only c has in (one.1, from_index pointers one.0 one.1 one.3, sym one.4, one.5, ap live_page one.6);
    moved = λ p has away. let at = to_index pointers p has in called.each at.0 p (within at.0 p at.1) at.1 away;
    unhandled = λ c has. called.unhandled c.number;
    count = live_is seg ∙ loaded.live;
  }

  -- A name that leads to a live page names a page of its stamp, or one that was not found; and but for those that are lost, a page of it.
  module _ (shape : Shape) (c : Stored) (bytes : ℕ → List ℕ) (size : kept.size ≡ shape.pages) (stored : IsFoundStored kept bytes c) (holds : HoldsLive (names_of seg).live bytes c) where
    at_place : (name : ℕ) (page : LivePage) → (names_of seg).live name ≡ Some page → HoldsStamp c name page.stamp
    at_place name page live = (record { tag = page.tag; stamp = page.stamp; bytes = bytes name }, holds name page live, refl)

    named_there : (p : Pointer) → has_stamp kept.pages p.name p.stamp ≡ true → HoldsStamp c p.name p.stamp
    unfolding found_in has_stamp
    named_there p has =
        let k = page_there kept.pages p.name p.stamp has in
        let stamp = number_is k.0.stamp p.stamp (sym (stamp_of_found kept.pages p.name p.stamp k.0 is.rising k.1) ∙ has) in
        (record { tag = k.0.tag; stamp = k.0.stamp; bytes = bytes p.name }, stored.holds p.name (found_on k.0) (ap (option_map found_on) k.1), stamp)

    named_none : (i : ℕ) (p : Pointer) → slice_get pointers i ≡ Some p → has_stamp kept.pages p.name p.stamp ≡ false → c.named p.name ≡ None
    unfolding found_in
    named_none i p here none =
        let missing : list_any (λ k. k.page == p.name) kept.pages ≡ false = not_listed (has_stamp kept.pages p.name p.stamp) (list_any (λ k. k.page == p.name) kept.pages) none (owns_at i p here) in
        ⊎_elim
        (λ empty. let t = there_at kept copies pointers is can i p here in absurd (none-some t.kept_page (ap (find (λ k. k.page == retained_at kept pointers p)) (sym empty) ∙ t.found)))
        (λ nothing. nothing)
        (stored.only p.name (ap (option_map found_on) (not_found (λ k. k.page == p.name) kept.pages missing)))
      where
        not_listed : (a b : Bool) → a ≡ false → (a || not b) ≡ true → b ≡ false
        not_listed true b off is = absurd (true≢false off)
        not_listed false true off is = sym is
        not_listed false false off is = refl

        owns_at : (i : ℕ) (p : Pointer) → slice_get pointers i ≡ Some p → owns_name kept p ≡ true
        owns_at i p here = subst (λ (q : Pointer). owns_name kept q ≡ true) (get_or_from_slice_get pointers i p p here) (can.own i p (slice_get_within pointers i p here))

        not_found : (f : KeptPage → Bool) (xs : List KeptPage) → list_any f xs ≡ false → find f xs ≡ None
        not_found f [] none = refl
        not_found f (x ∷ xs) none = by (f x) none (not_found f xs)
          where
            by : (b : Bool) → (b || list_any f xs) ≡ false → (list_any f xs ≡ false → find f xs ≡ None) → cond b (Some x) (find f xs) ≡ None
            by true here rest = absurd (true≢false here)
            by false off rest = rest off

    stamp_is : (name : ℕ) (page : LivePage) → (names_of seg).live (led (names_of seg) name) ≡ Some page → (i : ℕ) (p : Pointer) → slice_get pointers i ≡ Some p → p.name ≡ name → p.stamp ≡ page.stamp
    stamp_is name page live i p here named =
        let place : resolve seg.pairs name ≡ retained_at kept pointers p = ap (resolve seg.pairs) (sym named) ∙ loaded.ways i p (within i p here) here in
        ap (λ (x : LivePage). x.stamp) (same_Some (record { tag = (there_at kept copies pointers is can i p here).kept_page.tag; stamp = p.stamp }) page (ap live_page (sym (held_there i p here) ∙ ap (held_at seg) (sym place)) ∙ live))

    Stale : Pointer → Type 0
    Stale p = Has (map (λ (q : Pointer). q.name) (filter (is_stale kept) pointers)) p.name

    listed_stale : (xs : List Pointer) (i : ℕ) (p : Pointer) → slice_get xs i ≡ Some p → is_stale kept p ≡ true → Has (map (λ (q : Pointer). q.name) (filter (is_stale kept) xs)) p.name
    listed_stale [] i p here lost = absurd (none-some p here)
    listed_stale (x ∷ xs) zero p here lost =
        let same = same_Some x p here in
        subst (λ (l : List Pointer). Has (map (λ (q : Pointer). q.name) l) p.name) (sym (cond-true (is_stale kept x) (x ∷ filter (is_stale kept) xs) (filter (is_stale kept) xs) (ap (is_stale kept) same ∙ lost))) (inl (ap (λ (q : Pointer). q.name) same))
    listed_stale (x ∷ xs) (suc i) p here lost = by (is_stale kept x) (listed_stale xs i p here lost)
      where
        by : (b : Bool) → Has (map (λ (q : Pointer). q.name) (filter (is_stale kept) xs)) p.name → Has (map (λ (q : Pointer). q.name) (cond b (x ∷ filter (is_stale kept) xs) (filter (is_stale kept) xs))) p.name
        by true has = inr has
        by false has = has

    pub names_hold : NamesHold shape (names_of seg) c
    names_hold = record {
      own = λ name page live. ⊎_elim
          (λ own. inr (at_place name page (ap (names_of seg).live (sym own) ∙ live)))
          (λ pair.
          let one = loaded.olds name (resolve seg.pairs name, pair) in
          let stamp = stamp_is name page live one.0 one.1 one.3 one.4 in
          ⊎_elim
          (λ has. inr (subst (λ n. HoldsStamp c n page.stamp) one.4 (subst (HoldsStamp c one.1.name) stamp (named_there one.1 has))))
          (λ none. inl (subst (λ n. c.named n ≡ None) one.4 (named_none one.0 one.1 one.3 none)))
          (cases_Bool (has_stamp kept.pages one.1.name one.1.stamp)))
          (old_or seg.pairs name);
      stale = map (λ (q : Pointer). q.name) (filter (is_stale kept) pointers);
      few = let few = can.few_lost in let count = length-map (filter (is_stale kept) pointers) (λ (q : Pointer). q.name) in omega (arith, few, count, size);
      at_names = λ name page live. ⊎_elim
          (λ own. inl (at_place name page (ap (names_of seg).live (sym own) ∙ live)))
          (λ pair.
          let one = loaded.olds name (resolve seg.pairs name, pair) in
          let stamp = stamp_is name page live one.0 one.1 one.3 one.4 in
          ⊎_elim
          (λ has. inl (subst (λ n. HoldsStamp c n page.stamp) one.4 (subst (HoldsStamp c one.1.name) stamp (named_there one.1 has))))
          (λ none. inr (subst (λ n. Has (map (λ (q : Pointer). q.name) (filter (is_stale kept) pointers)) n) one.4 (listed_stale pointers one.0 one.1 one.3 (ap not none))))
          (cases_Bool (has_stamp kept.pages one.1.name one.1.stamp)))
          (old_or seg.pairs name);
    }

-- the numbers of the space
pub reopened : (seg : Physical) (blocks needed moved : ℕ) → HasSpareBlock seg → seg.victim ≡ None → seg.left ≡ 0 → seg.free + waiting seg + needed ≡ blocks → length seg.pairs ≡ moved → IsReopened blocks needed moved (space_of seg)
reopened seg blocks needed moved spare hand left counted pairs = record {
  idle = none_victim seg hand;
  lands =
      let few = (space_is seg spare).left_in in
      let none : (space_of seg).victim * (space_of seg).block ≡ 0 * (space_of seg).block = ap (λ n. n * (space_of seg).block) (none_victim seg hand) in
      omega (arith, few, none);
  counted = let free = free_is seg in let waits = waiting_is seg in omega (arith, free, waits, counted);
  room = room_is seg left;
  pairs = pairs_is seg ∙ pairs;
}
