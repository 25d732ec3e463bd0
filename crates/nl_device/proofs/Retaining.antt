-- One pointer more is live, and all of them.
use Rattle.std.proofs.Common.{◌≡◌, ◌≢◌, ◌++◌, ◌||◌, take, ℕ, zero, suc, ◌+◌, ◌-◌, ◌*◌, ◌/◌, ◌<◌, ◌≤◌, ◌==◌, Bool, true, false, not, List, [], ◌∷◌, length, get_or, set, Option, Some, None, option_map, refl, sym, ◌∙◌, ap, subst, arith, ⊎_elim, eq-eqb, ne_eqb}
use Rattle.std.specs.Prelude.{IsSome, filter, find, slice_get}
use Rattle.std.specs.List.{count_by, list_any, range_with_len}
use Rattle.std.specs.BTreeMap.{BTreeMap}
use Rattle.std.proofs.lemmas.Bool.{cases_eq, cases_lt, true≢false}
use Rattle.std.proofs.lemmas.List.{get_or-set_other, get_or-set_same, length-set, take_all, take_more}
use Rattle.std.proofs.lemmas.List.Folds.{list_any-append}
use Rattle.std.proofs.lemmas.Option.{get_or_from_slice_get, none-some, same_Some, slice_get_within}
use Rattle.nl_field.specs.Live.{resolve}
use Rattle.nl_field.specs.Space.{is_outside}
use Rattle.nl_field.specs.declared.pointer.Pointer.{Pointer}
use Rattle.nl_callbacks.specs.Pending.{PendingTable}
use Rattle.nl_pseg.specs.Segment.{InSegment, Physical, held_at, is_kept}
use Rattle.nl_pseg.specs.Space.{waiting}
use Rattle.nl_pseg.specs.declared.held.Held.{Held}
use Rattle.nl_device.specs.Kept.{AreKeptPages, KeptPages, place_among, spare_among}
use Rattle.nl_device.specs.Retain.{CanLoadPointer, CanRetain, HasCalled, HasLoaded, IsFreshSegment, IsSegmentFor, LoadsPointer, held_for, is_moved, is_taken, lies_in, needed_blocks, owns_name, place_for, retained_at, spare_for}
use Rattle.nl_device.specs.declared.kept.copies.Copies.{Copies}
use Rattle.nl_device.specs.declared.kept.page.KeptPage.{KeptPage}
use Rattle.nl_device.specs.Space.{live_in}
use Rattle.nl_device.proofs.Alone.{or_false, or_true}
use Rattle.nl_device.proofs.Counted.{bit, count_all_but, count_other, found_between, live_none}
use Rattle.nl_device.proofs.FewMoved.{one_more_moved, room_for}
use Rattle.nl_device.proofs.Loading.{IsThere, in_segment, owned, place_is, there}
use Rattle.nl_device.proofs.Lookups.{is_number, other_number}
use Rattle.nl_device.proofs.Living.{no_old}
use Rattle.nl_device.proofs.Spacing.{one_more}

-- what is live on a page was found there
pub record IsFoundIn (kept : KeptPages) (seg : Physical) (page : ℕ) (h : Held) : Type 0 where
  pub within : InSegment seg page
  pub found : find (λ k. k.page == page) kept.pages ≡ Some (record { page = page; stamp = h.stamp; tag = h.tag })

module _ (kept : KeptPages) (copies : BTreeMap ℕ Copies) (pointers : List Pointer) (is : AreKeptPages kept copies) (can : CanRetain kept pointers) where
  abbrev Listed : ℕ → Pointer → Type 0
  Listed i p = slice_get pointers i ≡ Some p

  abbrev place : Pointer → ℕ
  place p = retained_at kept pointers p

  pub stamps_differ : (i j : ℕ) (p q : Pointer) → i < j → Listed i p → Listed j q → p.stamp ≡ q.stamp → ⊥
  stamps_differ i j p q less first second same =
      can.differ i j p less (slice_get_within pointers j q second)
      (ap (λ (r : Pointer). r.stamp) (get_or_from_slice_get pointers i p p first) ∙ same ∙ ap (λ (r : Pointer). r.stamp) (sym (get_or_from_slice_get pointers j q p second)))

  pub names_differ : (i j : ℕ) (p q : Pointer) → i < j → Listed i p → Listed j q → p.name ≡ q.name → ⊥
  names_differ i j p q less first second same =
      can.names_differ i j p less (slice_get_within pointers j q second)
      (ap (λ (r : Pointer). r.name) (get_or_from_slice_get pointers i p p first) ∙ same ∙ ap (λ (r : Pointer). r.name) (sym (get_or_from_slice_get pointers j q p second)))

  -- pointers of one stamp are one
  pub same_pointer : (i j : ℕ) (p q : Pointer) → Listed i p → Listed j q → p.stamp ≡ q.stamp → (i ≡ j) × (p ≡ q)
  same_pointer i j p q first second same = ⊎_elim
      (λ less. absurd (stamps_differ i j p q less first second same))
      (λ past. ⊎_elim
      (λ one. (one, same_Some p q (sym first ∙ ap (slice_get pointers) one ∙ second)))
      (λ apart. absurd (stamps_differ j i q p (omega (arith, past, apart)) second first (sym same)))
      (cases_eq i j))
      (cases_lt i j)

  pub placed_for : (i : ℕ) (p : Pointer) → Listed i p → place_for kept pointers p ≡ Some (place p)
  placed_for i p here = place_is kept (spare_for kept pointers) p
      (subst (λ (q : Pointer). IsSome (place_for kept pointers q)) (get_or_from_slice_get pointers i p p here) (can.placed i p (slice_get_within pointers i p here)))

  pub there_at : (i : ℕ) (p : Pointer) → Listed i p → IsThere kept (spare_for kept pointers) p (place p)
  there_at i p here = there kept copies (spare_for kept pointers) p (place p) is (placed_for i p here)

  pub owns : (i : ℕ) (p : Pointer) → Listed i p → (k : KeptPage) → find (λ k. k.page == p.name) kept.pages ≡ Some k → k.stamp ≡ p.stamp
  owns i p here k found = owned kept copies p k is (can_own i p here) found
    where
      can_own : (i : ℕ) (p : Pointer) → Listed i p → owns_name kept p ≡ true
      can_own i p here = subst (λ (q : Pointer). owns_name kept q ≡ true) (get_or_from_slice_get pointers i p p here) (can.own i p (slice_get_within pointers i p here))

  -- two pointers whose places are one have one stamp
  pub same_place : (i j : ℕ) (p q : Pointer) → Listed i p → Listed j q → place p ≡ place q → p.stamp ≡ q.stamp
  same_place i j p q first second same =
      let a = there_at i p first in
      let b = there_at j q second in
      let e : a.kept_page ≡ b.kept_page = same_Some a.kept_page b.kept_page (sym a.found ∙ ap (λ n. find (λ (k : KeptPage). k.page == n) kept.pages) same ∙ b.found) in
      sym a.stamp ∙ ap (λ (k : KeptPage). k.stamp) e ∙ b.stamp

  -- two pointers of which one has its place at the other's name have one stamp
  pub same_owner : (i j : ℕ) (p q : Pointer) → Listed i p → Listed j q → place p ≡ q.name → p.stamp ≡ q.stamp
  same_owner i j p q first second same =
      let a = there_at i p first in
      sym a.stamp ∙ owns j q second a.kept_page (ap (λ n. find (λ (k : KeptPage). k.page == n) kept.pages) (sym same) ∙ a.found)

  pub can_load : (at : ℕ) (p : Pointer) (old seg : Physical) (t_old t : PendingTable) → HasLoaded kept pointers at old seg → HasCalled kept pointers at seg t_old t → Listed at p → CanLoadPointer kept (spare_for kept pointers) p seg t
  can_load at p old seg t_old t loaded called here = record {
    page = place p;
    place = placed_for at p here;
    dead = none_held (held_at seg (place p)) (λ h held.
        let one = loaded.only (place p) h held in
        stamps_differ one.0 at one.1 p one.2 one.3 here (same_place one.0 at one.1 p one.3 here one.4));
    own = λ old_name.
        let one = loaded.olds (place p) old_name in
        stamps_differ one.0 at one.1 p one.2 one.3 here (sym (same_owner at one.0 p one.1 here one.3 (sym one.4)));
    new_stamp = λ page h held same.
        let one = loaded.only page h held in
        stamps_differ one.0 at one.1 p one.2 one.3 here (sym one.5 ∙ same);
    lead = λ away. record {
      room = let r = roomy away in let pairs = loaded.pairs in let all = loaded.whole.numbers.pairs in let size = loaded.segment.size in omega (arith, r, pairs, all, size);
      dead = none_held (held_at seg p.name) (λ h held.
          let one = loaded.only p.name h held in
          stamps_differ one.0 at one.1 p one.2 one.3 here (same_owner one.0 at one.1 p one.3 here one.4));
      fresh = λ old_name.
          let one = loaded.olds p.name old_name in
          names_differ one.0 at one.1 p one.2 one.3 here one.4;
    };
    room = λ away. let r = roomy away in let count = called.count in let all = called.room in omega (arith, r, count, all);
    none_in_hand = loaded.none_in_hand;
  }
    where
      none_held : (o : Option Held) → ((h : Held) → o ≡ Some h → ⊥) → o ≡ None
      none_held None off = refl
      none_held (Some h) off = absurd (off h refl)

      roomy : p.name ≢ place p → length (filter (is_moved kept (spare_for kept pointers)) (take at pointers)) < 4 * kept.size
      roomy away = room_for kept pointers at p is.some can here (ap not (ne_eqb (place p) p.name (λ same. away (sym same))))

-- before the first pointer
pub loaded_none : (kept : KeptPages) (pointers : List Pointer) (seg : Physical) → IsSegmentFor kept seg → IsFreshSegment seg → HasLoaded kept pointers 0 seg seg
loaded_none kept pointers seg same fresh = record {
  segment = same;
  listed = λ i p less is. absurd (omega (arith, less));
  only = λ page h held. absurd (none-some h (sym (fresh.no_live page) ∙ held));
  ways = λ i p less is. absurd (omega (arith, less));
  olds = λ name old_name. absurd (no_old seg.pairs name fresh.no_pairs old_name);
  live = live_none seg.held fresh.no_live;
  pages = refl;
  pairs = ap (λ (l : List (ℕ × ℕ)). length l) fresh.no_pairs;
  blocks = λ block from below. fresh.each block (omega (arith, from, same.first)) (omega (arith, below, same.blocks));
  kept_before = λ block is. is;
  same_soiled = λ block. refl;
  left = omega arith;
  erased = λ q taken. taken;
  copies = λ q taken. taken;
  whole = fresh.whole;
  none_in_hand = fresh.none_in_hand;
  unchanged = λ none. refl;
  kept_block = λ k some. k;
  kept_dead = λ dead. dead;
}

-- the blocks that are taken with one pointer more
taken_more : (kept : KeptPages) (spare : Option ℕ) (pointers : List Pointer) (at : ℕ) (p : Pointer) (page block : ℕ) → slice_get pointers at ≡ Some p → place_among kept spare p ≡ Some page
    → is_taken kept spare (take (at + 1) pointers) block ≡ (is_taken kept spare (take at pointers) block || page / kept.size == block)
taken_more kept spare pointers at p page block here placed =
    let test : Pointer → Bool = λ q. lies_in kept.size block (place_among kept spare q) in
    ap (list_any test) (take_more pointers at p (slice_get_within pointers at p here) ∙ ap (λ q. take at pointers ++ q ∷ []) (get_or_from_slice_get pointers at p p here))
    ∙ list_any-append test (take at pointers) (p ∷ [])
    ∙ ap (λ b. is_taken kept spare (take at pointers) block || b) (or_false (lies_in kept.size block (place_among kept spare p)) ∙ ap (lies_in kept.size block) placed)

module _ (kept : KeptPages) (copies : BTreeMap ℕ Copies) (pointers : List Pointer) (is : AreKeptPages kept copies) (can : CanRetain kept pointers) (at : ℕ) (p : Pointer) (old seg new : Physical) (t_old t : PendingTable)
    (fresh : IsFreshSegment old) (first : IsSegmentFor kept old) (loaded : HasLoaded kept pointers at old seg) (called : HasCalled kept pointers at seg t_old t) (here : slice_get pointers at ≡ Some p) (loads : LoadsPointer kept (retained_at kept pointers p) p seg new) where
  able : CanLoadPointer kept (spare_for kept pointers) p seg t
  able = can_load kept copies pointers is can at p old seg t_old t loaded called here

  is_there : IsThere kept (spare_for kept pointers) p (retained_at kept pointers p)
  is_there = there_at kept copies pointers is can at p here

  value : held_for kept (retained_at kept pointers p) p ≡ Some (record { tag = is_there.kept_page.tag; stamp = p.stamp })
  value = ap (option_map {U = Held} (λ (k : KeptPage). record { tag = k.tag; stamp = p.stamp })) is_there.found

  inside : retained_at kept pointers p < length seg.held
  inside = let w = (in_segment kept copies (spare_for kept pointers) p (retained_at kept pointers p) old is first is_there).1 in let a = loaded.pages in let b = fresh.pages in omega (arith, w, a, b)

  put : new.held ≡ set seg.held (retained_at kept pointers p) (Some (record { tag = is_there.kept_page.tag; stamp = p.stamp }))
  put = loads.live ∙ ap (set seg.held (retained_at kept pointers p)) value

  here_now : held_at new (retained_at kept pointers p) ≡ Some (record { tag = is_there.kept_page.tag; stamp = p.stamp })
  here_now = ap (λ l. get_or l (retained_at kept pointers p) None) put ∙ get_or-set_same seg.held (retained_at kept pointers p) (Some (record { tag = is_there.kept_page.tag; stamp = p.stamp })) None inside

  pub there_still : (q : ℕ) → q ≢ retained_at kept pointers p → held_at new q ≡ held_at seg q
  there_still q other = ap (λ l. get_or l q None) put ∙ get_or-set_other seg.held (retained_at kept pointers p) q (Some (record { tag = is_there.kept_page.tag; stamp = p.stamp })) None other

  pub held_now : held_at new (retained_at kept pointers p) ≡ held_for kept (retained_at kept pointers p) p
  held_now = here_now ∙ sym value

  -- an earlier one has another place
  pub apart : (i : ℕ) (q : Pointer) → i < at → slice_get pointers i ≡ Some q → retained_at kept pointers q ≢ retained_at kept pointers p
  apart i q less listed same = stamps_differ kept copies pointers is can i at q p less listed here (same_place kept copies pointers is can i at q p listed here same)

  blocks_more : (block : ℕ) → is_kept seg block ≡ not (is_taken kept (spare_for kept pointers) (take at pointers) block) → is_kept new block ≡ not (is_taken kept (spare_for kept pointers) (take (at + 1) pointers) block)
  blocks_more block was =
      let taken = is_taken kept (spare_for kept pointers) (take at pointers) block in
      let more = taken_more kept (spare_for kept pointers) pointers at p (retained_at kept pointers p) block here (placed_for kept copies pointers is can at p here) in
      let size = loaded.segment.size in
      ⊎_elim
      (λ (same : block ≡ retained_at kept pointers p / seg.size).
      let b : retained_at kept pointers p / kept.size ≡ block = ap (λ n. retained_at kept pointers p / n) (sym size) ∙ sym same in
      ap (is_kept new) (same ∙ ap (λ n. retained_at kept pointers p / n) (sym loads.same_size)) ∙ loads.whole.pages.in_use (retained_at kept pointers p) (record { tag = is_there.kept_page.tag; stamp = p.stamp }) here_now
      ∙ sym (ap not (more ∙ (λ i. taken || is_number (retained_at kept pointers p / kept.size) block b i) ∙ or_true taken)))
      (λ other.
      loads.others_kept block other ∙ was
      ∙ sym (ap not (more ∙ (λ i. taken || other_number (retained_at kept pointers p / kept.size) block (λ e. other (sym e ∙ ap (λ n. retained_at kept pointers p / n) (sym size))) i) ∙ or_false taken)))
      (cases_eq block (retained_at kept pointers p / seg.size))

  pairs_more : length new.pairs ≡ length (filter (is_moved kept (spare_for kept pointers)) (take (at + 1) pointers))
  pairs_more =
      let more = one_more_moved kept pointers at p here in
      let was = loaded.pairs in
      ⊎_elim
      (λ (same : retained_at kept pointers p ≡ p.name).
      let none : bit (is_moved kept (spare_for kept pointers) p) ≡ 0 = ap (λ b. bit (not b)) (eq-eqb (retained_at kept pointers p) p.name same) in
      let e = ap (λ (l : List (ℕ × ℕ)). length l) (loads.own (sym same)) in
      omega (arith, more, was, none, e))
      (λ (away : retained_at kept pointers p ≢ p.name).
      let one : bit (is_moved kept (spare_for kept pointers) p) ≡ 1 = ap (λ b. bit (not b)) (ne_eqb (retained_at kept pointers p) p.name away) in
      let e = loads.more (λ same. away (sym same)) in
      omega (arith, more, was, one, e))
      (cases_eq (retained_at kept pointers p) p.name)

  pub loaded_more : HasLoaded kept pointers (at + 1) old new
  loaded_more = record {
    segment = record { first = loads.same_first ∙ loaded.segment.first; blocks = loads.same_blocks ∙ loaded.segment.blocks; size = loads.same_size ∙ loaded.segment.size };
    listed = λ i q less listed. ⊎_elim
        (λ same. let e = same_Some p q (sym here ∙ ap (slice_get pointers) (sym same) ∙ listed) in subst (λ (r : Pointer). held_at new (retained_at kept pointers r) ≡ held_for kept (retained_at kept pointers r) r) e held_now)
        (λ other. let before : i < at = omega (arith, less, other) in there_still (retained_at kept pointers q) (apart i q before listed) ∙ loaded.listed i q before listed)
        (cases_eq i at);
    only = λ q g held. ⊎_elim
        (λ same. (at, p, omega arith, here, sym same, ap (λ (x : Held). x.stamp) (sym (same_Some (record { tag = is_there.kept_page.tag; stamp = p.stamp }) g (sym here_now ∙ ap (λ n. held_at new n) (sym same) ∙ held)))))
        (λ other. let one = loaded.only q g (sym (there_still q other) ∙ held) in let lt = one.2 in (one.0, one.1, omega (arith, lt), one.3, one.4, one.5))
        (cases_eq q (retained_at kept pointers p));
    ways = λ i q less listed. ⊎_elim
        (λ same. let e = same_Some p q (sym here ∙ ap (slice_get pointers) (sym same) ∙ listed) in subst (λ (r : Pointer). resolve new.pairs r.name ≡ retained_at kept pointers r) e loads.leads)
        (λ other. let before : i < at = omega (arith, less, other) in loads.names q.name (names_differ kept copies pointers is can i at q p before listed here) ∙ loaded.ways i q before listed)
        (cases_eq i at);
    olds = λ name old_name. ⊎_elim
        (λ mine. (at, p, omega arith, here, sym mine.0, λ same. mine.1 (sym mine.0 ∙ sym same)))
        (λ was. let one = loaded.olds name was in let lt = one.2 in (one.0, one.1, omega (arith, lt), one.3, one.4, one.5))
        (loads.olds name old_name);
    live = ap live_in put ∙ one_more seg.held (retained_at kept pointers p) (record { tag = is_there.kept_page.tag; stamp = p.stamp }) inside (ap (held_at seg) (sym (same_page able.page able.place)) ∙ able.dead) ∙ ap (λ n. n + 1) loaded.live;
    pages = ap length put ∙ length-set seg.held (retained_at kept pointers p) (Some (record { tag = is_there.kept_page.tag; stamp = p.stamp })) ∙ loaded.pages;
    pairs = pairs_more;
    blocks = λ block from below. blocks_more block (loaded.blocks block from below);
    kept_before = λ block kept_now. loaded.kept_before block (⊎_elim
        (λ same. absurd (true≢false (sym kept_now ∙ (ap (is_kept new) (same ∙ ap (λ n. retained_at kept pointers p / n) (sym loads.same_size)) ∙ loads.whole.pages.in_use (retained_at kept pointers p) (record { tag = is_there.kept_page.tag; stamp = p.stamp }) here_now))))
        (λ other. sym (loads.others_kept block other) ∙ kept_now)
        (cases_eq block (retained_at kept pointers p / seg.size)));
    same_soiled = λ block. loads.same_soiled block ∙ loaded.same_soiled block;
    left = let a = loads.left in let b = loaded.left in omega (arith, a, b);
    erased = λ q taken. loaded.erased q (loads.erased q taken);
    copies = λ q taken. loaded.copies q (loads.copies q taken);
    whole = loads.whole;
    none_in_hand = loads.none_in_hand;
    unchanged = λ none. absurd (omega (arith, none));
    kept_block = λ k some. loads.kept_block some;
    kept_dead = λ dead. loads.kept_dead;
  }
    where
      same_page : (q : ℕ) → place_among kept (spare_for kept pointers) p ≡ Some q → q ≡ retained_at kept pointers p
      same_page q placed = same_Some q (retained_at kept pointers p) (sym placed ∙ placed_for kept copies pointers is can at p here)

-- no listed pointer has its place in the spare block
outside_is : (size block page : ℕ) → is_outside size (Some block) page ≡ true → page / size ≡ block → ⊥
outside_is size block page outside same = true≢false (sym outside ∙ ap not (is_number (page / size) block same))

spare_untaken : (kept : KeptPages) (spare : Option ℕ) (rest : List Pointer) (block : ℕ) → ((i : ℕ) (p : Pointer) → slice_get rest i ≡ Some p → (page : ℕ) × (place_among kept spare p ≡ Some page) × (page / kept.size ≡ block → ⊥)) → is_taken kept spare rest block ≡ false
spare_untaken kept spare [] block all = refl
spare_untaken kept spare (p ∷ rest) block all =
    let one = all zero p refl in
    let here : lies_in kept.size block (place_among kept spare p) ≡ false = ap (lies_in kept.size block) one.1 ∙ other_number (one.0 / kept.size) block one.2 in
    λ i. here i || spare_untaken kept spare rest block (λ j. all (suc j)) i

module _ (kept : KeptPages) (copies : BTreeMap ℕ Copies) (pointers : List Pointer) (is : AreKeptPages kept copies) (can : CanRetain kept pointers) (old seg : Physical) (loaded : HasLoaded kept pointers (length pointers) old seg) where
  taken_all : (block : ℕ) → is_taken kept (spare_for kept pointers) (take (length pointers) pointers) block ≡ is_taken kept (spare_for kept pointers) pointers block
  taken_all block = ap (λ (l : List Pointer). is_taken kept (spare_for kept pointers) l block) (take_all (length pointers) pointers (omega arith))

  -- each block without a place is Free, or waits for names
  pub counted : seg.free + waiting seg + needed_blocks kept pointers ≡ kept.count
  unfolding needed_blocks
  counted =
      let all = loaded.whole.numbers.counted in
      let range : seg.blocks ≡ kept.first + kept.count = loaded.segment.blocks in
      let first = loaded.segment.first in
      let many : seg.blocks - seg.first ≡ kept.count = omega (arith, range, first) in
      let same : count_by (is_kept seg) (range_with_len seg.first (seg.blocks - seg.first)) ≡ count_by (is_kept seg) (range_with_len kept.first kept.count) = (λ i. count_by (is_kept seg) (range_with_len (first i) (many i))) in
      let other : count_by (is_kept seg) (range_with_len kept.first kept.count) + needed_blocks kept pointers ≡ kept.count = count_other (is_taken kept (spare_for kept pointers) pointers) (is_kept seg) kept.first kept.count (λ block from below. loaded.blocks block from below ∙ ap not (taken_all block)) in
      omega (arith, all, same, other)

  -- a block is Free or waits, since the spare block is one that is kept
  pub some_kept : 1 ≤ seg.free + waiting seg
  unfolding spare_among needed_blocks
  some_kept = by (spare_for kept pointers) refl can.spare
    where
      by : (o : Option ℕ) → spare_for kept pointers ≡ o → IsSome o → 1 ≤ seg.free + waiting seg
      by None none some = absurd (true≢false (sym some))
      by (Some block) found some =
          let within = found_between _ kept.first kept.count block found in
          let untaken : is_taken kept (spare_for kept pointers) pointers block ≡ false = spare_untaken kept (spare_for kept pointers) pointers block (λ i p here. (
            retained_at kept pointers p,
            placed_for kept copies pointers is can i p here,
            outside_is kept.size block (retained_at kept pointers p) (ap (λ o. is_outside kept.size o (retained_at kept pointers p)) (sym found) ∙ (there_at kept copies pointers is can i p here).outside),
          )) in
          let few : needed_blocks kept pointers + 1 ≤ kept.count = count_all_but (is_taken kept (spare_for kept pointers) pointers) kept.first kept.count block within.0 within.1 untaken in
          let all = counted in
          omega (arith, few, all)

  -- what is live was found on its page
  pub found_in : (page : ℕ) (h : Held) → held_at seg page ≡ Some h → IsFoundIn kept seg page h
  found_in page h held =
      let one = loaded.only page h held in
      let t = there_at kept copies pointers is can one.0 one.1 one.3 in
      let value : held_for kept (retained_at kept pointers one.1) one.1 ≡ Some (record { tag = t.kept_page.tag; stamp = one.1.stamp }) = ap (option_map {U = Held} (λ (k : KeptPage). record { tag = k.tag; stamp = one.1.stamp })) t.found in
      let e : record { tag = t.kept_page.tag; stamp = one.1.stamp } ≡ h = same_Some (record { tag = t.kept_page.tag; stamp = one.1.stamp }) h (sym value ∙ sym (loaded.listed one.0 one.1 one.2 one.3) ∙ ap (held_at seg) one.4 ∙ held) in
      record {
        within = subst (InSegment seg) one.4 (in_segment kept copies (spare_for kept pointers) one.1 (retained_at kept pointers one.1) seg is loaded.segment t);
        found = ap (λ n. find (λ (k : KeptPage). k.page == n) kept.pages) (sym one.4) ∙ t.found
            ∙ (λ i. Some (record { page = (t.page_is ∙ one.4) i; stamp = (t.stamp ∙ ap (λ (x : Held). x.stamp) e) i; tag = ap (λ (x : Held). x.tag) e i }));
      }

  -- no two live pages share a stamp
  pub live_differ : (p q : ℕ) (g h : Held) → held_at seg p ≡ Some g → held_at seg q ≡ Some h → g.stamp ≡ h.stamp → p ≡ q
  live_differ p q g h p_held q_held same =
      let a = loaded.only p g p_held in
      let b = loaded.only q h q_held in
      let x = (same_pointer kept copies pointers is can a.0 b.0 a.1 b.1 a.3 b.3 (sym a.5 ∙ same ∙ b.5)).1 in
      sym a.4 ∙ ap (retained_at kept pointers) x ∙ b.4
