-- The room that a line has left once a file took a page of it.
use Rattle.std.proofs.Common.{◌≡◌, ◌≢◌, ◌⊎◌, inl, inr, ℕ, ◌+◌, ◌-◌, ◌<◌, ◌≤◌, ◌==◌, ◌&&◌, ◌||◌, Bool, true, false, not, cond, List, ◌∷◌, ◌++◌, filter, length, get_or, nat_le, nat_lt, Option, Some, None, is_some, unwrap_or, refl, sym, ap, subst, ◌∙◌, arith}
use Rattle.std.proofs.lemmas.Bool.{and_from, and_parts, both_ways, cases_eq, cases_lt, cond-false, cond-true, eq-eqb, eqb-true, le-leb, le-ltb, leb-true, lt-ltb, ne_eqb}
use Rattle.std.proofs.lemmas.List.{length-append}
use Rattle.std.proofs.lemmas.List.Elements.{filter-append}
use Rattle.std.specs.List.{list_any, range_with_len}
use Rattle.std.specs.Prelude.{slice_index}
use Rattle.nl_field.specs.Members.{Has}
use Rattle.nl_field.specs.declared.inode.InodeRec.{InodeRec}
use Rattle.nl_field.specs.declared.pointer.Pointer.{Pointer}
use Rattle.nl_inode.specs.Nodes.{Spaces, page_of_node}
use Rattle.nl_indirect.specs.Ranges.{address_of, range_of}
use Rattle.nl_indirect.specs.Storing.{BeginsRange}
use Rattle.nl_indirect.proofs.Fresh.{with-is-dirty}
use Rattle.nl_indirect.proofs.Pointing.{address-node, address-range}
use Rattle.nl_meta.specs.Nodes.{slots_of}
use Rattle.nl_meta.specs.Pages.{Pages, above, below, besides_0, is_dirty, most, with_address}
use Rattle.nl_meta.proofs.Lists.{range-member}
use Rattle.nl_meta.proofs.Rising.{some_equal, split}
use Rattle.nl_files.specs.Installing.{HasFree, TakesLeastAddress}
use Rattle.nl_calls_files.specs.LineNeeds.{free_addresses, gets_page, new_ranges}
use Rattle.nl_calls_files.proofs.Counts.{at_least_one, no_more, one_less, one_unmarked, some_mark}
use Rattle.nl_calls_files.specs.Taking.{HasRoomToTake, TakesPage, clean_at, clean_of}
use Rattle.nl_calls_files.proofs.DirtyRoom.{stays_dirty, still_dirty}

-- ---- an address among those that are dirty

abbrev is_other : ℕ → Bool
is_other a = not (a == 0)

-- one that is among them adds none
none_more : (v : ℕ) (xs : List ℕ) → list_any (λ a. a == v) xs ≡ true → length (besides_0 (with_address v xs)) ≤ length (besides_0 xs)
unfolding with_address
none_more v xs has = by (is_other v) refl
  where
    by : (b : Bool) → is_other v ≡ b → length (besides_0 (below v xs ++ v ∷ above v xs)) ≤ length (besides_0 xs)
    by b e =
        let f = ap length (filter-append is_other (below v xs) (v ∷ above v xs)) in
        let a = length-append (filter is_other (below v xs)) (filter is_other (v ∷ above v xs)) in
        let s = split is_other v xs in
        let h = few b e in
        omega (arith, f, a, s, h)
      where
        few : (b : Bool) → is_other v ≡ b → length (filter is_other (v ∷ above v xs)) ≤ length (filter is_other (above v xs)) + length (filter (λ a. is_other a && a == v) xs)
        few true e = let n = ap (λ b. length (cond b (v ∷ filter is_other (above v xs)) (filter is_other (above v xs)))) e in let one = some_equal is_other v xs has e in omega (arith, n, one)
        few false e = let n = ap (λ b. length (cond b (v ∷ filter is_other (above v xs)) (filter is_other (above v xs)))) e in omega (arith, n)

at_most_one_more : (v : ℕ) (xs : List ℕ) → length (besides_0 (with_address v xs)) ≤ length (besides_0 xs) + 1
unfolding with_address
at_most_one_more v xs =
    let f = ap length (filter-append is_other (below v xs) (v ∷ above v xs)) in
    let a = length-append (filter is_other (below v xs)) (filter is_other (v ∷ above v xs)) in
    let s = split is_other v xs in
    let h = few (is_other v) in
    omega (arith, f, a, s, h)
  where
    few : (b : Bool) → length (cond b (v ∷ filter is_other (above v xs)) (filter is_other (above v xs))) ≤ length (filter is_other (above v xs)) + 1
    few true = omega arith
    few false = omega arith

-- as many pages become dirty as were clean
pub dirtied : (p : Pages) (v : ℕ) → length (besides_0 (with_address v p.dirty)) ≤ length (besides_0 p.dirty) + clean_at p v
dirtied p v = by (is_dirty p v) refl
  where
    by : (b : Bool) → is_dirty p v ≡ b → length (besides_0 (with_address v p.dirty)) ≤ length (besides_0 p.dirty) + clean_at p v
    by true e = let few = none_more v p.dirty e in omega (arith, few)
    by false e = let few = at_most_one_more v p.dirty in let one : clean_at p v ≡ 1 = cond-false (is_dirty p v) 0 1 e in omega (arith, few, one)

-- ---- clean pages

clean_few : (p : Pages) (v : ℕ) → clean_at p v ≤ 1
clean_few p v = by (is_dirty p v)
  where
    by : (b : Bool) → cond b 0 1 ≤ 1
    by true = omega arith
    by false = omega arith

clean_dirty : (p : Pages) (v : ℕ) → is_dirty p v ≡ true → clean_at p v ≡ 0
clean_dirty p v e = cond-true (is_dirty p v) 0 1 e

clean_later : (p q : Pages) (v : ℕ) → (is_dirty p v ≡ true → is_dirty q v ≡ true) → clean_at q v ≤ clean_at p v
clean_later p q v later = by (is_dirty p v) refl
  where
    by : (b : Bool) → is_dirty p v ≡ b → clean_at q v ≤ clean_at p v
    by true e = let none : clean_at q v ≡ 0 = clean_dirty q v (later e) in omega (arith, none)
    by false e = let one : clean_at p v ≡ 1 = cond-false (is_dirty p v) 0 1 e in let few = clean_few q v in omega (arith, one, few)

clean_low : (p : Pages) (rec : InodeRec) (j : ℕ) → j < 8 → clean_of p rec j ≡ 0
clean_low p rec j low = cond-true (nat_lt j 8) 0 (cond (address_of rec j == 0) 1 (clean_at p (address_of rec j))) (lt-ltb j 8 low)

clean_new : (p : Pages) (rec : InodeRec) (j : ℕ) → 8 ≤ j → address_of rec j ≡ 0 → clean_of p rec j ≡ 1
clean_new p rec j high z =
    cond-false (nat_lt j 8) 0 (cond (address_of rec j == 0) 1 (clean_at p (address_of rec j))) (le-ltb j 8 high) ∙ cond-true (address_of rec j == 0) 1 (clean_at p (address_of rec j)) (eq-eqb (address_of rec j) 0 z)

clean_there : (p : Pages) (rec : InodeRec) (j : ℕ) → 8 ≤ j → address_of rec j ≢ 0 → clean_of p rec j ≡ clean_at p (address_of rec j)
clean_there p rec j high far =
    cond-false (nat_lt j 8) 0 (cond (address_of rec j == 0) 1 (clean_at p (address_of rec j))) (le-ltb j 8 high) ∙ cond-false (address_of rec j == 0) 1 (clean_at p (address_of rec j)) (ne_eqb (address_of rec j) 0 far)

clean_most : (p : Pages) (rec : InodeRec) (j : ℕ) → clean_of p rec j ≤ 1
clean_most p rec j = by (cases_lt j 8)
  where
    high : 8 ≤ j → (address_of rec j ≡ 0) ⊎ (address_of rec j ≢ 0) → clean_of p rec j ≤ 1
    high up (inl z) = let one = clean_new p rec j up z in omega (arith, one)
    high up (inr far) = let at = clean_there p rec j up far in let few = clean_few p (address_of rec j) in omega (arith, at, few)

    by : (j < 8) ⊎ (8 ≤ j) → clean_of p rec j ≤ 1
    by (inl low) = let none = clean_low p rec j low in omega (arith, none)
    by (inr up) = high up (cases_eq (address_of rec j) 0)

same_address : (rec : InodeRec) (i j : ℕ) → 8 ≤ i → 8 ≤ j → range_of i ≡ range_of j → address_of rec i ≡ address_of rec j
same_address rec i j up also e = address-range rec i up ∙ ap (λ (r : ℕ). slice_index (slots_of rec) r) e ∙ sym (address-range rec j also)

-- of two indexes of one range
same_clean : (p : Pages) (rec : InodeRec) (i j : ℕ) → 8 ≤ i → 8 ≤ j → range_of i ≡ range_of j → clean_of p rec i ≡ clean_of p rec j
same_clean p rec i j up also e = by (cases_eq (address_of rec j) 0)
  where
    by : (address_of rec j ≡ 0) ⊎ (address_of rec j ≢ 0) → clean_of p rec i ≡ clean_of p rec j
    by (inl z) = clean_new p rec i up (same_address rec i j up also e ∙ z) ∙ sym (clean_new p rec j also z)
    by (inr far) =
        clean_there p rec i up (λ z. far (sym (same_address rec i j up also e) ∙ z)) ∙ ap (clean_at p) (same_address rec i j up also e) ∙ sym (clean_there p rec j also far)

-- ---- indexes of a line

-- An index at most 16 behind the first one is of the node, or of the range of the first, or of that of the last.
pub data Lies (first i : ℕ) : Type 0 where
  in_node : i < 8 → Lies first i
  with_first : 8 ≤ i → 8 ≤ first → range_of first ≡ range_of i → Lies first i
  with_last : 8 ≤ i → 8 ≤ first + 16 → range_of (first + 16) ≡ range_of i → Lies first i

pub lies : (first i : ℕ) → first ≤ i → i ≤ first + 16 → Lies first i
lies first i from near = by (cases_lt i 8)
  where
    upper : 8 ≤ i → (first < 8) ⊎ (8 ≤ first) → (range_of (first + 16) ≡ range_of i) ⊎ (range_of (first + 16) ≢ range_of i) → Lies first i
    upper up short (inl e) = with_last up (omega (arith, up, near)) e
    upper up (inl low) (inr far) = absurd (far (omega (arith, up, low, near)))
    upper up (inr high) (inr far) = with_first up high (omega (arith, up, high, near, from, far))

    by : (i < 8) ⊎ (8 ≤ i) → Lies first i
    by (inl low) = in_node low
    by (inr up) = upper up (cases_lt first 8) (cases_eq (range_of (first + 16)) (range_of i))

-- how many pages are dirty, or may become so by a line from this index on
abbrev pub reserved : Pages → InodeRec → ℕ → ℕ → ℕ
reserved p rec n first = length (besides_0 p.dirty) + clean_at p (page_of_node n) + clean_of p rec first + clean_of p rec (first + 16)

pub few_reserved : (p : Pages) (rec : InodeRec) (n first : ℕ) → length (besides_0 p.dirty) + 4 ≤ most → reserved p rec n first < most
few_reserved p rec n first few =
    let a = clean_few p (page_of_node n) in
    let b = clean_most p rec first in
    let c = clean_most p rec (first + 16) in
    omega (arith, few, a, b, c)

pub room_to_take : (p : Pages) (rec : InodeRec) (n first i : ℕ) → reserved p rec n first < most → Lies first i → HasRoomToTake p rec n i
room_to_take p rec n first i few (in_node low) = let none = clean_low p rec i low in omega (arith, few, none)
room_to_take p rec n first i few (with_first up high e) = let same = same_clean p rec first i high up e in omega (arith, few, same)
room_to_take p rec n first i few (with_last up high e) = let same = same_clean p rec (first + 16) i high up e in omega (arith, few, same)

-- ---- the first page of a range

-- the index lies in the range
abbrev lies_within : ℕ → ℕ → Bool
lies_within range i = nat_le 8 i && (range_of i == range)

pub begins_gets : (rec : InodeRec) (index : ℕ) (to : Pointer) (rest : List ℕ) → BeginsRange rec index (Some to) → gets_page rec (index ∷ rest) (range_of index) ≡ true
begins_gets rec index to rest b =
    let here : lies_within (range_of index) index ≡ true = and_from (nat_le 8 index) (range_of index == range_of index) (le-leb 8 index b.in_range) (eq-eqb (range_of index) (range_of index) refl) in
    and_from (slice_index (slots_of rec) (range_of index) == 0) (list_any (lies_within (range_of index)) (index ∷ rest))
    (eq-eqb (slice_index (slots_of rec) (range_of index)) 0 (sym (address-range rec index b.in_range) ∙ b.no_page))
    (ap (λ c. c || list_any (lies_within (range_of index)) rest) here)

-- a new range finds a free address
pub has_free : (rec : InodeRec) (index : ℕ) (to : Pointer) (rest : List ℕ) (s : Spaces) → index < 4104 → new_ranges rec (index ∷ rest) ≤ free_addresses s → BeginsRange rec index (Some to) → HasFree s
has_free rec index to rest s within enough b =
    let one = at_least_one (gets_page rec (index ∷ rest)) (range_with_len 0 16) (range_of index) (range-member (range_of index) 0 16 (omega arith) (omega (arith, within))) (begins_gets rec index to rest b) in
    let k = some_mark s.pool (omega (arith, one, enough)) in
    let at : s.first + k.0 - s.first ≡ k.0 = omega arith in
    (s.first + k.0, and_from (nat_le s.first (s.first + k.0)) (get_or s.pool (s.first + k.0 - s.first) false) (le-leb s.first (s.first + k.0) (omega arith)) (ap (λ (j : ℕ). get_or s.pool j false) at ∙ k.1))

-- ---- a page is taken

module _ (n index : ℕ) (to : Pointer) (size : ℕ) (was is : InodeRec) (old new : Pages) (s t : Spaces) (taken : TakesPage n index to size was is old new s t) (pool : 67 ≤ s.first) where
  abbrev mid : Pages
  mid = taken.between

  same_slots : slots_of is ≡ slots_of taken.installed
  same_slots = ap (λ (r : InodeRec). r.addresses) taken.sized

  same_as_put : (j : ℕ) → address_of is j ≡ address_of taken.installed j
  same_as_put j = ap (λ (r : InodeRec). address_of r j) taken.sized

  put_dirty : new.dirty ≡ with_address (page_of_node n) mid.dirty
  put_dirty = ap (λ (p : Pages). p.dirty) taken.puts.page

  dirty_on : (v : ℕ) → is_dirty mid v ≡ true → is_dirty new v ≡ true
  dirty_on v e = ap (λ (xs : List ℕ). list_any (λ a. a == v) xs) put_dirty ∙ still_dirty (page_of_node n) mid.dirty v e

  dirty_then : (v : ℕ) → is_dirty old v ≡ true → is_dirty new v ≡ true
  dirty_then v e = dirty_on v (stays_dirty index to was taken.installed old mid s t taken.installs v e)

  node_dirty : is_dirty new (page_of_node n) ≡ true
  node_dirty = ap (λ (xs : List ℕ). list_any (λ a. a == page_of_node n) xs) put_dirty ∙ with-is-dirty (page_of_node n) mid.dirty

  fresh_is : (a : ℕ) → taken.installs.fresh ≡ Some a → TakesLeastAddress (Some a) s t
  fresh_is a e = subst (λ (o : Option ℕ). TakesLeastAddress o s t) e taken.installs.taken

  fresh_far : (a : ℕ) → taken.installs.fresh ≡ Some a → a ≢ 0
  fresh_far a e z = let low = leb-true s.first a (and_parts (nat_le s.first a) _ (fresh_is a e).0.free_itself).0 in omega (arith, low, pool, z)

  -- the page of pointers of the index, which is written
  abbrev own : ℕ
  own = address_of taken.installed index

  pub record Written : Type 0 where
    pub far : own ≢ 0
    pub dirty : is_dirty mid (own) ≡ true
    pub count : length (besides_0 mid.dirty) ≤ length (besides_0 old.dirty) + clean_of old was index

  written : 8 ≤ index → Written
  written up = by taken.installs.fresh refl
    where
      by : (o : Option ℕ) → taken.installs.fresh ≡ o → Written
      by None e =
          let had : address_of was index ≢ 0 = λ z. both_ways (is_some taken.installs.fresh) (ap is_some e) (taken.installs.begins.1 (record { in_range = up; no_page = z; pointer = refl })) in
          let same : own ≡ address_of was index = taken.installs.stores.answered ∙ ap (λ (o : Option ℕ). unwrap_or o (address_of was index)) e in
          let far : own ≢ 0 = λ z. had (sym same ∙ z) in
          let page = taken.installs.stores.pages.written far e in
          let few = dirtied old own in
          let clean = clean_there old was index up had ∙ ap (clean_at old) (sym same) in
          let more = ap (λ (p : Pages). length (besides_0 p.dirty)) page in
          record {
            far = far;
            dirty = ap (λ (p : Pages). is_dirty p own) page ∙ with-is-dirty own old.dirty;
            count = omega (arith, few, clean, more);
          }
      by (Some a) e =
          let begins = taken.installs.begins.0 (ap is_some e) in
          let same : own ≡ a = taken.installs.stores.answered ∙ ap (λ (o : Option ℕ). unwrap_or o (address_of was index)) e in
          let one = clean_new old was index up begins.no_page in
          let more = taken.installs.stores.pages.one_more in
          record {
            far = λ z. fresh_far a e (sym same ∙ z);
            dirty = ap (λ (xs : List ℕ). list_any (λ b. b == own) xs) (taken.installs.stores.pages.begun (ap is_some e)).dirty ∙ with-is-dirty own old.dirty;
            count = omega (arith, one, more);
          }

  -- ---- what may become dirty

  same_range : (r : ℕ) → (8 ≤ index → r ≢ range_of index) → slice_index (slots_of is) r ≡ slice_index (slots_of was) r
  same_range r apart = ap (λ (xs : List ℕ). slice_index xs r) same_slots ∙ taken.installs.stores.record_kept.addresses r apart

  -- nothing more of another range
  clean_other : (j : ℕ) → 8 ≤ j → (8 ≤ index → range_of j ≢ range_of index) → clean_of new is j ≤ clean_of old was j
  clean_other j up apart = by (cases_eq (address_of was j) 0)
    where
      same : address_of is j ≡ address_of was j
      same = address-range is j up ∙ same_range (range_of j) apart ∙ sym (address-range was j up)

      by : (address_of was j ≡ 0) ⊎ (address_of was j ≢ 0) → clean_of new is j ≤ clean_of old was j
      by (inl z) = let one = clean_new old was j up z in let most = clean_most new is j in omega (arith, one, most)
      by (inr far) =
          let a = clean_there old was j up far in
          let b = clean_there new is j up (λ z. far (sym same ∙ z)) ∙ ap (clean_at new) same in
          let c = clean_later old new (address_of was j) (dirty_then (address_of was j)) in
          omega (arith, a, b, c)

  -- and nothing of its own
  clean_own : (j : ℕ) → 8 ≤ index → 8 ≤ j → range_of j ≡ range_of index → clean_of new is j ≡ 0
  clean_own j up also e =
      let w = written up in
      let same : address_of is j ≡ address_of taken.installed index = same_address is j index also up e ∙ same_as_put index in
      clean_there new is j also (λ z. w.far (sym same ∙ z)) ∙ ap (clean_at new) same ∙ clean_dirty new (address_of taken.installed index) (dirty_on (address_of taken.installed index) w.dirty)

  clean_falls : (j : ℕ) → clean_of new is j ≤ clean_of old was j
  clean_falls j = low (cases_lt j 8)
    where
      range : 8 ≤ j → (index < 8) ⊎ (8 ≤ index) → (range_of j ≡ range_of index) ⊎ (range_of j ≢ range_of index) → clean_of new is j ≤ clean_of old was j
      range also (inl down) o = clean_other j also (λ up. absurd (let off : ⊥ = omega (arith, up, down) in off))
      range also (inr up) (inl e) = let none = clean_own j up also e in omega (arith, none)
      range also (inr up) (inr apart) = clean_other j also (λ _. apart)

      low : (j < 8) ⊎ (8 ≤ j) → clean_of new is j ≤ clean_of old was j
      low (inl down) = let none = clean_low new is j down in omega (arith, none)
      low (inr also) = range also (cases_lt index 8) (cases_eq (range_of j) (range_of index))

  -- the page of the node is dirty by now
  node_part : length (besides_0 new.dirty) + clean_at new (page_of_node n) ≤ length (besides_0 mid.dirty) + clean_at old (page_of_node n)
  node_part =
      let few = dirtied mid (page_of_node n) in
      let more = ap (λ (xs : List ℕ). length (besides_0 xs)) put_dirty in
      let none = clean_dirty new (page_of_node n) node_dirty in
      let later = clean_later old mid (page_of_node n) (stays_dirty index to was taken.installed old mid s t taken.installs (page_of_node n)) in
      omega (arith, few, more, none, later)

  pub reserved_falls : (first : ℕ) → Lies first index → reserved new is n first ≤ reserved old was n first
  reserved_falls first (in_node low) =
      let a = node_part in
      let b = clean_falls first in
      let c = clean_falls (first + 16) in
      let none = address-node taken.installed index low in
      let same = ap (λ (p : Pages). length (besides_0 p.dirty)) (taken.installs.stores.pages.same none) in
      omega (arith, a, b, c, same)
  reserved_falls first (with_first up high e) =
      let a = node_part in
      let w = (written up).count in
      let b = clean_own first up high e in
      let c = clean_falls (first + 16) in
      let d = same_clean old was first index high up e in
      omega (arith, a, w, b, c, d)
  reserved_falls first (with_last up high e) =
      let a = node_part in
      let w = (written up).count in
      let b = clean_own (first + 16) up high e in
      let c = clean_falls first in
      let d = same_clean old was (first + 16) index high up e in
      omega (arith, a, w, b, c, d)

  -- ---- ranges without a page, and free addresses

  module _ (rest : List ℕ) where
    gets : (r : ℕ) → gets_page is rest r ≡ true → gets_page was (index ∷ rest) r ≡ true
    gets r e = by (cases_lt index 8) (cases_eq r (range_of index))
      where
        parts : ((slice_index (slots_of is) r == 0) ≡ true) × (list_any (lies_within r) rest ≡ true)
        parts = and_parts (slice_index (slots_of is) r == 0) (list_any (lies_within r) rest) e

        lies_in : list_any (lies_within r) (index ∷ rest) ≡ true
        lies_in = or_second (lies_within r index) (list_any (lies_within r) rest) parts.1
          where
            or_second : (a b : Bool) → b ≡ true → (a || b) ≡ true
            or_second true b h = refl
            or_second false b h = h

        from : (8 ≤ index → r ≢ range_of index) → gets_page was (index ∷ rest) r ≡ true
        from apart = and_from (slice_index (slots_of was) r == 0) (list_any (lies_within r) (index ∷ rest)) (ap (λ a. a == 0) (sym (same_range r apart)) ∙ parts.0) lies_in

        by : (index < 8) ⊎ (8 ≤ index) → (r ≡ range_of index) ⊎ (r ≢ range_of index) → gets_page was (index ∷ rest) r ≡ true
        by (inl down) o = from (λ up. absurd (let off : ⊥ = omega (arith, up, down) in off))
        by (inr up) (inr apart) = from (λ _. apart)
        by (inr up) (inl here) =
            let zero_ = eqb-true (slice_index (slots_of is) r) 0 parts.0 in
            absurd ((written up).far (sym (same_as_put index) ∙ address-range is index up ∙ ap (λ (k : ℕ). slice_index (slots_of is) k) (sym here) ∙ zero_))

    -- where the range gets its first page
    module _ (begins : BeginsRange was index (Some to)) (within : index < 4104) where
      in_ranges : Has (range_with_len 0 16) (range_of index)
      in_ranges = range-member (range_of index) 0 16 (omega arith) (omega (arith, within))

      gone : gets_page is rest (range_of index) ≡ false
      gone =
          let far = λ (z : slice_index (slots_of is) (range_of index) ≡ 0). (written begins.in_range).far (sym (same_as_put index) ∙ address-range is index begins.in_range ∙ z) in
          ap (λ b. b && list_any (lies_within (range_of index)) rest) (ne_eqb (slice_index (slots_of is) (range_of index)) 0 far)

    pub gets_fewer : new_ranges is rest ≤ new_ranges was (index ∷ rest)
    gets_fewer = no_more (gets_page is rest) (gets_page was (index ∷ rest)) gets (range_with_len 0 16)

    pub pool_on : index < 4104 → new_ranges was (index ∷ rest) ≤ free_addresses s → new_ranges is rest ≤ free_addresses t
    pool_on within enough = by taken.installs.fresh refl
      where
        by : (o : Option ℕ) → taken.installs.fresh ≡ o → new_ranges is rest ≤ free_addresses t
        by None e =
            let same : t ≡ s = subst (λ (o : Option ℕ). TakesLeastAddress o s t) e taken.installs.taken in
            let free = ap free_addresses same in
            let fewer = gets_fewer in
            omega (arith, free, fewer, enough)
        by (Some a) e =
            let begins = taken.installs.begins.0 (ap is_some e) in
            let is_ = fresh_is a e in
            let had = (and_parts (nat_le s.first a) (get_or s.pool (a - s.first) false) is_.0.free_itself).1 in
            let taken_one = one_unmarked s.pool t.pool (a - s.first) is_.1.pool.count had is_.1.pool.at is_.1.pool.others in
            let fewer = one_less (gets_page is rest) (gets_page was (index ∷ rest)) gets (range_with_len 0 16) (range_of index) (in_ranges begins within) (gone begins within) (begins_gets was index to rest begins) in
            omega (arith, taken_one, fewer, enough)
