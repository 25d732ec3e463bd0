-- What holds of each device whose tables stand.
use Rattle.std.proofs.Common.{◌≡◌, inl, inr, ℕ, ◌+◌, ◌-◌, ◌*◌, ◌/◌, ◌<◌, ◌≤◌, Bool, true, false, cond, List, [], Option, Some, None, option_map, refl, sym, ◌∙◌, ap, subst, arith}
use Rattle.std.specs.Prelude.{◌≢◌, slice_index_or}
use Rattle.std.proofs.Math.Nat.{div-mul-le_self, lt-div-mul-add}
use Rattle.std.proofs.lemmas.List.{get_or_past}
use Rattle.std.proofs.lemmas.Option.{none-some, same_Some}
use Rattle.nl_field.specs.Live.{LiveEntry}
use Rattle.nl_field.specs.Page.{Image, page_at}
use Rattle.nl_iface.specs.Device.{IsDeviceState, entry_with, state_of}
use Rattle.nl_iface.specs.Left.{HoldsLive, HoldsStamp, LeavesPages}
use Rattle.nl_iface.specs.Names.{IsNames, LivePage}
use Rattle.nl_iface.specs.Space.{IsSpace}
use Rattle.nl_iface.specs.Stored.{NamedPage, NothingStoredBeyond, ShowsMap, Stored, Value}
use Rattle.nl_nand.specs.declared.geometry.Geometry.{Geometry}
use Rattle.nl_pagemap.specs.Mapped.{Mapped, bytes_at, bytes_by, last_block, named_at, named_by, named_on, names_of, page_live, page_of, space_of, stored_in}
use Rattle.nl_pagemap.specs.Stands.{IsEntry, IsMapped}
use Rattle.nl_pagemap_names.specs.Table.{entry_at, entry_in, live_at, live_in}
use Rattle.nl_pagemap_names.specs.declared.entry.Entry.{Entry}
use Rattle.nl_pseg_pages.specs.Pages.{main_of}
use Rattle.nl_vseg.specs.Places.{map_of, place_of, stamp_for, stamp_in_place, value_at}
use Rattle.nl_vseg.specs.declared.place.Place.{Place}

-- what a mapped option was
pub was_some : {X Y : Type 0} (f : X → Y) (o : Option X) (y : Y) → option_map f o ≡ Some y → (x : X) × (o ≡ Some x) × (f x ≡ y)
was_some f None y is = absurd (none-some y is)
was_some f (Some x) y is = (x, refl, same_Some (f x) y is)

pub at_most_now : {m now : ℕ} → m ≡ now → m ≤ now
at_most_now {m} {now} is = omega (arith, is)

-- ---- addresses

stamp_of_value : (image : Image) (place : Option Place) → option_map (λ (x : Value). x.0) (value_at image place) ≡ stamp_in_place place
stamp_of_value image None = refl
stamp_of_value image (Some place) = refl

pub stamp_in_map : (places : List (Option Place)) (image : Image) (v : ℕ)
    → option_map (λ (x : Value). x.0) (map_of places image v) ≡ stamp_for places v
stamp_in_map places image v = stamp_of_value image (place_of places v)

place_beyond : {tells : Type 0} {geometry : Geometry} {s : Mapped} → IsMapped tells geometry s → (v : ℕ) → s.shape.vaddrs ≤ v
    → place_of s.vseg.places v ≡ None
place_beyond {tells} {geometry} {s} f v past = get_or_past s.vseg.places v None (let n = f.virtual.addresses in omega (arith, n, past))

pub none_from : {tells : Type 0} {geometry : Geometry} {s : Mapped} → IsMapped tells geometry s → (v : ℕ) → s.shape.vaddrs ≤ v
    → stamp_for s.vseg.places v ≡ None
none_from f v past = ap stamp_in_place (place_beyond f v past)

pub none_stored : {tells : Type 0} {geometry : Geometry} {s : Mapped} → IsMapped tells geometry s
    → NothingStoredBeyond s.shape.vaddrs (stored_in s)
none_stored {tells} {geometry} {s} f v past = ap (λ (o : Option Place). value_at s.image o) (place_beyond f v past)

pub shows_map : {tells : Type 0} {geometry : Geometry} {s : Mapped} → IsMapped tells geometry s
    → ShowsMap s.shape.vaddrs (λ v. map_of s.vseg.places s.image v) (λ v x. ⊥) (stored_in s)
shows_map f v below = inl refl

-- ---- pages under numbers

-- an entry that is in use is what the number was last given
pub live_entry : (entries : List (Option Entry)) (used : List Bool) (n : ℕ) (e : Entry) → live_in entries used n ≡ Some e
    → entry_in entries n ≡ Some e
live_entry entries used n e is = by (slice_index_or used n false) is
  where
    by : (b : Bool) → cond b (entry_in entries n) None ≡ Some e → entry_in entries n ≡ Some e
    by true live = live
    by false live = absurd (none-some e live)

-- a live page and what its number was given
pub given_as : (s : Mapped) (n : ℕ) (page : LivePage) → page_live s.table n ≡ Some page
    → (e : Entry) × (entry_at s.table n ≡ Some e) × (page_of e ≡ page)
given_as s n page live =
    let w = was_some page_of (live_at s.table n) page live in
    (w.0, live_entry s.table.entries s.table.used n w.0 w.1, w.2)

entry_was : (place : ℕ) (bytes : List ℕ) (o : Option LivePage) (e : LiveEntry) → entry_with place bytes o ≡ Some e
    → (page : LivePage) × (o ≡ Some page) × (page.stamp ≡ e.stamp) × (e.place ≡ place)
entry_was place bytes None e is = absurd (none-some e is)
entry_was place bytes (Some page) e is =
    let same = same_Some (record { tag = page.tag; stamp = page.stamp; bytes = bytes; place = place }) e is in
    (page, refl, ap (λ (x : LiveEntry). x.stamp) same, sym (ap (λ (x : LiveEntry). x.place) same))

pub is_a_state : {tells : Type 0} {geometry : Geometry} {s : Mapped} → IsMapped tells geometry s
    → IsDeviceState s.shape.pages (state_of (names_of s) (λ n. bytes_at s n) (λ v. map_of s.vseg.places s.image v) s.next)
is_a_state {tells} {geometry} {s} f = record {
  in_place = λ p e live. (entry_was p (bytes_at s p) (page_live s.table p) e live).3;
  stamps_differ = λ p q d e live_p live_q same.
      let a = entry_was p (bytes_at s p) (page_live s.table p) d live_p in
      let b = entry_was q (bytes_at s q) (page_live s.table q) e live_q in
      let x = given_as s p a.0 a.1 in
      let y = given_as s q b.0 b.1 in
      let first = ap (λ (l : LivePage). l.stamp) x.2 in
      let second = ap (λ (l : LivePage). l.stamp) y.2 in
      f.differ p q x.0 y.0 x.1 y.1 (first ∙ (a.2 ∙ (same ∙ (sym b.2 ∙ sym second))));
  own = λ p e live. refl;
  old_names_differ = λ i j d less within. absurd (omega (arith, within));
  no_chain = tt;
  to_live = tt;
  one_callback = tt;
  told = tt;
  one_number = tt;
  few_pairs = omega arith;
}

is_space : {tells : Type 0} {geometry : Geometry} {s : Mapped} → IsMapped tells geometry s → IsSpace (space_of s)
is_space {tells} {geometry} {s} f =
    let free = f.free in
    let some = f.bounds.least_pages in
    let blocks : s.free - 1 ≡ s.room / s.shape.pages = omega (arith, free) in
    let least : s.room / s.shape.pages * s.shape.pages ≤ s.room = div-mul-le_self s.room s.shape.pages in
    let most : s.room < s.room / s.shape.pages * s.shape.pages + s.shape.pages = lt-div-mul-add (omega (arith, some)) in
    record {
      pairs = omega arith;
      victim = omega arith;
      left_in = omega arith;
      busy = λ hand. omega arith;
      waiting = omega arith;
      keeps = omega arith;
      kept = omega arith;
      low = λ lands. omega arith;
      high = λ none. absurd (omega (arith, none));
      dead = λ none idle. absurd (omega (arith, idle));
      room = subst (λ n. n * s.shape.pages ≤ s.room) (sym blocks) least;
      room_ends = subst (λ n. s.room ≤ n * s.shape.pages + s.shape.pages) (sym blocks) (omega (arith, most));
    }

-- where the page of a live number is
pub live_is : {tells : Type 0} {geometry : Geometry} {s : Mapped} → IsMapped tells geometry s → (n : ℕ) (page : LivePage)
    → page_live s.table n ≡ Some page
    → (e : Entry) × (page_of e ≡ page) × (entry_at s.table n ≡ Some e) × IsEntry s.shape s.untried s.table.last s.next n e
live_is {tells} {geometry} {s} f n page live = let w = given_as s n page live in (w.0, w.2, w.1, f.entries n w.0 w.1)

pub is_names : {tells : Type 0} {geometry : Geometry} {s : Mapped} → IsMapped tells geometry s → IsNames s.shape s.next (names_of s)
is_names {tells} {geometry} {s} f = record {
  space = is_space f;
  block = refl;
  all = refl;
  pairs = refl;
  counted = refl;
  from_first = λ n page live. (live_is f n page live).3.from;
  to_last = λ n page live.
      let below = (live_is f n page live).3.below in
      let last = f.numbers.last in
      let some = f.bounds.least_pages in
      omega (arith, below, last, some);
  below = λ n page live.
      let w = live_is f n page live in
      let stamp = w.3.stamp in
      let same = ap (λ (x : LivePage). x.stamp) w.1 in
      omega (arith, stamp, same);
  given = λ c none. absurd none;
  marked = λ n t is. absurd (none-some t is);
}

-- the page of each live number holds it
pub holds_live : {tells : Type 0} {geometry : Geometry} {s : Mapped} → IsMapped tells geometry s → tells
    → HoldsLive (λ n. page_live s.table n) (λ n. bytes_at s n) (stored_in s)
holds_live {tells} {geometry} {s} f t n page live =
    let w = given_as s n page live in
    ap (λ (o : Option Entry). named_by s.image o) w.1
    ∙ (ap named_on ((f.medium t).holds n w.0 w.1)
    ∙ (λ i. Some (record { tag = (w.2 i).tag; stamp = (w.2 i).stamp; bytes = bytes_by s.image ((sym w.1) i) })))

-- No number of the last block is in use: so that block can be done without, where each number's page is held.
pub leaves_in : {tells : Type 0} {geometry : Geometry} {s : Mapped} → IsMapped tells geometry s → (c : Stored)
    → HoldsLive (λ n. page_live s.table n) (λ n. bytes_at s n) c → LeavesPages s.shape (names_of s) (λ n. bytes_at s n) c
leaves_in {tells} {geometry} {s} f c holds =
    let b = f.bounds in
    let blocks = b.segments in
    let fit = b.data_pages in
    let pages = b.least_pages in
    let physical : 1 ≤ s.shape.pblocks = some_physical s.shape.pblocks s.shape.pages s.shape.cap fit pages in
    record {
      spare = last_block s.shape;
      from = omega (arith, blocks, physical);
      below = omega (arith, blocks, physical);
      held = λ n page live. (n, off n page live, holds n page live);
      own = λ name page live. inr (stamped name page live);
      stale = [];
      few = omega arith;
      at_names = λ name page live. inl (stamped name page live);
    }
  where
    some_physical : (n size cap : ℕ) → cap + 4 * size + 160 ≡ n * size → 32 ≤ size → 1 ≤ n
    some_physical ℕ.zero size cap fit some = absurd (omega (arith, fit))
    some_physical (ℕ.suc n) size cap fit some = omega arith

    stamped : (name : ℕ) (page : LivePage) → page_live s.table name ≡ Some page → HoldsStamp c name page.stamp
    stamped name page live = (record { tag = page.tag; stamp = page.stamp; bytes = bytes_at s name }, holds name page live, refl)

    off : (n : ℕ) (page : LivePage) → page_live s.table n ≡ Some page → n / s.shape.pages ≢ last_block s.shape
    off n page live same =
        let below = (live_is f n page live).3.below in
        let ends = f.numbers.last in
        let some = f.bounds.least_pages in
        let least : n / s.shape.pages * s.shape.pages ≤ n = div-mul-le_self n s.shape.pages in
        let last : (s.shape.blocks - 1) * s.shape.pages ≤ n = subst (λ k. k * s.shape.pages ≤ n) same least in
        let many = f.bounds.least_blocks in
        let all : s.shape.blocks * s.shape.pages ≡ (s.shape.blocks - 1) * s.shape.pages + s.shape.pages =
        one_more s.shape.blocks s.shape.pages (omega (arith, many)) in
        absurd (omega (arith, below, ends, last, all))
      where
        one_more : (n m : ℕ) → 1 ≤ n → n * m ≡ (n - 1) * m + m
        one_more ℕ.zero m some = absurd (omega (arith, some))
        one_more (ℕ.suc n) m some =
            let less : ℕ.suc n - 1 ≡ n = omega arith in
            subst (λ k. ℕ.suc n * m ≡ k * m + m) (sym less) (omega arith)

pub leaves_pages : {tells : Type 0} {geometry : Geometry} {s : Mapped} → IsMapped tells geometry s → tells
    → LeavesPages s.shape (names_of s) (λ n. bytes_at s n) (stored_in s)
leaves_pages {tells} {geometry} {s} f t = leaves_in f (stored_in s) (holds_live f t)

-- each page that is stored was written under a stamp below the next
pub named_below : {tells : Type 0} {geometry : Geometry} {s : Mapped} → IsMapped tells geometry s → tells → (n : ℕ) (page : NamedPage)
    → named_at s n ≡ Some page → page.stamp + 1 ≤ s.next
named_below {tells} {geometry} {s} f t n page is = by (entry_at s.table n) refl is
  where
    by : (o : Option Entry) → entry_at s.table n ≡ o → named_by s.image o ≡ Some page → page.stamp + 1 ≤ s.next
    by None here none = absurd (none-some page none)
    by (Some e) here some =
        let shown = ap named_on ((f.medium t).holds n e here) in
        let same = same_Some (record { tag = e.tag; stamp = e.stamp; bytes = main_of (page_at s.image e.page) }) page (sym shown ∙ some) in
        let stamp = (f.entries n e here).stamp in
        let at = ap (λ (x : NamedPage). x.stamp) same in
        omega (arith, stamp, at)
