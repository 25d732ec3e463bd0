-- What holds of each memory that is in order.
use Rattle.std.proofs.Common.{◌≡◌, ◌⊎◌, inl, inr, ℕ, ◌+◌, ◌-◌, ◌*◌, ◌/◌, ◌<◌, ◌≤◌, List, [], length, Option, Some, None, option_map, refl, sym, ◌∙◌, ap, subst, arith}
use Rattle.std.specs.Prelude.{◌≢◌}
use Rattle.std.proofs.Math.Nat.{div-lt_iff_lt-mul, div-mul-le_self, lt-div-mul-add}
use Rattle.std.proofs.lemmas.List.{get_or_past}
use Rattle.std.proofs.lemmas.Option.{none-some, same_Some}
use Rattle.nl_field.specs.Live.{LiveEntry}
use Rattle.nl_field.specs.Medium.{first_physical}
use Rattle.nl_field.specs.Page.{PageBytes}
use Rattle.nl_field.specs.declared.shape.Shape.{Shape}
use Rattle.nl_iface.specs.Device.{IsDeviceState, entry_with, state_of}
use Rattle.nl_iface.specs.Left.{HoldsLive, HoldsStamp, LeavesPages}
use Rattle.nl_iface.specs.Names.{IsNames, LivePage}
use Rattle.nl_iface.specs.Space.{IsSpace}
use Rattle.nl_iface.specs.Stored.{NamedPage, NothingStoredBeyond, ShowsMap, Stored, Value}
use Rattle.nl_testkit_still.specs.Stands.{IsLabel, IsStill}
use Rattle.nl_testkit_still.specs.Still.{bytes_at, holding, label_at, last_block, live_at, map_at, names_of, named_at, page_of, space_of, stamp_at, stored_in, value_with}
use Rattle.nl_testkit_still.specs.declared.still.Label.{Label}
use Rattle.nl_testkit_still.specs.declared.still.Still.{Still}

-- what a mapped option was
pub was_some : {X Y : Type 0} (f : X → Y) (o : Option X) (y : Y) → option_map f o ≡ Some y → (x : X) × (o ≡ Some x) × (f x ≡ y)
was_some f None y is = absurd (none-some y is)
was_some f (Some x) y is = (x, refl, same_Some (f x) y is)

-- ---- addresses

pub stamp_of_value : (stamps : List (Option ℕ)) (values : List PageBytes) (v : ℕ)
    → option_map (λ (x : Value). x.0) (map_at stamps values v) ≡ stamp_at stamps v
stamp_of_value stamps values v = by (stamp_at stamps v)
  where
    by : (o : Option ℕ) → option_map (λ (x : Value). x.0) (option_map (value_with (bytes_at values v)) o) ≡ o
    by None = refl
    by (Some t) = refl

pub none_from : (s : Still) → IsStill s → (v : ℕ) → s.shape.vaddrs ≤ v → stamp_at s.stamps.items v ≡ None
none_from s f v past = get_or_past s.stamps.items v None (let n = f.stamps in omega (arith, n, past))

pub none_lost : (s : Still) → IsStill s → NothingStoredBeyond s.shape.vaddrs (stored_in s)
none_lost s f v past = ap (λ (o : Option ℕ). option_map (value_with (bytes_at s.values.items v)) o) (none_from s f v past)

pub shows_map : (s : Still) → ShowsMap s.shape.vaddrs (λ v. map_at s.stamps.items s.values.items v) (λ v x. ⊥) (stored_in s)
shows_map s v below = inl refl

pub at_most_now : (s : Still) (m : ℕ) → m ≡ s.clock → m ≤ s.clock
at_most_now s m now = omega (arith, now)

-- ---- pages under names

-- a live page and what it was written with
pub written_as : (s : Still) → IsStill s → (p : ℕ) (page : LivePage) → live_at s.live.items p ≡ Some page
    → (l : Label) × (label_at s.labels.items p ≡ Some l) × (page_of l ≡ page)
written_as s f p page live = let w = was_some page_of (label_at s.live.items p) page live in (w.0, f.holds p w.0 w.1, w.2)

entry_was : (place : ℕ) (bytes : List ℕ) (o : Option LivePage) (e : LiveEntry) → entry_with place bytes o ≡ Some e
    → (page : LivePage) × (o ≡ Some page) × (page.stamp ≡ e.stamp) × (e.place ≡ place)
entry_was place bytes None e is = absurd (none-some e is)
entry_was place bytes (Some page) e is =
    let same = same_Some (record { tag = page.tag; stamp = page.stamp; bytes = bytes; place = place }) e is in
    (page, refl, ap (λ (x : LiveEntry). x.stamp) same, sym (ap (λ (x : LiveEntry). x.place) same))

pub is_a_state : (s : Still) → IsStill s → IsDeviceState s.shape.pages (state_of (names_of s) (λ p. bytes_at s.pages.items p) (λ v. map_at s.stamps.items s.values.items v) s.next)
is_a_state s f = record {
  in_place = λ p e live. (entry_was p (bytes_at s.pages.items p) (live_at s.live.items p) e live).3;
  stamps_differ = λ p q d e live_p live_q same.
      let a = entry_was p (bytes_at s.pages.items p) (live_at s.live.items p) d live_p in
      let b = entry_was q (bytes_at s.pages.items q) (live_at s.live.items q) e live_q in
      let x = written_as s f p a.0 a.1 in
      let y = written_as s f q b.0 b.1 in
      f.differ p q x.0 y.0 x.1 y.1 (ap (λ (l : LivePage). l.stamp) x.2 ∙ (a.2 ∙ (same ∙ (sym b.2 ∙ sym (ap (λ (l : LivePage). l.stamp) y.2)))));
  own = λ p e live. refl;
  old_names_differ = λ i j d less within. absurd (omega (arith, within));
  no_chain = tt;
  to_live = tt;
  one_callback = tt;
  told = tt;
  one_number = tt;
  few_pairs = omega arith;
}

is_space : (s : Still) → IsStill s → IsSpace (space_of s)
is_space s f =
    let free = f.free in
    let some = f.bounds.least_pages in
    let blocks : s.free - 1 ≡ s.room / s.shape.pages = omega (arith, free) in
    let least : s.room / s.shape.pages * s.shape.pages ≤ s.room = div-mul-le_self s.room s.shape.pages in
    let most : s.room < s.room / s.shape.pages * s.shape.pages + s.shape.pages = lt-div-mul-add (omega (arith, some)) in
    record {
      pairs = omega arith;
      victim = omega arith;
      left_in = omega arith;
      busy = λ hand. omega arith;
      waiting = omega arith;
      keeps = omega arith;
      kept = omega arith;
      low = λ lands. omega arith;
      high = λ none. absurd (omega (arith, none));
      dead = λ none idle. absurd (omega (arith, idle));
      room = subst (λ n. n * s.shape.pages ≤ s.room) (sym blocks) least;
      room_ends = subst (λ n. s.room ≤ n * s.shape.pages + s.shape.pages) (sym blocks) (omega (arith, most));
    }

-- where a live page is
pub place_is : (s : Still) → IsStill s → (p : ℕ) (page : LivePage) → live_at s.live.items p ≡ Some page
    → (l : Label) × (page_of l ≡ page) × (label_at s.labels.items p ≡ Some l) × IsLabel (first_physical s.shape) s.given s.next p l
place_is s f p page live = let w = written_as s f p page live in (w.0, w.2, w.1, f.written p w.0 w.1)

pub is_names : (s : Still) → IsStill s → IsNames s.shape s.next (names_of s)
is_names s f = record {
  space = is_space s f;
  block = refl;
  all = refl;
  pairs = refl;
  counted = refl;
  from_first = λ p page live. (place_is s f p page live).3.from;
  to_last = λ p page live. let below = (place_is s f p page live).3.below in let room = f.room in let some = f.bounds.least_pages in omega (arith, below, room, some);
  below = λ p page live. let w = place_is s f p page live in let stamp = w.3.stamp in let same = ap (λ (x : LivePage). x.stamp) w.1 in omega (arith, stamp, same);
  given = λ c none. absurd none;
  marked = λ n t is. absurd (none-some t is);
}

-- the place of each live page holds it
pub holds_live : (s : Still) → IsStill s → HoldsLive (λ p. live_at s.live.items p) (λ p. bytes_at s.pages.items p) (stored_in s)
holds_live s f p page live =
    let w = written_as s f p page live in
    ap (λ (o : Option Label). option_map (holding (bytes_at s.pages.items p)) o) w.1
    ∙ ap (λ (x : LivePage). Some (record { tag = x.tag; stamp = x.stamp; bytes = bytes_at s.pages.items p })) w.2

-- No live page is in the last block: so it is left, where each is held at its place.
pub leaves_in : (s : Still) → IsStill s → (c : Stored) → HoldsLive (λ p. live_at s.live.items p) (λ p. bytes_at s.pages.items p) c
    → LeavesPages s.shape (names_of s) (λ p. bytes_at s.pages.items p) c
leaves_in s f c holds =
    let b = f.bounds in
    let blocks = b.segments in
    let some = b.some_blocks in
    let least = b.least_blocks in
    let fit = b.data_pages in
    let pages = b.least_pages in
    let physical : 1 ≤ s.shape.pblocks = some_physical s.shape.pblocks s.shape.pages s.shape.cap fit pages in
    record {
      spare = last_block s.shape;
      from = omega (arith, blocks, physical);
      below = omega (arith, blocks, physical);
      held = λ p page live. (p, off p page live, holds p page live);
      own = λ name page live. inr (stamped name page live);
      stale = [];
      few = omega arith;
      at_names = λ name page live. inl (stamped name page live);
    }
  where
    some_physical : (n size cap : ℕ) → cap + 4 * size + 160 ≡ n * size → 32 ≤ size → 1 ≤ n
    some_physical ℕ.zero size cap fit some = absurd (omega (arith, fit))
    some_physical (ℕ.suc n) size cap fit some = omega arith

    stamped : (name : ℕ) (page : LivePage) → live_at s.live.items name ≡ Some page → HoldsStamp c name page.stamp
    stamped name page live = (record { tag = page.tag; stamp = page.stamp; bytes = bytes_at s.pages.items name }, holds name page live, refl)

    off : (p : ℕ) (page : LivePage) → live_at s.live.items p ≡ Some page → p / s.shape.pages ≢ last_block s.shape
    off p page live same =
        let below = (place_is s f p page live).3.below in
        let room = f.room in
        let some = f.bounds.least_pages in
        let most : p < p / s.shape.pages * s.shape.pages + s.shape.pages = lt-div-mul-add (omega (arith, some)) in
        let least : p / s.shape.pages * s.shape.pages ≤ p = div-mul-le_self p s.shape.pages in
        let last : (s.shape.blocks - 1) * s.shape.pages ≤ p = subst (λ n. n * s.shape.pages ≤ p) same least in
        let all : s.shape.blocks * s.shape.pages ≡ (s.shape.blocks - 1) * s.shape.pages + s.shape.pages = one_more s.shape.blocks s.shape.pages (let b = f.bounds.least_blocks in omega (arith, b)) in
        absurd (omega (arith, below, room, last, all))
      where
        one_more : (n m : ℕ) → 1 ≤ n → n * m ≡ (n - 1) * m + m
        one_more ℕ.zero m some = absurd (omega (arith, some))
        one_more (ℕ.suc n) m some = let less : ℕ.suc n - 1 ≡ n = omega arith in subst (λ k. ℕ.suc n * m ≡ k * m + m) (sym less) (omega arith)

pub leaves_pages : (s : Still) → IsStill s → LeavesPages s.shape (names_of s) (λ p. bytes_at s.pages.items p) (stored_in s)
leaves_pages s f = leaves_in s f (stored_in s) (holds_live s f)

-- each page was written under a stamp below the next
pub named_below : (s : Still) → IsStill s → (p : ℕ) (page : NamedPage) → named_at s.labels.items s.pages.items p ≡ Some page
    → page.stamp + 1 ≤ s.next
named_below s f p page is =
    let w = was_some (holding (bytes_at s.pages.items p)) (label_at s.labels.items p) page is in
    let stamp = (f.written p w.0 w.1).stamp in
    let same = ap (λ (x : NamedPage). x.stamp) w.2 in
    omega (arith, stamp, same)
