-- The numbers of the space over the calls of cleaning, by the contracts of the segment.
use Rattle.std.proofs.Common.{◌≡◌, ◌⊎◌, inl, inr, ⊎_elim, ℕ, ◌+◌, ◌-◌, ◌*◌, ◌<◌, ◌≤◌, Bool, true, false, cond, List, Option, is_some, length, refl, ◌∙◌, ap, arith, mul-le-mul_right, add-mul}
use Rattle.std.proofs.lemmas.Bool.{cases_Bool}
use Rattle.nl_iface.specs.Moves.{TakesVictim}
use Rattle.nl_iface.specs.Space.{VictimBegun, Copied, Erased, Freed, IsSpace, Lessened, NamesGone, SameSegment, Space, Wasted}
use Rattle.nl_pseg.specs.Cleaning.{BeginsBlock, ErasesBlock, MovesLivePage, MovesNone}
use Rattle.nl_pseg.specs.Segment.{Physical, SameBlocksAndPages}
use Rattle.nl_pseg.specs.Space.{GivesBackBlocks, IsWhole, Lessens, dead_in, landing, left_in_victim, live_in, reach, victims, waiting}
use Rattle.nl_pseg.specs.declared.held.Held.{Held}
use Rattle.nl_device.specs.Space.{space_of}

-- what the numbers rest on: some block is Free, or waits for its names, or is in hand
abbrev pub KeepsSome : Physical → Type 0
KeepsSome seg = 1 ≤ seg.free + waiting seg + victims seg

small : (b : Bool) → cond b 1 0 ≤ 1
small true = omega arith
small false = omega arith

-- a block of pages is within reach
low : (seg : Physical) → IsWhole seg → KeepsSome seg → left_in_victim seg ≤ landing seg → seg.size ≤ reach seg
low seg whole some lands = ⊎_elim
    (λ (hand : is_some seg.victim ≡ true).
    let one : victims seg ≡ 1 = ap (λ b. cond b 1 0) hand in
    let all : victims seg * seg.size ≡ 1 * seg.size = ap (λ n. n * seg.size) one in
    let spread : (seg.free + waiting seg) * seg.size ≡ seg.free * seg.size + waiting seg * seg.size = add-mul seg.free (waiting seg) seg.size in
    omega (arith, lands, all, spread, whole.numbers.victim))
    (λ (none : is_some seg.victim ≡ false).
    let zero : victims seg ≡ 0 = ap (λ b. cond b 1 0) none in
    let most : 1 ≤ seg.free + waiting seg = omega (arith, some, zero) in
    let le : 1 * seg.size ≤ (seg.free + waiting seg) * seg.size = mul-le-mul_right seg.size most in
    omega (arith, le))
    (cases_Bool (is_some seg.victim))

high : (seg : Physical) → IsWhole seg → victims seg ≡ 0 → seg.free ≤ 1 → waiting seg ≤ 1 → reach seg ≤ 3 * seg.size
high seg whole none few waits =
    let two : seg.free + waiting seg ≤ 2 = omega (arith, few, waits) in
    let le : (seg.free + waiting seg) * seg.size ≤ 2 * seg.size = mul-le-mul_right seg.size two in
    let zero : victims seg * seg.size ≡ 0 * seg.size = ap (λ n. n * seg.size) none in
    omega (arith, le, zero, whole.numbers.victim, whole.numbers.copy_left)

gained : (seg : Physical) → IsWhole seg → length seg.pairs ≡ 0 → victims seg ≡ 0 → seg.free ≤ 1 → (seg.blocks - seg.first) * seg.size ≤ live_in seg.held + (space_of seg).dead + 3 * seg.size
unfolding space_of
gained seg whole no_pairs none few =
    let waits : waiting seg ≡ 0 = omega (arith, whole.numbers.few_wait, no_pairs) in
    let three : seg.free + 2 ≤ 3 = omega (arith, few) in
    let le : (seg.free + 2) * seg.size ≤ 3 * seg.size = mul-le-mul_right seg.size three in
    let most = whole.numbers.dead waits none in
    omega (arith, le, most)

-- the numbers are right at any moment
pub is_space : (seg : Physical) → IsWhole seg → KeepsSome seg → IsSpace (space_of seg)
unfolding space_of
is_space seg whole some = record {
  pairs = omega (arith, whole.numbers.pairs);
  victim = small (is_some seg.victim);
  left_in = omega (arith, whole.numbers.victim);
  busy = whole.numbers.busy;
  waiting = whole.numbers.few_wait;
  keeps = omega arith;
  kept = some;
  low = λ lands. low seg whole some lands;
  high = λ none few waits. high seg whole none few waits;
  dead = λ no_pairs none few. gained seg whole no_pairs none few;
  room = omega arith;
  room_ends = omega (arith, whole.numbers.left);
}

pub same_segment : (old new : Physical) → new.first ≡ old.first → new.blocks ≡ old.blocks → new.size ≡ old.size → SameSegment (space_of old) (space_of new)
unfolding space_of
same_segment old new first blocks size = record { block = size; all = λ i. (blocks i - first i) * size i; bad = omega arith; kept = refl }

-- a block became the victim
pub begun : (block : ℕ) (old new : Physical) → BeginsBlock block old new → VictimBegun (space_of old) (space_of new)
unfolding space_of
begun block old new b =
    let size = b.tables.same_size in
    record {
      same = same_segment old new b.tables.same_first b.tables.same_blocks size;
      bad = refl;
      none = ap (λ (o : Option ℕ). cond (is_some o) 1 0) b.none;
      few = b.few;
      victim = ap (λ (o : Option ℕ). cond (is_some o) 1 0) b.victim;
      others = (b.free, b.same_waiting, ap (λ (l : List (ℕ × ℕ)). length l) b.tables.same_pairs, ap live_in b.tables.same_held, λ i. b.next.1 i + (b.free i - 1) * size i);
      left = let l = b.left in omega (arith, l, size);
      lands = b.lands;
      reach = let l = b.left in let r = b.gains in omega (arith, l, r);
    }

-- a victim that was chosen for its dead pages has fewer live pages than it has pages
pub begun_gains : (block : ℕ) (old new : Physical) → BeginsBlock block old new → 0 < dead_in old block → (space_of new).left + 1 ≤ (space_of new).block
unfolding space_of
begun_gains block old new b some = let l = b.left in let size = b.tables.same_size in omega (arith, l, some, size)

-- a live page of the victim was moved
pub copied : (before after : ℕ) (h : Held) (old new : Physical) → MovesLivePage before after h old new → live_in new.held ≡ live_in old.held → Copied (space_of old) (space_of new)
unfolding space_of
copied before after h old new m live = record {
  same = same_segment old new m.same_first m.same_blocks m.same_size;
  in_hand = ap (λ (o : Option ℕ). cond (is_some o) 1 0) m.in_victim;
  victim = ap (λ (o : Option ℕ). cond (is_some o) 1 0) (m.victim ∙ m.in_victim);
  pairs = m.pairs;
  left = m.left;
  live = live;
  waiting = m.same_waiting;
  lands = λ none lands. m.lands lands;
  reach = λ none. m.same_reach;
  room = λ none. m.room_most;
}

-- a copy failed
pub wasted : (old new : Physical) → MovesNone old new → IsWhole old → IsWhole new → victims old ≡ 1 → Wasted (space_of old) (space_of new)
unfolding space_of
wasted old new m was is one =
    let size = m.tables.same_size in
    let victim : victims new ≡ victims old = ap (λ (o : Option ℕ). cond (is_some o) 1 0) m.victim in
    let waits : waiting new * new.size ≡ waiting old * old.size = (λ i. m.same_waiting i * size i) in
    let hand : victims new * new.size ≡ victims old * old.size = (λ i. victim i * size i) in
    let a : (new.free + waiting new) * new.size ≡ new.free * new.size + waiting new * new.size = add-mul new.free (waiting new) new.size in
    let b : (old.free + waiting old) * old.size ≡ old.free * old.size + waiting old * old.size = add-mul old.free (waiting old) old.size in
    let left = m.left in
    let gain_was = was.numbers.victim in
    let gain_is = is.numbers.victim in
    let less = m.less_landing in
    let most = m.landing_most in
    record {
      same = same_segment old new m.tables.same_first m.tables.same_blocks size;
      in_hand = one;
      victim = victim ∙ one;
      tables = (ap (λ (l : List (ℕ × ℕ)). length l) m.tables.same_pairs, ap live_in m.tables.same_held, left, m.same_waiting);
      landing = less;
      reach = omega (arith, waits, hand, a, b, left, gain_was, gain_is, less);
      reach_most = λ none. omega (arith, waits, hand, a, b, left, gain_was, gain_is, most);
      room = λ none. m.room_most;
    }

-- what takes a victim takes no pair, and a move adds one
pub not_moved : (s m t : Space) → TakesVictim s m → Copied m t → t.pairs ≡ s.pairs → ⊥
not_moved s m t (inl same) k pairs = let e = ap (λ (x : Space). x.pairs) same.1 in let more = k.pairs in omega (arith, e, more, pairs)
not_moved s m t (inr begun) k pairs = let e = begun.0.others.2 in let more = k.pairs in omega (arith, e, more, pairs)

-- the victim was erased: its block is Free, or it waits
pub erased : (block : ℕ) (old new : Physical) → ErasesBlock block old new
    → ((new.free ≡ old.free + 1) × (waiting new ≡ waiting old)) ⊎ ((new.free ≡ old.free) × (waiting new ≡ waiting old + 1)) → Erased (space_of old) (space_of new)
unfolding space_of
erased block old new e one = record {
  same = same_segment old new e.tables.same_first e.tables.same_blocks e.tables.same_size;
  bad = refl;
  in_hand = ap (λ (o : Option ℕ). cond (is_some o) 1 0) e.was;
  none_left = e.none_left;
  victim = ap (λ (o : Option ℕ). cond (is_some o) 1 0) e.victim;
  left = e.left;
  blocks = one;
  pairs = ap (λ (l : List (ℕ × ℕ)). length l) e.tables.same_pairs;
  live = ap live_in e.tables.same_held;
  reach = e.same_reach;
  room = e.more_room;
}

pub lessened : (gone : ℕ) (old new : Physical) → length new.pairs ≤ length old.pairs → Lessens gone old new → Lessened gone (space_of old) (space_of new)
unfolding space_of
lessened gone old new fewer l = record {
  victim = ap (λ (o : Option ℕ). cond (is_some o) 1 0) l.victim;
  waiting = l.fewer_wait;
  pairs = fewer;
  left = l.left;
  left_most = l.left_most;
  lands = λ none lands. l.lands lands;
}

-- a name is gone
pub name_gone : (old new : Physical) → SameBlocksAndPages old new → new.held ≡ old.held → length new.pairs ≤ length old.pairs → Lessens 0 old new → GivesBackBlocks old new → reach new ≡ reach old → NamesGone (space_of old) (space_of new)
unfolding space_of
name_gone old new same held fewer l back reaches = record {
  same = same_segment old new same.same_first same.same_blocks same.same_size;
  bad = refl;
  lessened = lessened 0 old new fewer l;
  blocks = back.blocks;
  live = ap live_in held;
  reach = reaches;
  room = back.more_room;
}

-- a page is live no longer
pub page_gone : (old new : Physical) → SameBlocksAndPages old new → live_in new.held + 1 ≡ live_in old.held → length new.pairs ≤ length old.pairs → Lessens 1 old new → GivesBackBlocks old new → Freed (space_of old) (space_of new)
unfolding space_of
page_gone old new same live fewer l back = record {
  same = same_segment old new same.same_first same.same_blocks same.same_size;
  bad = refl;
  lessened = lessened 1 old new fewer l;
  blocks = back.blocks;
  live = live;
  reach = back.more_reach;
  room = back.more_room;
  exact = λ none.
      let space = back.same none in
      let blocks = back.blocks in
      let free = space.free in
      (omega (arith, blocks, free, none), λ i. space.left i + (space.free i - 1) * same.same_size i);
}
