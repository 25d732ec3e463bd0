-- What is seen of a segment after a live page of the victim was moved, or was not.
use Rattle.std.proofs.Common.{◌≡◌, inl, inr, ⊎_elim, ℕ, ◌+◌, ◌-◌, ◌*◌, ◌/◌, ◌≤◌, ◌==◌, if◌then◌else◌, Option, Some, None, Contains, List, length, get_or, set, refl, sym, ◌∙◌, ap, subst, arith, is_some}
use Rattle.std.proofs.lemmas.List.{set-get_or}
use Rattle.nl_field.specs.Live.{resolve}
use Rattle.nl_pseg.specs.Cleaning.{MovesLivePage, MovesNone}
use Rattle.nl_pseg.specs.Segment.{InVictim, IsClean, IsDead, Physical, held_at, room}
use Rattle.nl_pseg_blocks.specs.Uses.{Use}
use Rattle.nl_pseg.specs.Space.{HasFewPairs, HasRoomForVictim, landing, reach, victims, waiting}
use Rattle.nl_pseg.specs.Steps.{IsCopyUsed, IsLed, IsReadied}
use Rattle.nl_pseg.specs.declared.held.Held.{Held}
use Rattle.nl_pseg.proofs.Numbers.{block_from}
use Rattle.nl_pseg.proofs.Segments.{pages_back, range_of, within_same}
use Rattle.nl_pseg.proofs.Wearing.{counts_then, counts_used}

abbrev names_in : ℕ → List (ℕ × ℕ) → Type 0
names_in name ps = (target : ℕ) × Contains ps (name, target)

-- a page was used for a copy, and the names lead on to it
module _ {before : ℕ} {h : Held} {seg mid new : Physical} (u : IsCopyUsed (Some h) seg mid) (l : IsLed before seg.copy_next mid new) where
  pub moved_room : room new ≡ room seg
  moved_room =
      let a = l.next.1 in
      let b = u.next.1 in
      let blocks : (new.free - 1) * new.size ≡ (seg.free - 1) * seg.size = (λ i. ((l.free ∙ u.free) i - 1) * (l.pages.same_size ∙ u.pages.same_size) i) in
      omega (arith, a, b, blocks)

  pub moved : InVictim seg before → held_at seg before ≡ Some h → IsDead seg seg.copy_next → MovesLivePage before seg.copy_next h seg new
  moved victim was dead =
      let free = l.free ∙ u.free in
      let size = l.pages.same_size ∙ u.pages.same_size in
      let waits = l.waits ∙ u.waits in
      let copies = l.copies.1 in
      let used = u.copy_left in
      let blocks : new.free * new.size ≡ seg.free * seg.size = (λ i. free i * size i) in
      let left = l.left in
      let left_was = u.left in
      let gain = l.gain in
      let gain_was = u.gain in
      record {
        same_first = l.pages.same_first ∙ u.pages.same_first;
        same_blocks = l.pages.same_blocks ∙ u.pages.same_blocks;
        same_size = size;
        same_wear = λ b. l.pages.same_wear b ∙ u.pages.same_wear b;
        in_victim = victim;
        was = was;
        dead = dead;
        held = l.held ∙ ap (λ (x : List (Option Held)). set x before None) u.held;
        ways = λ name. l.ways name ∙ ap (λ (ps : List (ℕ × ℕ)). if resolve ps name == before then seg.copy_next else resolve ps name) u.pairs;
        own = l.own;
        names = λ name old. ⊎_elim (λ e. inl e) (λ is. inr (subst (names_in name) u.pairs is)) (l.names name old);
        pairs = l.pairs ∙ ap (λ (ps : List (ℕ × ℕ)). length ps + 1) u.pairs;
        pair_room = l.pair_room ∙ u.pair_room;
        victim = l.victim ∙ u.victim;
        same_waiting = waits;
        left = l.left ∙ u.left;
        same_reach =
            let all : (new.free + waiting new) * new.size ≡ (seg.free + waiting seg) * seg.size = (λ i. (free i + waits i) * size i) in
            omega (arith, all, copies, used, gain, gain_was);
        lands = λ lands. omega (arith, lands, blocks, copies, used, left, left_was);
        wears = counts_used (λ b. l.uses b ∙ u.uses b) (l.soiled ∙ u.soiled);
        next = (l.next.0 ∙ u.next.0, l.next.1 ∙ u.next.1);
        less_room = let r = moved_room in omega (arith, r);
        room_most = let r = moved_room in omega (arith, r);
      }

  pub moved_clean : IsClean seg → IsClean new
  moved_clean clean b kept =
      ap (λ (xs : List (Option ℕ)). is_some (get_or xs b None)) (l.soiled ∙ u.soiled) ∙ clean b (ap (λ (w : Use). w.is_kept) (sym (l.uses b ∙ u.uses b)) ∙ kept)

-- a page was used for a copy that failed
module _ {seg new : Physical} (u : IsCopyUsed None seg new) where
  pub unmoved_room : room new ≡ room seg
  unmoved_room =
      let b = u.next.1 in
      let blocks : (new.free - 1) * new.size ≡ (seg.free - 1) * seg.size = (λ i. (u.free i - 1) * u.pages.same_size i) in
      omega (arith, b, blocks)

  pub unmoved_held : held_at seg seg.copy_next ≡ None → new.held ≡ seg.held
  unmoved_held dead = u.held ∙ (ap (set seg.held seg.copy_next) (sym dead) ∙ set-get_or seg.held seg.copy_next None)

  landing_less : landing new + 1 ≡ landing seg
  landing_less =
      let blocks : new.free * new.size ≡ seg.free * seg.size = (λ i. u.free i * u.pages.same_size i) in
      let l = u.copy_left in
      omega (arith, blocks, l)

  pub unmoved : held_at seg seg.copy_next ≡ None → MovesNone seg new
  unmoved dead = record {
    tables = record { same_first = u.pages.same_first; same_blocks = u.pages.same_blocks; same_size = u.pages.same_size; same_held = unmoved_held dead; same_pairs = u.pairs; same_room = u.pair_room };
    same_wear = u.pages.same_wear;
    victim = u.victim;
    same_waiting = u.waits;
    left = u.left;
    wears = counts_used u.uses u.soiled;
    less_landing = let l = landing_less in omega (arith, l);
    landing_most = let l = landing_less in omega (arith, l);
    less_room = let r = unmoved_room in omega (arith, r);
    room_most = let r = unmoved_room in omega (arith, r);
  }

  pub unmoved_clean : IsClean seg → IsClean new
  unmoved_clean clean b kept = ap (λ (xs : List (Option ℕ)). is_some (get_or xs b None)) u.soiled ∙ clean b (ap (λ (w : Use). w.is_kept) (sym (u.uses b)) ∙ kept)

-- a block may take copies
module _ {seg mid : Physical} (r : IsReadied seg mid) where
  readied_blocks : ((mid.free - 1) * mid.size ≤ (seg.free - 1) * seg.size) × ((seg.free - 1) * seg.size ≤ (mid.free - 1) * mid.size + seg.size)
  readied_blocks =
      let fewer = r.fewer in
      let most = r.most in
      let size : (mid.free - 1) * mid.size ≡ (mid.free - 1) * seg.size = ap (λ k. (mid.free - 1) * k) r.pages.same_size in
      let low = block_from (mid.free - 1) (seg.free - 1) seg.size (omega (arith, fewer)) in
      let high = block_from (seg.free - 1) (mid.free - 1 + 1) seg.size (omega (arith, most)) in
      let step : (mid.free - 1 + 1) * seg.size ≡ (mid.free - 1) * seg.size + seg.size = omega arith in
      (omega (arith, size, low), omega (arith, size, high, step))

  pub readied_dead : (p : ℕ) → IsDead mid p → IsDead seg p
  readied_dead p dead = record {
    within = within_same p (range_of (pages_back r.pages)) dead.within;
    dead = ap (λ (xs : List (Option Held)). get_or xs p None) (sym r.held) ∙ dead.dead;
    own = λ old. dead.own (subst (names_in p) (sym r.pairs) old);
    apart = λ at. dead.apart (r.victim ∙ (at ∙ ap (λ k. Some (p / k)) (sym r.pages.same_size)));
  }

  pub readied_lands : HasRoomForVictim seg → HasRoomForVictim mid
  readied_lands lands = let a = r.left in let b = r.lands in omega (arith, lands, a, b)

  pub readied_few : HasFewPairs seg → HasFewPairs mid
  readied_few few one =
      let n = ap (λ (ps : List (ℕ × ℕ)). length ps) r.pairs in
      let v : victims seg ≡ 1 = ap (λ o. victims (record seg { victim = o })) (sym r.victim) ∙ one in
      let was = few v in
      let l = r.left in
      let e = r.pages.same_size in
      omega (arith, n, was, l, e)

  pub moves_then : {before after : ℕ} {h : Held} {new : Physical} → room new ≡ room mid → MovesLivePage before after h mid new → MovesLivePage before after h seg new
  moves_then {before} {after} {h} {new} same m =
      let w = readied_blocks in
      let left = r.next.1 in
      let waits = r.waits in
      let lands = r.lands in
      let gain = r.gain in
      let left_was = r.left in
      let size = r.pages.same_size in
      record {
        same_first = m.same_first ∙ r.pages.same_first;
        same_blocks = m.same_blocks ∙ r.pages.same_blocks;
        same_size = m.same_size ∙ size;
        same_wear = λ b. m.same_wear b ∙ r.pages.same_wear b;
        in_victim = sym r.victim ∙ (m.in_victim ∙ ap (λ k. Some (before / k)) size);
        was = ap (λ (xs : List (Option Held)). get_or xs before None) (sym r.held) ∙ m.was;
        dead = readied_dead after m.dead;
        held = m.held ∙ ap (λ (xs : List (Option Held)). set (set xs after (Some h)) before None) r.held;
        ways = λ name. m.ways name ∙ ap (λ (ps : List (ℕ × ℕ)). if resolve ps name == before then after else resolve ps name) r.pairs;
        own = m.own;
        names = λ name old. ⊎_elim (λ e. inl e) (λ is. inr (subst (names_in name) r.pairs is)) (m.names name old);
        pairs = m.pairs ∙ ap (λ (ps : List (ℕ × ℕ)). length ps + 1) r.pairs;
        pair_room = m.pair_room ∙ r.pair_room;
        victim = m.victim ∙ r.victim;
        same_waiting = m.same_waiting ∙ r.waits;
        left = m.left ∙ r.left;
        same_reach = m.same_reach ∙ reach_same;
        lands = λ l. m.lands (readied_lands l);
        wears = counts_then r.frees r.wears m.wears;
        next = (m.next.0 ∙ r.next.0, m.next.1 ∙ r.next.1);
        less_room = omega (arith, same, w.0, left);
        room_most = let e = m.same_size in omega (arith, same, w.1, left);
      }
    where
      reach_same : reach mid ≡ reach seg
      reach_same =
          let waits : waiting mid * mid.size ≡ waiting seg * seg.size = (λ i. r.waits i * r.pages.same_size i) in
          let a : (mid.free + waiting mid) * mid.size ≡ mid.free * mid.size + waiting mid * mid.size = omega arith in
          let b : (seg.free + waiting seg) * seg.size ≡ seg.free * seg.size + waiting seg * seg.size = omega arith in
          let lands = r.lands in
          let gain = r.gain in
          omega (arith, waits, a, b, lands, gain)

  pub none_then : {new : Physical} → room new ≡ room mid → MovesNone mid new → MovesNone seg new
  none_then {new} same m =
      let w = readied_blocks in
      let left = r.next.1 in
      record {
        tables = record { same_first = m.tables.same_first ∙ r.pages.same_first; same_blocks = m.tables.same_blocks ∙ r.pages.same_blocks; same_size = m.tables.same_size ∙ r.pages.same_size; same_held = m.tables.same_held ∙ r.held; same_pairs = m.tables.same_pairs ∙ r.pairs; same_room = m.tables.same_room ∙ r.pair_room };
        same_wear = λ b. m.same_wear b ∙ r.pages.same_wear b;
        victim = m.victim ∙ r.victim;
        same_waiting = m.same_waiting ∙ r.waits;
        left = m.left ∙ r.left;
        wears = counts_then r.frees r.wears m.wears;
        less_landing = let e = r.lands in let a = m.less_landing in omega (arith, e, a);
        landing_most = let e = r.lands in let a = m.landing_most in omega (arith, e, a);
        less_room = omega (arith, same, w.0, left);
        room_most = omega (arith, same, w.1, left);
      }

pub still_none : (seg : Physical) → MovesNone seg seg
still_none seg = record {
  tables = record { same_first = refl; same_blocks = refl; same_size = refl; same_held = refl; same_pairs = refl; same_room = refl };
  same_wear = λ b. refl;
  victim = refl;
  same_waiting = refl;
  wears = record { each = λ b. inl (refl, refl) };
  left = refl;
  less_landing = omega arith;
  landing_most = omega arith;
  less_room = omega arith;
  room_most = omega arith;
}

-- few pairs stay few
pub moved_few : {before after : ℕ} {h : Held} {seg new : Physical} → MovesLivePage before after h seg new → HasFewPairs seg → HasFewPairs new
moved_few {before} {after} {h} {seg} {new} m few one =
    let n = m.pairs in
    let v : victims seg ≡ 1 = ap (λ o. victims (record seg { victim = o })) (sym m.victim) ∙ one in
    let was = few v in
    let l = m.left in
    let e = m.same_size in
    omega (arith, n, was, l, e)

pub unmoved_few : {seg new : Physical} → MovesNone seg new → HasFewPairs seg → HasFewPairs new
unmoved_few {seg} {new} m few one =
    let n = ap (λ (ps : List (ℕ × ℕ)). length ps) m.tables.same_pairs in
    let v : victims seg ≡ 1 = ap (λ o. victims (record seg { victim = o })) (sym m.victim) ∙ one in
    let was = few v in
    let l = m.left in
    let e = m.tables.same_size in
    omega (arith, n, was, l, e)

pub readied_none : {seg mid : Physical} → IsReadied seg mid → MovesNone seg mid
readied_none {seg} {mid} r = none_then r refl (still_none mid)
