-- What a round of cleaning gains.
use Rattle.std.proofs.Common.{◌≡◌, ◌⊎◌, inl, inr, ⊎_elim, ◌+◌, ◌*◌, ◌<◌, ◌≤◌, refl, sym, ◌∙◌, ap, subst, arith}
use Rattle.std.proofs.lemmas.Bool.{cases_lt}
use Rattle.nl_iface.specs.Moves.{HasNothingToCopy, TakesVictim}
use Rattle.nl_iface.specs.Rounds.{ReclaimPassGains, Cleans, Empties, EmptiesLaws, GainsByPass, HasCapacity, HasFreed, MovesSomePages, MovesLaws, ReclaimPassesEnd}
use Rattle.nl_iface.specs.Space.{VictimBegun, Copied, Erased, IsSpace, NoneRetired, SameSegment, Space}

same_then : (r s t : Space) → SameSegment r s → SameSegment s t → SameSegment r t
same_then r s t a b = record { block = b.block ∙ a.block; all = b.all ∙ a.all; bad = omega (arith, a.bad, b.bad); kept = b.kept ∙ a.kept }

same_itself : (s : Space) → SameSegment s s
same_itself s = record { block = refl; all = refl; bad = omega arith; kept = refl }

pub empties_laws : EmptiesLaws
empties_laws = record {
  freed = λ s t f. record { same = f.same; bad = f.bad; victim = f.lessened.victim; reach = f.reach };
  gone = λ s t n. record { same = n.same; bad = n.bad; victim = n.lessened.victim; reach = omega (arith, n.reach) };
  none = λ s. record { same = same_itself s; bad = refl; victim = refl; reach = omega arith };
  then = λ r s t a b. record { same = same_then r s t a.same b.same; bad = b.bad ∙ a.bad; victim = b.victim ∙ a.victim; reach = omega (arith, a.reach, b.reach) };
}

begun_gains : (s m : Space) → VictimBegun s m → m.left + 1 ≤ m.block → s.reach + 1 ≤ m.reach
begun_gains s m b few = let block = b.same.block in omega (arith, b.reach, few, block)

begun_moves : (s m : Space) → VictimBegun s m → m.left + 1 ≤ m.block → MovesSomePages s m
begun_moves s m b few =
    let more = begun_gains s m b few in
    record { same = b.same; bad = b.bad; waiting = b.others.1; live = b.others.3; victim = b.victim; reach = omega (arith, more); gain = inr more }

copied_moves : (s t : Space) → Copied s t → NoneRetired s t → MovesSomePages s t
copied_moves s t k none =
    let reach = k.reach none in
    record { same = k.same; bad = none; waiting = k.waiting; live = k.live; victim = k.victim; reach = omega (arith, reach); gain = inl k.in_hand }

moves_then : (r s t : Space) → MovesSomePages r s → MovesSomePages s t → MovesSomePages r t
moves_then r s t a b = record {
  same = same_then r s t a.same b.same;
  bad = b.bad ∙ a.bad;
  waiting = b.waiting ∙ a.waiting;
  live = b.live ∙ a.live;
  victim = b.victim;
  reach = omega (arith, a.reach, b.reach);
  gain = ⊎_elim (λ hand. inl hand) (λ more. inr (omega (arith, more, b.reach))) a.gain;
}

taken_moves : (s m t : Space) → TakesVictim s m → Copied m t → NoneRetired s t → MovesSomePages s t
taken_moves s m t (inl hand) k none = subst (λ (x : Space). Copied x t → MovesSomePages s t) (sym hand.1) (λ copied. copied_moves s t copied none) k
taken_moves s m t (inr begun) k none =
    let here : NoneRetired m t = none ∙ sym begun.0.bad in
    moves_then s m t (begun_moves s m begun.0 begun.1) (copied_moves m t k here)

pub moves_laws : MovesLaws
moves_laws = record {
  moved = taken_moves;
  begun = λ s t some b left. begun_moves s t b (let block = b.same.block in omega (arith, some, block, left));
  then = moves_then;
}

-- the one reason that is left with an empty table
no_dead : (s : Space) → IsSpace s → s.pairs ≡ 0 → s.victim ≡ 0 → HasNothingToCopy s → s.dead ≡ 0
no_dead s is pairs victim (inl hand) = absurd (omega (arith, hand.0, victim))
no_dead s is pairs victim (inr why) = by why.1
  where
    by : (s.dead ≡ 0) ⊎ ((2 * s.block < s.pairs) ⊎ (s.free ≡ 0)) → s.dead ≡ 0
    by (inl dead) = dead
    by (inr (inl many)) = absurd (omega (arith, many, pairs))
    by (inr (inr none)) = let keeps = is.keeps in let kept = is.kept in let waiting = is.waiting in absurd (omega (arith, none, victim, keeps, kept, waiting, pairs))

enough : (s : Space) → IsSpace s → HasCapacity s → s.pairs ≡ 0 → s.victim ≡ 0 → s.dead ≡ 0 → HasFreed s
enough s is has pairs victim dead = elim (cases_lt s.keep s.free) [
  | inl more ↦ omega (arith, more)
  | inr few ↦
      let most = is.dead pairs victim few in
      let split : (s.keep + s.bad + 3) * s.block ≡ (s.keep + s.bad + 2) * s.block + s.block = omega arith in
      absurd (omega (arith, most, has.all, has.live, dead, split))
]

cleaned : (s a m t : Space) → Empties s a → (m ≡ a) ⊎ MovesSomePages a m → Erased m t → GainsByPass s t
cleaned s a m t empties (inl same) erased =
    let hand : a.victim ≡ 1 = ap (λ (x : Space). x.victim) (sym same) ∙ erased.in_hand in
    let before = empties.victim in
    inr (inl (omega (arith, hand, before)))
cleaned s a m t empties (inr moves) erased = ⊎_elim
    (λ hand. let before = empties.victim in inr (inl (omega (arith, hand, before))))
    (λ more. let reach = empties.reach in let still = erased.reach in inr (inr (omega (arith, more, reach, still))))
    moves.gain

gains : (s a t : Space) → Empties s a → a.pairs ≡ 0 → Cleans a t → IsSpace a → HasCapacity a → GainsByPass s t
gains s a t empties pairs (inl did) is has = cleaned s a did.0 t empties did.1 did.2
gains s a t empties pairs (inr none) is has =
    let dead = no_dead a is pairs none.1 none.0 in
    inl (subst HasFreed (sym none.2) (enough a is has pairs none.1 dead))

pub a_round_gains : ReclaimPassGains
a_round_gains s t r is has = gains s r.emptied t r.empties r.no_pairs r.cleans is has

waits : (m t : Space) → m.waiting ≡ 0 → Erased m t → t.waiting ≤ 1
waits m t none e = ⊎_elim (λ free. let w = free.1 in omega (arith, w, none)) (λ held. let w = held.1 in omega (arith, w, none)) e.blocks

idle : (a t : Space) → a.waiting ≡ 0 → Cleans a t → (t.victim ≡ 0) × (t.waiting ≤ 1)
idle a t none (inl did) = (
  did.2.victim,
  ⊎_elim
      (λ same. waits did.0 t (ap (λ (x : Space). x.waiting) same ∙ none) did.2)
      (λ moves. waits did.0 t (moves.waiting ∙ none) did.2)
      did.1,
)
idle a t none (inr kept) = (ap (λ (x : Space). x.victim) kept.2 ∙ kept.1, let w = ap (λ (x : Space). x.waiting) kept.2 in omega (arith, w, none))

pub rounds_end : ReclaimPassesEnd
rounds_end = record {
  none_in_hand = λ s t r is. idle r.emptied t (let few = is.waiting in let pairs = r.no_pairs in omega (arith, few, pairs)) r.cleans;
  free = λ s is victim waiting far. elim (cases_lt s.keep s.free) [
    | inl more ↦ omega (arith, more)
    | inr few ↦ let high = is.high victim few waiting in absurd (omega (arith, high, far))
  ];
  low = λ s is lands. is.low lands;
}
