-- Whether a page was lost, turn by turn and seat by seat.
use Rattle.std.proofs.Common.{◌≡◌, ◌⊎◌, inl, inr, ◌||◌, ℕ, suc, ◌+◌, ◌<◌, ◌≤◌, Bool, true, false, cond, nat_lt, List, [], ◌∷◌, ◌++◌, Some, refl, sym, ap, ◌∙◌, subst, arith}
use Rattle.std.proofs.lemmas.Bool.{lt-ltb, le-ltb}
use Rattle.std.proofs.lemmas.List.Sums.{sum_by_push}
use Rattle.std.specs.Prelude.{slice_get}
use Rattle.nl_tree.specs.declared.reply.Reply.{Reply}
use Rattle.nl_tree.specs.declared.turn.Stage.{Stage}
use Rattle.nl_tree.specs.declared.turn.Stage.TheVariants as stage
use Rattle.nl_turns.specs.History.{losses}
use Rattle.nl_turns.specs.Seat.{SeatState, by_seat, passed_by}
use Rattle.nl_turns.specs.Served.{stage_entry, effect_entry, is_staged, is_lost_stage}
use Rattle.nl_turns.specs.declared.entry.Entry.{Entry}
use Rattle.nl_workers.specs.Placed.{HasPassed, KnowsLosses, entries_of, losses_by, one_if}
use Rattle.nl_workers.specs.Crew.{any_lost}
use Rattle.nl_workers.specs.declared.station.Station.{Station}
use Rattle.nl_workers.proofs.Epochs.{below_or}
use Rattle.nl_workers.proofs.GoingOn.{passed_seen}
use Rattle.nl_workers.proofs.Turned.{own_more}

losses_push : (es : List Entry) (e : Entry) → losses (es ++ e ∷ []) ≡ losses es + one_if e.lost
losses_push es e = sum_by_push (λ (x : Entry). cond x.lost 1 0) es e

-- what one turn adds
pub passed_losses : (n : ℕ) (s s' : SeatState) (e : Entry) → s.number ≡ n → HasPassed s e s' → losses_by n s'.seen ≡ losses_by n s.seen + one_if e.lost
passed_losses n s s' e number p =
    let seen_is : s'.seen ≡ p.mid ++ passed_by n e ∷ [] = passed_seen s s' e p ∙ ap (λ k. p.mid ++ passed_by k e ∷ []) number in
    let quiet : by_seat n p.mid ≡ by_seat n s.seen = subst (λ k. by_seat k p.mid ≡ by_seat k s.seen) number p.quiet in
    ap (losses_by n) seen_is ∙ (ap losses (own_more n s.seen p.mid e quiet) ∙ losses_push (entries_of n s.seen) e)

-- ---- what is known

rises_in_two : (i j k : ℕ) → i ≤ j → j ≤ k → (nat_lt i j || nat_lt j k) ≡ nat_lt i k
rises_in_two i j k low high = go (below_or i j) (below_or j k)
  where
    go : (i < j) ⊎ (j ≤ i) → (j < k) ⊎ (k ≤ j) → (nat_lt i j || nat_lt j k) ≡ nat_lt i k
    go (inl h) o = ap (λ b. b || nat_lt j k) (lt-ltb i j h) ∙ sym (lt-ltb i k (omega arith))
    go (inr h) (inl g) = ap (λ b. b || nat_lt j k) (le-ltb i j h) ∙ (lt-ltb j k g ∙ sym (lt-ltb i k (omega arith)))
    go (inr h) (inr g) = ap (λ b. b || nat_lt j k) (le-ltb i j h) ∙ (le-ltb j k g ∙ sym (le-ltb i k (omega arith)))

or_more : (a b c d : Bool) → (b || c) ≡ d → ((a || b) || c) ≡ (a || d)
or_more true b c d e = refl
or_more false b c d e = e

or_false : (a : Bool) → (a || false) ≡ a
or_false true = refl
or_false false = refl

pub knows_self : (b : Bool) (n : ℕ) → KnowsLosses b b n n
knows_self b n = record { none_gone = omega arith; after_is = sym (ap (λ c. b || c) (le-ltb n n (omega arith)) ∙ or_false b) }

pub knows_trans : (a b c : Bool) (i j k : ℕ) → KnowsLosses a b i j → KnowsLosses b c j k → KnowsLosses a c i k
knows_trans a b c i j k p q =
    let low = p.none_gone in
    let high = q.none_gone in
    record {
      none_gone = omega arith;
      after_is = q.after_is ∙ (ap (λ x. x || nat_lt j k) p.after_is ∙ or_more a (nat_lt i j) (nat_lt j k) (nat_lt i k) (rises_in_two i j k low high));
    }

-- one turn more, which lost a page or not
pub knows_one : (a b c : Bool) (i j : ℕ) → b ≡ (a || c) → j ≡ i + one_if c → KnowsLosses a b i j
knows_one a b true i j is adds = record { none_gone = omega arith; after_is = is ∙ ap (λ x. a || x) (sym (lt-ltb i j (omega arith))) }
knows_one a b false i j is adds = record { none_gone = omega arith; after_is = is ∙ ap (λ x. a || x) (sym (le-ltb i j (omega arith))) }

-- beside so many that others lost
pub knows_beside : (a b : Bool) (i j k i' j' : ℕ) → i' ≡ i + k → j' ≡ j + k → KnowsLosses a b i j → KnowsLosses a b i' j'
knows_beside a b i j k i' j' is js p =
    let low = p.none_gone in
    record { none_gone = omega arith; after_is = p.after_is ∙ ap (λ x. a || x) (go (below_or i j)) }
  where
    go : (i < j) ⊎ (j ≤ i) → nat_lt i j ≡ nat_lt i' j'
    go (inl h) = lt-ltb i j h ∙ sym (lt-ltb i' j' (omega arith))
    go (inr h) = le-ltb i j h ∙ sym (le-ltb i' j' (omega arith))

left_or : (r s b : Bool) → (r || (s || b)) ≡ ((r || s) || b)
left_or true s b = refl
left_or false s b = refl

or_comm : (s b : Bool) → (b || s) ≡ (s || b)
or_comm true true = refl
or_comm true false = refl
or_comm false true = refl
or_comm false false = refl

right_or : (r s b : Bool) → ((r || b) || s) ≡ ((r || s) || b)
right_or true s b = refl
right_or false s b = or_comm s b

-- one of two goes on
pub second_knows : (r a b : Bool) (i j : ℕ) → KnowsLosses a b i j → KnowsLosses (r || a) (r || b) i j
second_knows r a b i j p = record { none_gone = p.none_gone; after_is = ap (λ x. r || x) p.after_is ∙ left_or r a (nat_lt i j) }

pub first_knows : (s a b : Bool) (i j : ℕ) → KnowsLosses a b i j → KnowsLosses (a || s) (b || s) i j
first_knows s a b i j p = record { none_gone = p.none_gone; after_is = ap (λ x. x || s) p.after_is ∙ right_or a s (nat_lt i j) }

-- two that began with none
pub both_know : (a b : Bool) (i j : ℕ) → KnowsLosses false a 0 i → KnowsLosses false b 0 j → KnowsLosses false (a || b) 0 (i + j)
both_know a b i j p q =
    knows_trans false (a || false) (a || b) 0 i (i + j) (first_knows false false a 0 i p)
    (knows_beside (a || false) (a || b) 0 j i i (i + j) (omega arith) (omega arith) (second_knows a false b 0 j q))

-- ---- stations

pub any_push : (ss : List Station) (s : Station) → any_lost (ss ++ s ∷ []) ≡ (any_lost ss || s.lost)
any_push [] s = or_false s.lost
any_push (x ∷ xs) s = ap (λ b. x.lost || b) (any_push xs s) ∙ left_or x.lost (any_lost xs) s.lost

pub stations_know : (more more' : List Station) (s s' : Station) (i j k : ℕ) → KnowsLosses s.lost s'.lost i j → KnowsLosses (any_lost more) (any_lost more') j k
    → KnowsLosses (any_lost (more ++ s ∷ [])) (any_lost (more' ++ s' ∷ [])) i k
stations_know more more' s s' i j k p q =
    subst (λ (z : Bool × Bool). KnowsLosses z.0 z.1 i k) (λ n. (sym (any_push more s) n, sym (any_push more' s') n))
    (knows_trans (any_lost more || s.lost) (any_lost more || s'.lost) (any_lost more' || s'.lost) i j k
    (second_knows (any_lost more) s.lost s'.lost i j p) (first_knows s'.lost (any_lost more) (any_lost more') j k q))

pub none_lost_yet : (ss : List Station) → ((w : ℕ) (s : Station) → slice_get ss w ≡ Some s → s.lost ≡ false) → any_lost ss ≡ false
none_lost_yet [] each = refl
none_lost_yet (x ∷ xs) each = ap (λ b. b || any_lost xs) (each 0 x refl) ∙ none_lost_yet xs (λ w s e. each (suc w) s e)

-- ---- the turns of a line

no_lost_staged : (answer : Stage) → is_staged answer ≡ true → is_lost_stage answer ≡ false
no_lost_staged stage.Staged h = refl
no_lost_staged stage.Whole h = absurd (cc h)
no_lost_staged stage.Stopped h = absurd (cc h)
no_lost_staged stage.Fault h = absurd (cc h)
no_lost_staged (stage.Lost wanted found) h = absurd (cc h)

pub staged_none : (n line : ℕ) (s s' : SeatState) (answer : Stage) → s.number ≡ n → HasPassed s (stage_entry line answer) s' → is_staged answer ≡ true → losses_by n s'.seen ≡ losses_by n s.seen
staged_none n line s s' answer number p staged =
    let a = passed_losses n s s' (stage_entry line answer) number p in
    let b : one_if (is_lost_stage answer) ≡ 0 = ap one_if (no_lost_staged answer staged) in
    omega arith

pub line_knows : (n line : ℕ) (seat s s1 s2 : SeatState) (answer : Stage) (reply : Reply) (lost : Bool) → s.number ≡ n → s1.number ≡ n → HasPassed s (stage_entry line answer) s1 → HasPassed s1 (effect_entry line reply) s2
    → losses_by n s.seen ≡ losses_by n seat.seen → lost ≡ is_lost_stage answer → KnowsLosses false lost (losses_by n seat.seen) (losses_by n s2.seen)
line_knows n line seat s s1 s2 answer reply lost number number1 p q same is =
    let a = passed_losses n s s1 (stage_entry line answer) number p in
    let b = passed_losses n s1 s2 (effect_entry line reply) number1 q in
    knows_one false lost (is_lost_stage answer) (losses_by n seat.seen) (losses_by n s2.seen) is (omega arith)
