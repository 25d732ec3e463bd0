-- Callbacks are handled one after the other until none is left, and one victim is cleaned then.
use Rattle.std.proofs.Common.{◌≡◌, ◌⊎◌, inl, inr, ⊎_elim, ℕ, ◌+◌, ◌*◌, ◌<◌, ◌≤◌, ◌^◌, length, refl, ap, subst, ◌∙◌, arith}
use Rattle.nl_core_clean.specs.Laws.{IsOfReclaimPass}
use Rattle.nl_core_clean.specs.declared.cleaning.Cleaned.{Cleaned}
use Rattle.nl_core_clean.specs.declared.cleaning.Cleaned.TheVariants as cleaned
use Rattle.nl_flight.proofs.Carried.{most}
use Rattle.nl_iface.specs.Device.{IsVolumeShape}
use Rattle.nl_iface.specs.Moves.{HasNothingToCopy, IsUnhandled}
use Rattle.nl_iface.specs.Names.{Has, IsNames, IsTableOfNames, Names}
use Rattle.nl_iface.specs.Rounds.{Empties, HasCapacity, IsReclaimPass}
use Rattle.nl_iface.specs.Space.{IsSpace, Space}
use Rattle.nl_iface.specs.declared.Callback.{Callback}
use Rattle.nl_iface.specs.declared.counts.Counts.{Ghosts}
use Rattle.nl_iface.specs.declared.moving_pages.MovingPages.{Ghosts as Moving}
use Rattle.nl_iface.proofs.RoundSteps.{a_round_gains, empties_laws, rounds_end}
use Rattle.nl_tree.specs.declared.turn.DutyAnswer.{DutyAnswer}
use Rattle.nl_tree.specs.declared.turn.DutyAnswer.TheVariants as duty
use Rattle.nl_core.specs.Calls.{KeepsLines}
use Rattle.nl_core.specs.Cleaning.{CleansDevice, IsNewCallback}
use Rattle.nl_core.specs.Core.{IsCore, names_of}
use Rattle.nl_core.specs.Goes.{PreservesVolume}
use Rattle.nl_core.specs.Handling.{HandlesCallback, HandlesNumber, CallbackIsPending}
use Rattle.nl_core.specs.Rounds.{ArePostedAfter, CleansOne, EmptiesTable, IfRounded, ReclaimPassIsDone}
use Rattle.nl_core.specs.declared.rounds.Rounded.{Rounded}
use Rattle.nl_core.specs.declared.rounds.Rounded.TheVariants as rounded
use Rattle.nl_core.specs.declared.state.Core.{Core}
use Rattle.nl_core.proofs.Onward.{goes_more, goes_none, goes_then}
use Rattle.nl_core.proofs.Unhandled.{OpenBefore, left, left_falls, left_most, left_some, open_then}

-- What holds before each callback. So many numbers were taken, and no more are taken for the callbacks that are left than for all.
pub record HandlesOn {D : Type 0} (g : Ghosts D) (start now : Core D) : Type 0 where
  pub formed : g.formed now.device
  pub core : IsCore g now
  pub runs : now.stopped ≡ 0
  pub space : Empties (names_of g start).space (names_of g now).space
  pub lines : KeepsLines start now
  pub before : OpenBefore (names_of g start) (names_of g now)
  pub taken : ℕ
  pub goes : PreservesVolume g taken start now
  pub few : taken + 512 * left (names_of g start) (names_of g now) ≤ 512 * left (names_of g start) (names_of g start)

module _ {D : Type 0} (g : Ghosts D) where
  pub begins : (v : Core D) → g.formed v.device → IsCore g v → v.stopped ≡ 0 → HandlesOn g v v
  begins v formed core runs = record {
    formed = formed;
    core = core;
    runs = runs;
    space = empties_laws.none (names_of g v).space;
    lines = refl;
    before = λ c has none. (has, none);
    taken = 0;
    goes = goes_none g v core;
    few = omega arith;
  }

  module _ (u v : Core D) (on : HandlesOn g u v) (volume : IsVolumeShape (g.shape u.device)) (names : IsNames (g.shape u.device) (g.next_stamp u.device) (names_of g u)) where
    few_left : left (names_of g u) (names_of g u) ≤ 1024
    few_left = left_most (g.shape u.device) (g.next_stamp u.device) (names_of g u) (names_of g u) volume names

    few_taken : on.taken ≤ 2 ^ 19
    few_taken = let few = on.few in let most = few_left in omega (arith, few, most)

    -- a commit has its numbers still
    pub has_numbers : g.next_stamp u.device + 2 ^ 20 ≤ 2 ^ 63 → g.next_stamp v.device + 512 ≤ 2 ^ 63
    has_numbers room = let few = few_taken in let taken = on.goes.stamps.at_most in omega (arith, room, few, taken)

    pub goes_all : PreservesVolume g (2 ^ 19) u v
    goes_all = goes_more g on.taken (2 ^ 19) u v few_taken on.goes

    module _ (table : IsTableOfNames (names_of g u)) (number : ℕ) (was : IsUnhandled (names_of g v) number) (w : Core D) (goes : PreservesVolume g 512 v w) where
      taken_then : PreservesVolume g (on.taken + 512) u w
      taken_then = goes_then g u v w on.taken 512 on.goes goes

      -- the call for a callback that is unhandled takes no more than there are
      pub goes_next : PreservesVolume g (2 ^ 19) u w
      goes_next =
          let some = left_some (names_of g u) (names_of g v) table on.before number was in
          let few = on.few in
          let most = few_left in
          goes_more g (on.taken + 512) (2 ^ 19) u w (omega (arith, some, few, most)) taken_then

      module _ (now : IsTableOfNames (names_of g v)) (h : HandlesNumber g number v w) where
        pub falls : left (names_of g u) (names_of g w) < left (names_of g u) (names_of g v)
        falls = left_falls (names_of g u) (names_of g v) table on.before number was (names_of g w) now h.others h.handled

        pub goes_on : g.formed w.device → IsCore g w → KeepsLines v w → w.stopped ≡ 0 → HandlesOn g u w
        goes_on formed core lines runs = record {
          formed = formed;
          core = core;
          runs = runs;
          space = empties_laws.then (names_of g u).space (names_of g v).space (names_of g w).space on.space (h.space runs);
          lines = lines ∙ on.lines;
          before = open_then (names_of g u) (names_of g v) (names_of g w) on.before h.others;
          taken = on.taken + 512;
          goes = taken_then;
          few = let less = falls in let few = on.few in omega (arith, less, few);
        }

-- ---- what a call answers for one number

module _ {D : Type 0} (g : Ghosts D) (v w : Core D) (number : ℕ) (answer : DutyAnswer) (h : HandlesCallback g number v w answer) where
  -- where the callback is pending
  pub handles_number : CallbackIsPending (names_of g v) number → (answer ≡ duty.Did) ⊎ (answer ≡ duty.Nothing) → HandlesNumber g number v w
  handles_number pending (inl is) = (subst (λ (a : DutyAnswer). HandlesCallback g number v w a) is h).1
  handles_number pending (inr is) = absurd ((subst (λ (a : DutyAnswer). HandlesCallback g number v w a) is h).0 pending)

-- ---- answers of rounds

pub rounded_to : (tells P Q : Type 0) (answer : Rounded) → (answer ≡ rounded.Done → P → Q) → IfRounded tells P answer → IfRounded tells Q answer
rounded_to tells P Q rounded.Done to h = to refl h
rounded_to tells P Q (rounded.Lost w f) to h = h
rounded_to tells P Q rounded.Fault to h = h

-- ---- the round

-- with an empty table, and no victim in hand, a block is Free
pub none_dead : (s : Space) → IsSpace s → s.pairs ≡ 0 → HasNothingToCopy s → s.victim ≡ 0 → s.dead ≡ 0
none_dead s is no_pairs (inl hand) none = let one = hand.0 in absurd (omega (arith, one, none))
none_dead s is no_pairs (inr (zero_in_hand, inl dead)) none = dead
none_dead s is no_pairs (inr (zero_in_hand, inr (inl many))) none = absurd (omega (arith, many, no_pairs))
none_dead s is no_pairs (inr (zero_in_hand, inr (inr free))) none =
    let waiting = is.waiting in
    let keeps = is.keeps in
    let kept = is.kept in
    absurd (omega (arith, waiting, keeps, kept, no_pairs, none, free))

-- the names of a core are a table
pub table_of : {D : Type 0} (g : Ghosts D) (v : Core D) → IsCore g v → IsTableOfNames (names_of g v)
table_of g v core = let h = core.held in subst (λ (n : Names). IsTableOfNames n) h.is_of.runs.names h.holds.table

-- where none was pending before the cleaning, each callback that is pending was posted by it
module _ {D : Type 0} (g : Ghosts D) (m : Moving D) (u v w : Core D) (answer : Cleaned) (cleans : CleansDevice g m v w answer) (none : (c : Callback) → Has (names_of g v).pending c → ⊥)
    (first : (names_of g u).posted ≤ (names_of g v).posted) (second : (names_of g v).posted ≤ (names_of g w).posted) where
  is_new : (c : Callback) → Has (names_of g w).pending c → IsNewCallback (names_of g v) (names_of g w) c
  is_new c has = ⊎_elim (λ old. absurd (none c old)) (λ new. new) (cleans.posted c has)

  pub posted_after : ArePostedAfter (names_of g u).posted (names_of g w)
  posted_after = record {
    unhandled = λ c has. (is_new c has).0;
    numbered = λ below. record {
      above = λ c has. let number = (is_new c has).1 below in let low = first in omega (arith, number, low);
      posted = let low = first in let high = second in omega (arith, low, high);
    };
  }

module _ {D : Type 0} (g : Ghosts D) (m : Moving D) (u v w : Core D) (emptied : EmptiesTable g u v) (core : IsCore g v) (space : IsSpace (names_of g v).space) (law : IsOfReclaimPass)
    (answer : Cleaned) (done : (answer ≡ cleaned.Done) ⊎ (answer ≡ cleaned.Nothing)) (cleans : CleansDevice g m v w answer) where
  has_capacity : HasCapacity (names_of g v).space
  has_capacity = record {
    cap = (g.shape v.device).cap;
    all = core.space.all;
    live =
        let counted = core.space.counted in
        let few = core.space.few in
        let flight = most v.flight core.flight in
        let freed = ap length emptied.freed in
        omega (arith, counted, few, flight, freed);
  }

  is_round : IsReclaimPass (names_of g u).space (names_of g w).space
  is_round = record {
    emptied = (names_of g v).space;
    empties = emptied.space;
    no_pairs = emptied.no_pairs;
    cleans = law answer (names_of g v).space (names_of g w).space done cleans.space;
  }

  -- where nothing was cleaned, the table is empty and a block is Free, so no block has a dead page
  cleans_one : (a : Cleaned) → (a ≡ cleaned.Done) ⊎ (a ≡ cleaned.Nothing) → CleansDevice g m v w a → CleansOne g m v w
  cleans_one a (inl is) k = inl (subst (λ x. CleansDevice g m v w x) is k)
  cleans_one a (inr is) k =
      let n = subst (λ x. CleansDevice g m v w x) is k in
      inr (n, ap (λ (s : Space). s.dead) n.space.2 ∙ none_dead (names_of g v).space space emptied.no_pairs n.space.0 n.space.1)

  pub round_is_done : ArePostedAfter (names_of g u).posted (names_of g w) → IsTableOfNames (names_of g w) → ReclaimPassIsDone g m u w
  unfolding is_round
  round_is_done callbacks table =
      let ends = rounds_end.none_in_hand (names_of g u).space (names_of g w).space is_round space in
      record {
        between = v;
        emptied = emptied;
        cleans = cleans_one answer done cleans;
        round = is_round;
        gains = a_round_gains (names_of g u).space (names_of g w).space is_round space has_capacity;
        none_in_hand = ends.0;
        few_wait = ends.1;
        freed = ap (λ (x : Core D). x.freeing.items) cleans.others ∙ emptied.freed;
        callbacks = callbacks;
        told = table.told;
      }
