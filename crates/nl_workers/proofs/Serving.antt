-- One background task more.
use Rattle.std.proofs.Common.{◌≡◌, ℕ, zero, suc, ◌+◌, ◌≤◌, Bool, true, false, ◌||◌, List, [], ◌∷◌, ◌++◌, refl, sym, ap, ◌∙◌, subst, arith}
use Rattle.std.specs.List.{range_with_len}
use Rattle.atomic_table.specs.Seated.{TableId}
use Rattle.nl_callbacks.specs.Notices.{IsSender, IsTaker, sent}
use Rattle.nl_callbacks.specs.declared.notices.Notices.{Notices}
use Rattle.nl_tree.specs.Causes.{LostHasCause}
use Rattle.nl_tree.specs.declared.turn.DutyAnswer.{DutyAnswer}
use Rattle.nl_tree.specs.declared.turn.DutyAnswer.TheVariants.{Did, Nothing, Fault, Lost}
use Rattle.nl_turns.specs.Seat.{SeatState}
use Rattle.nl_tree.specs.declared.turn.Stage.{Stage}
use Rattle.nl_tree.specs.declared.turn.Stage.TheVariants as stage
use Rattle.nl_turns.specs.Served.{duty_entry, is_lost_duty, is_lost_stage}
use Rattle.nl_workers.specs.Placed.{HasPassed, EachPlaced, KnowsLosses, entries_of, losses_by}
use Rattle.nl_workers.specs.Duties.{HasServed, IsOutbox, MayClean, HasCleaned, MayHandle, HasHandled}
use Rattle.nl_workers.specs.declared.duty.Cleaner.{Cleaner}
use Rattle.nl_workers.specs.declared.duty.Handler.{Handler}
use Rattle.nl_workers.specs.declared.outbox.Outbox.{Outbox}
use Rattle.nl_workers.proofs.Telling.{none_staged}
use Rattle.nl_workers.proofs.Turned.{passed_placed, passed_effects, effects_none}
use Rattle.nl_workers.proofs.Losing.{passed_losses, knows_self, knows_trans, knows_one}
use Rattle.nl_workers.proofs.GoingOn.{goes_self, goes_trans, passed_goes}

pub idles : (seat : SeatState) → HasServed seat seat
idles seat = record { goes = goes_self seat; placed = λ lines h. h; done = λ m some. refl; staged = λ m. refl }

pub serves : (seat s s' : SeatState) (answer : DutyAnswer) → HasServed seat s → HasPassed s (duty_entry answer) s' → HasServed seat s'
serves seat s s' answer i p =
    let number : s.number ≡ seat.number = ap (λ (z : SeatState). z.number) i.goes.same in
    record {
      goes = goes_trans seat s s' i.goes (passed_goes s s' (duty_entry answer) p);
      placed = λ lines h. subst (λ n. EachPlaced lines n s'.seen) number
          (passed_placed lines s s' (duty_entry answer) p (subst (λ n. EachPlaced lines n s.seen) (sym number) (i.placed lines h))
          (record { staged = λ a. absurd (omega arith); effect = λ a. absurd (omega arith) }));
      done = λ m some. passed_effects seat.number m s s' (duty_entry answer) number p
          ∙ (effects_none m (entries_of seat.number s.seen) (duty_entry answer) some refl ∙ i.done m some);
      staged = λ m. none_staged seat s s' (duty_entry answer) number p refl m ∙ i.staged m;
    }

-- what one turn more tells of lost pages
duty_knows : (seat s s' : SeatState) (before was now : Bool) (answer : DutyAnswer) → HasServed seat s → HasPassed s (duty_entry answer) s' → now ≡ (was || is_lost_duty answer)
    → KnowsLosses before was (losses_by seat.number seat.seen) (losses_by seat.number s.seen) → KnowsLosses before now (losses_by seat.number seat.seen) (losses_by seat.number s'.seen)
duty_knows seat s s' before was now answer i p is k =
    knows_trans before was now (losses_by seat.number seat.seen) (losses_by seat.number s.seen) (losses_by seat.number s'.seen) k
    (knows_one was now (is_lost_duty answer) (losses_by seat.number s.seen) (losses_by seat.number s'.seen) is
    (passed_losses seat.number s s' (duty_entry answer) (ap (λ (z : SeatState). z.number) i.goes.same) p))

-- ---- no page is lost over a medium that tells its contents

pub not_lost : (tells : Type 0) (answer : DutyAnswer) → ((wanted found : ℕ) → answer ≡ Lost wanted found → LostHasCause tells wanted found) → tells → is_lost_duty answer ≡ false
not_lost tells Did h t = refl
not_lost tells Nothing h t = refl
not_lost tells Fault h t = refl
not_lost tells (Lost wanted found) h t = absurd ((h wanted found refl).0 t)

pub no_lost_stage : (tells : Type 0) (answer : Stage) → ((wanted found : ℕ) → answer ≡ stage.Lost wanted found → LostHasCause tells wanted found) → tells → is_lost_stage answer ≡ false
no_lost_stage tells stage.Staged h t = refl
no_lost_stage tells stage.Whole h t = refl
no_lost_stage tells stage.Stopped h t = refl
no_lost_stage tells stage.Fault h t = refl
no_lost_stage tells (stage.Lost wanted found) h t = absurd ((h wanted found refl).0 t)

still : (now was before : Bool) (answer : DutyAnswer) → now ≡ (was || is_lost_duty answer) → is_lost_duty answer ≡ false → was ≡ before → now ≡ before
still now true before answer is none e = is ∙ e
still now false before answer is none e = is ∙ (none ∙ e)

-- ---- the loops

pub cleans_none : (tells : Type 0) (lock : TableId) (notices : Notices) (cleaner : Cleaner) → MayClean lock notices cleaner → HasCleaned tells notices cleaner cleaner
cleans_none tells lock notices cleaner may = record { served = idles cleaner.seat; sends = may.sends; goes_on = omega arith; knows = knows_self cleaner.lost (losses_by cleaner.seat.number cleaner.seat.seen); none_lost = λ t. refl }

pub cleans : (tells : Type 0) (notices : Notices) (cleaner s s' : Cleaner) (answer : DutyAnswer) → HasCleaned tells notices cleaner s → HasPassed s.seat (duty_entry answer) s'.seat → IsOutbox notices s'.outbox
    → s.outbox.last ≤ s'.outbox.last → s'.lost ≡ (s.lost || is_lost_duty answer) → (tells → is_lost_duty answer ≡ false) → HasCleaned tells notices cleaner s'
cleans tells notices cleaner s s' answer i p sends on is none = record {
  served = serves cleaner.seat s.seat s'.seat answer i.served p;
  knows = duty_knows cleaner.seat s.seat s'.seat cleaner.lost s.lost s'.lost answer i.served p is i.knows;
  sends = sends;
  goes_on = let a = i.goes_on in omega arith;
  none_lost = λ t. still s'.lost s.lost cleaner.lost answer is (none t) (i.none_lost t);
}

pub handles_none : (tells : Type 0) (lock : TableId) (notices : Notices) (handler : Handler) → MayHandle lock notices handler → HasHandled tells notices handler handler
handles_none tells lock notices handler may = record { served = idles handler.seat; takes = may.takes; knows = knows_self handler.lost (losses_by handler.seat.number handler.seat.seen); none_lost = λ t. refl }

pub handles : (tells : Type 0) (notices : Notices) (handler s s' : Handler) (answer : DutyAnswer) → HasHandled tells notices handler s → HasPassed s.seat (duty_entry answer) s'.seat → IsTaker notices s'.pass
    → s'.lost ≡ (s.lost || is_lost_duty answer) → (tells → is_lost_duty answer ≡ false) → HasHandled tells notices handler s'
handles tells notices handler s s' answer i p takes is none = record {
  served = serves handler.seat s.seat s'.seat answer i.served p;
  knows = duty_knows handler.seat s.seat s'.seat handler.lost s.lost s'.lost answer i.served p is i.knows;
  takes = takes;
  none_lost = λ t. still s'.lost s.lost handler.lost answer is (none t) (i.none_lost t);
}

pub waits : (tells : Type 0) (notices : Notices) (handler s s' : Handler) → HasHandled tells notices handler s → s'.seat ≡ s.seat → s'.lost ≡ s.lost → IsTaker notices s'.pass → HasHandled tells notices handler s'
waits tells notices handler s s' i seat lost takes = record {
  served = subst (HasServed handler.seat) (sym seat) i.served;
  takes = takes;
  knows = subst (λ (z : Bool × SeatState). KnowsLosses handler.lost z.0 (losses_by handler.seat.number handler.seat.seen) (losses_by handler.seat.number z.1.seen)) (λ k. (sym lost k, sym seat k)) i.knows;
  none_lost = λ t. lost ∙ i.none_lost t;
}

counting : (a n : ℕ) → range_with_len a n ++ (a + n) ∷ [] ≡ range_with_len a (suc n)
counting a zero = let e : a + zero ≡ a = omega arith in ap (λ (x : ℕ). x ∷ []) e
counting a (suc n) =
    let e : a + suc n ≡ a + 1 + n = omega arith in
    ap (λ (w : List ℕ). a ∷ w) (ap (λ (m : ℕ). range_with_len (a + 1) n ++ m ∷ []) e ∙ counting (a + 1) n)

counts_on : (n : ℕ) → range_with_len 1 n ++ (n + 1) ∷ [] ≡ range_with_len 1 (n + 1)
counts_on n =
    let e : n + 1 ≡ 1 + n = omega arith in
    let f : suc n ≡ n + 1 = omega arith in
    ap (λ (m : ℕ). range_with_len 1 n ++ m ∷ []) e ∙ (counting 1 n ∙ ap (range_with_len 1) f)

-- one number more is sent
pub sends_more : (notices : Notices) (s s' : Outbox) (number : ℕ) → IsOutbox notices s → s.last ≡ number → IsSender notices s'.pass → sent s'.pass ≡ sent s.pass ++ (number + 1) ∷ [] → s'.last ≡ number + 1
    → IsOutbox notices s'
sends_more notices s s' number i at sender more last = record {
  sender = sender;
  numbers = more ∙ (ap (λ (ns : List ℕ). ns ++ (number + 1) ∷ []) (i.numbers ∙ ap (range_with_len 1) at) ∙ (counts_on number ∙ ap (range_with_len 1) (sym last)));
}

pub none_either : (a b : Bool) → a ≡ false → b ≡ false → (a || b) ≡ false
none_either true b e f = e
none_either false b e f = f
