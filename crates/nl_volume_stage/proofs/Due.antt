-- Why a line is answered with a fault.
use Rattle.std.proofs.Common.{◌≡◌, ◌⊎◌, inl, inr, ℕ, ◌<◌, ◌≤◌, nat_le, Bool, true, false, cond, Option, Some, None, IsTrue, refl, sym, ap, subst, ◌∙◌, arith}
use Rattle.std.specs.Prelude.{IfSome, MatchOption}
use Rattle.std.proofs.lemmas.Bool.Decides.{nat_tests}
use Rattle.nl_tree.specs.Causes.{Counts, FaultIsDue, FaultState, FaultWithin, HasCause, IsSumSince, NeverFall, fault_before, fault_due, fault_in, fault_of_change, is_changing, max_stamp}
use Rattle.nl_tree.specs.declared.call.Call.{Call}
use Rattle.nl_tree.specs.declared.reply.FaultReply.{FaultReply}
use Rattle.nl_tree.specs.declared.reply.FaultReply.TheVariants.{Eio, Erofs, Eworn, Edamaged}
use Rattle.nl_tree.specs.declared.reply.Reply.{Reply}
use Rattle.nl_tree.specs.declared.reply.Reply.TheVariants.{Done, Count, Content, Names, File, Dir, Synced, No, Fault}
use Rattle.nl_tree.proofs.FaultProofs.{fault_laws}
use Rattle.nl_turns.specs.History.{fault_of}
use Rattle.nl_turns.specs.Served.{fault_mark}

-- the fault of a reply's mark is that of the reply
pub marked : (reply : Reply) → fault_of (fault_mark reply) ≡ fault_in reply
marked Done = refl
marked (Count n) = refl
marked Content = refl
marked (Names n) = refl
marked (File size pages) = refl
marked (Dir entries) = refl
marked (Synced upto moment) = refl
marked (No refusal) = refl
marked (Fault fault) = refl

pub fault_is : (reply : Reply) (f : FaultReply) → fault_in reply ≡ Some f → reply ≡ Fault f
fault_is Done f e = absurd (cc e)
fault_is (Count n) f e = absurd (cc e)
fault_is Content f e = absurd (cc e)
fault_is (Names n) f e = absurd (cc e)
fault_is (File size pages) f e = absurd (cc e)
fault_is (Dir entries) f e = absurd (cc e)
fault_is (Synced upto moment) f e = absurd (cc e)
fault_is (No refusal) f e = absurd (cc e)
fault_is (Fault fault) f e = cc e

-- what refuses a call before it is tried
pub record IsRefused (staged read_only : Option ℕ) (next_stamp : ℕ) (call : Call) (f : FaultReply) : Type 0 where
  pub why : ((n : ℕ) × (staged ≡ Some n) × (f ≡ Eio n)) ⊎ (IsTrue (is_changing call) × (((n : ℕ) × (read_only ≡ Some n) × (f ≡ Erofs n)) ⊎ ((f ≡ Eworn) × (max_stamp ≤ next_stamp))))

pub is_refused : (staged read_only : Option ℕ) (next_stamp : ℕ) (call : Call) (f : FaultReply) → fault_before staged read_only next_stamp call ≡ Some f → IsRefused staged read_only next_stamp call f
is_refused (Some n) read_only next_stamp call f e = record { why = inl (n, refl, cc (sym e)) }
is_refused None read_only next_stamp call f e = record { why = inr (by (is_changing call) refl e) }
  where
    worn : (b : Bool) → nat_le max_stamp next_stamp ≡ b → cond b (Some Eworn) None ≡ Some f → (f ≡ Eworn) × (max_stamp ≤ next_stamp)
    worn true low e = (cc (sym e), grind (arith, nat_tests, low))
    worn false low e = absurd (cc e)

    change : (r : Option ℕ) → fault_of_change r next_stamp ≡ Some f → ((n : ℕ) × (r ≡ Some n) × (f ≡ Erofs n)) ⊎ ((f ≡ Eworn) × (max_stamp ≤ next_stamp))
    change (Some n) e = inl (n, refl, cc (sym e))
    change None e = inr (worn (nat_le max_stamp next_stamp) refl e)

    by : (b : Bool) → is_changing call ≡ b → cond b (fault_of_change read_only next_stamp) None ≡ Some f → IsTrue (is_changing call) × (((n : ℕ) × (read_only ≡ Some n) × (f ≡ Erofs n)) ⊎ ((f ≡ Eworn) × (max_stamp ≤ next_stamp)))
    by true is e = (is, change read_only e)
    by false is e = absurd (cc e)

-- a line is refused, or a fault has its cause within it
pub due_cases : (tells : Type 0) (state : FaultState) (before now : Counts) (call : Call) (reply : Reply) (f : FaultReply) → FaultIsDue tells state before now call reply → fault_in reply ≡ Some f
    → IsRefused state.staged state.read_only state.next_stamp call f ⊎ FaultWithin tells before now f
due_cases tells state before now call reply f due e = by (fault_due state call) refl due
  where
    within : (o : Option FaultReply) → o ≡ Some f → IfSome o (FaultWithin tells before now) → FaultWithin tells before now f
    within None is w = absurd (cc is)
    within (Some k) is w = subst (FaultWithin tells before now) (cc is) w

    by : (o : Option FaultReply) → fault_due state call ≡ o → MatchOption o (IfSome (fault_in reply) (FaultWithin tells before now)) (λ fault. reply ≡ Fault fault)
        → IsRefused state.staged state.read_only state.next_stamp call f ⊎ FaultWithin tells before now f
    by None is w = inr (within (fault_in reply) e w)
    by (Some k) is w = inl (is_refused state.staged state.read_only state.next_stamp call f (is ∙ (sym (ap fault_in w) ∙ e)))

-- what fails within a call has its cause since the opening
pub within_since : (tells : Type 0) (opening before now : Counts) (next_stamp : ℕ) (call : Call) (f : FaultReply) → NeverFall opening before → NeverFall before now → FaultWithin tells before now f → HasCause tells opening now next_stamp call f
within_since tells opening before now next_stamp call (Eio n) since later is = subst (IsSumSince opening now) (sym is.1) (fault_laws.cause opening before now since later is.0)
within_since tells opening before now next_stamp call (Erofs n) since later is = absurd is
within_since tells opening before now next_stamp call Eworn since later is = absurd is
within_since tells opening before now next_stamp call (Edamaged wanted found) since later is = is

-- a call that is not refused
pub due_tried : (tells : Type 0) (state : FaultState) (before now : Counts) (call : Call) (reply : Reply) → fault_due state call ≡ None → IfSome (fault_in reply) (FaultWithin tells before now) → FaultIsDue tells state before now call reply
due_tried tells state before now call reply none is = subst (λ (o : Option FaultReply). MatchOption o (IfSome (fault_in reply) (FaultWithin tells before now)) (λ fault. reply ≡ Fault fault)) (sym none) is

-- a call that is refused
pub due_refused : (tells : Type 0) (state : FaultState) (before now : Counts) (call : Call) (f : FaultReply) → fault_due state call ≡ Some f → FaultIsDue tells state before now call (Fault f)
due_refused tells state before now call f some = subst (λ (o : Option FaultReply). MatchOption o (FaultWithin tells before now f) (λ fault. Fault f ≡ Fault fault)) (sym some) refl

-- a call that is not refused may be tried
pub tried_may : (state : FaultState) (call : Call) → fault_due state call ≡ None → IsTrue (is_changing call) → (state.read_only ≡ None) × (state.next_stamp < max_stamp)
tried_may state call none changing = by state.staged none
  where
    worn : (b : Bool) → nat_le max_stamp state.next_stamp ≡ b → cond b (Some Eworn) None ≡ None → state.next_stamp < max_stamp
    worn true high e = absurd (cc e)
    worn false low e = grind (arith, nat_tests, low)

    change : (r : Option ℕ) → fault_of_change r state.next_stamp ≡ None → (r ≡ None) × (state.next_stamp < max_stamp)
    change (Some n) e = absurd (cc e)
    change None e = (refl, worn (nat_le max_stamp state.next_stamp) refl e)

    by : (s : Option ℕ) → fault_before s state.read_only state.next_stamp call ≡ None → (state.read_only ≡ None) × (state.next_stamp < max_stamp)
    by (Some n) e = absurd (cc e)
    by None e = change state.read_only (sym (ap (λ b. cond b (fault_of_change state.read_only state.next_stamp) None) changing) ∙ e)
