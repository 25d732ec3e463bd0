-- That the callback of a number is handled, from the try that handled it, and from the commit before.
use Rattle.std.proofs.Common.{◌≡◌, ⊎_elim, ℕ, List, [], length, Bool, true, false, ◌||◌, ◌==◌, nat_lt, Option, Some, None, option_and_then, refl, sym, ap, subst, ◌∙◌}
use Rattle.std.specs.Prelude.{IfNone, IfSome}
use Rattle.std.proofs.lemmas.Bool.{both_ways}
use Rattle.nl_tree.specs.declared.turn.DutyAnswer.{DutyAnswer}
use Rattle.nl_tree.specs.declared.turn.DutyAnswer.TheVariants as duty
use Rattle.nl_core_callbacks.specs.Handled.{MarksSomeHandled}
use Rattle.nl_core_callbacks.specs.declared.draining.Drained.{Drained}
use Rattle.nl_core_callbacks.specs.declared.draining.Drained.TheVariants as drained
use Rattle.nl_iface.specs.Moves.{IsUnhandled, MarksHandled, first_handled}
use Rattle.nl_iface.specs.Names.{Has, Names}
use Rattle.nl_iface.specs.Rounds.{Empties}
use Rattle.nl_iface.specs.Space.{Space}
use Rattle.nl_iface.specs.declared.Callback.{Callback}
use Rattle.nl_iface.specs.declared.counts.Counts.{Ghosts}
use Rattle.nl_iface.proofs.RoundSteps.{empties_laws}
use Rattle.nl_meta.specs.Pages.{Pages, besides_0, has_room, is_dirty, most}
use Rattle.nl_meta_running.specs.Reading.{ReadsExplainStop}
use Rattle.nl_core_callbacks.specs.Blocked.{drained_stop}
use Rattle.nl_meta.proofs.Lists.{none_some}
use Rattle.nl_core.specs.Calls.{CommitsAll}
use Rattle.nl_core.specs.Core.{names_of}
use Rattle.nl_core.specs.Handling.{HandlesCallback, HandlesNumber, HandlesWithRoom, CallbackIsPending, TriesCallback, TriesNumber, duty_of}
use Rattle.nl_core.specs.declared.state.Core.{Core}

-- ---- callbacks that are unhandled were

unhandled_before : (mark : ℕ) (s t : Names) → MarksSomeHandled mark s t → (c : Callback) → Has t.pending c → t.handled c.number ≡ None → Has s.pending c × (s.handled c.number ≡ None)
unhandled_before mark s t m c has none = (
  subst (λ (cs : List Callback). Has cs c) m.pending has,
  ⊎_elim (λ same. sym same ∙ none) (λ new. absurd (none_some mark (sym none ∙ new.1))) (m.handled c.number),
)

marked_first : (o : Option ℕ) (mark : ℕ) → first_handled o mark ≡ None → ⊥
marked_first None mark is = none_some mark (sym is)
marked_first (Some n) mark is = none_some n (sym is)

marked_here : (c : Callback) (mark number : ℕ) (s t : Names) → c.number ≡ number → MarksHandled c mark s t → IsUnhandled t number → ⊥
marked_here c mark number s t is m u = marked_first (s.handled c.number) mark (sym m.here ∙ ap t.handled is ∙ u.3)

-- where no page is dirty, any page can be made dirty
or_room : (b : Bool) → b || true ≡ true
or_room true = refl
or_room false = refl

full_not : (a : ℕ) (p : Pages) → p.dirty ≡ [] → has_room p a ≡ false → ⊥
full_not a p none off = both_ways (has_room p a) off (ap (λ (xs : List ℕ). (a == 0 || is_dirty p a) || nat_lt (length (besides_0 xs)) most) none ∙ or_room (a == 0 || is_dirty p a))

-- ---- one try

module _ {D : Type 0} (g : Ghosts D) (v w : Core D) (mark number : ℕ) (answer : Option Drained) (b : TriesNumber g mark number v w answer) where
  pub handles_number : (IsUnhandled (names_of g w) number → ⊥) → HandlesNumber g number v w
  handles_number none = record {
    handled = none;
    others = unhandled_before mark (names_of g v) (names_of g w) b.handles.marks;
    posted = b.handles.marks.posted;
    space = λ still. subst (λ (s : Space). Empties (names_of g v).space s) (sym b.handles.marks.space) (empties_laws.none (names_of g v).space);
  }

  pub handled_done : answer ≡ Some drained.Done → HandlesNumber g number v w
  handled_done is =
      let k = subst (λ (o : Option Drained). IfSome o (λ d. (c : Callback) × Has (names_of g v).pending c × (c.number ≡ number) × TriesCallback g mark v w c d)) is b.some in
      handles_number (marked_here k.0 mark number (names_of g v) (names_of g w) k.2 (k.3.done refl))

  pub handled_none : answer ≡ None → HandlesNumber g number v w
  handled_none is =
      let k = subst (λ (o : Option Drained). IfNone o ((CallbackIsPending (names_of g v) number → ⊥) × (w ≡ v))) is b.none in
      handles_number (λ u. k.0 (u.0, subst (λ (x : Core D). Has (names_of g x).pending u.0) k.1 u.1, u.2))

  -- where no page is dirty, there is room
  pub has_room_clean : v.meta.dirty ≡ [] → answer ≡ Some drained.NoRoom → ⊥
  has_room_clean clean is =
      let k = subst (λ (o : Option Drained). IfSome o (λ d. (c : Callback) × Has (names_of g v).pending c × (c.number ≡ number) × TriesCallback g mark v w c d)) is b.some in
      let none : w.meta.dirty ≡ [] = (k.3.same (λ e. let no : ⊥ = cc in no)).1 ∙ clean in
      let full = (k.3.no_room refl).full.2 in
      full_not _ w.meta none full

  pub pending_some : (d : Drained) → answer ≡ Some d → CallbackIsPending (names_of g v) number
  pending_some d is =
      let k = subst (λ (o : Option Drained). IfSome o (λ d. (c : Callback) × Has (names_of g v).pending c × (c.number ≡ number) × TriesCallback g mark v w c d)) is b.some in
      (k.0, k.1, k.2)

  pub lost_other : (wanted found : ℕ) → answer ≡ Some (drained.Lost wanted found) → (found ≡ wanted → ⊥) × (g.tells → ⊥)
  lost_other wanted found is =
      let r = subst (λ (o : Option Drained). ReadsExplainStop g v.device w.device (option_and_then drained_stop o)) is b.reads in
      (r.2, r.3)

-- ---- after a commit

acknowledged_then : {D : Type 0} (g : Ghosts D) (number n : ℕ) (v u w : Core D) → CommitsAll g v u n → (w.stopped ≡ 0 → u.stopped ≡ 0) → HandlesNumber g number u w → HandlesNumber g number v w
acknowledged_then g number n v u w c ran h = record {
  handled = h.handled;
  others = λ d has none. let k = c.acknowledged.pending d (h.others d has none).0 in (k.0, k.1);
  posted = h.posted ∙ c.acknowledged.posted;
  space = λ still. empties_laws.then (names_of g v).space (names_of g u).space (names_of g w).space (c.space (ran still)) (h.space still);
}

pub with_room : {D : Type 0} (g : Ghosts D) (mark number n : ℕ) (v u w : Core D) (answer : Option Drained) → TriesNumber g mark number u w answer → CommitsAll g v u n → (w.stopped ≡ 0 → u.stopped ≡ 0)
    → HandlesWithRoom g number v w (duty_of answer)
with_room g mark number n v u w None b c ran = acknowledged_then g number n v u w c ran (handled_none g u w mark number None b refl)
with_room g mark number n v u w (Some drained.Done) b c ran = acknowledged_then g number n v u w c ran (handled_done g u w mark number (Some drained.Done) b refl)
with_room g mark number n v u w (Some drained.NoRoom) b c ran = absurd (has_room_clean g u w mark number (Some drained.NoRoom) b c.clean refl)
with_room g mark number n v u w (Some drained.Fault) b c ran = tt
with_room g mark number n v u w (Some (drained.Lost wanted found)) b c ran = lost_other g u w mark number (Some (drained.Lost wanted found)) b wanted found refl

pub fault_only : (answer : Option Drained) → duty_of answer ≡ duty.Fault → answer ≡ Some drained.Fault
fault_only None is = absurd (let no : ⊥ = cc in no)
fault_only (Some drained.Done) is = absurd (let no : ⊥ = cc in no)
fault_only (Some drained.NoRoom) is = absurd (let no : ⊥ = cc in no)
fault_only (Some drained.Fault) is = refl
fault_only (Some (drained.Lost w f)) is = absurd (let no : ⊥ = cc in no)

-- ---- a try before room is made

module _ {D : Type 0} (g : Ghosts D) (v u w : Core D) (mark number : ℕ) (answer : Option Drained) (b : TriesNumber g mark number v u answer) (pending : CallbackIsPending (names_of g v) number) where
  number_then : HandlesNumber g number u w → HandlesNumber g number v w
  number_then h = record {
    handled = h.handled;
    others = λ c has none. let k = h.others c has none in unhandled_before mark (names_of g v) (names_of g u) b.handles.marks c k.0 k.1;
    posted = h.posted ∙ b.handles.marks.posted;
    space = λ still. subst (λ (s : Space). Empties s (names_of g w).space) b.handles.marks.space (h.space still);
  }

  pub handles_then : (d : DutyAnswer) → HandlesWithRoom g number u w d → HandlesCallback g number v w d
  handles_then duty.Did h = (pending, number_then h)
  handles_then duty.Nothing h = absurd h
  handles_then duty.Fault h = pending
  handles_then (duty.Lost wanted found) h = (pending, h.0, h.1)
