-- The background tasks: what the device tells of a call is what its task does to a core.
use Rattle.std.proofs.Common.{◌≡◌, ◌↔◌, ◌⊎◌, inl, inr, ⊎_elim, ℕ, ◌<◌, ◌^◌, Bool, true, false, refl, sym, ap, ◌∙◌, arith}
use Rattle.std.specs.Prelude.{if◌then◌else◌, ⊤}
use Rattle.std.proofs.lemmas.Bool.{cases_eq, cases_lt}
use Rattle.nl_field.specs.CrashStates.{Rose}
use Rattle.nl_tree.specs.declared.turn.Duty.{Duty}
use Rattle.nl_tree.specs.declared.turn.Duty.TheVariants as task
use Rattle.nl_tree.specs.declared.turn.DutyAnswer.{DutyAnswer}
use Rattle.nl_tree.specs.declared.turn.DutyAnswer.TheVariants as duty
use Rattle.nl_core_clean.proofs.Once.{BeginEnds, CopyEnds, CopyLeaves, EraseEnds, begin_held, begin_lands, begin_medium, begin_segment, begin_stored, copy_held, copy_segment, copy_stored, erase_held, erase_lands, erase_segment, erase_stored, reads_itself}
use Rattle.nl_iface.specs.declared.moving.Copying.{Copying}
use Rattle.nl_iface.specs.declared.moving.Copying.TheVariants as copying
use Rattle.nl_iface.specs.Calls.{CallCounted, NoWriteFailed, OnlyReads, StoresMap, StoresPages}
use Rattle.nl_iface.specs.Device.{IsVolumeShape}
use Rattle.nl_iface.specs.Moves.{BeginsVictim, ErasesAtCrashes, ErasesVictim, HasCopied, HasNothingToCopy, KeepsCleaning}
use Rattle.nl_iface.specs.Counting.{FailuresCounted}
use Rattle.nl_iface.specs.Space.{CanLand}
use Rattle.nl_iface.specs.Victims.{CanBeginVictim, StaysOrTakes, TakesVictimOf}
use Rattle.nl_iface.specs.declared.counts.Counts.{Ghosts}
use Rattle.nl_iface.specs.declared.moving_pages.MovingPages.{Ghosts as Moving}
use Rattle.nl_journal.specs.declared.answers.Committing.{Committing}
use Rattle.nl_journal.specs.declared.answers.Committing.TheVariants as commits
use Rattle.nl_iface.specs.declared.moving.Erasing.{Erasing}
use Rattle.nl_iface.specs.declared.moving.Erasing.TheVariants as erasure
use Rattle.nl_core.specs.Calls.{CommitsByAnswer}
use Rattle.nl_core.specs.Core.{IsCore, names_of}
use Rattle.nl_core.specs.Duties.{RunsBackgroundTask, DoesTask, HasNothingToDo, IsAtRest, OnlyReadsDevice, IsUnchangedByTask, Wipes, duty_of_commit, duty_of_copy, duty_of_erase}
use Rattle.nl_core.specs.Goes.{PreservesVolume}
use Rattle.nl_core.specs.Handling.{HandlesCallback}
use Rattle.nl_core.specs.Writing.{stopped_by}
use Rattle.nl_core.specs.declared.state.Core.{Core}
use Rattle.nl_core.proofs.Cleaned.{carried_core, carried_goes}
use Rattle.nl_core.proofs.Written.{same_below_end, stopped_cases}

-- ---- which answer a call has

copy_nothing : (a : Copying) → (duty_of_copy a ≡ duty.Nothing) ↔ (a ≡ copying.Nothing)
copy_nothing copying.Did = (λ e. absurd (let no : ⊥ = cc in no), λ e. absurd (let no : ⊥ = cc in no))
copy_nothing copying.Nothing = (λ e. refl, λ e. refl)
copy_nothing (copying.Lost w f) = (λ e. absurd (let no : ⊥ = cc in no), λ e. absurd (let no : ⊥ = cc in no))
copy_nothing copying.Fault = (λ e. absurd (let no : ⊥ = cc in no), λ e. absurd (let no : ⊥ = cc in no))

copy_did : (a : Copying) → duty_of_copy a ≡ duty.Did → a ≡ copying.Did
copy_did copying.Did e = refl
copy_did copying.Nothing e = absurd (let no : ⊥ = cc in no)
copy_did (copying.Lost w f) e = absurd (let no : ⊥ = cc in no)
copy_did copying.Fault e = absurd (let no : ⊥ = cc in no)

copy_lost : (a : Copying) (w f : ℕ) → duty_of_copy a ≡ duty.Lost w f → a ≡ copying.Lost w f
copy_lost copying.Did w f e = absurd (let no : ⊥ = cc in no)
copy_lost copying.Nothing w f e = absurd (let no : ⊥ = cc in no)
copy_lost (copying.Lost x y) w f e = cc
copy_lost copying.Fault w f e = absurd (let no : ⊥ = cc in no)

pub copy_fault : (a : Copying) → duty_of_copy a ≡ duty.Fault → a ≡ copying.Fault
copy_fault copying.Did e = absurd (let no : ⊥ = cc in no)
copy_fault copying.Nothing e = absurd (let no : ⊥ = cc in no)
copy_fault (copying.Lost w f) e = absurd (let no : ⊥ = cc in no)
copy_fault copying.Fault e = refl

erase_nothing : (a : Erasing) → (duty_of_erase a ≡ duty.Nothing) ↔ (a ≡ erasure.Nothing)
erase_nothing erasure.Done = (λ e. absurd (let no : ⊥ = cc in no), λ e. absurd (let no : ⊥ = cc in no))
erase_nothing erasure.Nothing = (λ e. refl, λ e. refl)
erase_nothing erasure.Fault = (λ e. absurd (let no : ⊥ = cc in no), λ e. absurd (let no : ⊥ = cc in no))

erase_done : (a : Erasing) → duty_of_erase a ≡ duty.Did → a ≡ erasure.Done
erase_done erasure.Done e = refl
erase_done erasure.Nothing e = absurd (let no : ⊥ = cc in no)
erase_done erasure.Fault e = absurd (let no : ⊥ = cc in no)

erase_never_lost : (a : Erasing) (w f : ℕ) → duty_of_erase a ≡ duty.Lost w f → ⊥
erase_never_lost erasure.Done w f e = cc
erase_never_lost erasure.Nothing w f e = cc
erase_never_lost erasure.Fault w f e = cc

pub erase_fault : (a : Erasing) → duty_of_erase a ≡ duty.Fault → a ≡ erasure.Fault
erase_fault erasure.Done e = absurd (let no : ⊥ = cc in no)
erase_fault erasure.Nothing e = absurd (let no : ⊥ = cc in no)
erase_fault erasure.Fault e = refl

pub commit_fault : (a : Committing) → duty_of_commit a ≡ duty.Fault → a ≡ commits.Fault
commit_fault (commits.Done n) e = absurd (let no : ⊥ = cc in no)
commit_fault (commits.Lost w f) e = absurd (let no : ⊥ = cc in no)
commit_fault commits.Fault e = refl

-- ---- tasks of the device

-- the core with the device after a call, and a first failure noted
abbrev pub noted : {D : Type 0} → Ghosts D → Core D → D → Core D
noted g v t = record v { device = t; stopped = stopped_by v.stopped (g.read_faults t) (g.write_faults v.device) (g.write_faults t) }

module _ {D : Type 0} (g : Ghosts D) (v : Core D) (t : D) (core : IsCore g v) (writes : v.stopped ≡ 0) where
  quiet : g.write_faults t ≡ g.write_faults v.device → NoWriteFailed g v.device t
  quiet same = same_below_end (g.write_faults v.device) (g.write_faults t) (core.writes writes).counts same

  runs_on : NoWriteFailed g v.device t → stopped_by v.stopped (g.read_faults t) (g.write_faults v.device) (g.write_faults t) ≡ v.stopped
  runs_on none = ⊎_elim (λ both. absurd (none both.1)) (λ same. same) (stopped_cases v.stopped (g.read_faults t) (g.write_faults v.device) (g.write_faults t))

  only_reads : OnlyReads g v.device t → g.read_faults t ≡ g.read_faults v.device → OnlyReadsDevice g v (noted g v t)
  only_reads reads faults = record {
    reads = reads;
    read_faults = faults;
    others = ap (λ n. record v { device = t; stopped = n }) (runs_on (quiet reads.medium.write_faults));
  }

  module _ (volume : IsVolumeShape (g.shape v.device)) (map : g.tells → StoresMap g v.device) (was : g.tells → StoresPages g v.device) (stores : g.tells → StoresPages g t) where
    lands_before : CanLand (names_of g v).space
    lands_before = (core.writes writes).lands

    -- a copy
    module _ (answer : Copying) (ends : CopyEnds g v.device t) (left : CopyLeaves g v.device t) (kept : KeepsCleaning g v.device t) (lands : Rose (g.write_faults v.device) (g.write_faults t) ⊎ CanLand (g.names t).space)
        (counts : CallCounted g (answer ≡ copying.Fault) v.device t) where
      pub copied_core : g.formed t → IsCore g (noted g v t)
      copied_core formed = let segment = copy_segment g v.device t ends in
          carried_core g v (noted g v t) refl core volume writes refl counts.reads_never_fall counts.writes_never_fall (copy_held g v.device t ends was left kept) segment.0 segment.1 map stores
          (λ none. ⊎_elim (λ rose. absurd (none rose)) (λ l. l) lands) (λ tells none. copy_stored g v.device t was left tells) formed

      pub copied_goes : PreservesVolume g 0 v (noted g v t)
      copied_goes = let segment = copy_segment g v.device t ends in
          carried_goes g v (noted g v t) refl core volume writes refl counts.reads_never_fall counts.writes_never_fall (copy_held g v.device t ends was left kept) segment.0 segment.1 map stores
          (λ none. ⊎_elim (λ rose. absurd (none rose)) (λ l. l) lands) (λ tells none. copy_stored g v.device t was left tells)

    -- an erase
    module _ (answer : Erasing) (ends : EraseEnds g v.device t) (left : g.tells → ErasesAtCrashes g v.device t) (kept : KeepsCleaning g v.device t) (reads : g.read_faults t ≡ g.read_faults v.device)
        (counts : FailuresCounted ⊤ (g.write_faults v.device) (g.write_faults t) (answer ≡ erasure.Fault)) where
      pub erased_core : g.formed t → IsCore g (noted g v t)
      erased_core formed = let segment = erase_segment g v.device t ends in
          carried_core g v (noted g v t) refl core volume writes refl (omega (arith, reads)) counts.never_falls (erase_held g v.device t ends left kept) segment.0 segment.1 map stores
          (λ none. erase_lands g v.device t ends lands_before) (λ tells none. erase_stored g v.device t ends none tells) formed

      pub erased_goes : PreservesVolume g 0 v (noted g v t)
      erased_goes = let segment = erase_segment g v.device t ends in
          carried_goes g v (noted g v t) refl core volume writes refl (omega (arith, reads)) counts.never_falls (erase_held g v.device t ends left kept) segment.0 segment.1 map stores
          (λ none. erase_lands g v.device t ends lands_before) (λ tells none. erase_stored g v.device t ends none tells)

    -- a victim that is begun; no write can fail
    module _ (ends : BeginEnds g v.device t) (reads : g.read_faults t ≡ g.read_faults v.device) where
      same_writes : g.write_faults t ≡ g.write_faults v.device
      same_writes = (begin_medium g v.device t ends).write_faults

      pub begun_core : g.formed t → IsCore g (record v { device = t })
      begun_core formed = let segment = begin_segment g v.device t ends in let same = same_writes in
          carried_core g v (record v { device = t }) refl core volume writes (sym (runs_on (quiet same))) (omega (arith, reads)) (omega (arith, same)) (begin_held g v.device t ends) segment.0 segment.1 map stores
          (λ none. begin_lands g v.device t ends lands_before) (λ tells none. begin_stored g v.device t ends tells) formed

      pub begun_goes : PreservesVolume g 0 v (record v { device = t })
      begun_goes = let segment = begin_segment g v.device t ends in let same = same_writes in
          carried_goes g v (record v { device = t }) refl core volume writes (sym (runs_on (quiet same))) (omega (arith, reads)) (omega (arith, same)) (begin_held g v.device t ends) segment.0 segment.1 map stores
          (λ none. begin_lands g v.device t ends lands_before) (λ tells none. begin_stored g v.device t ends tells)

  pub copy_does : (m : Moving D) (answer : Copying) → (answer ≡ copying.Did → HasCopied g v.device t) → StaysOrTakes (m.most_dead v.device) (m.victim v.device) (m.victim t) → (answer ≡ copying.Nothing ↔ HasNothingToCopy (names_of g v).space) → (answer ≡ copying.Nothing → OnlyReads g v.device t)
      → ((w f : ℕ) → answer ≡ copying.Lost w f → f ≡ w → ⊥) → (g.tells → (w f : ℕ) → answer ≡ copying.Lost w f → ⊥) → CallCounted g (answer ≡ copying.Fault) v.device t
      → DoesTask g m task.Copy v (noted g v t) (duty_of_copy answer)
  copy_does m answer did taken nothing none lost told counts = record {
    nothing = (λ e. nothing.0 ((copy_nothing answer).0 e), λ why. (copy_nothing answer).1 (nothing.1 why));
    same = λ e.
        let is = (copy_nothing answer).0 e in
        let reads = none is in
        only_reads reads (counts.stays (inr (quiet reads.medium.write_faults)) (λ fault. apart (sym is ∙ fault))).0;
    done = λ e. (did (copy_did answer e), taken, refl);
    lost = λ w f e. let is = copy_lost answer w f e in (lost w f is, λ tells. told tells w f is);
  }
    where
      apart : copying.Nothing ≡ copying.Fault → ⊥
      apart e = cc

  pub erase_does : (m : Moving D) (answer : Erasing) → (answer ≡ erasure.Done → ErasesVictim g v.device t) → (answer ≡ erasure.Done → Wipes g m v.device t) → (answer ≡ erasure.Nothing ↔ HasNothingToDo g m task.Erase v) → (answer ≡ erasure.Nothing → OnlyReads g v.device t)
      → g.read_faults t ≡ g.read_faults v.device → DoesTask g m task.Erase v (noted g v t) (duty_of_erase answer)
  erase_does m answer done wiped nothing none reads = record {
    nothing = (λ e. nothing.0 ((erase_nothing answer).0 e), λ why. (erase_nothing answer).1 (nothing.1 why));
    same = λ e. only_reads (none ((erase_nothing answer).0 e)) reads;
    done = λ e. (done (erase_done answer e), wiped (erase_done answer e), refl);
    lost = λ w f e. absurd (erase_never_lost answer w f e);
  }

-- ---- levelling

pub level_does : {D : Type 0} (g : Ghosts D) (m : Moving D) (v : Core D) (t : D) (begun : Bool) → (begun ≡ true → BeginsVictim g v.device t) → (begun ≡ true → TakesVictimOf (m.coldest v.device) (m.victim t)) → (begun ≡ false → OnlyReads g v.device t)
    → (begun ≡ true ↔ (CanBeginVictim (names_of g v).space × ((block : ℕ) × m.coldest v.device block))) → g.read_faults t ≡ g.read_faults v.device → DoesTask g m task.Level v (record v { device = t }) (if begun then duty.Did else duty.Nothing)
level_does g m v t true begins taken none exactly faults = record {
  nothing = (λ e. absurd (let no : ⊥ = cc in no), λ why. absurd (why (exactly.0 refl)));
  same = λ e. absurd (let no : ⊥ = cc in no);
  done = λ e. (begins refl, taken refl, refl);
  lost = λ w f e. absurd (let no : ⊥ = cc in no);
}
level_does g m v t false begins taken none exactly faults = record {
  nothing = (λ e can. apart (exactly.1 can), λ why. refl);
  same = λ e. record { reads = none refl; read_faults = faults; others = refl };
  done = λ e. absurd (let no : ⊥ = cc in no);
  lost = λ w f e. absurd (let no : ⊥ = cc in no);
}
  where
    apart : false ≡ true → ⊥
    apart e = cc

pub level_ends : {D : Type 0} (g : Ghosts D) (s t : D) (begun : Bool) → (begun ≡ true → BeginsVictim g s t) → (begun ≡ false → OnlyReads g s t) → BeginEnds g s t
level_ends g s t true begins none = inl (begins refl)
level_ends g s t false begins none = inr (none refl)

pub level_fault : (begun : Bool) → (if begun then duty.Did else duty.Nothing) ≡ duty.Fault → ⊥
level_fault true e = cc
level_fault false e = cc

-- ---- a commit, and a callback

module _ {D : Type 0} (g : Ghosts D) (v w : Core D) where
  pub commit_does : (m : Moving D) (answer : Committing) → (HasNothingToDo g m task.Commit v → ⊥) → CommitsByAnswer g v w answer → DoesTask g m task.Commit v w (duty_of_commit answer)
  commit_does m (commits.Done n) due c = record {
    nothing = (λ e. absurd (let no : ⊥ = cc in no), λ none. absurd (due none));
    same = λ e. absurd (let no : ⊥ = cc in no);
    done = λ e. (n, c);
    lost = λ x y e. absurd (let no : ⊥ = cc in no);
  }
  commit_does m (commits.Lost wanted found) due c = record {
    nothing = (λ e. absurd (let no : ⊥ = cc in no), λ none. absurd (due none));
    same = λ e. absurd (let no : ⊥ = cc in no);
    done = λ e. absurd (let no : ⊥ = cc in no);
    lost = λ x y e. (λ same. c.1 (let one : found ≡ wanted = cc in one), c.2);
  }
  commit_does m commits.Fault due c = record {
    nothing = (λ e. absurd (let no : ⊥ = cc in no), λ none. absurd (due none));
    same = λ e. absurd (let no : ⊥ = cc in no);
    done = λ e. absurd (let no : ⊥ = cc in no);
    lost = λ x y e. absurd (let no : ⊥ = cc in no);
  }

  pub commit_keeps_lines : (answer : Committing) → CommitsByAnswer g v w answer → w.flight ≡ v.flight
  commit_keeps_lines (commits.Done n) c = c.same_flight
  commit_keeps_lines (commits.Lost wanted found) c = c.0.same_flight
  commit_keeps_lines commits.Fault c = c.same_flight

  pub handle_does : (m : Moving D) (number : ℕ) (answer : DutyAnswer) → HandlesCallback g number v w answer → DoesTask g m (task.Handle number) v w answer
  handle_does m number duty.Did h = record {
    nothing = (λ e. absurd (let no : ⊥ = cc in no), λ none. absurd (none h.0));
    same = λ e. absurd (let no : ⊥ = cc in no);
    done = λ e. h.1;
    lost = λ x y e. absurd (let no : ⊥ = cc in no);
  }
  handle_does m number duty.Nothing h = record {
    nothing = (λ e. h.0, λ none. refl);
    same = λ e. h.1;
    done = λ e. absurd (let no : ⊥ = cc in no);
    lost = λ x y e. absurd (let no : ⊥ = cc in no);
  }
  handle_does m number duty.Fault h = record {
    nothing = (λ e. absurd (let no : ⊥ = cc in no), λ none. absurd (none h));
    same = λ e. absurd (let no : ⊥ = cc in no);
    done = λ e. absurd (let no : ⊥ = cc in no);
    lost = λ x y e. absurd (let no : ⊥ = cc in no);
  }
  handle_does m number (duty.Lost wanted found) h = record {
    nothing = (λ e. absurd (let no : ⊥ = cc in no), λ none. absurd (none h.0));
    same = λ e. absurd (let no : ⊥ = cc in no);
    done = λ e. absurd (let no : ⊥ = cc in no);
    lost = λ x y e. (λ same. h.1 (let one : found ≡ wanted = cc in one), h.2);
  }

-- ---- any volume

stays_itself : {D : Type 0} (g : Ghosts D) (v : Core D) (which : Duty) → IsUnchangedByTask g which v v
stays_itself g v task.Copy = record { reads = reads_itself g v.device; read_faults = refl; others = refl }
stays_itself g v task.Erase = record { reads = reads_itself g v.device; read_faults = refl; others = refl }
stays_itself g v (task.Handle number) = refl
stays_itself g v task.Commit = refl
stays_itself g v task.Level = record { reads = reads_itself g v.device; read_faults = refl; others = refl }

pub nothing_does : {D : Type 0} (g : Ghosts D) (m : Moving D) (v : Core D) → HasNothingToDo g m task.Commit v → DoesTask g m task.Commit v v duty.Nothing
nothing_does g m v none = record {
  nothing = (λ e. none, λ why. refl);
  same = λ e. refl;
  done = λ e. absurd (let no : ⊥ = cc in no);
  lost = λ w f e. absurd (let no : ⊥ = cc in no);
}

pub rest_does : {D : Type 0} (g : Ghosts D) (m : Moving D) (v : Core D) (which : Duty) → IsAtRest g v → RunsBackgroundTask g m which v v duty.Nothing
rest_does g m v which rest = record {
  nothing = (λ e. inl rest, λ why. refl);
  same = λ e. stays_itself g v which;
  done = λ e. absurd (let no : ⊥ = cc in no);
  lost = λ w f e. absurd (let no : ⊥ = cc in no);
}

pub task_does : {D : Type 0} (g : Ghosts D) (m : Moving D) (v w : Core D) (which : Duty) (answer : DutyAnswer) → (IsAtRest g v → ⊥) → DoesTask g m which v w answer → RunsBackgroundTask g m which v w answer
task_does g m v w which answer runs d = record {
  nothing = (λ e. inr (d.nothing.0 e), λ why. d.nothing.1 (⊎_elim (λ rest. absurd (runs rest)) (λ none. none) why));
  same = d.same;
  done = d.done;
  lost = d.lost;
}

pub runs_then : {D : Type 0} (g : Ghosts D) (v : Core D) → (IsAtRest g v → ⊥) → (v.stopped ≡ 0) × (g.next_stamp v.device < 2 ^ 62)
runs_then g v runs = (
  ⊎_elim (λ none. none) (λ off. absurd (runs (inl off))) (cases_eq v.stopped 0),
  ⊎_elim (λ low. low) (λ high. absurd (runs (inr high))) (cases_lt (g.next_stamp v.device) (2 ^ 62)),
)
