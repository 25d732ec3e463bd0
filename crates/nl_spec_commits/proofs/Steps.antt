-- Steps of a volume between two calls.
use Rattle.std.proofs.Common.{◌≡◌, ℕ, ◌<◌, List, length, refl, sym, ap, subst, ◌∙◌, arith}
use Rattle.nl_field.specs.declared.pointer.Pointer.{Pointer}
use Rattle.nl_field.specs.declared.pointer.Tag.{Tag}
use Rattle.nl_iface.specs.Calls.{KeepsVirtual, next_page}
use Rattle.nl_iface.specs.Device.{IsVolumeShape}
use Rattle.nl_iface.specs.Holders.{tagged}
use Rattle.nl_iface.specs.Names.{Names}
use Rattle.nl_iface.specs.declared.counts.Counts.{Ghosts}
use Rattle.nl_spec_holders.specs.Holding.{Holding, HoldsPages, KeepsCommitted}
use Rattle.nl_spec_holders.specs.Laws.{PreservesHolding}
use Rattle.nl_spec_holders.specs.Lists.{ListGains}
use Rattle.nl_spec_holders.proofs.LawProofs.{copy_keeps, drop_keeps, erase_keeps, program_keeps}
use Rattle.nl_journal.specs.Progress.{HasNumber, Progress, begun}
use Rattle.nl_meta.specs.Pages.{Frozen, Pages}
use Rattle.nl_journal_commit.specs.Holding.{running_holders}
use Rattle.nl_journal_commit.specs.Standing.{IsJournaled}
use Rattle.nl_spec_commits.specs.Held.{IsHeldVolume}
use Rattle.nl_spec_commits.specs.SettlingLaws.{JournalIsObservable}
use Rattle.nl_spec_commits.specs.Steps.{CleaningKeepsHeld, CopyKeepsHeld, DropKeepsHeld, HandlingKeepsHeld, ProgramKeepsHeld, StepKeepsHeld, TablesKeepHeld, holding_with}
use Rattle.nl_spec_commits.proofs.Settling.{addresses_hold, metadata_holds, running_same}

-- the holding of a volume is that of its device, its metadata and the others that hold pages
as_held : {D : Type 0} (g : Ghosts D) (s : D) (p : Progress) (pages : Pages) (flight : List (Tag × Pointer)) (freeing : List Pointer) {leaving : ℕ} (h : IsHeldVolume g s p pages flight freeing leaving)
    → h.holding ≡ holding_with g s pages flight freeing h.holding
as_held g s p pages flight freeing h =
    let v = h.holding in
    ap (λ (n : Names). record v { names = n }) h.is_of.runs.names
    ∙ (ap (λ (r : List (Tag × Pointer)). record v { names = g.names s; running = r }) h.is_of.runs.running
    ∙ (ap (λ (f : List (Tag × Pointer)). record v { names = g.names s; running = running_holders g s pages; flight = f }) h.in_flight
    ∙ ap (λ (f : List Pointer). record v { names = g.names s; running = running_holders g s pages; flight = flight; freeing = f }) h.awaits))

-- who holds pages does not depend on a number
numbered : (v : Holding) (n : ℕ) → HoldsPages v → HoldsPages (record v { number = n })
numbered v n h = record { table = h.table; held = h.held }

unnumbered : (v : Holding) (n : ℕ) → HoldsPages (record v { number = n }) → HoldsPages v
unnumbered v n h = record { table = h.table; held = h.held }

pub step_keeps_held : {D : Type 0} (g : Ghosts D) → StepKeepsHeld g
step_keeps_held g s t p pages now flight later freeing waiting leaving volume j h k same keeps =
    let v = h.holding in
    let w = holding_with g s pages flight freeing v in
    let is : v ≡ w = as_held g s p pages flight freeing h in
    let b = begun p (length pages.frozen.addresses) in
    let holds : HoldsPages w = subst HoldsPages is h.holds in
    record {
      holding = holding_with g t now later waiting v;
      is_of = metadata_holds g t p pages now (record v { names = g.names t }) later waiting same (addresses_hold g s t p pages v v.flight v.freeing v.due volume j k h.is_of);
      in_flight = refl;
      awaits = refl;
      none_due = h.none_due;
      gives_up = h.gives_up;
      holds = unnumbered (holding_with g t now later waiting v) b ((keeps (record v { number = b }) refl).holds (numbered w b holds));
      committed = λ told.
          let before : JournalIsObservable g p pages = (told.0, subst (λ (x : Frozen). HasNumber p (length x.addresses)) same told.1) in
          (keeps v (h.is_of.told before.0 before.1).number).committed holds (subst KeepsCommitted is (h.committed before));
    }

pub handling_keeps_held : {D : Type 0} (g : Ghosts D) → HandlingKeepsHeld g
handling_keeps_held g s t p pages now flight later freeing waiting transaction leaving volume j h k same after keeps =
    step_keeps_held g s t p pages now flight later freeing waiting _ volume j h k same (λ v is. keeps v (subst (λ (n : ℕ). n < transaction) (sym is) after))

-- ---- the metadata stays

module _ {D : Type 0} (g : Ghosts D) (s t : D) (p : Progress) (pages : Pages) (flight later : List (Tag × Pointer)) (freeing : List Pointer) (volume : IsVolumeShape (g.shape s)) (j : IsJournaled g s p pages)
    {leaving : ℕ} (h : IsHeldVolume g s p pages flight freeing leaving) (k : KeepsVirtual g s t) where
  device_keeps_held : ((v : Holding) → PreservesHolding (record v { names = g.names s; flight = flight }) (record v { names = g.names t; flight = later })) → IsHeldVolume g t p pages later freeing leaving
  device_keeps_held keeps = step_keeps_held g s t p pages pages flight later freeing freeing _ volume j h k refl
      (λ v is. subst (λ (r : List (Tag × Pointer)). PreservesHolding (holding_with g s pages flight freeing v) (record v { names = g.names t; running = r; flight = later; freeing = freeing }))
      (sym (running_same g s t p pages h.holding volume j k h.is_of)) (keeps (record v { running = running_holders g s pages; freeing = freeing })))

pub program_keeps_held : {D : Type 0} (g : Ghosts D) → ProgramKeepsHeld g
program_keeps_held g s t p pages flight later freeing tag main at leaving volume j h k names places gains = device_keeps_held g s t p pages flight later freeing volume j h k
    (λ v. program_keeps (record v { names = g.names s; flight = flight }) (g.names t) later at.name (next_page g tag s) places.is_new.dead places.is_new.own
    (λ q other live same. let low = names.below q other live in let off : other.stamp ≡ g.next_stamp s = same in omega (arith, low, off)) places.names
    (subst (λ (n : ℕ). ListGains tagged (tag, record { name = at.name; stamp = n }) flight later) places.stamp gains))

pub drop_keeps_held : {D : Type 0} (g : Ghosts D) → DropKeepsHeld g
drop_keeps_held g s t p pages flight later freeing tag at leaving volume j h k differ frees loses = device_keeps_held g s t p pages flight later freeing volume j h k
    (λ v. drop_keeps (record v { names = g.names s; flight = flight }) (g.names t) (tag, at) later differ frees.names loses)

pub cleaning_keeps_held : {D : Type 0} (g : Ghosts D) → CleaningKeepsHeld g
cleaning_keeps_held g s t p pages flight freeing leaving volume j h k keeps = device_keeps_held g s t p pages flight flight freeing volume j h k (λ v. keeps (record v { flight = flight }))

pub copy_keeps_held : {D : Type 0} (g : Ghosts D) → CopyKeepsHeld g
copy_keeps_held g s t p pages flight freeing c leaving volume j h k copies =
    cleaning_keeps_held g s t p pages flight freeing _ volume j h k (λ v. copy_keeps (record v { names = g.names s }) (g.names t) c copies)

pub tables_keep_held : {D : Type 0} (g : Ghosts D) → TablesKeepHeld g
tables_keep_held g s t p pages flight freeing leaving volume j h k same = cleaning_keeps_held g s t p pages flight freeing _ volume j h k (λ v. erase_keeps (record v { names = g.names s }) (g.names t) same)
