-- The laws of the steps.
use Rattle.std.proofs.Common.{◌≡◌, ◌≢◌, ℕ, suc, ◌+◌, List, [], ◌∷◌, Some, refl, sym, ap, subst, ◌∙◌, inl, arith}
use Rattle.nl_field.specs.declared.pointer.Pointer.{Pointer}
use Rattle.nl_iface.specs.Device.{AllDiffer}
use Rattle.nl_iface.specs.Holders.{IsRef}
use Rattle.nl_iface.specs.Names.{Drops, GainsPage, Has, IsTableOfNames, LivePage, Names, led}
use Rattle.nl_spec_holders.specs.Holding.{Holding, HoldsPages, KeepsCommitted}
use Rattle.nl_spec_holders.specs.Laws.{AcknowledgeKeeps, CopyKeeps, CutKeeps, DecideKeeps, DoubtKeeps, DropKeeps, EraseKeeps, FreeKeeps, FreezeKeeps, HandleKeeps, InstallKeeps, PreservesHolding, NoneHandled, NonePending, OldNamesDiffer, OpeningHolds, ProgramKeeps}
use Rattle.nl_spec_holders.proofs.FreeLists.{frees-from_lists, old_differ_from}
use Rattle.nl_spec_holders.proofs.HoldingSteps as steps
use Rattle.nl_spec_holders.proofs.InWords.{none-left}
use Rattle.nl_spec_holders.proofs.MarkSteps.{all-gone}
use Rattle.nl_spec_holders.proofs.OpeningStep.{opens-held, opens-safe}
use Rattle.nl_spec_holders.proofs.Words.{Frees, Holds, Programs, from_words, to_words, ways_by}

-- a step in the words of proofs
keeps-by : {v w : Holding} → (Holds v → Holds w) → (Holds v → KeepsCommitted v → KeepsCommitted w) → PreservesHolding v w
keeps-by h c = record { holds = λ f. from_words (h (to_words f)); committed = λ f s. c (to_words f) s }

-- the page of a reference is live no longer
frees-by : {t u : Names} {due : ℕ → Type 0} {want : LivePage → Type 0} (name : ℕ) (r : IsRef t due want name) → IsTableOfNames t → OldNamesDiffer t → Drops (led t name) t u → Frees (led t name) r.leads.0 t u
frees-by {t} {u} name r table differ d = frees-from_lists (led t name) r.leads.0 t u table (old_differ_from t.pairs differ) r.leads.1 d.live d.pairs d.pending d.handled

pub program_keeps : ProgramKeeps
program_keeps v t flight p page dead own fresh gained g = keeps-by (steps.program-held v t flight p page s g) (λ h. steps.program-safe v t flight p page s g)
  where
    s : Programs p page v.names t
    s = record { dead = dead; own = own; fresh = fresh; live = gained.live; ways = ways_by v.names t gained.pairs; pending = gained.pending; marks = gained.handled }

pub copy_keeps : CopyKeeps
copy_keeps v t k s = keeps-by (steps.copy-held v t k s) (λ h. steps.copy-safe v t k s)

pub erase_keeps : EraseKeeps
erase_keeps v t s = keeps-by (steps.erase-held v t s) (λ h. steps.erase-safe v t s)

pub install_keeps : InstallKeeps
install_keeps v h running flight l g = keeps-by (steps.install-held v h running flight l g) (λ x. steps.install-safe v h running flight l g)

pub cut_keeps : CutKeeps
cut_keeps v h running l = keeps-by (λ f. steps.cut-held v h h.1 running l refl (steps.cut-own v h h.1 running l refl f refl) f) (λ f. steps.cut-safe v h h.1 running l refl)

pub drop_keeps : DropKeeps
drop_keeps v t h flight differ d l = keeps-by
    (λ f. let r = f.flight h l.had in steps.drop-held v t h flight r.leads.0 r.leads.2.1 (frees-by h.1.name r f.table differ d) l f)
    (λ f. let r = f.flight h l.had in steps.drop-safe v t h flight r.leads.0 r.leads.2.1 (frees-by h.1.name r f.table differ d) l f)

pub handle_keeps : HandleKeeps
handle_keeps v t k n later s running flight freeing x y z behind = keeps-by (steps.handle-held v t k n later s running flight freeing x y z behind) (steps.handle-safe v t k n later s running flight freeing x y z behind)

pub freeze_keeps : FreezeKeeps
freeze_keeps v frozen next later all = keeps-by (steps.freeze-held v frozen next later all) (steps.freeze-safe v frozen next later all)

pub decide_keeps : DecideKeeps
decide_keeps v = keeps-by (steps.decide-held v) (λ h. steps.decide-safe v)

pub doubt_keeps : DoubtKeeps
doubt_keeps v committed next either none later = keeps-by (steps.doubt-held v committed either none next later) (λ h. steps.doubt-safe v committed either none next later)

more : (k : ℕ) → k + 1 ≡ suc k
more k = omega arith

pub free_keeps : FreeKeeps
free_keeps v t p rest k is due thawed none differ d = keeps-by
    (λ f. let r = f.freeing p (first f) in steps.free-held v t p rest k is (due ∙ more k) thawed none r.leads.0 r.leads.2 (frees-by p.name r f.table differ d) f)
    (λ f. let r = f.freeing p (first f) in steps.free-safe v t p rest k is (due ∙ more k) thawed none r.leads.0 r.leads.2 (frees-by p.name r f.table differ d) f)
  where
    first : Holds v → Has v.freeing p
    first f = subst (λ xs. Has xs p) (sym is) (inl refl)

pub acknowledge_keeps : AcknowledgeKeeps
acknowledge_keeps v t upto counts s = keeps-by (steps.acknowledge-held v t upto counts s) (λ h. steps.acknowledge-safe v t upto counts s)

pub opening_holds : OpeningHolds
opening_holds kept place found v table r o = (from_words (opens-held kept place found v table r o), opens-safe kept place found v table r o)

pub none_handled : NoneHandled
none_handled = all-gone

pub none_left : NonePending
none_left = none-left
