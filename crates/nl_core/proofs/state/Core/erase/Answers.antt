use Rattle.std.proofs.Common.{◌≡◌, inr, ◌∙◌, ap, sym, subst, refl}
use Rattle.nl_tree.specs.declared.turn.Duty.TheVariants as task
use Rattle.nl_tree.specs.declared.turn.DutyAnswer.{DutyAnswer}
use Rattle.nl_tree.specs.declared.turn.DutyAnswer.TheVariants as duty
use Rattle.nl_core_clean.proofs.Once.{erase_ends, erase_rose}
use Rattle.nl_core.specs.Calls.{FailureIsCounted, KeepsLines}
use Rattle.nl_core.specs.Core.{IsCore}
use Rattle.nl_core.specs.Duties.{DoesTask, duty_of_erase}
use Rattle.nl_core.specs.Goes.{PreservesVolume}
use Rattle.nl_core.specs.Writing.{stopped_by}
use Rattle.nl_core.specs.declared.state.Core.{Core}
use Rattle.nl_core.proofs.Tasks.{erase_does, erase_fault, erased_core, erased_goes, noted}
use Rattle.nl_core.proofs.state.Core.erase.Goals as goal

pub returns : goal.returns
returns g c =
    let G = g.D.Counts in
    let v = c.args.self.now in
    let t = c.erase-answer.new.self in
    let answer = c.erase-answer.result in
    let e = c.erase-answer.ensures in
    let first = c.device_stands.ensures in
    let ends = erase_ends G answer v.device t e.done e.none (λ un. (e.same un).0) e.write_faults in
    let same : c.note_fault.new.self ≡ noted G v t =
    c.note_fault.ensures ∙ ap (λ n. record v { device = t; stopped = stopped_by v.stopped (G.read_faults t) n (G.write_faults t) }) c.write_faults-faults.ensures in
    record {
      core = subst (λ (x : Core g.row.D.Denot). IsCore G x) (sym same) (erased_core G v t c.requires.core c.requires.writes first.volume first.map first.pages c.device_stands-2.ensures.pages answer ends e.left e.kept e.read_faults e.write_faults e.formed);
      goes = subst (λ (x : Core g.row.D.Denot). PreservesVolume G 0 v x) (sym same) (erased_goes G v t c.requires.core c.requires.writes first.volume first.map first.pages c.device_stands-2.ensures.pages answer ends e.left e.kept e.read_faults e.write_faults);
      does = subst (λ (a : DutyAnswer). DoesTask G g.D.MovingPages task.Erase v c.note_fault.new.self a) (sym c.of_erasure.ensures)
          (subst (λ (x : Core g.row.D.Denot). DoesTask G g.D.MovingPages task.Erase v x (duty_of_erase answer)) (sym same) (erase_does G v t c.requires.core c.requires.writes g.D.MovingPages answer e.done e.wiped e.nothing e.none e.read_faults));
      lines = subst (λ (x : Core g.row.D.Denot). KeepsLines v x) (sym same) refl;
      faults = subst (λ (x : Core g.row.D.Denot). FailureIsCounted G (c.of_erasure.result ≡ duty.Fault) v x) (sym same)
          (λ is. inr (erase_rose G answer v.device t e.write_faults (erase_fault answer (sym c.of_erasure.ensures ∙ is))));
    }
