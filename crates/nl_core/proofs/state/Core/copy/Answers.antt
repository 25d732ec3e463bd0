use Rattle.std.proofs.Common.{◌≡◌, ◌∙◌, ap, sym, subst, refl}
use Rattle.nl_tree.specs.declared.turn.Duty.TheVariants as task
use Rattle.nl_tree.specs.declared.turn.DutyAnswer.{DutyAnswer}
use Rattle.nl_tree.specs.declared.turn.DutyAnswer.TheVariants as duty
use Rattle.nl_core_clean.proofs.Once.{copy_ends}
use Rattle.nl_core.specs.Calls.{FailureIsCounted, KeepsLines}
use Rattle.nl_core.specs.Core.{IsCore}
use Rattle.nl_core.specs.Duties.{DoesTask, duty_of_copy}
use Rattle.nl_core.specs.Goes.{PreservesVolume}
use Rattle.nl_core.specs.Writing.{stopped_by}
use Rattle.nl_core.specs.declared.state.Core.{Core}
use Rattle.nl_core.proofs.Tasks.{copied_core, copied_goes, copy_does, copy_fault, noted}
use Rattle.nl_core.proofs.state.Core.copy.Goals as goal

pub returns : goal.returns
returns g c =
    let G = g.D.Counts in
    let v = c.args.self.now in
    let t = c.copy-answer.new.self in
    let answer = c.copy-answer.result in
    let e = c.copy-answer.ensures in
    let first = c.device_stands.ensures in
    let ends = copy_ends G answer v.device t e.did e.none e.failed in
    let same : c.note_fault.new.self ≡ noted G v t =
    c.note_fault.ensures ∙ ap (λ n. record v { device = t; stopped = stopped_by v.stopped (G.read_faults t) n (G.write_faults t) }) c.write_faults-faults.ensures in
    record {
      core = subst (λ (x : Core g.row.D.Denot). IsCore G x) (sym same) (copied_core G v t c.requires.core c.requires.writes first.volume first.map first.pages c.device_stands-2.ensures.pages answer ends e.left e.kept e.lands e.faults e.formed);
      goes = subst (λ (x : Core g.row.D.Denot). PreservesVolume G 0 v x) (sym same) (copied_goes G v t c.requires.core c.requires.writes first.volume first.map first.pages c.device_stands-2.ensures.pages answer ends e.left e.kept e.lands e.faults);
      does = subst (λ (a : DutyAnswer). DoesTask G g.D.MovingPages task.Copy v c.note_fault.new.self a) (sym c.of_copying.ensures)
          (subst (λ (x : Core g.row.D.Denot). DoesTask G g.D.MovingPages task.Copy v x (duty_of_copy answer)) (sym same)
          (copy_does G v t c.requires.core c.requires.writes g.D.MovingPages answer e.did e.chosen e.nothing e.none (λ w f is. (e.lost w f is).0) e.told e.faults));
      lines = subst (λ (x : Core g.row.D.Denot). KeepsLines v x) (sym same) refl;
      faults = subst (λ (x : Core g.row.D.Denot). FailureIsCounted G (c.of_copying.result ≡ duty.Fault) v x) (sym same) (λ is. e.faults.cause (copy_fault answer (sym c.of_copying.ensures ∙ is)));
    }
