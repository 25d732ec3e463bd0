use Rattle.std.proofs.Common.{◌∙◌, sym, subst, refl}
use Rattle.nl_tree.specs.declared.turn.Duty.TheVariants as task
use Rattle.nl_tree.specs.declared.turn.DutyAnswer.{DutyAnswer}
use Rattle.nl_core.specs.Duties.{DoesTask}
use Rattle.nl_core.proofs.Tasks.{begun_core, begun_goes, level_does, level_ends, level_fault}
use Rattle.nl_core.proofs.state.Core.level.Goals as goal

pub returns : goal.returns
returns g c =
    let G = g.D.Counts in
    let v = c.args.self.now in
    let t = c.level-begun.new.self in
    let begun = c.level-begun.result in
    let e = c.level-begun.ensures in
    let first = c.device_stands.ensures in
    let ends = level_ends G v.device t begun e.begun e.none in
    record {
      core = begun_core G v t c.requires.core c.requires.writes first.volume first.map first.pages c.device_stands-2.ensures.pages ends e.read_faults e.formed;
      goes = begun_goes G v t c.requires.core c.requires.writes first.volume first.map first.pages c.device_stands-2.ensures.pages ends e.read_faults;
      does = subst (λ (a : DutyAnswer). DoesTask G g.D.MovingPages task.Level v (record v { device = t }) a) (sym c.of_level.ensures) (level_does G g.D.MovingPages v t begun e.begun e.chosen e.none e.exactly e.read_faults);
      lines = refl;
      faults = λ is. absurd (level_fault begun (sym c.of_level.ensures ∙ is));
    }
