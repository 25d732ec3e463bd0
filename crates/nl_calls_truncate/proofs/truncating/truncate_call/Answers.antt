use Rattle.std.proofs.Common.{◌<◌, ◌^◌, ◌∙◌, ℕ, List, ap, arith}
use Rattle.nl_core_callbacks.specs.Handled.{nameless_line}
use Rattle.nl_flight.specs.Flight.{InFlight, of_worker}
use Rattle.nl_iface.specs.declared.counts.Counts.{Ghosts}
use Rattle.nl_core.specs.Core.{IsCore}
use Rattle.nl_core.specs.Dropping.{DropsLine}
use Rattle.nl_core.specs.Goes.{PreservesVolume}
use Rattle.nl_core.specs.declared.state.Core.{Core}
use Rattle.nl_core.proofs.LastCommits.{commit_through, drops_room}
use Rattle.nl_calls_steps.specs.Calls.{OtherLinesStay}
use Rattle.nl_calls_steps.specs.declared.answer.Written.{Written}
use Rattle.nl_calls_steps.proofs.WorkerLines.{others_dropped, own_dropped}
use Rattle.nl_calls_steps.proofs.Going.{files_on}
use Rattle.nl_calls_truncate.specs.Truncating.{Truncates}
use Rattle.nl_calls_truncate.proofs.CutEnds.{truncates_before, undone_files}
use Rattle.nl_calls_truncate.proofs.CutReads.{some_on}
use Rattle.nl_calls_truncate.proofs.truncating.truncate_call.Goals as goal

module _ {D : Type 0} (g : Ghosts D) (u v : Core D) (worker : ℕ) (core : IsCore g u) (known : worker < 8) (dropped : DropsLine g worker u v) where
  others : OtherLinesStay worker u.flight v.flight
  others w far = ap (λ (f : List InFlight). nameless_line (of_worker f w)) dropped.flight ∙ ap nameless_line (others_dropped u.flight worker core.flight known w far)

  whole : (w : Core D) (path : List (List ℕ)) (size : ℕ) → PreservesVolume g 0 u v → (answer : Written) → Truncates g worker path size v w answer → Truncates g worker path size u w answer
  whole w path size goes answer ends = truncates_before g u v w worker path size goes others answer ends

pub truncate_alone-requires-clause-stamp : goal.truncate_alone-requires-clause-stamp
truncate_alone-requires-clause-stamp g c =
    let same = c.drop_line.ensures.dropped.frees.kept.next_stamp in
    let low = c.requires.stamp in
    omega (arith, same, low)

pub truncate_alone-requires-clause-can : goal.truncate_alone-requires-clause-can
truncate_alone-requires-clause-can g c =
    let d = c.drop_line.ensures in
    let r = c.requires in
    record {
      writes = ap (λ (x : Core g.row.D.Denot). x.stopped) d.dropped.others ∙ r.writes;
      runs = some_on g.D.Counts c.args.core.now c.drop_line.new.self 0 d.goes r.runs;
      known = r.known;
      some = r.some;
      none = ap (λ (f : List InFlight). of_worker f c.args.worker) d.dropped.flight ∙ own_dropped c.args.core.now.flight c.args.worker r.core.flight r.known;
    }

pub truncate_alone-requires-clause-files : goal.truncate_alone-requires-clause-files
truncate_alone-requires-clause-files g c = files_on g.D.Counts 0 c.args.core.now c.drop_line.new.self c.drop_line.ensures.goes c.args.files c.requires.files

pub returns : goal.returns
returns g c =
    let G = g.D.Counts in
    let u = c.args.core.now in
    let w = c.truncate_alone.new.core in
    let d = c.drop_line.ensures in
    let t = whole G u c.drop_line.new.self c.args.worker c.requires.core c.requires.known d.dropped w c.args.path.now c.args.size d.goes c.truncate_alone.result c.truncate_alone.ensures.truncates in
    record {
      core = t.core;
      done = t.done;
      undone = undone_files G u w (2 ^ 40) c.args.files c.truncate_alone.result c.requires.files t.undone;
      answer = t.answers;
      others = t.others;
      early = t.early;
      commit = commit_through G 4 1 u c.drop_line.new.self w (drops_room G c.args.worker u c.drop_line.new.self d.dropped) c.truncate_alone.ensures.commit;
    }
