-- A step of a file call that is counted is the effect of a call.
use Rattle.std.proofs.Common.{◌≡◌, ℕ, ◌+◌, Option, length, ap, arith}
use Rattle.nl_field.specs.CrashStates.{saturated}
use Rattle.nl_tree.specs.Replay.{step_marked}
use Rattle.nl_tree.specs.Tree.{Tree}
use Rattle.nl_tree.specs.declared.call.Call.{Call}
use Rattle.nl_tree.specs.declared.reply.FaultReply.{FaultReply}
use Rattle.nl_iface.specs.declared.counts.Counts.{Ghosts}
use Rattle.nl_iface.specs.Device.{IsVolumeShape}
use Rattle.nl_journal.specs.Progress.{begun}
use Rattle.nl_meta.specs.Consistent.{PageOfStamp}
use Rattle.nl_spec_commits.specs.Trees.{Trees}
use Rattle.nl_core.specs.Core.{IsCore}
use Rattle.nl_core.specs.Trees.{CoreRepresentsTree, CoreRepresents, CoreIsObservable}
use Rattle.nl_core.specs.declared.state.Core.{Core}
use Rattle.nl_calls_steps.specs.Steps.{Steps}
use Rattle.nl_calls_steps.proofs.Stepping.{steps_go, steps_run}
use Rattle.nl_core.specs.Calls.{counted}
use Rattle.nl_spec_crashes.specs.Effects.{StepTakesEffect}

module _ {D : Type 0} (g : Ghosts D) (old new : Core D) (x : Call × Option FaultReply) (volume : IsVolumeShape (g.shape old.device)) (core : IsCore g old) (step : Steps g old new) where
  same_count : new.count ≡ old.count
  same_count = ap (λ (v : Core D). v.count) step.others

  same_begun : begun new.journal (length new.meta.frozen.addresses) ≡ begun old.journal (length old.meta.frozen.addresses)
  same_begun = λ i. begun (ap (λ (v : Core D). v.journal) step.others i) (length (step.pages.same_frozen i).addresses)

  number_stays : new.journal.number ≡ old.journal.number
  number_stays = ap (λ (v : Core D). v.journal.number) step.others

  told_old : CoreIsObservable g (counted new) → CoreIsObservable g old
  told_old told = record {
    tells = told.tells;
    numbers = let all = told.numbers in let same = same_begun in omega (arith, all, same);
    calls = let all = told.calls in let same = same_count in omega (arith, all, same);
    moments = let all = told.moments in let same = step.reads.medium.clock in omega (arith, all, same);
  }

  told_new : CoreIsObservable g (counted new) → CoreIsObservable g new
  told_new told = record { tells = told.tells; numbers = told.numbers; calls = let all = told.calls in omega (arith, all); moments = told.moments }

  counted_runs : (page_of_stamp : ℕ → Option PageOfStamp) (tree : Tree) → CoreRepresentsTree g new page_of_stamp tree → CoreRepresentsTree g (counted new) page_of_stamp tree
  counted_runs page_of_stamp tree at = record { runs = at.runs; shows = at.shows; given = at.given }

  -- the count rises
  more : CoreIsObservable g (counted new) → (page_of_stamp : ℕ → Option PageOfStamp) (t : Trees) → CoreRepresents g new page_of_stamp t → CoreRepresents g (counted new) page_of_stamp t
  more told page_of_stamp t at = record {
    stands = record {
      running = at.stands.running;
      committed = at.stands.committed;
      frozen = at.stands.frozen;
      thawed = at.stands.thawed;
      later = at.stands.later;
      latest = let low = at.stands.latest in let few = told.calls in omega (arith, low, few);
    };
    runs = counted_runs page_of_stamp t.running at.runs;
    committed = at.committed;
    frozen = at.frozen;
  }

pub step_takes_effect : {D : Type 0} (g : Ghosts D) → StepTakesEffect g
step_takes_effect {D} g old new x volume core step makes = record {
  same_shape = step.reads.medium.virtual.same_shape;
  same_clock = step.reads.medium.clock;
  same_number = number_stays g old new x volume core step;
  same_moment = ap (λ (v : Core D). v.moment) step.others;
  same_committed = ap (λ (v : Core D). v.committed) step.others;
  left = step.reads.medium.left;
  count = ap (λ n. saturated (n + 1)) (same_count g old new x volume core step);
  told = told_old g old new x volume core step;
  runs = λ tells page_of_stamp tree at.
      let now = (step_marked (g.shape old.device) tree x).tree in
      counted_runs g old new x volume core step page_of_stamp now (steps_run g old new page_of_stamp tree now tells step at (makes tells page_of_stamp tree at));
  trees = λ told page_of_stamp t at.
      more g old new x volume core step told page_of_stamp (record t { running = (step_marked (g.shape old.device) t.running x).tree })
      (steps_go g old new page_of_stamp t (step_marked (g.shape old.device) t.running x).tree volume core step (told_new g old new x volume core step told) at
      (makes told.tells page_of_stamp t.running at.runs));
}
