use Rattle.std.proofs.Common.{◌≡◌, ℕ, ◌-◌, ◌*◌, ◌/◌, ◌<◌, ◌≤◌, ◌^◌, true}
use Rattle.nl_core.specs.Core.{IsCore, names_of}
use Rattle.nl_core.specs.LastCommit.{KeepsRoom}
use Rattle.nl_core.specs.Programming.{HasLineOrNone}
use Rattle.nl_calls_steps.specs.Lines.{worker_pages}
use Rattle.nl_calls_bytes.specs.Contents.{count_indexes}
use Rattle.nl_calls_bytes.specs.InFlight.{AreOfCall, is_flying}
use Rattle.nl_calls_bytes.specs.Ranges.{from_of, len_of}
use Rattle.nl_calls_write.specs.Lines.{PutsOn}
use Rattle.nl_calls_write.proofs.putting.put_pages.Given as goal

abbrev pub invariant-indexes : goal.invariant-indexes
invariant-indexes g l =
    let G = g.D.Counts in
    record {
      core : IsCore G l.core;
      from : from_of l.call / 4096 ≤ l.index;
      puts : PutsOn G (2 ^ 30 * (l.index - from_of l.call / 4096)) l.worker l.call l.initial.core l.core;
      pages : AreOfCall l.ino l.generation l.call (worker_pages l.core l.worker);
      line : HasLineOrNone l.core.flight l.worker l.line;
      has : (i : ℕ) → from_of l.call / 4096 ≤ i → i < l.index → is_flying (worker_pages l.core l.worker) i ≡ true;
      at_once : count_indexes (from_of l.call) (len_of l.call) ≤ (names_of G l.initial.core).space.room → KeepsRoom G (l.index - from_of l.call / 4096) l.initial.core l.core;
    }
