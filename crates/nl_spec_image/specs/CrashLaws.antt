-- What opens as a prefix of a run goes on to do so, whatever an image is.
use Rattle.std.specs.Prelude.{ℕ, ◌<◌, ◌≤◌, Option}
use Rattle.nl_tree.specs.Tree.{Tree}
use Rattle.nl_tree.specs.Order.{SyncPoint}
use Rattle.nl_tree.specs.declared.call.Call.{Call}
use Rattle.nl_tree.specs.declared.reply.FaultReply.{FaultReply}
use Rattle.nl_spec_image.specs.Crash.{Run, with_call, with_sync, OpensAsPrefix}

-- What opens as a prefix of the run does so of a longer run, of one with a later sync, and at an earlier moment.
pub record PrefixesStay {I : Type 0} (opens : I → ℕ → Tree → Type 0) : Type 0 where
  pub more_calls : (run : Run) (x : Call × Option FaultReply) (m : ℕ) (c : I) → OpensAsPrefix opens run m c
      → OpensAsPrefix opens (with_call run x) m c
  pub more_syncs : (run : Run) (s : SyncPoint) (m : ℕ) (c : I) → m < s.moment → OpensAsPrefix opens run m c
      → OpensAsPrefix opens (with_sync run s) m c
  pub earlier_moment : (run : Run) (k m : ℕ) (c : I) → k ≤ m → OpensAsPrefix opens run m c → OpensAsPrefix opens run k c
