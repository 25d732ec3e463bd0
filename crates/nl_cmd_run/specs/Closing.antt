-- The volume on which lines were run was closed, and what is told of that.
use Rattle.std.specs.Prelude.{◌≡◌, ◌↔◌, ◌≤◌, ◌||◌, ◌^◌, ℕ, true, IsTrue, List}
use Rattle.nl_tree.specs.Causes.{FaultRose}
use Rattle.nl_tree.specs.declared.call.Line.{Line}
use Rattle.nl_nand.specs.declared.nand.Nand.{Ghosts as NandGhosts}
use Rattle.nl_iface.specs.declared.counts.Counts.{Ghosts}
use Rattle.nl_device.specs.declared.device.Device.{Device}
use Rattle.nl_core.specs.declared.state.Core.{Core}
use Rattle.nl_turns.specs.History.{Opening, has_lost_page}
use Rattle.nl_turns.specs.declared.entry.Entry.{Entry}
use Rattle.nl_calls_steps.specs.Calls.{counts_of}
use Rattle.nl_volume_stage.specs.Standing.{RepresentsHistory}
use Rattle.nl_volume.specs.Closing.{ClosesCommitted, CommitsLast, LosesLastCommit, counts_on}
use Rattle.nl_volume.specs.declared.closing.Closed.{Closed}
use Rattle.nl_cmd_run.specs.declared.rounds.Ran.{Ran}

-- A volume with this core was closed. Where it could be written to, and nothing is said to have failed or to be lost, all calls are committed;
-- what failed is counted; a lost page was met by the commit; and it is worn exactly where its write sequence numbers are used up.
pub record ClosesCore {M : Type 0} (g : Ghosts (Device M)) (n : NandGhosts M) (core : Core (Device M)) (closed : Closed M) : Type 0 where
  pub commits : ClosesCommitted core closed → CommitsLast g core closed.media
  pub fault : closed.fault ≡ true → FaultRose (counts_of g core.device) (counts_on n.clock n.read_faults n.write_faults closed.media)
  pub meets : closed.lost ≡ true → LosesLastCommit g core closed
  pub worn : IsTrue closed.worn ↔ 2 ^ 62 ≤ g.next_stamp core.device

-- The volume stood for a history of turns since its opening with these lines, and then it was closed. A page is told as lost exactly where a
-- turn of the history met one, or the closing did.
pub record TellsClosing {M : Type 0} (g : Ghosts (Device M)) (n : NandGhosts M) (lines : List Line) (ran : Ran M) : Type 0 where
  pub origin : Core (Device M)
  pub opening : Opening
  pub history : List Entry
  pub core : Core (Device M)
  pub done : ℕ
  pub stands : RepresentsHistory g origin opening history core done
  pub lines_are : opening.lines ≡ lines
  pub count_is : ran.count ≡ opening.count
  pub closed : Closed M
  pub closes : ClosesCore g n core closed
  pub media_is : ran.media ≡ closed.media
  pub worn_is : ran.worn ≡ closed.worn
  pub lost_is : ran.lost ≡ (closed.lost || has_lost_page history)
