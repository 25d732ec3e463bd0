-- A call of the volume with a map within which nothing fails.
use Rattle.std.specs.Prelude.{◌≡◌, ℕ, List, None}
use Rattle.nl_tree.specs.Causes.{fault_in}
use Rattle.nl_tree.specs.Replay.{Answers, step_marked}
use Rattle.nl_tree.specs.Tree.{Tree}
use Rattle.nl_tree.specs.declared.call.Call.{Call}
use Rattle.nl_tree.specs.declared.reply.Reply.{Reply}
use Rattle.nl_iface.specs.declared.counts.Counts.{Ghosts}
use Rattle.nl_pagemap.specs.declared.pagemap.Pagemap.{Pagemap}
use Rattle.nl_pagemap_volume.specs.Volume.{IsWritable, Shows, awaiting, shape_in}
use Rattle.nl_pagemap_volume.specs.declared.volume.MapVolume.{MapVolume}

-- The reply is no fault and is due, with its bytes, on each tree that the volume showed, and it shows the tree after the call. It can be
-- written to as before, and then no page awaits its free.
pub record GoesOnQuietly {M : Type 0} (g : Ghosts (Pagemap M)) (tells : Type 0) (call : Call) (old new : MapVolume M) (out : List ℕ) (reply : Reply) : Type 0 where
  pub quiet : fault_in reply ≡ None
  pub answers : tells → (tree : Tree) → Shows g old tree → Answers (step_marked (shape_in g old) tree (call, None)) reply out
  pub goes_on : tells → (tree : Tree) → Shows g old tree → Shows g new (step_marked (shape_in g old) tree (call, None)).tree
  pub same_shape : shape_in g new ≡ shape_in g old
  pub writes : IsWritable old → IsWritable new
  pub none_awaits : tells → IsWritable old → awaiting new ≡ 0
