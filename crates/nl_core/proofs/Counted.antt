-- A core stays one as its count of calls rises: the count is no part of what a core is.
use Rattle.std.proofs.Common.{◌≡◌, ◌+◌, ◌≤◌, arith, subst, sym}
use Rattle.nl_iface.specs.declared.counts.Counts.{Ghosts}
use Rattle.nl_core.specs.Calls.{counted}
use Rattle.nl_core.specs.Core.{IsCore}
use Rattle.nl_core.specs.declared.state.Core.{Core}

pub counted_core : {D : Type 0} (g : Ghosts D) (v : Core D) → IsCore g v → IsCore g (counted v)
counted_core g v c = record {
  formed = c.formed;
  shape = c.shape;
  journaled = c.journaled;
  free = record { count_nodes = c.free.count_nodes; count_pool = c.free.count_pool; nodes = c.free.nodes; pool = c.free.pool };
  held = c.held;
  counts =
      let k = c.counts in
      let latest = k.latest in
      let few = k.few in
      record { later = k.later; latest = omega (arith, latest, few); few = omega arith; shut = k.shut };
  flight = c.flight;
  named = c.named;
  stamped = c.stamped;
  space = record { counted = c.space.counted; few = c.space.few; all = c.space.all; room = c.space.room };
  marked = c.marked;
  moment = c.moment;
  writes = λ none. let w = c.writes none in record { spare = w.spare; lands = w.lands; firm = w.firm; counts = w.counts };
}

pub counted_is : {D : Type 0} (g : Ghosts D) (v w : Core D) → w ≡ counted v → IsCore g v → IsCore g w
counted_is g v w is c = subst (λ (x : Core _). IsCore g x) (sym is) (counted_core g v c)
