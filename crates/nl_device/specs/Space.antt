-- The numbers of a physical segment's space.
use Rattle.std.specs.Prelude.{◌-◌, ◌*◌, length}
use Rattle.nl_iface.specs.Space.{Space}
use Rattle.nl_pseg.specs.Segment.{Physical, room}
pub use Rattle.nl_pseg.specs.Space.{live_in}
use Rattle.nl_pseg.specs.Space.{dead_pages, landing, left_in_victim, reach, victims, waiting}

-- No block is bad, and one Free block is kept for the cleaner.
unfoldable pub space_of : Physical → Space
space_of seg = record {
  block = seg.size;
  all = (seg.blocks - seg.first) * seg.size;
  bad = 0;
  keep = 1;
  free = seg.free;
  victim = victims seg;
  waiting = waiting seg;
  pairs = length seg.pairs;
  live = live_in seg.held;
  left = left_in_victim seg;
  landing = landing seg;
  reach = reach seg;
  dead = dead_pages seg;
  room = room seg;
}
