use Rattle.std.proofs.Common.{◌*◌, ◌≤◌, refl, arith}
use Rattle.nl_tree.specs.Replay.{replay}
use Rattle.nl_cmd_compare.proofs.comparison.Comparison.make.Goals as goal

pub returns-in-Ok : goal.returns-in-Ok
unfolding replay
returns-in-Ok g c =
    let m = c.in_ok-map.ensures in
    record {
      answered = c.in-Ok.ensures;
      map_stands = m.stands;
      writes = m.new.writes;
      same_shape = m.new.same_shape;
      shows = m.new.shows;
      counted = refl;
      few = λ t. omega arith;
      most = λ t. refl;
    }
