use Rattle.nl_calls_bytes.proofs.laws.writes_step.Goals as goal
use Rattle.nl_calls_bytes.proofs.Stepped.{far-refuses, is-done, path-refuses, room-refuses}

pub returns : goal.returns
returns c = λ shape tree call w. record {
  by_path = path-refuses shape tree call w;
  by_end = far-refuses shape tree call w;
  by_room = room-refuses shape tree call w;
  done = is-done shape tree call w;
}
