-- Stations at which nothing was answered yet.
use Rattle.std.specs.Prelude.{◌≡◌, ℕ, List, [], length, slice_get, Some, false}
use Rattle.nl_tree.specs.declared.call.Line.{Line}
use Rattle.nl_workers.specs.Table.{DeskHasRoom}
use Rattle.nl_workers.specs.declared.station.Station.{Station}

pub record IsFreshStation (lines : List Line) (worker : ℕ) (station : Station) : Type 0 where
  pub room : DeskHasRoom worker lines station.desk
  pub no_rows : station.desk.rows ≡ []
  pub not_lost : station.lost ≡ false

pub record AreFresh (lines : List Line) (stations : List Station) : Type 0 where
  pub size : length stations ≡ 8
  pub each : (w : ℕ) (s : Station) → slice_get stations w ≡ Some s → IsFreshStation lines w s
