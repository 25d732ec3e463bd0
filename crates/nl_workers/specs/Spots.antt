-- Where the row of each place stands among the desks.
use Rattle.std.specs.Prelude.{◌≡◌, ℕ, ◌-◌, ◌<◌, ◌≤◌, List, [], Bool, map, slice_get, Option, Some, None}
use Rattle.nl_tree.specs.declared.reply.Reply.TheVariants.{Done}
use Rattle.nl_workers.specs.Table.{Row, DeskState}
use Rattle.nl_workers.specs.declared.station.Station.{Station}
use Rattle.nl_workers.specs.declared.placing.Spot.{Spot}

abbrev pub desks_of : List Station → List DeskState
desks_of stations = map (λ (s : Station). s.desk) stations

abbrev pub losses_of : List Station → List Bool
losses_of stations = map (λ (s : Station). s.lost) stations

abbrev pub row_in : Option Station → ℕ → Option Row
row_in None at = None
row_in (Some s) at = slice_get s.desk.rows at

-- the row at a spot
abbrev pub row_at : List Station → Spot → Option Row
row_at stations spot = row_in (slice_get stations spot.worker) spot.at

abbrev pub no_row : Row
no_row = record { line = 0; answered = record { place = 0; ordinal = 0; reply = Done }; bytes = [] }

abbrev pub row_or : Option Row → Row
row_or None = no_row
row_or (Some row) = row

-- the rows at the spots
abbrev pub rows_at : List Station → List Spot → List Row
rows_at stations spots = map (λ (s : Spot). row_or (row_at stations s)) spots

-- there is a row at each spot
abbrev pub AreSpots : List Station → List Spot → Type 0
AreSpots stations spots = (i : ℕ) (spot : Spot) → slice_get spots i ≡ Some spot → (row : Row) × (row_at stations spot ≡ Some row)

-- each row has an ordinal from 1 up to the count of places
abbrev pub OrdinalsFit : List Station → ℕ → Type 0
OrdinalsFit stations places =
    (w : ℕ) (s : Station) (j : ℕ) (row : Row) → slice_get stations w ≡ Some s → slice_get s.desk.rows j ≡ Some row
    → (0 < row.answered.ordinal) × (row.answered.ordinal ≤ places)

-- the spot of this ordinal leads to a row that has it
pub record IsSpotted (stations : List Station) (spots : List Spot) (ordinal : ℕ) : Type 0 where
  pub spot : Spot
  pub spot_is : slice_get spots (ordinal - 1) ≡ Some spot
  pub row : Row
  pub row_is : row_at stations spot ≡ Some row
  pub ordinal_is : row.answered.ordinal ≡ ordinal

-- the rows of the first desks have their spots, and the first rows of the next desk
pub record AreSpotted (stations : List Station) (worker at : ℕ) (spots : List Spot) : Type 0 where
  pub whole : (w : ℕ) (s : Station) (j : ℕ) (row : Row) → w < worker → slice_get stations w ≡ Some s → slice_get s.desk.rows j ≡ Some row
      → IsSpotted stations spots row.answered.ordinal
  pub begun : (s : Station) (j : ℕ) (row : Row) → j < at → slice_get stations worker ≡ Some s → slice_get s.desk.rows j ≡ Some row
      → IsSpotted stations spots row.answered.ordinal
