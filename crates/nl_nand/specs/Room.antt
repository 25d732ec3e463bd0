-- The operations for which a record has room.
use Rattle.std.specs.Prelude.{ℕ, ◌-◌, min, vec_len, vec_capacity}
use Rattle.nl_nand.specs.declared.record.Record.{Record}

abbrev pub room_in : Record → ℕ
room_in r = min (vec_capacity r.entries - vec_len r.entries) (min (vec_len r.blanks) (vec_len r.rows))
