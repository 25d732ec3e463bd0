-- What the rule of the lock knows of each seat.
use Rattle.std.specs.Prelude.{ℕ, List, [], Bool, true, false}
use Rattle.nl_turns.specs.History.{Opening}
use Rattle.nl_turns.specs.Seat.{Passed}

-- where a seat stands
pub data Role : Type 0 where
  -- of the first seat, as the lock is made: the opening is still to be picked
  blank : Role
  idle : Role
  -- of a seat that has drawn this ticket
  waits : ℕ → Role
  -- of a seat whose turn has come: it has the slot, from which it takes the value
  enters : ℕ → Role
  -- of a seat that has the value; the slot is at home, and empty
  inside : ℕ → Role
  -- of a seat that has the slot again, into which it puts the value
  leaves : ℕ → Role
  -- of a seat that took in the seat of this number, which had seen the first of these histories, and had seen the second itself
  hosts : ℕ → List Passed → List Passed → Role
  -- of a seat that was taken in by another
  spent : Role

pub record View : Type 0 where
  pub opening : Opening
  pub number : ℕ
  pub seen : List Passed
  pub role : Role
  -- of the first seat: how many seats it may still give, the number of the next one, and the numbers of those taken back
  pub places : ℕ
  pub next : ℕ
  pub joined : List ℕ

abbrev pub is_blank : Role → Bool
is_blank blank = true
is_blank _ = false

abbrev pub no_opening : Opening
no_opening =
    record {
      shape = record { blocks = 0; pages = 0; nodes = 0; inode_pages = 0; meta = 0; vaddrs = 0; vblocks = 0; pblocks = 0; cap = 0 };
      count = 0;
      tree = [];
      clock = 0;
      read_faults = 0;
      write_faults = 0;
      next_stamp = 0;
      lines = [];
    }
