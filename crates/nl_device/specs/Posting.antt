-- The pending callbacks once one more was posted.
use Rattle.std.specs.Prelude.{◌≡◌, ◌+◌, ◌-◌, ◌^◌, ◌<◌, ◌++◌, ◌∷◌, [], insert, min}
use Rattle.nl_callbacks.specs.Pending.{IsPending, ArePendingEntries, PendingTable, new_entry, place_of}
use Rattle.nl_iface.specs.declared.Callback.{Callback}

-- The callback was posted, under a number that none had: the next one, as long as there is one.
pub record Posts (c : Callback) (old new : PendingTable) : Type 0 where
  pub fresh : IsPending old.callbacks c.number → ⊥
  pub next : old.posted + 1 < 2 ^ 64 → c.number ≡ old.posted + 1
  pub table : ArePendingEntries new.callbacks new.posted
  pub appends : old.posted + 1 < 2 ^ 64 → new.callbacks ≡ old.callbacks ++ new_entry c ∷ []
  pub posted : new ≡ record {
    callbacks = insert old.callbacks (place_of old.callbacks c.number) (new_entry c);
    posted = min (old.posted + 1) (2 ^ 64 - 1);
    room = old.room - 1;
  }
