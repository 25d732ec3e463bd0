-- Lines in flight, turns and syncs of worked rows.
use Rattle.std.specs.Prelude.{ℕ, List, [], ◌∷◌, None}
use Rattle.nl_field.specs.declared.pointer.Tag.{Tag}
use Rattle.nl_tree.specs.Order.{SyncPoint}
use Rattle.nl_tree.specs.declared.reply.Reply.TheVariants.{Done, Dir}
use Rattle.nl_tree.specs.declared.turn.Stage.TheVariants.{Staged}
use Rattle.nl_flight.specs.Flight.{InFlight}
use Rattle.nl_flight.specs.declared.page.FlightPage.{FlightPage}
use Rattle.nl_turns.specs.Served.{effect_entry, stage_entry}
use Rattle.nl_turns.specs.declared.entry.Entry.{Entry}

-- page 2 of the file of node 3
abbrev pub third_page : Tag
third_page = record { ino = 3; generation = 1; index = 2 }

-- it is in flight under the write sequence number 40
abbrev pub flying_page : FlightPage
flying_page = record { index = 2; at = record { name = 9; stamp = 40 }; tag = third_page }

-- worker 0 has line 5, for which this page is in flight
abbrev pub one_in_flight : List InFlight
one_in_flight = record { line = 5; fault = 0; goal = None; pages = flying_page ∷ [] } ∷ []

-- that line with nothing in flight
abbrev pub none_in_flight : List InFlight
none_in_flight = record { line = 5; fault = 0; goal = None; pages = [] } ∷ []

-- the effect of line 1, a staging of line 2, and the effect of line 3
abbrev pub three_turns : List Entry
three_turns = effect_entry 1 Done ∷ stage_entry 2 Staged ∷ effect_entry 3 (Dir 1) ∷ []

-- a sync that tells the clock of an opening at 30
abbrev pub at_opening : ℕ → SyncPoint
at_opening upto = record { upto = upto; moment = 30 }

-- one that tells a later commit page
abbrev pub second_commit : SyncPoint
second_commit = record { upto = 7; moment = 33 }
