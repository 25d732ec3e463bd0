-- Where the search for a live page goes on is no part of what is seen.
use Rattle.std.proofs.Common.{ℕ}
use Rattle.nl_pseg.specs.Seen.{HasPhases, IsPhysicalFormed, IsNamed, IsTied}
use Rattle.nl_pseg.specs.Kept.{Kept}

pub formed_looked : (s : Kept) (at : ℕ) → IsPhysicalFormed s → IsPhysicalFormed (record s { looked = at })
formed_looked s at is = record { some = is.some; numbers = is.numbers; pages = is.pages; marks = is.marks; active_in = is.active_in; used_fits = is.used_fits; taken = is.taken; places = is.places; marked = is.marked }

named_looked : (s : Kept) (at : ℕ) → IsNamed s → IsNamed (record s { looked = at })
named_looked s at is = record { size = is.size; blocks = is.blocks; room = is.room; remap = is.remap; standing = is.standing; own = is.own; to_live = is.to_live; waits = is.waits }

phases_looked : (s : Kept) (at : ℕ) → HasPhases s → HasPhases (record s { looked = at })
phases_looked s at is = record { target_in = is.target_in; filled_fits = is.filled_fits; filling = is.filling; one_active = is.one_active; one_target = is.one_target; one_victim = is.one_victim; victim_in = is.victim_in }

pub tied_looked : (s : Kept) (at : ℕ) → IsTied s → IsTied (record s { looked = at })
tied_looked s at is = record { named = named_looked s at is.named; phases = phases_looked s at is.phases; behind = is.behind }
