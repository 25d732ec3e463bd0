-- What a walk over the resident pages answers.
use Rattle.std.specs.Prelude.{◌≡◌, ℕ, Option, Some, None}
use Rattle.nl_field.specs.declared.place.Place.{Place}
use Rattle.nl_field.specs.declared.place.What.{What}
use Rattle.nl_field.specs.declared.shape.Shape.{Shape}
use Rattle.nl_meta.specs.Committed.{VirtualMap}
use Rattle.nl_meta.specs.Nodes.{held_in}
use Rattle.nl_recover.specs.declared.walk.Outcome.{Outcome}
use Rattle.nl_recover.specs.declared.walk.Outcome.TheVariants.{Sound, Damaged}

abbrev pub place_in : What → ℕ → Place
place_in what n = record { place = n; what = what }

-- A walk answers that a volume is damaged at the first fault, or sound, exactly where there is none, with the pointers of all files.
abbrev pub AnswersWalk : Shape → VirtualMap → Option Place → Outcome → Type 0
AnswersWalk shape pages fault (Sound held) = (fault ≡ None) × (held ≡ held_in shape pages)
AnswersWalk shape pages fault (Damaged place) = fault ≡ Some place
