-- Pages in groups: which pages stand in one, and in which blocks each group lies.
use Rattle.std.specs.Prelude.{◌≡◌, ◌⊎◌, ℕ, ◌/◌, ◌<◌, Bool, true, List, [], ◌∷◌, length, slice_index_or, Option, Some}
use Rattle.nl_field.specs.Page.{Image}
use Rattle.nl_field.specs.Medium.{Readable}
use Rattle.nl_field.specs.Space.{spare_block}
use Rattle.nl_device.specs.Spread.{spare_of}
use Rattle.nl_device.specs.declared.opening.spare.Spread.{Spread}
use Rattle.nl_device.specs.declared.opening.spare.Spread.TheVariants.{Nowhere, In, Several}

abbrev pub spread_at : List Spread → ℕ → Spread
spread_at spreads group = slice_index_or spreads group Nowhere

-- the spread is that of a group that has pages in those blocks
abbrev pub IsSpread : Spread → (ℕ → Type 0) → Type 0
IsSpread Nowhere HasPage = (block : ℕ) → HasPage block → ⊥
IsSpread (In one) HasPage = HasPage one × ((block : ℕ) → HasPage block → block ≡ one)
IsSpread Several HasPage = (block : ℕ) → (other : ℕ) × (other ≡ block → ⊥) × HasPage other

abbrev pub IsOneOf : {A : Type 0} → A → List A → Type 0
IsOneOf x [] = ⊥
IsOneOf x (y ∷ ys) = (y ≡ x) ⊎ IsOneOf x ys

-- one of these pages, of this group, lies in the block
abbrev pub GroupLiesIn : ℕ → List Readable → (Readable → Option ℕ) → ℕ → ℕ → Type 0
GroupLiesIn size pages group_of group block = (r : Readable) × IsOneOf r pages × (group_of r ≡ Some group) × (r.page / size ≡ block)

-- Exactly the needed ones of these pages stand in a group, those of one group are copies of each other, and the spread of each
-- group is known.
pub record AreGrouped (size : ℕ) (pages : List Readable) (is_needed : Readable → Bool) (is_copy : Readable → Readable → Bool) (group_of : Readable → Option ℕ) (spreads : List Spread) : Type 0 where
  pub needed : (r : Readable) → IsOneOf r pages → is_needed r ≡ true → (group : ℕ) × (group < length spreads) × (group_of r ≡ Some group)
  pub only_needed : (r : Readable) (group : ℕ) → IsOneOf r pages → group_of r ≡ Some group → is_needed r ≡ true
  pub copies : (q r : Readable) → IsOneOf q pages → IsOneOf r pages → is_needed r ≡ true → is_copy q r ≡ true → group_of q ≡ group_of r
  pub copied : (q r : Readable) (group : ℕ) → IsOneOf q pages → IsOneOf r pages → group_of q ≡ Some group → group_of r ≡ Some group → is_copy q r ≡ true
  pub each : (group : ℕ) → group < length spreads → IsSpread (spread_at spreads group) (GroupLiesIn size pages group_of group)

-- Where pages stand in groups, the least block that holds no group alone is the spare block.
abbrev pub FindsSpare : Type 0
FindsSpare = (image : Image) (first count : ℕ) (pages : List Readable) (is_needed : Readable → Bool) (is_copy : Readable → Readable → Bool) (group_of : Readable → Option ℕ) (spreads : List Spread)
    → AreGrouped image.pages pages is_needed is_copy group_of spreads → spare_block image first count pages is_needed is_copy ≡ spare_of first count spreads
