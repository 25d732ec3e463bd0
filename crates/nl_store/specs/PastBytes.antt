-- The contents that a store in memory has had, and those that a kill may have left of it.
use Rattle.std.specs.Prelude.{◌≡◌, ◌⊎◌, ℕ, ◌≤◌, List, [], ◌∷◌, Bool, true, ◌&&◌, nat_le}
use Rattle.nl_store.specs.Store.{FrontPut, Resized}
use Rattle.nl_store.specs.declared.past.Change.{Change}
use Rattle.nl_store.specs.declared.past.Change.TheVariants as call
use Rattle.nl_store.specs.declared.past.Past.{Past}

-- what a kill within a call may leave
abbrev pub MayLeave : Change → List ℕ → List ℕ → Type 0
MayLeave (call.Put at from) old b = FrontPut at from.items old b
MayLeave (call.Resize size) old b = Resized size old b

-- what was left before the call, or within it
abbrev pub LeftByCall : Past → ℕ → List ℕ → Type 0
LeftByCall p m b = ((p.since ≤ m) × (m ≤ p.moment) × (b ≡ p.bytes.items)) ⊎ ((m ≡ p.moment) × MayLeave p.call p.bytes.items b)

abbrev pub WasLeft : List Past → ℕ → List ℕ → Type 0
WasLeft [] m b = ⊥
WasLeft (p ∷ past) m b = LeftByCall p m b ⊎ WasLeft past m b

-- no call was begun later
abbrev pub none_later : ℕ → List Past → Bool
none_later now [] = true
none_later now (p ∷ past) = nat_le p.moment now && none_later now past
