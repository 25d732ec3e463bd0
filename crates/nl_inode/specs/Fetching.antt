-- What it means that a page was fetched, or could not be.
use Rattle.std.specs.Prelude.{◌≡◌, ◌⊎◌, ℕ, ⊤, List, Option, Some, None, IsSome}
use Rattle.nl_meta.specs.Pages.{Pages, page_of, touched}
use Rattle.nl_meta.specs.Steps.{Admits, Misses}
use Rattle.nl_inode.specs.declared.answer.Fetch.{Fetch}
use Rattle.nl_inode.specs.declared.answer.Fetch.TheVariants as fetch

-- The page is touched where it was resident; else it is what is stored, where the medium tells that.
abbrev pub Fetches : Type 0 → Option (List ℕ) → ℕ → Pages → Pages → Type 0
Fetches tells stored v old new =
    (IsSome (page_of old v) × (new ≡ record old { recent = touched v old.recent }))
    ⊎ ((page_of old v ≡ None) × (bytes : List ℕ) × (tells → stored ≡ Some bytes) × Admits v bytes old new)

-- The page was not resident, and is not.
abbrev pub FetchesNone : ℕ → Pages → Pages → Type 0
FetchesNone v old new = (page_of old v ≡ None) × Misses v old new

-- What was lost is the sequence number that the address was written under; another one was found.
abbrev pub LosesFetch : Option ℕ → Fetch → Type 0
LosesFetch stamp fetch.Ready = ⊤
LosesFetch stamp fetch.Fault = ⊤
LosesFetch stamp (fetch.Lost w f) = (stamp ≡ Some w) × (f ≡ w → ⊥)

abbrev pub IsLostFetch : Fetch → Type 0
IsLostFetch fetch.Ready = ⊥
IsLostFetch fetch.Fault = ⊥
IsLostFetch (fetch.Lost w f) = ⊤
