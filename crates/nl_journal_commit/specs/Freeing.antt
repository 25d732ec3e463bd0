-- Pages that are freed one after the other.
use Rattle.std.specs.Prelude.{◌≡◌, ◌⊎◌, ◌+◌, true, false, List, [], ◌∷◌, ◌++◌, length}
use Rattle.nl_field.specs.declared.pointer.Pointer.{Pointer}
use Rattle.nl_iface.specs.Names.{Drops, Names, leads, place_of}
use Rattle.nl_iface.specs.Space.{Freed}
use Rattle.nl_spec_holders.specs.Holding.{Holding, HoldsPages}
use Rattle.nl_spec_holders.specs.Laws.{PreservesHolding, OldNamesDiffer}

-- The page to which the pointer leads is live no longer, and the names that led to it are gone with their callbacks.
pub record FreesPage (p : Pointer) (s t : Names) : Type 0 where
  pub live : leads s p ≡ true
  pub names : Drops (place_of s p) s t
  pub space : Freed s.space t.space

-- The page to which a pointer leads is freed where it is live, and else nothing changes.
abbrev pub FreesOne : Pointer → Names → Names → Type 0
FreesOne p s t = FreesPage p s t ⊎ ((leads s p ≡ false) × (t ≡ s))

-- The pages of a list of pointers are freed one after the other.
abbrev pub FreesEach : List Pointer → Names → Names → Type 0
FreesEach [] s t = t ≡ s
FreesEach (p ∷ ps) s t = (m : Names) × FreesOne p s m × FreesEach ps m t

-- Nothing is frozen, and the first of the pages that await their free are due.
pub record AreDue (front rest : List Pointer) (v : Holding) : Type 0 where
  pub first : v.freeing ≡ front ++ rest
  pub due : v.due ≡ length front
  pub thawed : v.frozen ≡ []
  pub none_leaves : v.leaving ≡ 0
  pub differ : OldNamesDiffer v.names

-- Once the pages that are due are freed, the others await their free, and none is due.
abbrev pub FreeingKeeps : Type 0
FreeingKeeps =
    (v : Holding) (front rest : List Pointer) (t : Names) → AreDue front rest v → FreesEach front v.names t
    → PreservesHolding v (record v { names = t; freeing = rest; due = 0 })

-- Where each live page is held once, the pages that are due are live no longer once they are freed, and the others still are: so many fewer
-- are live.
abbrev pub FreesAll : Type 0
FreesAll =
    (v : Holding) (front rest : List Pointer) (t : Names) → AreDue front rest v → HoldsPages v → FreesEach front v.names t
    → t.space.live + length front ≡ v.names.space.live
