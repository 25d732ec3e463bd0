-- Where an entry stands in a list by rising keys.
use Rattle.std.specs.Prelude.{ℕ, suc, Bool, false, if◌then◌else◌, List, [], ◌∷◌}
use Rattle.std.specs.declared.cmp.Ordering.{Ordering}
use Rattle.std.specs.Ordering.{is_gt, eq_by_cmp}

-- how many entries are before the first whose key is not below this
abbrev pub place_in : {K X : Type 0} → (K → K → Ordering) → K → List (K × X) → ℕ
place_in R key [] = 0
place_in R key (e ∷ entries) = if is_gt (R key e.0) then suc (place_in R key entries) else 0

-- the first entry is at the key
abbrev pub is_first : {K X : Type 0} → (K → K → Ordering) → K → List (K × X) → Bool
is_first R key [] = false
is_first R key (e ∷ entries) = eq_by_cmp R key e.0
