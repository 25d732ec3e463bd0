-- Steps of loops that push what they read.
use Rattle.std.proofs.Common.{◌≡◌, ◌<◌, ◌≤◌, ◌+◌, ℕ, List, [], ◌∷◌, ◌++◌, length, take, drop, get_or, ap, sym, ◌∙◌}
use Rattle.std.proofs.Math.ListN.{drop_of_length-le}
use Rattle.std.proofs.lemmas.List.{take_more, append_assoc, append-nil}

-- one more of the items read so far
pub pushed : {X : Type 0} (xs kept next : List X) (i : ℕ) (x : X) → i < length xs → x ≡ get_or xs i x → next ≡ kept ++ x ∷ [] → kept ≡ take i xs → next ≡ take (i + 1) xs
pushed {X} xs kept next i x lt read grown before =
    grown ∙ ap (λ (k : List X). k ++ x ∷ []) before ∙ ap (λ (y : X). take i xs ++ y ∷ []) read ∙ sym (take_more xs i x lt)

-- one more item pushed, behind items that were there before
pub pushed_behind : {X : Type 0} (old xs kept next : List X) (i : ℕ) (x : X) → i < length xs → x ≡ get_or xs i x → next ≡ kept ++ x ∷ [] → kept ≡ old ++ take i xs → next ≡ old ++ take (i + 1) xs
pushed_behind {X} old xs kept next i x lt read grown before =
    grown ∙ ap (λ (k : List X). k ++ x ∷ []) before ∙ append_assoc old (take i xs) (x ∷ [])
    ∙ ap (λ (k : List X). old ++ k) (ap (λ (y : X). take i xs ++ y ∷ []) read ∙ sym (take_more xs i x lt))

-- at the first item nothing is kept, and what is left gives all
pub from_none : {X : Type 0} (kept all : List X) → kept ≡ [] → kept ++ all ≡ all
from_none {X} kept all none = ap (λ (k : List X). k ++ all) none

-- behind the last item nothing is left
pub all_read : {X Y : Type 0} (f : List X → List Y) (xs : List X) (kept all : List Y) (i : ℕ) → f [] ≡ [] → length xs ≤ i → kept ++ f (drop i xs) ≡ all → kept ≡ all
all_read {X} {Y} f xs kept all i none le is = sym (append-nil kept) ∙ ap (λ (k : List Y). kept ++ k) (sym (ap f (drop_of_length-le xs le) ∙ none)) ∙ is
