-- The names of a path before its last, and the walk along them.
use Rattle.std.proofs.Common.{◌≡◌, ◌≢◌, ℕ, zero, suc, ◌+◌, ◌≤◌, ◌<◌, List, [], ◌∷◌, ◌++◌, take, drop, length, refl, sym, ap, ◌∙◌, Some, option_and_then, arith}
use Rattle.std.specs.Prelude.{slice_get}
use Rattle.nl_field.specs.Graph.{Graph}
use Rattle.nl_tree.specs.GraphLaws.{entry_at}
use Rattle.nl_tree.specs.Represents.{node_reached}
use Rattle.nl_tree.proofs.ChangeProofs.{at_end}
use Rattle.nl_tree.proofs.GraphProofs.{reached-append}
use Rattle.nl_namespace.specs.Naming.{NameIn}
use Rattle.nl_namespace.proofs.Graphs.{drop-all, drop-step}

one-more : (i : ℕ) → suc i ≡ i + 1
one-more i = omega arith

none-there : (i : ℕ) (name : List ℕ) → slice_get [] i ≡ Some name → ⊥
none-there i name e = cc

some-same : (x y : List ℕ) → Some x ≡ Some y → x ≡ y
some-same x y e = cc

take-next : (path : List (List ℕ)) (i : ℕ) (name : List ℕ) → slice_get path i ≡ Some name → take (suc i) path ≡ take i path ++ name ∷ []
take-next [] i name e = absurd (none-there i name e)
take-next (x ∷ path) zero name e = ap (λ (y : List ℕ). y ∷ []) (some-same x name e)
take-next (x ∷ path) (suc i) name e = ap (λ (r : List (List ℕ)). x ∷ r) (take-next path i name e)

pub take-one : (path : List (List ℕ)) (i : ℕ) (name : List ℕ) → slice_get path i ≡ Some name → take (i + 1) path ≡ take i path ++ name ∷ []
take-one path i name e = ap (λ (n : ℕ). take n path) (sym (one-more i)) ∙ take-next path i name e

pub take-drop : (path : List (List ℕ)) (i : ℕ) → take i path ++ drop i path ≡ path
take-drop [] zero = refl
take-drop [] (suc i) = refl
take-drop (x ∷ path) zero = refl
take-drop (x ∷ path) (suc i) = ap (λ (r : List (List ℕ)). x ∷ r) (take-drop path i)

take-whole : (path : List (List ℕ)) (n : ℕ) → length path ≤ n → take n path ≡ path
take-whole [] zero h = refl
take-whole [] (suc n) h = refl
take-whole (x ∷ path) zero h = absurd (none h)
  where
    none : suc (length path) ≤ 0 → ⊥
    none h = omega (arith, h)
take-whole (x ∷ path) (suc n) h = ap (λ (r : List (List ℕ)). x ∷ r) (take-whole path n (omega (arith, h)))

pub some-name : (path : List (List ℕ)) (i : ℕ) → i < length path → (name : List ℕ) × (slice_get path i ≡ Some name)
some-name [] i h = absurd (none h)
  where
    none : i < 0 → ⊥
    none h = omega (arith, h)
some-name (x ∷ path) zero h = (x, refl)
some-name (x ∷ path) (suc i) h = some-name path i (omega (arith, h))

pub not-empty : (path : List (List ℕ)) → path ≢ [] → 0 < length path
not-empty [] far = absurd (far refl)
not-empty (x ∷ path) far = omega arith

-- the last name, behind those before it
pub split-last : (path : List (List ℕ)) (i : ℕ) (name : List ℕ) → slice_get path i ≡ Some name → length path ≤ i + 1 → path ≡ take i path ++ name ∷ []
split-last path i name e h = sym (take-whole path (i + 1) h) ∙ take-one path i name e

pub drop-last : (path : List (List ℕ)) (i : ℕ) (name : List ℕ) → slice_get path i ≡ Some name → length path ≤ i + 1 → drop i path ≡ name ∷ []
drop-last path i name e h = drop-step path i name e ∙ ap (λ (r : List (List ℕ)). name ∷ r) (drop-all path (suc i) (omega (arith, h)))

module _ (graph : Graph) (path : List (List ℕ)) (i at : ℕ) (led : node_reached graph 0 (take i path) ≡ Some at) where
  pub reached-on : node_reached graph 0 path ≡ node_reached graph at (drop i path)
  reached-on =
      ap (node_reached graph 0) (sym (take-drop path i)) ∙ reached-append graph 0 (take i path) (drop i path)
      ∙ ap (option_and_then (λ n. node_reached graph n (drop i path))) led

  pub led-on : (name : List ℕ) (m : ℕ) → slice_get path i ≡ Some name → entry_at graph at name ≡ Some m → node_reached graph 0 (take (i + 1) path) ≡ Some m
  led-on name m is named = ap (node_reached graph 0) (take-one path i name is) ∙ at_end graph (take i path) name at led ∙ named

  pub name-in : (name : List ℕ) → slice_get path i ≡ Some name → length path ≤ i + 1 → NameIn graph path at name
  name-in name is h = record { parent = take i path; split = split-last path i name is h; leads = led }
