-- A list whose first elements were changed.
use Rattle.std.proofs.Common.{◌≡◌, ℕ, suc, ◌+◌, ◌<◌, List, [], ◌∷◌, ◌++◌, map, length, take, drop, get_or, sym, ap, subst, ◌∙◌, arith}
use Rattle.std.proofs.Math.ListN.{set}
use Rattle.std.proofs.Math.Seq.{get_or-append_seam, set-append_seam, take-suc}
use Rattle.std.proofs.lemmas.List.{append_assoc, drop_more, length-map, length-take-le, map-append}

module _ {X : Type 0} (f : X → X) (xs : List X) (i : ℕ) (d : X) (below : i < length xs) where
  abbrev front : List X
  front = map f (take i xs)

  abbrev x : X
  x = get_or xs i d

  abbrev behind : List X
  behind = drop (i + 1) xs

  many : length front ≡ i
  many = length-map (take i xs) f ∙ length-take-le i xs (omega (arith, below))

  now : front ++ drop i xs ≡ front ++ x ∷ behind
  now = ap (λ ys. front ++ ys) (drop_more xs i d below)

  next : front ++ f x ∷ behind ≡ map f (take (i + 1) xs) ++ behind
  next = sym (append_assoc front (f x ∷ []) behind) ∙ ap (λ ys. ys ++ behind) (sym more)
    where
      one-more : i + 1 ≡ suc i
      one-more = omega arith

      more : map f (take (i + 1) xs) ≡ front ++ f x ∷ []
      more = ap (λ (n : ℕ). map f (take n xs)) one-more ∙ ap (map f) (take-suc xs i d below) ∙ map-append f (take i xs) (x ∷ [])

  pub read-next : get_or (front ++ drop i xs) i d ≡ x
  read-next = ap (λ ys. get_or ys i d) now ∙ subst (λ (n : ℕ). get_or (front ++ x ∷ behind) n d ≡ x) many (get_or-append_seam front x behind d)

  pub set-next : set (front ++ drop i xs) i (f x) ≡ map f (take (i + 1) xs) ++ behind
  set-next = ap (λ ys. set ys i (f x)) now ∙ subst (λ (n : ℕ). set (front ++ x ∷ behind) n (f x) ≡ front ++ f x ∷ behind) many (set-append_seam front x behind (f x)) ∙ next

  pub same-next : f x ≡ x → front ++ drop i xs ≡ map f (take (i + 1) xs) ++ behind
  same-next e = now ∙ ap (λ y. front ++ y ∷ behind) (sym e) ∙ next
