-- Tests of all items of a list.
use Rattle.std.proofs.Common.{◌&&◌, ◌∷◌, [], Bool, List, refl}
use Rattle.std.specs.List.{list_all}
use Rattle.std.specs.Prelude.{IsTrue}
use Rattle.nl_field.proofs.AreBytes.{IsTrue-and_left, IsTrue-and_right}

pub all-both : {X : Type 0} (p q : X → Bool) (xs : List X) → IsTrue (list_all p xs) → IsTrue (list_all q xs) → IsTrue (list_all (λ x. p x && q x) xs)
all-both p q [] ps qs = refl
all-both p q (x ∷ xs) ps qs =
    rw (IsTrue-and_left (p x) (list_all p xs) ps, IsTrue-and_left (q x) (list_all q xs) qs, all-both p q xs (IsTrue-and_right (p x) (list_all p xs) ps) (IsTrue-and_right (q x) (list_all q xs) qs)) refl

pub all-weaker : {X : Type 0} (p q : X → Bool) (xs : List X) → ((x : X) → IsTrue (p x) → IsTrue (q x)) → IsTrue (list_all p xs) → IsTrue (list_all q xs)
all-weaker p q [] each ps = refl
all-weaker p q (x ∷ xs) each ps =
    rw (each x (IsTrue-and_left (p x) (list_all p xs) ps), all-weaker p q xs each (IsTrue-and_right (p x) (list_all p xs) ps)) refl
