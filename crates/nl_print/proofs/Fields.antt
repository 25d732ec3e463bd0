-- Parts that are added one after the other.
use Rattle.std.proofs.Common.{◌≡◌, ℕ, List, [], ◌++◌, ◌∙◌, ap, append_assoc}

pub three_parts : (old n1 n2 n3 a b c : List ℕ) → n1 ≡ old ++ a → n2 ≡ n1 ++ b → n3 ≡ n2 ++ c → n3 ≡ old ++ (a ++ b ++ c)
three_parts old n1 n2 n3 a b c e1 e2 e3 =
    let e : n3 ≡ ((old ++ a) ++ b) ++ c = cc in
    let group : ((old ++ a) ++ b) ++ c ≡ old ++ (a ++ b ++ c) = simp append_assoc in
    e ∙ group

pub four_parts : (old n1 n2 n3 n4 a b c d : List ℕ) → n1 ≡ old ++ a → n2 ≡ n1 ++ b → n3 ≡ n2 ++ c → n4 ≡ n3 ++ d → n4 ≡ old ++ (a ++ b ++ c ++ d)
four_parts old n1 n2 n3 n4 a b c d e1 e2 e3 e4 =
    let e : n4 ≡ (((old ++ a) ++ b) ++ c) ++ d = cc in
    let group : (((old ++ a) ++ b) ++ c) ++ d ≡ old ++ (a ++ b ++ c ++ d) = simp append_assoc in
    e ∙ group

pub from_none : (none a n : List ℕ) → none ≡ [] → n ≡ none ++ a → n ≡ a
from_none none a n empty is = is ∙ ap (λ (t : List ℕ). t ++ a) empty

pub three_from_none : (none n1 n2 n3 a b c : List ℕ) → none ≡ [] → n1 ≡ none ++ a → n2 ≡ n1 ++ b → n3 ≡ n2 ++ c → n3 ≡ a ++ b ++ c
three_from_none none n1 n2 n3 a b c empty e1 e2 e3 = from_none none (a ++ b ++ c) n3 empty (three_parts none n1 n2 n3 a b c e1 e2 e3)

pub six_from_none : (none n1 n2 n3 n4 n5 n6 a b c d e f : List ℕ) → none ≡ [] → n1 ≡ none ++ a → n2 ≡ n1 ++ b → n3 ≡ n2 ++ c → n4 ≡ n3 ++ d → n5 ≡ n4 ++ e → n6 ≡ n5 ++ f → n6 ≡ a ++ b ++ c ++ d ++ e ++ f
six_from_none none n1 n2 n3 n4 n5 n6 a b c d e f empty e1 e2 e3 e4 e5 e6 =
    let front : n1 ≡ a = from_none none a n1 empty e1 in
    let rest : n6 ≡ ((((n1 ++ b) ++ c) ++ d) ++ e) ++ f = cc in
    rest ∙ ap (λ (t : List ℕ). ((((t ++ b) ++ c) ++ d) ++ e) ++ f) front
