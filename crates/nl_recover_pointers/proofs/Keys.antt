-- Equal keys, and tables with one more of them.
use Rattle.std.proofs.Common.{◌≡◌, ℕ, Bool, true, false, ◌&&◌, ◌||◌, cond, refl, ◌∙◌, ap, arith}
use Rattle.std.specs.Prelude.{◌==◌}
use Rattle.std.specs.Ordering.{is_eq, nat_cmp, ordering_then}
use Rattle.std.specs.declared.cmp.Ordering.{Ordering}
use Rattle.std.specs.declared.cmp.Ordering.TheVariants.{Less, Equal, Greater}
use Rattle.std.proofs.lemmas.Bool.Decides.{nat_tests}
use Rattle.nl_field.specs.declared.pointer.Tag.{Tag}
use Rattle.nl_meta.specs.Walk.{tag_eq}
use Rattle.nl_recover_pointers.specs.Owners.{key_cmp, key_of}
use Rattle.nl_recover_pointers.specs.Places.{pair_cmp, place_key}

pub number_is : (n m : ℕ) → (n == m) ≡ true → n ≡ m
number_is n m is = grind (arith, nat_tests)

pub is_number : (n m : ℕ) → n ≡ m → (n == m) ≡ true
is_number n m same = grind (arith, nat_tests)

pub turned : (n m : ℕ) → (n == m) ≡ (m == n)
turned n m = grind (arith, nat_tests)

pub number_test : (n m : ℕ) → is_eq (nat_cmp n m) ≡ (n == m)
number_test n m = grind (arith, nat_tests)

then_test : (r s : Ordering) → is_eq (ordering_then r s) ≡ (is_eq r && is_eq s)
then_test Less s = refl
then_test Equal s = refl
then_test Greater s = refl

pub pair_test : (n s m t : ℕ) → is_eq (pair_cmp (place_key n s) (place_key m t)) ≡ (n == m && s == t)
pair_test n s m t = then_test (nat_cmp n m) (nat_cmp s t) ∙ (λ i. number_test n m i && number_test s t i)

regrouped : (a b c d : Bool) → (((a && b) && c) && d) ≡ (a && ((b && c) && d))
regrouped true b c d = refl
regrouped false b c d = refl

pub key_test : (s t : ℕ) (a b : Tag) → is_eq (key_cmp (key_of s a) (key_of t b)) ≡ (s == t && tag_eq b a)
key_test s t a b =
    let first = nat_cmp s t in
    let second = nat_cmp a.ino b.ino in
    let third = nat_cmp a.generation b.generation in
    let last = nat_cmp a.index b.index in
    then_test (ordering_then (ordering_then first second) third) last
    ∙ ap (λ x. x && is_eq last) (then_test (ordering_then first second) third ∙ ap (λ x. x && is_eq third) (then_test first second))
    ∙ regrouped (is_eq first) (is_eq second) (is_eq third) (is_eq last)
    ∙ (λ i. number_test s t i && (((number_test a.ino b.ino ∙ turned a.ino b.ino) i && (number_test a.generation b.generation ∙ turned a.generation b.generation) i) && (number_test a.index b.index ∙ turned a.index b.index) i))

-- a test of one more item before the others
pub or_moved : (one before later : Bool) → (cond one true before || later) ≡ (before || (one || later))
or_moved true true later = refl
or_moved true false later = refl
or_moved false before later = refl

pub or_added : (one before : Bool) → cond one true before ≡ (one || before)
or_added true before = refl
or_added false before = refl

pub grouped : (x y z : Bool) → ((x || y) || z) ≡ (x || (y || z))
grouped true y z = refl
grouped false y z = refl

pub or_false : (b : Bool) → (b || false) ≡ b
or_false true = refl
or_false false = refl

-- a test of one more item before the others
pub swapped : (one before later : Bool) → ((one || before) || later) ≡ (before || (one || later))
swapped true true later = refl
swapped true false later = refl
swapped false before later = refl
