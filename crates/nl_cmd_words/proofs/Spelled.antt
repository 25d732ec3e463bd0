-- The names between slashes, and the path that they spell.
use Rattle.std.proofs.Common.{◌≡◌, ℕ, zero, suc, Bool, true, false, List, [], ◌∷◌, length, refl, sym, ap, subst, ◌∙◌, Option, Some, None, is_some, if◌then◌else◌, IsTrue, ◌<◌, arith}
use Rattle.std.specs.Prelude.{◌&&◌, ◌==◌, not, nat_le, bytes_eq, codes, IsSome, All, Err}
use Rattle.std.specs.List.{AllByRecursion, list_all}
use Rattle.std.proofs.lemmas.Bool.{and_parts, and_from}
use Rattle.std.proofs.lemmas.List.Elements.{All-from_recursion}
use Rattle.std.proofs.Math.Dec.{eqb-suc-zero}
use Rattle.nl_field.specs.Names.{is_name as is_field_name, is_name_byte}
use Rattle.nl_script.specs.Spellings.{is_name, names_of, ok_or_cause, path_of}
use Rattle.nl_script.specs.declared.why.Why.TheVariants.{Path}
use Rattle.nl_tree.specs.Calls.{AreNames}
use Rattle.nl_script.specs.Words.{parts}
use Rattle.nl_cmd_words.specs.Paths.{spelled_path, with_names}

some_bytes : (n : ℕ) → nat_le 1 n ≡ true → not (n == 0) ≡ true
some_bytes zero e = absurd (cc e)
some_bytes (suc n) e = ap not (eqb-suc-zero n)

-- what is a name for the volume is one in a script
a_name : (name : List ℕ) → is_field_name name ≡ true → is_name name ≡ true
unfolding is_field_name
a_name name e =
    let p = and_parts (nat_le 1 (length name) && list_all is_name_byte name && not (bytes_eq name (codes "."))) (not (bytes_eq name (codes ".."))) e in
    let q = and_parts (nat_le 1 (length name) && list_all is_name_byte name) (not (bytes_eq name (codes "."))) p.0 in
    let r = and_parts (nat_le 1 (length name)) (list_all is_name_byte name) q.0 in
    and_from (not (length name == 0)) _ (some_bytes (length name) r.0) (and_from (not (bytes_eq name (codes "."))) (not (bytes_eq name (codes ".."))) q.1 p.1)

all_names : (names : List (List ℕ)) → list_all is_field_name names ≡ true → list_all is_name names ≡ true
all_names [] e = refl
all_names (name ∷ names) e =
    let p = and_parts (is_field_name name) (list_all is_field_name names) e in
    and_from (is_name name) (list_all is_name names) (a_name name p.0) (all_names names p.1)

by_tests : (names : List (List ℕ)) (script field : Bool) → list_all is_name names ≡ script → list_all is_field_name names ≡ field → with_names (names_of names) ≡ (if field then Some names else None)
by_tests names true field a b = ap (λ (s : Bool). with_names (ok_or_cause s names Path)) a ∙ ap (λ (f : Bool). if f then Some names else None) b
by_tests names false true a b = absurd (let bad : true ≡ false = sym (all_names names b) ∙ a in cc bad)
by_tests names false false a b = ap (λ (s : Bool). with_names (ok_or_cause s names Path)) a

-- names are spelled exactly where each is one
pub spelled_is : (names : List (List ℕ)) → with_names (names_of names) ≡ (if list_all is_field_name names then Some names else None)
spelled_is names = by_tests names (list_all is_name names) (list_all is_field_name names) refl refl

chosen : (b : Bool) (names : List (List ℕ)) → is_some (if b then Some names else None) ≡ b
chosen true names = refl
chosen false names = refl

pub is_spelled : (names : List (List ℕ)) → list_all is_field_name names ≡ is_some (with_names (names_of names))
is_spelled names = sym (ap is_some (spelled_is names) ∙ chosen (list_all is_field_name names) names)

-- ---- the names of a path that is spelled

recursion : (names : List (List ℕ)) → list_all is_field_name names ≡ true → AllByRecursion (λ name. IsTrue (is_field_name name)) names
recursion [] e = tt
recursion (name ∷ names) e = let p = and_parts (is_field_name name) (list_all is_field_name names) e in (p.0, recursion names p.1)

pub are_names : (names : List (List ℕ)) → list_all is_field_name names ≡ true → AreNames names
are_names names e = All-from_recursion (λ name. IsTrue (is_field_name name)) names (recursion names e)

by_choice : (b : Bool) (names : List (List ℕ)) → IsSome (if b then Some names else None) → b ≡ true
by_choice true names some = refl
by_choice false names some = some

pub all_of_spelled : (names : List (List ℕ)) → IsSome (with_names (names_of names)) → list_all is_field_name names ≡ true
all_of_spelled names some = by_choice (list_all is_field_name names) names (subst IsSome (spelled_is names) some)

pub path_spelled : (names : List (List ℕ)) → IsSome (with_names (names_of names)) → with_names (names_of names) ≡ Some names
path_spelled names some = spelled_is names ∙ ap (λ (b : Bool). if b then Some names else None) (all_of_spelled names some)

pub spelled_are_names : (names : List (List ℕ)) → IsSome (with_names (names_of names)) → AreNames names
spelled_are_names names some = are_names names (all_of_spelled names some)

-- ---- a word

pub no_slash : (c : ℕ) (names : List ℕ) → (c == 47) ≡ false → spelled_path (c ∷ names) ≡ None
unfolding path_of
no_slash c [] other = ap (λ (b : Bool). with_names (ok_or_cause b [] Path)) other
no_slash c (d ∷ names) other = ap (λ (b : Bool). with_names (if b then names_of (parts 47 (d ∷ names)) else Err Path)) other

pub no_word : (word : List ℕ) → length word ≡ 0 → spelled_path word ≡ None
unfolding path_of
no_word [] e = refl
no_word (c ∷ word) e = absurd (let off : ⊥ = omega (arith, e) in off)

pub root_spelled : (word names : List ℕ) → word ≡ 47 ∷ names → length names ≡ 0 → spelled_path word ≡ Some []
unfolding path_of
root_spelled word [] is e = ap spelled_path is
root_spelled word (c ∷ names) is e = absurd (let off : ⊥ = omega (arith, e) in off)

pub names_spelled : (word names : List ℕ) → word ≡ 47 ∷ names → 0 < length names → spelled_path word ≡ with_names (names_of (parts 47 names))
unfolding path_of
names_spelled word [] is some = absurd (let off : ⊥ = omega (arith, some) in off)
names_spelled word (c ∷ names) is some = ap spelled_path is
