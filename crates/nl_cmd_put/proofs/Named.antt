-- The path of its own stands beside the path, and has names.
use Rattle.std.proofs.Common.{◌≡◌, ◌<◌, ◌≤◌, ◌⊎◌, ℕ, zero, suc, ◌+◌, ◌-◌, not, ◌&&◌, Bool, true, false, List, [], ◌∷◌, ◌++◌, length, take, get_or, Some, IsTrue, refl, sym, ap, subst, ◌∙◌, inl, inr, arith}
use Rattle.std.proofs.lemmas.Bool.{cases_lt, le-leb}
use Rattle.std.proofs.lemmas.List.{get_or_append_left, get_or-append_right, get_or-take, length-append, length-take}
use Rattle.std.proofs.lemmas.Option.{slice_get-get_or}
use Rattle.std.proofs.lemmas.Slice.Eq.{bytes_eq-Decides}
use Rattle.std.specs.Prelude.{bytes_eq, codes, slice_get}
use Rattle.std.specs.List.{list_all}
use Rattle.nl_field.specs.Names.{is_name, is_name_byte}
use Rattle.nl_tree.specs.Calls.{AreNames}
use Rattle.nl_put_tree.specs.Putting.{IsBeside, Path}
use Rattle.nl_cmd_put.specs.Naming.{IsMarked}

pub taken_more : {A : Type 0} (xs : List A) (n : ℕ) (x : A) → slice_get xs n ≡ Some x → take n xs ++ x ∷ [] ≡ take (suc n) xs
taken_more [] n x e = absurd (cc e)
taken_more (y ∷ xs) zero x e = let same : y ≡ x = cc e in (λ i. sym same i ∷ [])
taken_more (y ∷ xs) (suc n) x e = (λ i. y ∷ taken_more xs n x e i)

pub taken_next : {A : Type 0} (xs : List A) (n m : ℕ) (x : A) → m ≡ n + 1 → slice_get xs n ≡ Some x → take n xs ++ x ∷ [] ≡ take m xs
taken_next xs n m x at e = let same : suc n ≡ m = omega (arith, at) in taken_more xs n x e ∙ (λ i. take (same i) xs)

taken_all : {A : Type 0} (xs : List A) → take (length xs) xs ≡ xs
taken_all [] = refl
taken_all (x ∷ xs) = (λ i. x ∷ taken_all xs i)

-- a path is what stands above its last name, and that name
pub parts : (path : Path) (n : ℕ) (x : List ℕ) → n ≡ length path → 0 < n → slice_get path (n - 1) ≡ Some x → path ≡ take (length path - 1) path ++ x ∷ []
parts path n x many some e =
    sym ((λ i. take (less i) path ++ x ∷ []) ∙ taken_next path (n - 1) (length path) x (omega (arith, many, some)) e ∙ taken_all path)
  where
    less : length path - 1 ≡ n - 1
    less = omega (arith, many)

pub is_beside : (path own above : Path) (n : ℕ) (last name : List ℕ) → IsMarked name → n ≡ length path → 0 < n → slice_get path (n - 1) ≡ Some last → (name ≡ last → ⊥) → own ≡ above ++ name ∷ [] → above ≡ take (length path - 1) path → IsBeside path own
is_beside path own above n last name marked many some at other own_is above_is = record {
  above = above;
  last = last;
  name = name;
  path_is = parts path n last many some at ∙ (λ i. sym above_is i ++ last ∷ []);
  own_is = own_is;
  other = other;
  mark = marked.mark;
  begins = marked.begins;
}

marked_name : (mark : List ℕ) → list_all is_name_byte mark ≡ true → is_name (codes ".put-" ++ mark) ≡ true
unfolding is_name
marked_name mark bytes =
    (λ i. le-leb 1 (length (codes ".put-" ++ mark)) (omega arith) i && bytes i && not (bytes_eq (codes ".put-" ++ mark) (codes ".")) && not (bytes_eq (codes ".put-" ++ mark) (codes "..")))

name_is : (name : List ℕ) → IsMarked name → is_name name ≡ true
name_is name marked = ap is_name marked.begins ∙ marked_name marked.mark marked.bytes

pub are_names : (path own above : Path) (name : List ℕ) → AreNames path → IsMarked name → own ≡ above ++ name ∷ [] → above ≡ take (length path - 1) path → AreNames own
are_names path own above name names marked own_is above_is =
    subst AreNames (sym (own_is ∙ (λ i. above_is i ++ name ∷ []))) each
  where
    m : ℕ
    m = length path - 1

    each : AreNames (take m path ++ name ∷ [])
    each k d low = by (cases_lt k (length (take m path)))
      where
        by : (k < length (take m path)) ⊎ (length (take m path) ≤ k) → IsTrue (is_name (get_or (take m path ++ name ∷ []) k d))
        by (inl less) =
            let l = length-take m path in
            subst (λ (x : List ℕ). IsTrue (is_name x)) (sym (get_or_append_left (take m path) (name ∷ []) d k less ∙ get_or-take m path k d (omega (arith, l, less)))) (names k d (omega (arith, l, less)))
        by (inr past) =
            let a = length-append (take m path) (name ∷ []) in
            let at : k - length (take m path) ≡ 0 = omega (arith, a, past, low) in
            subst (λ (x : List ℕ). IsTrue (is_name x)) (sym (get_or-append_right (take m path) (name ∷ []) (length (take m path)) k d refl past ∙ (λ i. get_or (name ∷ []) (at i) d))) (name_is name marked)

-- there is always a further path beside one
pub some_beside : (path : Path) (n : ℕ) (last : List ℕ) → n ≡ length path → 0 < n → slice_get path (n - 1) ≡ Some last → (own : Path) × IsBeside path own
some_beside path n last many some at = (
  take (length path - 1) path ++ (codes ".put-" ++ last) ∷ [],
  record {
    above = take (length path - 1) path;
    last = last;
    name = codes ".put-" ++ last;
    path_is = parts path n last many some at;
    own_is = refl;
    other = λ same. let l = ap length same in let a = length-append (codes ".put-") last in absurd (omega (arith, l, a));
    mark = last;
    begins = refl;
  },
)

pub beside_some : (path : Path) → 0 < length path → (own : Path) × IsBeside path own
beside_some path some = some_beside path (length path) (last_in path some) refl some (last_at path some)
  where
    last_in : (p : Path) → 0 < length p → List ℕ
    last_in p low = get_or p (length p - 1) []

    last_at : (p : Path) (low : 0 < length p) → slice_get p (length p - 1) ≡ Some (last_in p low)
    last_at p low = slice_get-get_or p (length p - 1) [] (omega (arith, low))

pub same_bytes : (a b : List ℕ) (r : Bool) → a ≡ b → r ≡ bytes_eq a b → r ≡ false → ⊥
same_bytes a b r same is off = cc (sym ((bytes_eq-Decides a b).1 same) ∙ sym is ∙ off)
