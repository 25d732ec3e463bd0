-- Lists of which one is read from another.
use Rattle.std.proofs.Common.{◌≡◌, inl, inr, ℕ, zero, suc, ◌<◌, Bool, true, false, cond, List, [], ◌∷◌, map, length, filter, Option, Some, None, refl, sym, ap, ◌∙◌, subst, arith}
use Rattle.std.proofs.Math.ListN.{get_or}
use Rattle.std.proofs.lemmas.List.Elements.{All-nil, All-cons}
use Rattle.std.proofs.lemmas.List.Kept.{AllPairs-cons}
use Rattle.std.specs.List.{cons_option}
use Rattle.std.specs.Prelude.{All, AllPairs, slice_get, filter_map, option_map}
use Rattle.nl_field.specs.Members.{Has}
use Rattle.nl_workers.proofs.Permuting.{Each}

pub some_same : {A : Type 0} (a b : A) → Some a ≡ Some b → a ≡ b
some_same a b e = cc e

-- ---- items

pub item_at : {A : Type 0} (xs : List A) (i : ℕ) → i < length xs → (x : A) × (slice_get xs i ≡ Some x)
item_at [] i h = absurd (omega arith)
item_at (x ∷ xs) zero h = (x, refl)
item_at (x ∷ xs) (suc i) h = item_at xs i (omega arith)

pub each_at : {A : Type 0} (P : A → Type 0) (xs : List A) → ((i : ℕ) (x : A) → slice_get xs i ≡ Some x → P x) → Each P xs
each_at P [] h = tt
each_at P (x ∷ xs) h = (h 0 x refl, each_at P xs (λ i y e. h (suc i) y e))

pub has_of_index : {A : Type 0} (xs : List A) (i : ℕ) (d : A) → i < length xs → Has xs (get_or xs i d)
has_of_index [] i d low = absurd (omega arith)
has_of_index (x ∷ xs) zero d low = inl refl
has_of_index (x ∷ xs) (suc i) d low = inr (has_of_index xs i d (omega arith))

-- what holds of each item holds of one that the list has
pub holds_of : {A : Type 0} (P : A → Type 0) (xs : List A) (x : A) → All P xs → Has xs x → P x
holds_of P [] x each has = absurd has
holds_of P (y ∷ xs) x each (inl same) = subst P same (each 0 y (omega arith))
holds_of P (y ∷ xs) x each (inr has) = holds_of P xs x (λ i d lt. each (suc i) d (omega (arith, lt))) has

-- what passes a test is in the list
pub passes : {A : Type 0} (p : A → Bool) (xs : List A) (i : ℕ) (x : A) → slice_get (filter p xs) i ≡ Some x → Has xs x × (p x ≡ true)
passes p [] i x e = absurd (cc e)
passes p (y ∷ xs) i x e = go (λ j f. passes p xs j x f) (p y) refl i e
  where
    go : ((j : ℕ) → slice_get (filter p xs) j ≡ Some x → Has xs x × (p x ≡ true)) → (b : Bool) → p y ≡ b → (j : ℕ) → slice_get (cond b (y ∷ filter p xs) (filter p xs)) j ≡ Some x → Has (y ∷ xs) x × (p x ≡ true)
    go again true so zero f = let same : y ≡ x = some_same y x f in (inl same, ap p (sym same) ∙ so)
    go again true so (suc j) f = let h = again j f in (inr h.0, h.1)
    go again false off j f = let h = again j f in (inr h.0, h.1)

-- ---- one list read from another

pub same_items : {A B : Type 0} (f : B → A) (xs : List A) (ys : List B) → length ys ≡ length xs → ((i : ℕ) (y : B) → slice_get ys i ≡ Some y → slice_get xs i ≡ Some (f y)) → xs ≡ map f ys
same_items f [] [] n each = refl
same_items f [] (y ∷ ys) n each = absurd (omega arith)
same_items f (x ∷ xs) [] n each = absurd (omega arith)
same_items f (x ∷ xs) (y ∷ ys) n each =
    let first : x ≡ f y = some_same x (f y) (each 0 y refl) in
    let rest : xs ≡ map f ys = same_items f xs ys (omega arith) (λ i z e. each (suc i) z e) in
    λ k. first k ∷ rest k

pub item_of_map : {A B : Type 0} (f : A → B) (xs : List A) (i : ℕ) (y : B) → slice_get (map f xs) i ≡ Some y → (x : A) × (slice_get xs i ≡ Some x) × (f x ≡ y)
item_of_map f [] i y e = absurd (cc e)
item_of_map f (x ∷ xs) zero y e = (x, refl, some_same (f x) y e)
item_of_map f (x ∷ xs) (suc i) y e = item_of_map f xs i y e

pub map_of_item : {A B : Type 0} (f : A → B) (xs : List A) (i : ℕ) (x : A) → slice_get xs i ≡ Some x → slice_get (map f xs) i ≡ Some (f x)
map_of_item f [] i x e = absurd (cc e)
map_of_item f (y ∷ xs) zero x e = ap (λ z. Some (f z)) (some_same y x e)
map_of_item f (y ∷ xs) (suc i) x e = map_of_item f xs i x e

pub map_map : {A B C : Type 0} (g : B → C) (f : A → B) (xs : List A) → map g (map f xs) ≡ map (λ x. g (f x)) xs
map_map g f [] = refl
map_map g f (x ∷ xs) = ap (λ z. g (f x) ∷ z) (map_map g f xs)

pub found_map : {A B C : Type 0} (g : B → Option C) (f : A → B) (xs : List A) → filter_map g (map f xs) ≡ filter_map (λ x. g (f x)) xs
found_map g f [] = refl
found_map g f (x ∷ xs) = ap (cons_option (g (f x))) (found_map g f xs)

map_cons : {A B : Type 0} (g : A → B) (o : Option A) (xs : List A) → map g (cons_option o xs) ≡ cons_option (option_map g o) (map g xs)
map_cons g None xs = refl
map_cons g (Some x) xs = refl

pub map_found : {A B C : Type 0} (g : B → C) (f : A → Option B) (xs : List A) → map g (filter_map f xs) ≡ filter_map (λ x. option_map g (f x)) xs
map_found g f [] = refl
map_found g f (x ∷ xs) = map_cons g (f x) (filter_map f xs) ∙ ap (cons_option (option_map g (f x))) (map_found g f xs)

pub map_each : {A B : Type 0} (P : A → Type 0) (f g : A → B) (xs : List A) → ((x : A) → P x → f x ≡ g x) → Each P xs → map f xs ≡ map g xs
map_each P f g [] same all = refl
map_each P f g (x ∷ xs) same all = λ k. same x all.0 k ∷ map_each P f g xs same all.1 k

pub found_each : {A B : Type 0} (P : A → Type 0) (f g : A → Option B) (xs : List A) → ((x : A) → P x → f x ≡ g x) → Each P xs → filter_map f xs ≡ filter_map g xs
found_each P f g [] same all = refl
found_each P f g (x ∷ xs) same all = λ k. cons_option (same x all.0 k) (found_each P f g xs same all.1 k)

-- where something is found of each item
pub all_found : {A B : Type 0} (P : A → Type 0) (f : A → Option B) (g : A → B) (xs : List A) → ((x : A) → P x → f x ≡ Some (g x)) → Each P xs → filter_map f xs ≡ map g xs
all_found P f g [] same all = refl
all_found P f g (x ∷ xs) same all = λ k. cons_option (same x all.0 k) (all_found P f g xs same all.1 k)

-- where nothing is found of those that do not pass a test
pub found_passing : {A B : Type 0} (p : A → Bool) (f : A → Option B) (xs : List A) → ((x : A) → Has xs x → p x ≡ false → f x ≡ None) → filter_map f xs ≡ filter_map f (filter p xs)
found_passing p f [] none = refl
found_passing p f (x ∷ xs) none = go (found_passing p f xs (λ y has off. none y (inr has) off)) (p x) refl
  where
    go : filter_map f xs ≡ filter_map f (filter p xs) → (b : Bool) → p x ≡ b → cons_option (f x) (filter_map f xs) ≡ filter_map f (cond b (x ∷ filter p xs) (filter p xs))
    go rest true so = ap (cons_option (f x)) rest
    go rest false off = ap (λ o. cons_option o (filter_map f xs)) (none x (inl refl) off) ∙ rest

-- ---- pairs

pub pairs_of_each : {A : Type 0} (R : A → A → Type 0) (xs : List A) → ((x y : A) → Has xs x → Has xs y → R x y) → AllPairs R xs
pairs_of_each R xs each i j d low high = each (get_or xs i d) (get_or xs j d) (has_of_index xs i d (omega arith)) (has_of_index xs j d high)

all_of_found : {A B : Type 0} (P : A → Type 0) (Q : B → Type 0) (f : A → Option B) (xs : List A) → ((x : A) (b : B) → P x → f x ≡ Some b → Q b) → All P xs → All Q (filter_map f xs)
all_of_found P Q f [] to all = All-nil Q
all_of_found P Q f (x ∷ xs) to all = go (all_of_found P Q f xs to (λ k d low. all (suc k) d (omega arith))) (f x) refl
  where
    go : All Q (filter_map f xs) → (o : Option _) → f x ≡ o → All Q (cons_option o (filter_map f xs))
    go rest None e = rest
    go rest (Some b) e = All-cons Q b (filter_map f xs) (to x b (all 0 x (omega arith)) e) rest

pub pairs_of_found : {A B : Type 0} (R : A → A → Type 0) (S : B → B → Type 0) (f : A → Option B) (xs : List A) → ((x y : A) (a b : B) → R x y → f x ≡ Some a → f y ≡ Some b → S a b) → AllPairs R xs → AllPairs S (filter_map f xs)
pairs_of_found R S f [] to all = λ i j d low high. absurd (omega arith)
pairs_of_found R S f (x ∷ xs) to all = go (pairs_of_found R S f xs to (λ i j d low high. all (suc i) (suc j) d (omega arith) (omega arith))) (f x) refl
  where
    go : AllPairs S (filter_map f xs) → (o : Option _) → f x ≡ o → AllPairs S (cons_option o (filter_map f xs))
    go rest None e = rest
    go rest (Some a) e = AllPairs-cons S a (filter_map f xs) (all_of_found (R x) (S a) f xs (λ y b r g. to x y a b r e g) (λ k d low. all 0 (suc k) d (omega arith) (omega arith))) rest
