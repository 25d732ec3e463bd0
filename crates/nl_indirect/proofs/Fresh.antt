-- A page that is new, and the list of dirty pages with one more.
use Rattle.std.proofs.Common.{◌≡◌, ℕ, ◌+◌, ◌≤◌, ◌<◌, Bool, true, false, not, ◌||◌, ◌==◌, cond, refl, ap, ◌∙◌, List, [], ◌∷◌, ◌++◌, filter, length, nat_lt, Some, None, arith, length-append}
use Rattle.std.proofs.lemmas.Bool.{cond-false, le-ltb, ltb-true}
use Rattle.std.proofs.lemmas.List.{append-nil, get_or-set_same, get_or-set_other, length-set}
use Rattle.std.proofs.lemmas.List.Elements.{filter-append}
use Rattle.std.specs.List.{list_any}
use Rattle.nl_meta.specs.Pages.{Pages, above, below, besides_0, has_room, most, with_address}
use Rattle.nl_meta.specs.Steps.{Freshens, with_dirty}
use Rattle.nl_meta.proofs.Rising.{split}
use Rattle.nl_meta.proofs.RunningProofs.{not-with}
use Rattle.nl_indirect.specs.Storing.{HasNewPage}

pub with-is-dirty : (v : ℕ) (old : List ℕ) → list_any (λ a. a == v) (with_address v old) ≡ true
with-is-dirty v old = by (list_any (λ a. a == v) (with_address v old)) refl
  where
    by : (b : Bool) → list_any (λ a. a == v) (with_address v old) ≡ b → b ≡ true
    by true e = refl
    by false e = absurd ((not-with v old v e).0 refl)

-- a page that is dirty may be written
pub dirty_has_room : (v : ℕ) (old new : Pages) → new.dirty ≡ with_address v old.dirty → has_room new v ≡ true
dirty_has_room v old new is =
    ap (λ b. v == 0 || b || nat_lt (length (besides_0 new.dirty)) most) (ap (λ (xs : List ℕ). list_any (λ a. a == v) xs) is ∙ with-is-dirty v old.dirty) ∙ by (v == 0)
  where
    by : (b : Bool) → (b || true || nat_lt (length (besides_0 new.dirty)) most) ≡ true
    by true = refl
    by false = refl

pub new_has_room : (v : ℕ) (old new : Pages) → Freshens v old new → has_room new v ≡ true
new_has_room v old new is = dirty_has_room v old new is.dirty

-- ---- an address twice

module _ (s t : ℕ → Bool) where
  filter-both : ((x : ℕ) → s x ≡ true → t x ≡ true) → (xs : List ℕ) → filter t (filter s xs) ≡ filter s xs
  filter-both h [] = refl
  filter-both h (x ∷ xs) = by (s x) refl (filter-both h xs)
    where
      by : (b : Bool) → s x ≡ b → filter t (filter s xs) ≡ filter s xs → filter t (cond b (x ∷ filter s xs) (filter s xs)) ≡ cond b (x ∷ filter s xs) (filter s xs)
      by true e rest = ap (λ b. cond b (x ∷ filter t (filter s xs)) (filter t (filter s xs))) (h x e) ∙ ap (λ (l : List ℕ). x ∷ l) rest
      by false e rest = rest

  filter-none : ((x : ℕ) → s x ≡ true → t x ≡ false) → (xs : List ℕ) → filter t (filter s xs) ≡ []
  filter-none h [] = refl
  filter-none h (x ∷ xs) = by (s x) refl (filter-none h xs)
    where
      by : (b : Bool) → s x ≡ b → filter t (filter s xs) ≡ [] → filter t (cond b (x ∷ filter s xs) (filter s xs)) ≡ []
      by true e rest = ap (λ b. cond b (x ∷ filter t (filter s xs)) (filter t (filter s xs))) (h x e) ∙ rest
      by false e rest = rest

pub with-twice : (v : ℕ) (xs : List ℕ) → with_address v (with_address v xs) ≡ with_address v xs
unfolding with_address
with-twice v xs = λ i. low i ++ v ∷ high i
  where
    self : nat_lt v v ≡ false
    self = le-ltb v v (omega arith)

    low : below v (below v xs ++ v ∷ above v xs) ≡ below v xs
    low =
        filter-append (λ a. nat_lt a v) (below v xs) (v ∷ above v xs)
        ∙ (λ i. filter-both (λ a. nat_lt a v) (λ a. nat_lt a v) (λ x h. h) xs i
        ++ (cond-false (nat_lt v v) (v ∷ below v (above v xs)) (below v (above v xs)) self ∙ filter-none (λ a. nat_lt v a) (λ a. nat_lt a v) (λ x h. let k = ltb-true v x h in le-ltb x v (omega (arith, k))) xs) i)
        ∙ append-nil (below v xs)

    high : above v (below v xs ++ v ∷ above v xs) ≡ above v xs
    high =
        filter-append (λ a. nat_lt v a) (below v xs) (v ∷ above v xs)
        ∙ (λ i. filter-none (λ a. nat_lt a v) (λ a. nat_lt v a) (λ x h. let k = ltb-true x v h in le-ltb v x (omega (arith, k))) xs i
        ++ (cond-false (nat_lt v v) (v ∷ above v (above v xs)) (above v (above v xs)) self ∙ filter-both (λ a. nat_lt v a) (λ a. nat_lt v a) (λ x h. h) xs) i)

-- at most one more is dirty
pub one-more : (v : ℕ) (xs : List ℕ) → length (besides_0 (with_address v xs)) ≤ length (besides_0 xs) + 1
unfolding with_address
one-more v xs =
    let t : ℕ → Bool = λ a. not (a == 0) in
    let f = ap length (filter-append t (below v xs) (v ∷ above v xs)) in
    let a = length-append (filter t (below v xs)) (filter t (v ∷ above v xs)) in
    let s = split t v xs in
    let h = cons-few (t v) in
    omega (arith, f, a, s, h)
  where
    cons-few : (b : Bool) → length (cond b (v ∷ filter (λ a. not (a == 0)) (above v xs)) (filter (λ a. not (a == 0)) (above v xs))) ≤ length (filter (λ a. not (a == 0)) (above v xs)) + 1
    cons-few true = omega arith
    cons-few false = omega arith

-- ---- a new page with bytes in it

pub new-page : (v : ℕ) (bytes : List ℕ) (old blank : Pages) → v < length blank.running → Freshens v old blank → HasNewPage v bytes old (with_dirty blank v bytes)
new-page v bytes old blank inside is = record {
  page = get_or-set_same blank.running v (Some bytes) None inside;
  dirty = ap (λ (xs : List ℕ). with_address v xs) is.dirty ∙ with-twice v old.dirty;
  keeps = record {
    count = length-set blank.running v (Some bytes) ∙ is.keeps.count;
    frozen = is.keeps.frozen;
    recent = is.keeps.recent;
    others = λ u far. get_or-set_other blank.running v u (Some bytes) None far ∙ is.keeps.others u far;
  };
}
