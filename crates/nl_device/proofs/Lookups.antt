-- What is found in a list of pages that rise.
use Rattle.std.proofs.Common.{◌≡◌, ℕ, zero, suc, ◌<◌, ◌≤◌, Bool, true, false, ◌&&◌, ◌||◌, List, [], ◌∷◌, length, get_or, Some, None, Ok, Err, refl, sym, ◌∙◌, ap, arith, ⊎_elim}
use Rattle.std.specs.Prelude.{All, ◌==◌, find}
use Rattle.std.specs.List.{AllPairs, list_any}
use Rattle.std.specs.List.Sorted.{IsBinarySearchResult, IsNonDecreasingBy}
use Rattle.std.specs.Ordering.{nat_cmp, ordering_index}
use Rattle.std.proofs.lemmas.Bool.{cases_Bool, cases_eq, cases_lt, cond-false, cond-true}
use Rattle.std.proofs.lemmas.Bool.Decides.{nat_tests}
use Rattle.std.proofs.lemmas.Cmp.{ranked}
use Rattle.std.proofs.lemmas.List.Folds.{list_any_none}
use Rattle.std.proofs.lemmas.Option.{none-some, same_Some}
use Rattle.nl_device.specs.declared.kept.page.KeptPage.{KeptPage}

pub same_number : (n : ℕ) → (n == n) ≡ true
same_number n = grind (arith, nat_tests)

pub is_number : (n m : ℕ) → n ≡ m → (n == m) ≡ true
is_number n m same = grind (arith, nat_tests)

pub other_number : (n m : ℕ) → (n ≡ m → ⊥) → (n == m) ≡ false
other_number n m apart = grind (arith, nat_tests)

pub number_is : (n m : ℕ) → (n == m) ≡ true → n ≡ m
number_is n m is = grind (arith, nat_tests)

abbrev pub AreRising : List KeptPage → Type 0
AreRising pages = AllPairs (λ a b. a.page < b.page) pages

tail_rises : (x : KeptPage) (xs : List KeptPage) → AreRising (x ∷ xs) → AreRising xs
tail_rises x xs all i j d lt within = all (suc i) (suc j) d (omega (arith, lt)) (omega (arith, within))

above_first : (x : KeptPage) (xs : List KeptPage) → AreRising (x ∷ xs) → All (λ k. x.page < k.page) xs
above_first x xs all i d within = all zero (suc i) d (omega arith) (omega (arith, within))

pub found_at : (pages : List KeptPage) (page at : ℕ) (d : KeptPage) → AreRising pages → at < length pages → (get_or pages at d).page ≡ page → find (λ k. k.page == page) pages ≡ Some (get_or pages at d)
found_at [] page at d rising below is = absurd (omega (arith, below))
found_at (x ∷ xs) page zero d rising below is = cond-true (x.page == page) (Some x) (find (λ k. k.page == page) xs) (is_number x.page page is)
found_at (x ∷ xs) page (suc at) d rising below is =
    let more : x.page < (get_or xs at d).page = above_first x xs rising at d (omega (arith, below)) in
    cond-false (x.page == page) (Some x) (find (λ k. k.page == page) xs) (other_number x.page page (λ same. omega (arith, more, is, same)))
    ∙ found_at xs page at d (tail_rises x xs rising) (omega (arith, below)) is

pub found_nowhere : (pages : List KeptPage) (page : ℕ) → ((i : ℕ) (d : KeptPage) → i < length pages → (get_or pages i d).page ≡ page → ⊥) → find (λ k. k.page == page) pages ≡ None
found_nowhere [] page none = refl
found_nowhere (x ∷ xs) page none =
    cond-false (x.page == page) (Some x) (find (λ k. k.page == page) xs) (other_number x.page page (none zero x (omega arith)))
    ∙ found_nowhere xs page (λ i d below. none (suc i) d (omega (arith, below)))

rise : (pages : List KeptPage) (page : ℕ) → AreRising pages → IsNonDecreasingBy (λ (k : KeptPage). ordering_index (nat_cmp k.page page)) pages
rise pages page rising i j d le within =
    ⊎_elim
    (λ same. let e = ap (λ n. ordering_index (nat_cmp (get_or pages n d).page page)) same in omega (arith, e))
    (λ apart. let lt = rising i j d (omega (arith, le, apart)) within in grind (arith, nat_tests))
    (cases_eq i j)

pub searched_some : (pages : List KeptPage) (page at : ℕ) (d : KeptPage) → AreRising pages → at < length pages → IsBinarySearchResult (λ k. nat_cmp k.page page) pages (Ok at) → find (λ k. k.page == page) pages ≡ Some (get_or pages at d)
searched_some pages page at d rising below is = found_at pages page at d rising below (ranked _ page _ (sym (is d)))

pub searched_none : (pages : List KeptPage) (page at : ℕ) → AreRising pages → at ≤ length pages → IsBinarySearchResult (λ k. nat_cmp k.page page) pages (Err at) → find (λ k. k.page == page) pages ≡ None
searched_none pages page at rising below parted =
    found_nowhere pages page (λ i d within same.
    ⊎_elim
    (λ less. let s = ranked _ page _ (sym ((parted (rise pages page rising)).0 i d (omega arith) less)) in omega (arith, s, same))
    (λ past. let s = ranked _ page _ (sym ((parted (rise pages page rising)).1 i d past within)) in omega (arith, s, same))
    (cases_lt i at))

-- the page of a number has a stamp exactly where it is the stamp of the one that is found
pub stamp_of_found : (pages : List KeptPage) (page stamp : ℕ) (k : KeptPage) → AreRising pages → find (λ k. k.page == page) pages ≡ Some k → list_any (λ k. k.page == page && k.stamp == stamp) pages ≡ (k.stamp == stamp)
stamp_of_found [] page stamp k rising is = absurd (none-some k is)
stamp_of_found (x ∷ xs) page stamp k rising is =
    ⊎_elim
    (λ here.
    let same : x ≡ k = same_Some x k (sym (cond-true (x.page == page) (Some x) (find (λ k. k.page == page) xs) here) ∙ is) in
    let none : list_any (λ k. k.page == page && k.stamp == stamp) xs ≡ false =
    list_any_none (λ k. k.page == page && k.stamp == stamp) xs
    (λ i d within. λ j. other_number (get_or xs i d).page page (λ at. let more = above_first x xs rising i d within in let e = number_is x.page page here in omega (arith, more, e, at)) j && (get_or xs i d).stamp == stamp) in
    (λ i. (here i && x.stamp == stamp) || none i) ∙ or_false (x.stamp == stamp) ∙ ap (λ (q : KeptPage). q.stamp == stamp) same)
    (λ other.
    (λ i. (other i && x.stamp == stamp) || list_any (λ k. k.page == page && k.stamp == stamp) xs)
    ∙ stamp_of_found xs page stamp k (tail_rises x xs rising) (sym (cond-false (x.page == page) (Some x) (find (λ k. k.page == page) xs) other) ∙ is))
    (cases_Bool (x.page == page))
  where
    or_false : (b : Bool) → (b || false) ≡ b
    or_false true = refl
    or_false false = refl

pub stamp_of_none : (pages : List KeptPage) (page stamp : ℕ) → find (λ k. k.page == page) pages ≡ None → list_any (λ k. k.page == page && k.stamp == stamp) pages ≡ false
stamp_of_none [] page stamp is = refl
stamp_of_none (x ∷ xs) page stamp is =
    ⊎_elim
    (λ here. absurd (none-some x (sym is ∙ cond-true (x.page == page) (Some x) (find (λ k. k.page == page) xs) here)))
    (λ other.
    (λ i. (other i && x.stamp == stamp) || list_any (λ k. k.page == page && k.stamp == stamp) xs)
    ∙ stamp_of_none xs page stamp (sym (cond-false (x.page == page) (Some x) (find (λ k. k.page == page) xs) other) ∙ is))
    (cases_Bool (x.page == page))
