-- The blocks that hold a stamp alone, by the marks and by the pages.
use Rattle.std.proofs.Common.{◌≡◌, ℕ, zero, suc, ◌+◌, ◌-◌, ◌/◌, ◌<◌, ◌≤◌, Bool, true, false, not, ◌&&◌, ◌||◌, BTreeMap, map, take, ◌++◌, cond, List, [], ◌∷◌, length, get_or, set, Option, Some, None, option_map, is_some, refl, sym, ◌∙◌, ap, subst, arith, ⊎_elim}
use Rattle.std.specs.Prelude.{All, IfSome, ◌==◌, find, slice_get}
use Rattle.std.specs.List.{list_all, list_any, range_with_len}
use Rattle.std.specs.Ordering.{nat_cmp}
use Rattle.std.specs.BTreeMap.{get}
use Rattle.std.proofs.lemmas.Bool.{cases_Bool, cases_eq, cond-false, cond-true, true≢false}
use Rattle.std.proofs.lemmas.List.{get_or-map, get_or-set_other, get_or-set_same, length-map, length-set, take_more}
use Rattle.std.proofs.lemmas.List.Folds.{Any-from_list_any, list_all_at, list_any-append, list_any_at}
use Rattle.std.proofs.lemmas.List.Sums.{list_all-from_AllPass}
use Rattle.std.proofs.lemmas.Option.{get_or_from_slice_get, none-some, same_Some, slice_get_within}
use Rattle.nl_field.specs.declared.pointer.Pointer.{Pointer}
use Rattle.nl_device.specs.Kept.{AreKeptPages, IsOfSegment, KeptPages, copies_of, copy_apart, spare_among}
use Rattle.nl_device.specs.Marks.{with_lone_block}
use Rattle.nl_device.specs.declared.kept.copies.Copies.{Copies}
use Rattle.nl_device.specs.declared.kept.page.KeptPage.{KeptPage}
use Rattle.nl_device.proofs.Lookups.{is_number, number_is, other_number, same_number}
use Rattle.nl_device.proofs.Places.{first_found}
use Rattle.nl_device.proofs.Ranges.{find_same_range}

-- the pages of a stamp lie in this block only
abbrev pub lie_in : ℕ → ℕ → Option Copies → Bool
lie_in size block None = false
lie_in size block (Some c) = not (is_some c.apart) && c.first / size == block

-- the pages of the stamp lie in this block only
unfoldable pub is_alone : ℕ → List KeptPage → ℕ → ℕ → Bool
is_alone size pages block stamp = lie_in size block (copies_of size pages stamp)

-- an element of the list that passes
pub record Passes {X : Type 0} (p : X → Bool) (xs : List X) (x : X) : Type 0 where
  pub at : ℕ
  pub within : at < length xs
  pub is : (d : X) → get_or xs at d ≡ x
  pub passes : p x ≡ true

pub found_passes : {X : Type 0} (p : X → Bool) (xs : List X) (x : X) → find p xs ≡ Some x → Passes p xs x
found_passes p [] x is = absurd (none-some x is)
found_passes {X} p (y ∷ ys) x is =
    ⊎_elim
    (λ here.
    let same : y ≡ x = same_Some y x (sym (cond-true (p y) (Some y) (find p ys) here) ∙ is) in
    record { at = 0; within = omega arith; is = λ d. same; passes = ap p (sym same) ∙ here })
    (λ other.
    let more = found_passes p ys x (sym (cond-false (p y) (Some y) (find p ys) other) ∙ is) in
    record { at = suc more.at; within = omega (arith, more.within); is = more.is; passes = more.passes })
    (cases_Bool (p y))

-- one that passes is found, or an earlier one
pub finds_one : {X : Type 0} (p : X → Bool) (xs : List X) (i : ℕ) (d : X) → i < length xs → p (get_or xs i d) ≡ true → (x : X) × (find p xs ≡ Some x)
finds_one p [] i d within passes = absurd (omega (arith, within))
finds_one p (y ∷ ys) zero d within passes = (y, cond-true (p y) (Some y) (find p ys) passes)
finds_one p (y ∷ ys) (suc i) d within passes =
    ⊎_elim
    (λ here. (y, cond-true (p y) (Some y) (find p ys) here))
    (λ other. let more = finds_one p ys i d (omega (arith, within)) passes in (more.0, cond-false (p y) (Some y) (find p ys) other ∙ more.1))
    (cases_Bool (p y))

pub any_one : {X : Type 0} (p q : X → Bool) (xs : List X) (x : X) → Passes p xs x → q x ≡ true → list_any q xs ≡ true
any_one p q xs x one passes = list_any_at q xs one.at x one.within (ap q (one.is x) ∙ passes)

-- where none passes a test, none passes one that is no weaker
pub none_any : {X : Type 0} (p q : X → Bool) (xs : List X) → ((x : X) → q x ≡ true → p x ≡ true) → find p xs ≡ None → list_any q xs ≡ false
none_any p q [] stronger none = refl
none_any p q (x ∷ xs) stronger none =
    ⊎_elim
    (λ here. absurd (none-some x (sym none ∙ cond-true (p x) (Some x) (find p xs) here)))
    (λ other.
    let not_it : q x ≡ false = ⊎_elim (λ yes. absurd (true≢false (sym (stronger x yes) ∙ other))) (λ no. no) (cases_Bool (q x)) in
    (λ i. not_it i || none_any p q xs stronger (sym (cond-false (p x) (Some x) (find p xs) other) ∙ none) i))
    (cases_Bool (p x))

-- the pages of the block that have one of these stamps, and their copies
abbrev pub is_needed : ℕ → List ℕ → ℕ → KeptPage → Bool
is_needed size stamps block r = r.page / size == block && list_any (λ s. s == r.stamp) stamps

abbrev pub is_copy : ℕ → ℕ → KeptPage → KeptPage → Bool
is_copy size block r q = not (q.page / size == block) && q.stamp == r.stamp

abbrev pub has_copy : ℕ → List KeptPage → ℕ → KeptPage → Bool
has_copy size pages block r = list_any (is_copy size block r) pages

abbrev pub can_erase : ℕ → List KeptPage → List ℕ → ℕ → Bool
can_erase size pages stamps block = list_all (λ r. not (r.page / size == block && list_any (λ s. s == r.stamp) stamps) || list_any (λ q. not (q.page / size == block) && q.stamp == r.stamp) pages) pages

pub both : (a b : Bool) → (a && b) ≡ true → (a ≡ true) × (b ≡ true)
both true true is = (refl, refl)
both true false is = absurd (true≢false (sym is))
both false b is = absurd (true≢false (sym is))

not_true : (b : Bool) → not b ≡ true → b ≡ false
not_true true is = sym is
not_true false is = refl

no_value : (o : Option ℕ) → is_some o ≡ false → o ≡ None
no_value None is = refl
no_value (Some n) is = absurd (true≢false is)

no_page : (o : Option KeptPage) → option_map (λ k. k.page) o ≡ None → o ≡ None
no_page None is = refl
no_page (Some k) is = absurd (none-some k.page (sym is))

a_page : (o : Option KeptPage) → not (is_some (option_map (λ k. k.page) o)) ≡ false → (k : KeptPage) × (o ≡ Some k)
a_page None is = absurd (true≢false is)
a_page (Some k) is = (k, refl)

pub or_false : (b : Bool) → (b || false) ≡ b
or_false true = refl
or_false false = refl

pub or_true : (b : Bool) → (b || true) ≡ true
or_true true = refl
or_true false = refl

-- a block that holds a stamp alone cannot be erased
holds_alone : (size : ℕ) (pages : List KeptPage) (stamps : List ℕ) (block stamp at : ℕ) → at < length stamps → get_or stamps at stamp ≡ stamp → is_alone size pages block stamp ≡ true → can_erase size pages stamps block ≡ false
unfolding is_alone
holds_alone size pages stamps block stamp at within listed alone = by (copies_of size pages stamp) refl alone
  where
    by : (o : Option Copies) → copies_of size pages stamp ≡ o → lie_in size block o ≡ true → can_erase size pages stamps block ≡ false
    by None is alone = absurd (true≢false (sym alone))
    by (Some c) is alone =
        let f = first_found size pages stamp c is in
        let one = found_passes (λ (k : KeptPage). k.stamp == stamp) pages f.0 f.1 in
        let a = both (not (is_some c.apart)) (c.first / size == block) alone in
        let stamp_is : f.0.stamp ≡ stamp = number_is f.0.stamp stamp one.passes in
        let block_is : f.0.page / size ≡ block = ap (λ n. n / size) f.2 ∙ number_is (c.first / size) block a.1 in
        let none_apart : copy_apart size pages stamp f.0.page ≡ None = f.3 ∙ no_value c.apart (not_true (is_some c.apart) a.0) in
        let no_copy : has_copy size pages block f.0 ≡ false =
        none_any (λ (k : KeptPage). k.stamp == stamp && not (k.page / size == f.0.page / size)) (is_copy size block f.0) pages
        (λ q yes. let y = both (not (q.page / size == block)) (q.stamp == f.0.stamp) yes in
        (λ i. (ap (λ n. q.stamp == n) (sym stamp_is) ∙ y.1) i && (ap (λ b. not (q.page / size == b)) block_is ∙ y.0) i)) (no_page (find (λ (k : KeptPage). k.stamp == stamp && not (k.page / size == f.0.page / size)) pages) none_apart) in
        let needed : is_needed size stamps block f.0 ≡ true = (λ i. is_number (f.0.page / size) block block_is i && list_any_at (λ s. s == f.0.stamp) stamps at stamp within (is_number (get_or stamps at stamp) f.0.stamp (listed ∙ sym stamp_is)) i) in
        list_all_at (λ r. not (is_needed size stamps block r) || has_copy size pages block r) pages one.at f.0 one.within
        (ap (λ r. not (is_needed size stamps block r) || has_copy size pages block r) (one.is f.0) ∙ (λ i. not (needed i) || no_copy i))

-- a block that holds none of the stamps alone can be erased
copied : (size : ℕ) (pages : List KeptPage) (block : ℕ) (r r0 : KeptPage) → find (λ k. k.stamp == r.stamp) pages ≡ Some r0 → is_alone size pages block r.stamp ≡ false → has_copy size pages block r ≡ true
unfolding is_alone copies_of
copied size pages block r r0 found alone =
    let one = found_passes (λ (k : KeptPage). k.stamp == r.stamp) pages r0 found in
    let lies : (not (is_some (copy_apart size pages r.stamp r0.page)) && r0.page / size == block) ≡ false =
    ap (λ (o : Option KeptPage). lie_in size block (option_map (λ k. record { first = k.page; apart = copy_apart size pages r.stamp k.page }) o)) (sym found) ∙ alone in
    ⊎_elim
    (λ here.
    let q = a_page (find (λ (k : KeptPage). k.stamp == r.stamp && not (k.page / size == r0.page / size)) pages)
    (sym (and_true (not (is_some (copy_apart size pages r.stamp r0.page)))) ∙ sym (λ i. not (is_some (copy_apart size pages r.stamp r0.page)) && here i) ∙ lies) in
    let other = found_passes (λ (k : KeptPage). k.stamp == r.stamp && not (k.page / size == r0.page / size)) pages q.0 q.1 in
    let parts = both (q.0.stamp == r.stamp) (not (q.0.page / size == r0.page / size)) other.passes in
    any_one (λ (k : KeptPage). k.stamp == r.stamp && not (k.page / size == r0.page / size)) (is_copy size block r) pages q.0 other
    (λ i. (ap (λ b. not (q.0.page / size == b)) (sym (number_is (r0.page / size) block here)) ∙ parts.1) i && parts.0 i))
    (λ there. any_one (λ (k : KeptPage). k.stamp == r.stamp) (is_copy size block r) pages r0 one (λ i. not (there i) && one.passes i))
    (cases_Bool (r0.page / size == block))
  where
    and_true : (b : Bool) → (b && true) ≡ b
    and_true true = refl
    and_true false = refl

not_alone : (size : ℕ) (pages : List KeptPage) (stamps : List ℕ) (block stamp : ℕ) → list_any (is_alone size pages block) stamps ≡ false → list_any (λ s. s == stamp) stamps ≡ true → is_alone size pages block stamp ≡ false
not_alone size pages stamps block stamp none listed =
    let one = Any-from_list_any (λ s. s == stamp) stamps listed in
    let same : one.1 ≡ stamp = number_is one.1 stamp one.4 in
    ⊎_elim
    (λ yes. absurd (true≢false (sym (list_any_at (is_alone size pages block) stamps one.0 one.1 one.2 (ap (is_alone size pages block) (one.3 ∙ same) ∙ yes)) ∙ none)))
    (λ no. no)
    (cases_Bool (is_alone size pages block stamp))

holds_none : (size : ℕ) (pages : List KeptPage) (stamps : List ℕ) (block : ℕ) → list_any (is_alone size pages block) stamps ≡ false → can_erase size pages stamps block ≡ true
holds_none size pages stamps block none =
    list_all-from_AllPass (λ r. not (is_needed size stamps block r) || has_copy size pages block r) pages (λ i d within. each i d within)
  where
    each : (i : ℕ) (d : KeptPage) → i < length pages → (not (is_needed size stamps block (get_or pages i d)) || has_copy size pages block (get_or pages i d)) ≡ true
    each i d within =
        let r = get_or pages i d in
        ⊎_elim
        (λ yes.
        let parts = both (r.page / size == block) (list_any (λ s. s == r.stamp) stamps) yes in
        let first = finds_one (λ (k : KeptPage). k.stamp == r.stamp) pages i d within (same_number r.stamp) in
        (λ j. not (is_needed size stamps block r) || copied size pages block r first.0 first.1 (not_alone size pages stamps block r.stamp none parts.1) j) ∙ or_true (not (is_needed size stamps block r)))
        (λ no. λ j. not (no j) || has_copy size pages block r)
        (cases_Bool (is_needed size stamps block r))

pub can_erase_is : (size : ℕ) (pages : List KeptPage) (stamps : List ℕ) (block : ℕ) → not (list_any (is_alone size pages block) stamps) ≡ can_erase size pages stamps block
can_erase_is size pages stamps block =
    ⊎_elim
    (λ yes. let one = Any-from_list_any (is_alone size pages block) stamps yes in ap not yes ∙ sym (holds_alone size pages stamps block one.1 one.0 one.2 one.3 one.4))
    (λ no. ap not no ∙ sym (holds_none size pages stamps block no))
    (cases_Bool (list_any (is_alone size pages block) stamps))

-- the marks after one more stamp
pub marked_at : (first size : ℕ) (o : Option Copies) (marks : List Bool) (i : ℕ) → i < length marks → IfSome o (λ c. (first ≤ c.first / size) × (c.first / size < first + length marks))
    → get_or (with_lone_block first size o marks) i false ≡ (get_or marks i false || lie_in size (first + i) o)
marked_at first size None marks i within o = sym (or_false (get_or marks i false))
marked_at first size (Some c) marks i within o =
    ⊎_elim
    (λ more.
    (λ j. get_or (cond {A = List Bool} (more j) marks (set marks (c.first / size - first) true)) i false)
    ∙ sym (or_false (get_or marks i false)) ∙ sym (λ j. get_or marks i false || (not (more j) && c.first / size == first + i)))
    (λ one.
    (λ j. get_or (cond {A = List Bool} (one j) marks (set marks (c.first / size - first) true)) i false)
    ∙ only ∙ sym (λ j. get_or marks i false || (not (one j) && c.first / size == first + i)))
    (cases_Bool (is_some c.apart))
  where
    only : get_or (set marks (c.first / size - first) true) i false ≡ (get_or marks i false || c.first / size == first + i)
    only =
        ⊎_elim
        (λ same.
        ap (λ k. get_or (set marks k true) i false) (sym same) ∙ get_or-set_same marks i true false within
        ∙ sym (or_true (get_or marks i false)) ∙ sym (λ j. get_or marks i false || is_number (c.first / size) (first + i) (omega (arith, same, o.0)) j))
        (λ apart.
        get_or-set_other marks (c.first / size - first) i true false apart
        ∙ sym (or_false (get_or marks i false)) ∙ sym (λ j. get_or marks i false || other_number (c.first / size) (first + i) (λ same. apart (omega (arith, same))) j))
        (cases_eq i (c.first / size - first))

-- the copies that are noted lie in blocks of the segment
pub copies_within : (first count size : ℕ) (pages : List KeptPage) (stamp : ℕ) → All (IsOfSegment first count size) pages → IfSome (copies_of size pages stamp) (λ c. (first ≤ c.first / size) × (c.first / size < first + count))
copies_within first count size pages stamp all = by (copies_of size pages stamp) refl
  where
    by : (o : Option Copies) → copies_of size pages stamp ≡ o → IfSome o (λ c. (first ≤ c.first / size) × (c.first / size < first + count))
    by None is = tt
    by (Some c) is =
        let f = first_found size pages stamp c is in
        let one = found_passes (λ (k : KeptPage). k.stamp == stamp) pages f.0 f.1 in
        let of : IsOfSegment first count size f.0 = subst (IsOfSegment first count size) (one.is f.0) (all one.at f.0 one.within) in
        (subst (λ n. first ≤ n / size) f.2 of.from_first, subst (λ n. n / size < first + count) f.2 of.to_last)

-- the marks after one more of the stamps
pub marked_more : (first size : ℕ) (pages : List KeptPage) (stamps : List ℕ) (at stamp : ℕ) (marks : List Bool) → at < length stamps → get_or stamps at stamp ≡ stamp
    → IfSome (copies_of size pages stamp) (λ c. (first ≤ c.first / size) × (c.first / size < first + length marks))
    → ((i : ℕ) → i < length marks → get_or marks i false ≡ list_any (is_alone size pages (first + i)) (take at stamps))
    → (i : ℕ) → i < length marks → get_or (with_lone_block first size (copies_of size pages stamp) marks) i false ≡ list_any (is_alone size pages (first + i)) (take (at + 1) stamps)
unfolding is_alone
marked_more first size pages stamps at stamp marks within is lies so i inside =
    marked_at first size (copies_of size pages stamp) marks i inside lies
    ∙ (λ j. so i inside j || lie_in size (first + i) (copies_of size pages stamp))
    ∙ sym (ap (list_any (is_alone size pages (first + i))) (take_more stamps at stamp within ∙ ap (λ s. take at stamps ++ s ∷ []) is)
    ∙ list_any-append (is_alone size pages (first + i)) (take at stamps) (stamp ∷ [])
    ∙ (λ j. list_any (is_alone size pages (first + i)) (take at stamps) || or_false (is_alone size pages (first + i) stamp) j))

-- the copies of a stamp lie in the blocks that have marks
pub copies_in : (kept : KeptPages) (copies : BTreeMap ℕ Copies) (first size count stamp : ℕ) → AreKeptPages kept copies → first ≡ kept.first → size ≡ kept.size → count ≡ kept.count
    → IfSome (get nat_cmp copies stamp) (λ c. (first ≤ c.first / size) × (c.first / size < first + count))
copies_in kept copies first size count stamp is f s n =
    subst (λ x. IfSome (get nat_cmp copies stamp) (λ c. (x ≤ c.first / size) × (c.first / size < x + count))) (sym f)
    (subst (λ x. IfSome (get nat_cmp copies stamp) (λ c. (kept.first ≤ c.first / x) × (c.first / x < kept.first + count))) (sym s)
    (subst (λ x. IfSome (get nat_cmp copies stamp) (λ c. (kept.first ≤ c.first / kept.size) × (c.first / kept.size < kept.first + x))) (sym n)
    (subst (λ o. IfSome o (λ c. (kept.first ≤ c.first / kept.size) × (c.first / kept.size < kept.first + kept.count))) (sym (is.noted stamp))
    (copies_within kept.first kept.count kept.size kept.pages stamp is.within))))

length_marked : (first size : ℕ) (o : Option Copies) (marks : List Bool) → length (with_lone_block first size o marks) ≡ length marks
length_marked first size None marks = refl
length_marked first size (Some c) marks = by (is_some c.apart)
  where
    by : (b : Bool) → length (cond {A = List Bool} b marks (set marks (c.first / size - first) true)) ≡ length marks
    by true = refl
    by false = length-set marks (c.first / size - first) true

-- of each block whether it holds one of these stamps alone
pub record AreMarks (kept : KeptPages) (stamps : List ℕ) (marks : List Bool) : Type 0 where
  pub count : length marks ≡ kept.count
  pub each : (i : ℕ) → i < length marks → get_or marks i false ≡ list_any (is_alone kept.size kept.pages (kept.first + i)) stamps

pub marks_more : (kept : KeptPages) (copies : BTreeMap ℕ Copies) (first size : ℕ) (marks new : List Bool) (stamps : List ℕ) (at stamp : ℕ) → AreKeptPages kept copies → first ≡ kept.first → size ≡ kept.size
    → new ≡ with_lone_block first size (get nat_cmp copies stamp) marks → at < length stamps → get_or stamps at stamp ≡ stamp → AreMarks kept (take at stamps) marks → AreMarks kept (take (at + 1) stamps) new
marks_more kept copies first size marks new stamps at stamp is f s made within here are =
    let e : new ≡ with_lone_block kept.first kept.size (copies_of kept.size kept.pages stamp) marks = made ∙ (λ i. with_lone_block (f i) (s i) (is.noted stamp i) marks) in
    let lies : IfSome (copies_of kept.size kept.pages stamp) (λ c. (kept.first ≤ c.first / kept.size) × (c.first / kept.size < kept.first + length marks)) =
    subst (λ n. IfSome (copies_of kept.size kept.pages stamp) (λ c. (kept.first ≤ c.first / kept.size) × (c.first / kept.size < kept.first + n))) (sym are.count)
    (copies_within kept.first kept.count kept.size kept.pages stamp is.within) in
    let long = length_marked kept.first kept.size (copies_of kept.size kept.pages stamp) marks in
    subst (AreMarks kept (take (at + 1) stamps)) (sym e) (record {
      count = long ∙ are.count;
      each = λ i inside. marked_more kept.first kept.size kept.pages stamps at stamp marks within here lies are.each i (omega (arith, inside, long));
    })

pub spare_found : (kept : KeptPages) (first : ℕ) (marks : List Bool) (stamps : List ℕ) → first ≡ kept.first → AreMarks kept stamps marks
    → find (λ block. not (get_or marks (block - first) false)) (range_with_len first (length marks)) ≡ spare_among kept stamps
unfolding spare_among
spare_found kept first marks stamps f are =
    (λ i. find (λ block. not (get_or marks (block - f i) false)) (range_with_len (f i) (are.count i)))
    ∙ find_same_range (λ block. not (get_or marks (block - kept.first) false)) (can_erase kept.size kept.pages stamps) kept.first kept.count
    (λ i inside.
    let e : kept.first + i - kept.first ≡ i = omega arith in
    let n = are.count in
    ap (λ k. not (get_or marks k false)) e ∙ ap not (are.each i (omega (arith, inside, n))) ∙ can_erase_is kept.size kept.pages stamps (kept.first + i))

pub stamp_at : (pointers : List Pointer) (at : ℕ) (p : Pointer) → slice_get pointers at ≡ Some p → (at < length (map (λ p. p.stamp) pointers)) × (get_or (map (λ p. p.stamp) pointers) at p.stamp ≡ p.stamp)
stamp_at pointers at p is =
    let within = slice_get_within pointers at p is in
    let long = length-map pointers (λ (p : Pointer). p.stamp) in
    (omega (arith, within, long), get_or-map (λ (p : Pointer). p.stamp) pointers at p p.stamp within ∙ ap (λ (q : Pointer). q.stamp) (get_or_from_slice_get pointers at p p is))
