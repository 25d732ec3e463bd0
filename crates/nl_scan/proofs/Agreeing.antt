-- Comparing a page with the first of its stamp, and knowing whether one between differs from the first, tells whether it
-- differs from any of them.
use Rattle.std.proofs.Common.{◌≡◌, ℕ, Bool, true, false, not, ◌&&◌, ◌||◌, cond, List, [], ◌∷◌, ◌++◌, Option, Some, None, refl, sym, ◌∙◌, ap, subst, ⊎_elim, ◌==◌}
use Rattle.std.specs.Prelude.{find, option_map, bytes_eq}
use Rattle.std.specs.List.{list_any, AllByRecursion}
use Rattle.std.specs.Option.{option_or}
use Rattle.std.proofs.lemmas.Bool.{cases_Bool, and_parts, and_from, and_right, or_left, or_right, eq-eqb, ne_eqb, both_ways, false_from_ne_true, not_from_true, not_from_false}
use Rattle.std.proofs.lemmas.List.Folds.{find-append, list_any-append}
use Rattle.std.proofs.lemmas.Slice.Eq.{bytes_eq-Decides}
use Rattle.nl_field.specs.Page.{Image, page_at}
use Rattle.nl_field.specs.SpareRecord.{spare_bytes}
use Rattle.nl_field.specs.Medium.{Readable, readable, stamp_on}
use Rattle.nl_field.specs.Scan.{agree, without_wear}
use Rattle.nl_scan.specs.declared.firsts.First.{First}
use Rattle.nl_scan.proofs.Lists.{all_each, any_same, or_false, same_some}
use Rattle.nl_scan.specs.Firsts.{agrees_with, is_alike, same_record, noted, first_seen}

-- one of these pages has the stamp and differs
abbrev pub differs_from : List Readable → Readable → Bool
differs_from pages r = list_any (λ q. stamp_on q == stamp_on r && not (agree q r)) pages

-- the page of its number is this one
abbrev pub IsOn : Image → Readable → Type 0
IsOn image q = readable (q.page, page_at image q.page) ≡ Some q

abbrev spare_of_page : Readable → List ℕ
spare_of_page q = spare_bytes (without_wear q.rec)

record Same (q r : Readable) : Type 0 where
  main : q.main ≡ r.main
  spare : spare_of_page q ≡ spare_of_page r

same_from : (q r : Readable) → agree q r ≡ true → Same q r
same_from q r is =
    let parts = and_parts (bytes_eq q.main r.main) (bytes_eq (spare_of_page q) (spare_of_page r)) is in
    record { main = (bytes_eq-Decides q.main r.main).0 parts.0; spare = (bytes_eq-Decides (spare_of_page q) (spare_of_page r)).0 parts.1 }

agree_from : (q r : Readable) → Same q r → agree q r ≡ true
agree_from q r same =
    and_from (bytes_eq q.main r.main) (bytes_eq (spare_of_page q) (spare_of_page r)) ((bytes_eq-Decides q.main r.main).1 same.main) ((bytes_eq-Decides (spare_of_page q) (spare_of_page r)).1 same.spare)

agree_itself : (r : Readable) → agree r r ≡ true
agree_itself r = agree_from r r (record { main = refl; spare = refl })

agree_turned : (q r : Readable) → agree q r ≡ true → agree r q ≡ true
agree_turned q r is = let same = same_from q r is in agree_from r q (record { main = sym same.main; spare = sym same.spare })

agree_both : (q r : Readable) → agree q r ≡ agree r q
agree_both q r =
    ⊎_elim
    (λ yes'. yes' ∙ sym (agree_turned q r yes'))
    (λ no'. no' ∙ sym (false_from_ne_true (agree r q) (λ is. both_ways (agree q r) no' (agree_turned r q is))))
    (cases_Bool (agree q r))

-- of two pages that agree, each agrees with the pages with which the other agrees
agree_alike : (f r q : Readable) → agree f r ≡ true → agree f q ≡ agree q r
agree_alike f r q is = let same = same_from f r is in agree_both f q ∙ (λ i. bytes_eq q.main (same.main i) && bytes_eq (spare_of_page q) (same.spare i))

pub some_or_none : {X : Type 0} (x : X) → Some x ≡ None → ⊥
some_or_none x e = cc

none_found : {X : Type 0} (p h : X → Bool) (xs : List X) → find p xs ≡ None → list_any (λ x. p x && h x) xs ≡ false
none_found p h [] none = refl
none_found {X} p h (x ∷ xs) none =
    ⊎_elim
    (λ is. absurd (some_or_none x (sym (λ i. cond (is i) (Some x) (find p xs)) ∙ none)))
    (λ is. (λ i. (is i && h x) || list_any (λ y. p y && h y) xs) ∙ none_found p h xs (sym (λ i. cond (is i) (Some x) (find p xs)) ∙ none))
    (cases_Bool (p x))

passes : {X : Type 0} (p : X → Bool) (xs : List X) (f : X) → find p xs ≡ Some f → p f ≡ true
passes p [] f some = cc
passes {X} p (x ∷ xs) f some =
    ⊎_elim
    (λ is. subst (λ y. p y ≡ true) (same_some x f (sym (λ i. cond (is i) (Some x) (find p xs)) ∙ some)) is)
    (λ is. passes p xs f (sym (λ i. cond (is i) (Some x) (find p xs)) ∙ some))
    (cases_Bool (p x))

any_found : {X : Type 0} (p g : X → Bool) (xs : List X) (f : X) → find p xs ≡ Some f → g f ≡ true → list_any g xs ≡ true
any_found p g [] f some is = cc
any_found {X} p g (x ∷ xs) f some holds =
    ⊎_elim
    (λ is. or_left (g x) (list_any g xs) (ap g (same_some x f (sym (λ i. cond (is i) (Some x) (find p xs)) ∙ some)) ∙ holds))
    (λ is. or_right (g x) (list_any g xs) (any_found p g xs f (sym (λ i. cond (is i) (Some x) (find p xs)) ∙ some) holds))
    (cases_Bool (p x))

holds_found : {X : Type 0} (p : X → Bool) (P : X → Type 0) (xs : List X) (f : X) → find p xs ≡ Some f → AllByRecursion P xs → P f
holds_found p P [] f some all = absurd cc
holds_found {X} p P (x ∷ xs) f some all =
    ⊎_elim
    (λ is. subst P (same_some x f (sym (λ i. cond (is i) (Some x) (find p xs)) ∙ some)) all.0)
    (λ is. holds_found p P xs f (sym (λ i. cond (is i) (Some x) (find p xs)) ∙ some) all.1)
    (cases_Bool (p x))

abbrev has_stamp : ℕ → Readable → Bool
has_stamp stamp q = stamp_on q == stamp

-- one of these pages of the stamp differs from the first
abbrev differ_from_first : List Readable → ℕ → Readable → Bool
differ_from_first pages stamp f = list_any (λ q. stamp_on q == stamp && not (agree f q)) pages

differs_by_first : (pages : List Readable) (r f : Readable) → find (has_stamp (stamp_on r)) pages ≡ Some f
    → differs_from pages r ≡ (differ_from_first pages (stamp_on r) f || not (agree f r))
differs_by_first pages r f some =
    ⊎_elim
    (λ is.
    any_same (λ q. stamp_on q == stamp_on r && not (agree q r)) (λ q. stamp_on q == stamp_on r && not (agree f q)) pages
    (all_each (λ q. (stamp_on q == stamp_on r && not (agree q r)) ≡ (stamp_on q == stamp_on r && not (agree f q))) (λ q. ap (λ (b : Bool). stamp_on q == stamp_on r && not b) (sym (agree_alike f r q is))) pages)
    ∙ sym (ap (λ (b : Bool). differ_from_first pages (stamp_on r) f || not b) is ∙ or_false (differ_from_first pages (stamp_on r) f)))
    (λ is.
    any_found (has_stamp (stamp_on r)) (λ q. stamp_on q == stamp_on r && not (agree q r)) pages f some (and_from (stamp_on f == stamp_on r) (not (agree f r)) (passes (has_stamp (stamp_on r)) pages f some) (not_from_false (agree f r) is))
    ∙ sym (or_right (differ_from_first pages (stamp_on r) f) (not (agree f r)) (not_from_false (agree f r) is)))
    (cases_Bool (agree f r))

both_twice : (a b : Bool) → ((a && b) && b) ≡ (a && b)
both_twice true true = refl
both_twice true false = refl
both_twice false b = refl

-- the record that was noted of a page is the one that is read again
alike_first : (image : Image) (f r : Readable) → IsOn image f → (is_alike r.rec r.main (f.page, page_at image f.page) && same_record f.rec r.rec) ≡ agree f r
alike_first image f r on = ap (λ (b : Bool). b && same_record f.rec r.rec) (ap (agrees_with r.rec r.main) on) ∙ both_twice (bytes_eq f.main r.main) (same_record f.rec r.rec)

abbrev first_in : List Readable → ℕ → Readable → First
first_in pages stamp f = record { page = f.page; rec = f.rec; mixed = differ_from_first pages stamp f }

noted_first : (image : Image) (pages : List Readable) (r : Readable) (found : Option Readable) → AllByRecursion (IsOn image) pages
    → find (has_stamp (stamp_on r)) pages ≡ found → (noted image r (option_map (first_in pages (stamp_on r)) found)).mixed ≡ differs_from pages r
noted_first image pages r None on some = sym (none_found (has_stamp (stamp_on r)) (λ q. not (agree q r)) pages some)
noted_first image pages r (Some f) on some =
    ap (λ (b : Bool). differ_from_first pages (stamp_on r) f || not b) (alike_first image f r (holds_found (has_stamp (stamp_on r)) (IsOn image) pages f some on))
    ∙ sym (differs_by_first pages r f some)

pub verdict : (image : Image) (pages : List Readable) (r : Readable) → AllByRecursion (IsOn image) pages → (noted image r (first_seen pages (stamp_on r))).mixed ≡ differs_from pages r
unfolding first_seen
verdict image pages r on = noted_first image pages r (find (has_stamp (stamp_on r)) pages) on refl

-- what is noted is the first page of the stamp among these and one more
one_more : (pages : List Readable) (r f : Readable) (stamp : ℕ) → differ_from_first (pages ++ r ∷ []) stamp f ≡ (differ_from_first pages stamp f || (stamp_on r == stamp && not (agree f r)))
one_more pages r f stamp =
    list_any-append (λ q. stamp_on q == stamp && not (agree f q)) pages (r ∷ [])
    ∙ ap (λ (b : Bool). differ_from_first pages stamp f || b) (or_false (stamp_on r == stamp && not (agree f r)))

its_stamp : (r : Readable) → (stamp_on r == stamp_on r) ≡ true
its_stamp r = eq-eqb (stamp_on r) (stamp_on r) refl

here : (image : Image) (pages : List Readable) (r : Readable) (found : Option Readable) → AllByRecursion (IsOn image) pages
    → find (has_stamp (stamp_on r)) pages ≡ found
    → option_map (first_in (pages ++ r ∷ []) (stamp_on r)) (option_or found (find (has_stamp (stamp_on r)) (r ∷ []))) ≡ Some (noted image r (option_map (first_in pages (stamp_on r)) found))
here image pages r None on some =
    (λ i. option_map (first_in (pages ++ r ∷ []) (stamp_on r)) (cond (its_stamp r i) (Some r) None))
    ∙ ap (λ (m : Bool). Some (record { page = r.page; rec = r.rec; mixed = m }))
    (one_more pages r r (stamp_on r)
    ∙ (λ i. none_found (has_stamp (stamp_on r)) (λ q. not (agree r q)) pages some i || and_right (stamp_on r == stamp_on r) (not (agree r r)) (not_from_true (agree r r) (agree_itself r)) i))
here image pages r (Some f) on some =
    ap (λ (m : Bool). Some (record { page = f.page; rec = f.rec; mixed = m }))
    (one_more pages r f (stamp_on r)
    ∙ (λ i. differ_from_first pages (stamp_on r) f || (its_stamp r i && not (agree f r)))
    ∙ ap (λ (b : Bool). differ_from_first pages (stamp_on r) f || not b) (sym (alike_first image f r (holds_found (has_stamp (stamp_on r)) (IsOn image) pages f some on))))

pub first_here : (image : Image) (pages : List Readable) (r : Readable) → AllByRecursion (IsOn image) pages
    → first_seen (pages ++ r ∷ []) (stamp_on r) ≡ Some (noted image r (first_seen pages (stamp_on r)))
unfolding first_seen
first_here image pages r on =
    ap (option_map (first_in (pages ++ r ∷ []) (stamp_on r))) (find-append (has_stamp (stamp_on r)) pages (r ∷ []))
    ∙ here image pages r (find (has_stamp (stamp_on r)) pages) on refl

apart_in : (pages : List Readable) (r : Readable) (stamp : ℕ) (found : Option Readable) → (stamp_on r == stamp) ≡ false
    → option_map (first_in (pages ++ r ∷ []) stamp) (option_or found (find (has_stamp stamp) (r ∷ []))) ≡ option_map (first_in pages stamp) found
apart_in pages r stamp None no' = λ i. option_map (first_in (pages ++ r ∷ []) stamp) (cond (no' i) (Some r) None)
apart_in pages r stamp (Some f) no' =
    ap (λ (m : Bool). Some (record { page = f.page; rec = f.rec; mixed = m }))
    (one_more pages r f stamp ∙ (λ i. differ_from_first pages stamp f || (no' i && not (agree f r))) ∙ or_false (differ_from_first pages stamp f))

pub first_apart : (pages : List Readable) (r : Readable) (stamp : ℕ) → (stamp_on r ≡ stamp → ⊥) → first_seen (pages ++ r ∷ []) stamp ≡ first_seen pages stamp
unfolding first_seen
first_apart pages r stamp apart =
    ap (option_map (first_in (pages ++ r ∷ []) stamp)) (find-append (has_stamp stamp) pages (r ∷ []))
    ∙ apart_in pages r stamp (find (has_stamp stamp) pages) (ne_eqb (stamp_on r) stamp apart)
