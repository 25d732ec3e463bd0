-- The pages of the physical segment by their numbers, and the first pointer that does not own its name.
use Rattle.std.proofs.Common.{◌≡◌, ℕ, ◌<◌, Bool, true, false, not, ◌&&◌, ◌||◌, cond, List, [], ◌∷◌, length, get_or, set, replicate, Option, Some, None, is_some, option_map, refl, sym, ◌∙◌, ap}
use Rattle.std.specs.Prelude.{◌==◌, filter, find, nat_le}
use Rattle.std.specs.BTreeSet.{BTreeSet, IsEmpty, Updates, contains}
use Rattle.std.specs.List.{list_any}
use Rattle.std.specs.Ordering.{is_eq, nat_cmp}
use Rattle.nl_field.specs.Medium.{first_physical, is_physical_rec}
use Rattle.nl_field.specs.ScanList.{holds_seen, owns_seen, physical_seen}
use Rattle.nl_field.specs.declared.pointer.Pointer.{Pointer}
use Rattle.nl_field.specs.declared.seen.Seen.{Seen}
use Rattle.nl_field.specs.declared.shape.Shape.{Shape}
use Rattle.nl_meta.specs.Nodes.{Held}
use Rattle.nl_meta.specs.Walk.{name_fault}
use Rattle.nl_recover_pointers.specs.Numbers.{is_it}
use Rattle.nl_recover_pointers.specs.Places.{KnowsPlaces, PlaceKey, has_place, is_at, is_file, pair_cmp, place_key}
use Rattle.nl_recover_pointers.specs.declared.places.Places.{Places}
use Rattle.nl_recover_pointers.proofs.Keys.{number_is, number_test, or_false, pair_test, turned}
use Rattle.nl_recover_pointers.proofs.Numbering.{blank, no_number, put_elsewhere, put_here, was_free}

-- ---- pages that are kept by their numbers

pub put_page : (kept : List (Option ℕ)) (n s : ℕ) → n < length kept → get_or kept n None ≡ None → (p : ℕ) → is_some (get_or (set kept n (Some s)) p None) ≡ (is_some (get_or kept p None) || n == p)
put_page kept n s within free p = by (p == n) refl
  where
    by : (here : Bool) → (p == n) ≡ here → is_some (get_or (set kept n (Some s)) p None) ≡ (is_some (get_or kept p None) || n == p)
    by true e =
        ap is_some (put_here kept n p s within (number_is p n e))
        ∙ sym (λ i. is_some (was_free kept n p free (number_is p n e) i) || (turned n p ∙ e) i)
    by false e =
        ap is_some (put_elsewhere kept n p s e)
        ∙ sym (ap (λ x. is_some (get_or kept p None) || x) (turned n p ∙ e) ∙ or_false (is_some (get_or kept p None)))

pub put_stamp : (kept : List (Option ℕ)) (n s : ℕ) → n < length kept → get_or kept n None ≡ None
    → (p t : ℕ) → is_it t (get_or (set kept n (Some s)) p None) ≡ (is_it t (get_or kept p None) || (n == p && s == t))
put_stamp kept n s within free p t = by (p == n) refl
  where
    by : (here : Bool) → (p == n) ≡ here → is_it t (get_or (set kept n (Some s)) p None) ≡ (is_it t (get_or kept p None) || (n == p && s == t))
    by true e =
        ap (is_it t) (put_here kept n p s within (number_is p n e))
        ∙ sym (λ i. is_it t (was_free kept n p free (number_is p n e) i) || ((turned n p ∙ e) i && s == t))
    by false e =
        ap (is_it t) (put_elsewhere kept n p s e)
        ∙ sym (ap (λ x. is_it t (get_or kept p None) || (x && s == t)) (turned n p ∙ e) ∙ or_false (is_it t (get_or kept p None)))

-- one more of those that are kept, or of the others
pub among_kept : (new old one others : Bool) → new ≡ (old || one) → (new || others) ≡ ((old || others) || one)
among_kept new old one others is = ap (λ x. x || others) is ∙ by old one others
  where
    by : (a b c : Bool) → ((a || b) || c) ≡ ((a || c) || b)
    by true b c = refl
    by false true true = refl
    by false true false = refl
    by false false true = refl
    by false false false = refl

pub among_others : (kept old new one : Bool) → new ≡ cond one true old → (kept || new) ≡ ((kept || old) || one)
among_others kept old new one is = ap (λ x. kept || x) is ∙ by kept old one
  where
    by : (a b c : Bool) → (a || cond c true b) ≡ ((a || b) || c)
    by true b c = refl
    by false true true = refl
    by false true false = refl
    by false false true = refl
    by false false false = refl

pub page_other : (kept new_kept : List (Option ℕ)) (old new : BTreeSet ℕ) (n : ℕ) → new_kept ≡ kept → Updates nat_cmp old new n true
    → (p : ℕ) → (is_some (get_or new_kept p None) || contains nat_cmp new p) ≡ ((is_some (get_or kept p None) || contains nat_cmp old p) || n == p)
page_other kept new_kept old new n same updates p =
    ap (λ l. is_some (get_or l p None) || contains nat_cmp new p) same
    ∙ among_others (is_some (get_or kept p None)) (contains nat_cmp old p) (contains nat_cmp new p) (n == p)
    (updates.0 p ∙ ap (λ x. cond x true (contains nat_cmp old p)) (number_test n p))

pub stamp_other : (kept new_kept : List (Option ℕ)) (old new : BTreeSet PlaceKey) (n s : ℕ) → new_kept ≡ kept → Updates pair_cmp old new (place_key n s) true
    → (p t : ℕ) → (is_it t (get_or new_kept p None) || contains pair_cmp new (place_key p t)) ≡ ((is_it t (get_or kept p None) || contains pair_cmp old (place_key p t)) || (n == p && s == t))
stamp_other kept new_kept old new n s same updates p t =
    ap (λ l. is_it t (get_or l p None) || contains pair_cmp new (place_key p t)) same
    ∙ among_others (is_it t (get_or kept p None)) (contains pair_cmp old (place_key p t)) (contains pair_cmp new (place_key p t)) (n == p && s == t)
    (updates.0 (place_key p t) ∙ ap (λ x. cond x true (contains pair_cmp old (place_key p t))) (pair_test n s p t))

pub no_pair : (set : BTreeSet PlaceKey) → IsEmpty set → (m t : ℕ) → contains pair_cmp set (place_key m t) ≡ false
no_pair set none m t = ap (list_any (λ k. is_eq (pair_cmp (place_key m t) k))) none

pub no_places : (count : ℕ) (kept : List (Option ℕ)) (pages : BTreeSet ℕ) (stamped : BTreeSet PlaceKey) → kept ≡ replicate count None → IsEmpty pages → IsEmpty stamped
    → ((p : ℕ) → (is_some (get_or kept p None) || contains nat_cmp pages p) ≡ false)
    × ((p t : ℕ) → (is_it t (get_or kept p None) || contains pair_cmp stamped (place_key p t)) ≡ false)
no_places count kept pages stamped is none no_stamped =
    ((λ p. λ i. is_some (nothing p i) || no_number pages none p i), (λ p t. λ i. is_it t (nothing p i) || no_pair stamped no_stamped p t i))
  where
    nothing : (p : ℕ) → get_or kept p None ≡ None
    nothing p = ap (λ l. get_or l p None) is ∙ blank {X = ℕ} count p

-- ---- the pages of the physical segment by number

-- what one more page that a scan saw adds
pub any_more : (shape : Shape) (test : Seen → Bool) (x : Seen) (rest : List Seen) → list_any test (physical_seen shape (x ∷ rest)) ≡ ((is_file shape x && test x) || list_any test (physical_seen shape rest))
unfolding physical_seen
any_more shape test x rest = by (is_file shape x)
  where
    by : (b : Bool)
        → list_any test (cond b (x ∷ filter (λ s. nat_le (first_physical shape) s.page && is_physical_rec s.rec) rest) (filter (λ s. nat_le (first_physical shape) s.page && is_physical_rec s.rec) rest))
        ≡ ((b && test x) || list_any test (filter (λ s. nat_le (first_physical shape) s.page && is_physical_rec s.rec) rest))
    by true = refl
    by false = refl

pub any_none : (shape : Shape) (test : Seen → Bool) → list_any test (physical_seen shape []) ≡ false
unfolding physical_seen
any_none shape test = refl

pub holds_test : (shape : Shape) (seen : List Seen) (places : Places) (p : Pointer) → KnowsPlaces (physical_seen shape seen) places → is_at places p.name p.stamp ≡ holds_seen shape seen p.name p.stamp
unfolding holds_seen
holds_test shape seen places p knows = knows.stamped_are p.name p.stamp

pub owns_test : (shape : Shape) (seen : List Seen) (places : Places) (p : Pointer) → KnowsPlaces (physical_seen shape seen) places
    → (is_at places p.name p.stamp || not (has_place places p.name)) ≡ owns_seen shape seen p
unfolding owns_seen
owns_test shape seen places p knows = λ i. holds_test shape seen places p knows i || not (knows.pages_are p.name i)

-- ---- the first pointer that does not own its name, one pointer on

pub name_taken : (shape : Shape) (seen : List Seen) (h : Held) (rest : List Held) → owns_seen shape seen h.pointer ≡ false → name_fault shape seen (h ∷ rest) ≡ Some h.pointer.name
unfolding name_fault
name_taken shape seen h rest not_its =
    ap (λ b. option_map (λ (e : Held). e.pointer.name) (cond (not b) (Some h) (find (λ (e : Held). not (owns_seen shape seen e.pointer)) rest))) not_its

pub name_owned : (shape : Shape) (seen : List Seen) (h : Held) (rest : List Held) → owns_seen shape seen h.pointer ≡ true → name_fault shape seen (h ∷ rest) ≡ name_fault shape seen rest
unfolding name_fault
name_owned shape seen h rest own =
    ap (λ b. option_map (λ (e : Held). e.pointer.name) (cond (not b) (Some h) (find (λ (e : Held). not (owns_seen shape seen e.pointer)) rest))) own

pub name_none : (shape : Shape) (seen : List Seen) → name_fault shape seen [] ≡ None
unfolding name_fault
name_none shape seen = refl
