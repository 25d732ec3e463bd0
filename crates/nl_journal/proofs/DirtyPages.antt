-- Dirty pages make a transaction.
use Rattle.std.proofs.Common.{◌≡◌, ◌≢◌, ◌⊎◌, inl, inr, ⊎_elim, ℕ, zero, suc, ◌<◌, ◌≤◌, ◌==◌, nat_lt, nat_le, Bool, true, false, ◌&&◌, ◌||◌, List, [], ◌∷◌, length, get_or, Option, None, refl, sym, ◌∙◌, arith}
use Rattle.std.specs.List.{list_all, list_any}
use Rattle.std.specs.Prelude.{IsSome, unwrap_or}
use Rattle.std.proofs.lemmas.Bool.{and_parts, and_from, cases_lt, true≢false, eqb-true, lt-ltb, ltb-true, le-leb, leb-true, eq-eqb}
use Rattle.std.proofs.lemmas.List.{length-map}
use Rattle.nl_field.specs.Journal.{are_home_addresses}
use Rattle.nl_field.specs.Members.{Has}
use Rattle.nl_meta.specs.Pages.{Frozen, Pages, dirty_pages, is_dirty, page_of, rises}
use Rattle.nl_meta.proofs.Rising.{few_beside}
use Rattle.nl_journal.specs.Transaction.{IsTransaction}
use Rattle.nl_journal.specs.Laws.{DirtyPagesAreTransaction}

or_from : (a b : Bool) → (a ≡ true) ⊎ (b ≡ true) → (a || b) ≡ true
or_from true b h = refl
or_from false b (inl h) = absurd (true≢false (sym h))
or_from false b (inr h) = h

or_to : (a b : Bool) → (a || b) ≡ true → (a ≡ true) ⊎ (b ≡ true)
or_to true b h = inl refl
or_to false b h = inr h

all_get : (p : ℕ → Bool) (xs : List ℕ) (i : ℕ) → list_all p xs ≡ true → i < length xs → p (get_or xs i 0) ≡ true
all_get p [] i h lt = absurd (let no : ⊥ = omega (arith, lt) in no)
all_get p (x ∷ xs) zero h lt = (and_parts (p x) (list_all p xs) h).0
all_get p (x ∷ xs) (suc i) h lt = all_get p xs i (and_parts (p x) (list_all p xs) h).1 (omega (arith, lt))

outside_of : (a : ℕ) → (a == 0 || nat_le 67 a) ≡ true → (a ≡ 0) ⊎ (67 ≤ a)
outside_of a h = ⊎_elim (λ z. inl (eqb-true a 0 z)) (λ l. inr (leb-true 67 a l)) (or_to (a == 0) (nat_le 67 a) h)

-- addresses that rise are each outside the journal, and differ
rise_parts : (a : ℕ) (xs : List ℕ) → are_home_addresses (a ∷ xs) ≡ true → ((a == 0 || nat_le 67 a) ≡ true) × (list_all (λ b. nat_lt a b) xs ≡ true) × (are_home_addresses xs ≡ true)
unfolding are_home_addresses
rise_parts a xs h =
    let p = and_parts ((a == 0 || nat_le 67 a) && list_all (λ b. nat_lt a b) xs) (are_home_addresses xs) h in
    let q = and_parts (a == 0 || nat_le 67 a) (list_all (λ b. nat_lt a b) xs) p.0 in
    (q.0, q.1, p.1)

rise_from : (a : ℕ) (xs : List ℕ) → (a == 0 || nat_le 67 a) ≡ true → list_all (λ b. nat_lt a b) xs ≡ true → are_home_addresses xs ≡ true → are_home_addresses (a ∷ xs) ≡ true
unfolding are_home_addresses
rise_from a xs h k l = and_from ((a == 0 || nat_le 67 a) && list_all (λ b. nat_lt a b) xs) (are_home_addresses xs) (and_from (a == 0 || nat_le 67 a) (list_all (λ b. nat_lt a b) xs) h k) l

rise_nil : are_home_addresses [] ≡ true
unfolding are_home_addresses
rise_nil = refl

pub rise_home : (xs : List ℕ) (i : ℕ) → are_home_addresses xs ≡ true → i < length xs → (get_or xs i 0 ≡ 0) ⊎ (67 ≤ get_or xs i 0)
rise_home [] i h lt = absurd (let no : ⊥ = omega (arith, lt) in no)
rise_home (x ∷ xs) zero h lt = outside_of x (rise_parts x xs h).0
rise_home (x ∷ xs) (suc i) h lt = rise_home xs i (rise_parts x xs h).2 (omega (arith, lt))

pub rise_apart : (xs : List ℕ) (i j : ℕ) → are_home_addresses xs ≡ true → i < j → j < length xs → get_or xs i 0 ≢ get_or xs j 0
rise_apart [] i j h lt below = absurd (let no : ⊥ = omega (arith, below) in no)
rise_apart (x ∷ xs) i zero h lt below = absurd (let no : ⊥ = omega (arith, lt) in no)
rise_apart (x ∷ xs) zero (suc j) h lt below = λ e. let less = ltb-true x (get_or xs j 0) (all_get (λ b. nat_lt x b) xs j (rise_parts x xs h).1 (omega (arith, below))) in omega (arith, less, e)
rise_apart (x ∷ xs) (suc i) (suc j) h lt below = rise_apart xs i j (rise_parts x xs h).2 (omega (arith, lt)) (omega (arith, below))

pub transaction_of : (count : ℕ) (frozen : Frozen) → 1 ≤ length frozen.addresses → length frozen.addresses ≤ 64 → length frozen.images ≡ length frozen.addresses
    → are_home_addresses frozen.addresses ≡ true → list_all (λ a. nat_lt a count) frozen.addresses ≡ true → IsTransaction count frozen
transaction_of count frozen some few images rise within = record {
  pages = record {
    some = some;
    few = few;
    images = images;
    rise = rise;
    apart = λ i j lt below. rise_apart frozen.addresses i j rise lt below;
  };
  listed = within;
  home = λ i lt. record { below = ltb-true (get_or frozen.addresses i 0) count (all_get (λ a. nat_lt a count) frozen.addresses i within lt); outside = rise_home frozen.addresses i rise lt };
}

any_of : (xs : List ℕ) (v : ℕ) → Has xs v → list_any (λ a. a == v) xs ≡ true
any_of [] v has = absurd has
any_of (a ∷ xs) v (inl is) = or_from (a == v) (list_any (λ b. b == v) xs) (inl (eq-eqb a v is))
any_of (a ∷ xs) v (inr has) = or_from (a == v) (list_any (λ b. b == v) xs) (inr (any_of xs v has))

rises_parts : (a : ℕ) (xs : List ℕ) → rises (a ∷ xs) ≡ true → (list_all (λ b. nat_lt a b) xs ≡ true) × (rises xs ≡ true)
unfolding rises
rises_parts a xs h = and_parts (list_all (λ b. nat_lt a b) xs) (rises xs) h

journal_off : (pages : Pages) (v : ℕ) → Has pages.dirty v → ((u : ℕ) → 1 ≤ u → u < 67 → is_dirty pages u ≡ false) → (v ≡ 0) ⊎ (67 ≤ v)
journal_off pages zero has off = inl refl
journal_off pages (suc v) has off = by (cases_lt (suc v) 67)
  where
    by : (suc v < 67) ⊎ (67 ≤ suc v) → (suc v ≡ 0) ⊎ (67 ≤ suc v)
    by (inl lt) = absurd (true≢false (sym (any_of pages.dirty (suc v) has) ∙ off (suc v) (omega arith) lt))
    by (inr le) = inr le

-- addresses that rise outside the journal
rises_home : (xs : List ℕ) → rises xs ≡ true → ((v : ℕ) → Has xs v → (v ≡ 0) ⊎ (67 ≤ v)) → are_home_addresses xs ≡ true
rises_home [] rise home = rise_nil
rises_home (a ∷ xs) rise home =
    let parts = rises_parts a xs rise in
    rise_from a xs (or_from (a == 0) (nat_le 67 a) (⊎_elim (λ z. inl (eq-eqb a 0 z)) (λ l. inr (le-leb 67 a l)) (home a (inl refl)))) parts.0 (rises_home xs parts.1 (λ v has. home v (inr has)))

all_below : (count : ℕ) (xs : List ℕ) → ((v : ℕ) → Has xs v → v < count) → list_all (λ a. nat_lt a count) xs ≡ true
all_below count [] each = refl
all_below count (a ∷ xs) each = and_from (nat_lt a count) (list_all (λ b. nat_lt b count) xs) (lt-ltb a count (each a (inl refl))) (all_below count xs (λ v has. each v (inr has)))

resident_below : (xs : List (Option (List ℕ))) (v : ℕ) → IsSome (get_or xs v None) → v < length xs
resident_below [] v some = absurd (true≢false (sym some))
resident_below (x ∷ xs) zero some = omega arith
resident_below (x ∷ xs) (suc v) some = let h = resident_below xs v some in omega (arith, h)

any_some : (xs : List ℕ) (v : ℕ) → list_any (λ a. a == v) xs ≡ true → 1 ≤ length xs
any_some [] v is = absurd (true≢false (sym is))
any_some (a ∷ xs) v is = omega arith

pub dirty_transaction : DirtyPagesAreTransaction
dirty_transaction pages stands first off = transaction_of (length pages.running) (dirty_pages pages) (any_some pages.dirty 0 first)
    (let few = stands.few_dirty in let one = few_beside pages.dirty stands.dirty_rise in omega (arith, few, one))
    (length-map pages.dirty (λ v. unwrap_or (page_of pages v) []))
    (rises_home pages.dirty stands.dirty_rise (λ v has. journal_off pages v has off))
    (all_below (length pages.running) pages.dirty (λ v has. resident_below pages.running v (stands.dirty_there v has)))
