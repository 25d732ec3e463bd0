-- What a line has left to stage, the first of whose whole pages are in flight.
use Rattle.std.proofs.Common.{◌≡◌, ◌⊎◌, inl, inr, ⊎_elim, ℕ, zero, suc, ◌+◌, ◌-◌, ◌*◌, ◌/◌, ◌<◌, ◌≤◌, ◌==◌, nat_le, Bool, true, false, not, cond, ◌&&◌, List, [], ◌∷◌, filter, length, Some, refl, sym, ap, ◌∙◌, arith, eq-eqb, ne_eqb}
use Rattle.std.specs.Int.{div_ceil}
use Rattle.std.specs.List.{list_any, range_with_len}
use Rattle.std.specs.Prelude.{IsSome, slice_get}
use Rattle.std.proofs.lemmas.Bool.{and_from, cases_lt, le-leb}
use Rattle.std.proofs.lemmas.Bool.Decides.{nat_tests}
use Rattle.std.proofs.lemmas.Grind.{div_ceil_times}
use Rattle.nl_field.specs.Numbers.{max_file_size}
use Rattle.nl_tree.specs.Event.{is_whole, left_in_range, left_to_stage, page_given, whole_pages}
use Rattle.nl_tree.specs.Tree.{Tree, is_file, node_at}
use Rattle.nl_tree.specs.declared.call.Call.{Call}
use Rattle.nl_tree.specs.declared.call.Call.TheVariants.{Mkdir, Rmdir, Create, Unlink, Rename, Write, Fill, Read, Truncate, Stat, List as ListCall, Sync, Clean}
use Rattle.nl_meta.proofs.Lists.{member-range, member_any, none-any, range-member}
use Rattle.nl_volume_stage.proofs.Alike.{and_false}
use Rattle.nl_calls_bytes.specs.Ranges.{from_of, len_of, path_of}
use Rattle.nl_volume_stage.specs.Standing.{first_whole}
use Rattle.nl_volume_stage.proofs.Given.{fill_whole, whole_parts, write_whole}

-- ---- indexes one after the other

pub are_from : (first : ℕ) (is : List ℕ) → ((k i : ℕ) → slice_get is k ≡ Some i → i ≡ first + k) → is ≡ range_with_len first (length is)
are_from first [] each = refl
are_from first (i ∷ is) each =
    let here : i ≡ first = let at = each 0 i refl in omega (arith, at) in
    λ j. here j ∷ are_from (first + 1) is (λ k x at. let one = each (suc k) x at in omega (arith, one)) j

in_range : (i first n : ℕ) → first ≤ i → i < first + n → list_any (λ x. x == i) (range_with_len first n) ≡ true
in_range i first n low high = member_any (λ x. x == i) (range_with_len first n) i (range-member i first n low high) (eq-eqb i i refl)

out_of_range : (i first n : ℕ) → first + n ≤ i → list_any (λ x. x == i) (range_with_len first n) ≡ false
out_of_range i first n low =
    none-any (λ x. x == i) (range_with_len first n) (λ x has. let high = (member-range x first n has).1 in ne_eqb x i (λ e. let off : ⊥ = omega (arith, low, high, e) in off))

all_stay : (p : ℕ → Bool) (a n : ℕ) → ((i : ℕ) → a ≤ i → p i ≡ true) → filter p (range_with_len a n) ≡ range_with_len a n
all_stay p a zero each = refl
all_stay p a (suc n) each =
    ap (λ b. cond b (a ∷ filter p (range_with_len (a + 1) n)) (filter p (range_with_len (a + 1) n))) (each a (omega arith))
    ∙ ap (λ xs. a ∷ xs) (all_stay p (a + 1) n (λ i low. each i (omega (arith, low))))

rest_stays : (p : ℕ → Bool) (k a n : ℕ) → ((i : ℕ) → a ≤ i → i < a + k → p i ≡ false) → ((i : ℕ) → a + k ≤ i → p i ≡ true) → filter p (range_with_len a n) ≡ range_with_len (a + k) (n - k)
rest_stays p zero a n below above =
    let from : a ≡ a + 0 = omega arith in
    let many : n ≡ n - 0 = omega arith in
    all_stay p a n (λ i low. above i (omega (arith, low))) ∙ (λ j. range_with_len (from j) (many j))
rest_stays p (suc k) a zero below above = let none : 0 ≡ 0 - suc k = omega arith in ap (range_with_len (a + suc k)) none
rest_stays p (suc k) a (suc n) below above =
    let from : a + 1 + k ≡ a + suc k = omega arith in
    let many : n - k ≡ suc n - suc k = omega arith in
    ap (λ b. cond b (a ∷ filter p (range_with_len (a + 1) n)) (filter p (range_with_len (a + 1) n))) (below a (omega arith) (omega arith))
    ∙ (rest_stays p k (a + 1) n (λ i low high. below i (omega (arith, low)) (omega (arith, high))) (λ i low. above i (omega (arith, low))) ∙ (λ j. range_with_len (from j) (many j)))

-- the indexes behind the first so many
ahead_of : (first n place : ℕ) → filter (λ index. not (list_any (λ i. i == index) (range_with_len first place))) (range_with_len first n) ≡ range_with_len (first + place) (n - place)
ahead_of first n place =
    rest_stays (λ index. not (list_any (λ i. i == index) (range_with_len first place))) place first n (λ i low high. ap not (in_range i first place low high)) (λ i low. ap not (out_of_range i first place low))

-- ---- a range of bytes

-- where the page at a place does not lie in it, there are no more pages than that
few_whole : (from len place : ℕ) → is_whole from len (div_ceil from 4096 + place) ≡ false → (from + len) / 4096 - div_ceil from 4096 ≤ place
few_whole from len place e = ⊎_elim (λ low. omega (arith, low)) (λ high. absurd (cc (sym (whole high) ∙ e))) (cases_lt (from + len) (4096 * (div_ceil from 4096 + place) + 4096))
  where
    behind : from ≤ 4096 * (div_ceil from 4096 + place)
    behind = let low = (div_ceil_times from 4096 (omega arith)).0 in omega (arith, low)

    whole : 4096 * (div_ceil from 4096 + place) + 4096 ≤ from + len → is_whole from len (div_ceil from 4096 + place) ≡ true
    whole high = and_from (nat_le from (4096 * (div_ceil from 4096 + place))) (nat_le (4096 * (div_ceil from 4096 + place) + 4096) (from + len))
        (le-leb from (4096 * (div_ceil from 4096 + place)) behind) (le-leb (4096 * (div_ceil from 4096 + place) + 4096) (from + len) high)

empty_either : (b : Bool) (xs : List ℕ) → xs ≡ [] → cond b xs [] ≡ []
empty_either true xs none = none
empty_either false xs none = refl

-- why nothing of a range is left to stage, whose first pages are in flight
abbrev pub NothingIn : Tree → List (List ℕ) → (from len place : ℕ) → Type 0
NothingIn tree path from len place = (is_file (node_at tree path) ≡ false) ⊎ (max_file_size < from + len) ⊎ (is_whole from len (div_ceil from 4096 + place) ≡ false)

module _ (tree : Tree) (path : List (List ℕ)) (from len : ℕ) where
  abbrev first : ℕ
  first = div_ceil from 4096

  abbrev many : ℕ
  many = (from + len) / 4096 - div_ceil from 4096

  abbrev ahead : ℕ → List ℕ
  ahead place = filter (λ index. not (list_any (λ i. i == index) (range_with_len first place))) (whole_pages from len)

  nothing_in : (place : ℕ) → NothingIn tree path from len place → left_in_range tree path from len (range_with_len first place) ≡ []
  nothing_in place (inl none) = ap (λ b. cond (b && nat_le (from + len) max_file_size) (ahead place) []) none
  nothing_in place (inr (inl far)) =
      let off : nat_le (from + len) max_file_size ≡ false = grind (arith, nat_tests, far) in
      ap (λ b. cond (is_file (node_at tree path) && b) (ahead place) []) off ∙ ap (λ b. cond b (ahead place) []) (and_false (is_file (node_at tree path)))
  nothing_in place (inr (inr past)) =
      let few = few_whole from len place past in
      let none : many - place ≡ 0 = omega (arith, few) in
      empty_either (is_file (node_at tree path) && nat_le (from + len) max_file_size) (ahead place) (ahead_of first many place ∙ ap (range_with_len (first + place)) none)

  module _ (file : is_file (node_at tree path) ≡ true) (within : from + len ≤ max_file_size) where
    left_ahead : (place : ℕ) → left_in_range tree path from len (range_with_len first place) ≡ range_with_len (first + place) (many - place)
    left_ahead place = ap (λ b. cond b (ahead place) []) (and_from (is_file (node_at tree path)) (nat_le (from + len) max_file_size) file (le-leb (from + len) max_file_size within)) ∙ ahead_of first many place

    one_in : (place : ℕ) → is_whole from len (first + place) ≡ true → left_in_range tree path from len (range_with_len first place) ≡ (first + place) ∷ left_in_range tree path from len (range_with_len first (place + 1))
    one_in place whole =
        let end = (whole_parts from len (first + place) whole).1 in
        let more : many - place ≡ suc (many - (place + 1)) = omega (arith, end) in
        let next : first + place + 1 ≡ first + (place + 1) = omega arith in
        left_ahead place ∙ (ap (range_with_len (first + place)) more ∙ ap (λ xs. (first + place) ∷ xs) (ap (λ k. range_with_len k (many - (place + 1))) next ∙ sym (left_ahead (place + 1))))

-- ---- a call

module _ (tree : Tree) (place : ℕ) where
  pub nothing_left : (call : Call) → NothingIn tree (path_of call) (from_of call) (len_of call) place → left_to_stage tree call (range_with_len (first_whole call) place) ≡ []
  nothing_left (Mkdir path) why = refl
  nothing_left (Rmdir path) why = refl
  nothing_left (Create path) why = refl
  nothing_left (Unlink path) why = refl
  nothing_left (Rename from to) why = refl
  nothing_left (Write path from bytes) why = nothing_in tree path from (length bytes) place why
  nothing_left (Fill path from len byte) why = nothing_in tree path from len place why
  nothing_left (Read path from len) why = refl
  nothing_left (Truncate path size) why = refl
  nothing_left (Stat path) why = refl
  nothing_left (ListCall path) why = refl
  nothing_left Sync why = refl
  nothing_left Clean why = refl

  -- the page at the place is the first of those that are left
  pub one_left : (call : Call) → is_file (node_at tree (path_of call)) ≡ true → from_of call + len_of call ≤ max_file_size → IsSome (page_given call (first_whole call + place))
      → left_to_stage tree call (range_with_len (first_whole call) place) ≡ (first_whole call + place) ∷ left_to_stage tree call (range_with_len (first_whole call) (place + 1))
  unfolding page_given
  one_left (Mkdir path) file within some = absurd (cc some)
  one_left (Rmdir path) file within some = absurd (cc some)
  one_left (Create path) file within some = absurd (cc some)
  one_left (Unlink path) file within some = absurd (cc some)
  one_left (Rename from to) file within some = absurd (cc some)
  one_left (Write path from bytes) file within some = one_in tree path from (length bytes) file within place (write_whole path from bytes (div_ceil from 4096 + place) some)
  one_left (Fill path from len byte) file within some = one_in tree path from len file within place (fill_whole path from len byte (div_ceil from 4096 + place) some)
  one_left (Read path from len) file within some = absurd (cc some)
  one_left (Truncate path size) file within some = absurd (cc some)
  one_left (Stat path) file within some = absurd (cc some)
  one_left (ListCall path) file within some = absurd (cc some)
  one_left Sync file within some = absurd (cc some)
  one_left Clean file within some = absurd (cc some)

-- no other call gives a page
pub none_whole : (call : Call) (place : ℕ) → ((path : List (List ℕ)) (from : ℕ) (bytes : List ℕ) → call ≡ Write path from bytes → ⊥) → ((path : List (List ℕ)) (from len byte : ℕ) → call ≡ Fill path from len byte → ⊥)
    → is_whole (from_of call) (len_of call) (first_whole call + place) ≡ false
none_whole call place w f = by call refl
  where
    none_of : is_whole 0 0 (div_ceil 0 4096 + place) ≡ false
    none_of = ap (λ b. nat_le 0 (4096 * (div_ceil 0 4096 + place)) && b) (grind (arith, nat_tests)) ∙ and_false (nat_le 0 (4096 * (div_ceil 0 4096 + place)))

    by : (c : Call) → call ≡ c → is_whole (from_of c) (len_of c) (first_whole c + place) ≡ false
    by (Mkdir path) is = none_of
    by (Rmdir path) is = none_of
    by (Create path) is = none_of
    by (Unlink path) is = none_of
    by (Rename from to) is = none_of
    by (Write path from bytes) is = absurd (w path from bytes is)
    by (Fill path from len byte) is = absurd (f path from len byte is)
    by (Read path from len) is = none_of
    by (Truncate path size) is = none_of
    by (Stat path) is = none_of
    by (ListCall path) is = none_of
    by Sync is = none_of
    by Clean is = none_of
