-- Addresses of a transaction by place, and which pages of it are resident.
use Rattle.std.proofs.Common.{◌≡◌, inl, inr, ⊎_elim, ℕ, zero, suc, ◌+◌, ◌<◌, ◌≤◌, ◌==◌, nat_lt, Bool, true, false, cond, List, [], ◌∷◌, length, get_or, Option, Some, None, IsSome, is_some, unwrap_or, refl, sym, ◌∙◌, ap, arith, eq-eqb}
use Rattle.std.specs.List.{list_any}
use Rattle.std.proofs.lemmas.Bool.{both_ways, cases_lt, cond-true, and_parts, eqb-true, lt-ltb, ltb-true, leb-true, or_cases, or_left, or_right}
use Rattle.std.proofs.lemmas.List.{get_or_past}
use Rattle.std.proofs.lemmas.List.Quantifiers.{position-Some}
use Rattle.nl_field.specs.Bytes.{zeros}
use Rattle.nl_field.specs.Members.{Has}
use Rattle.nl_field.specs.Numbers.{ShapeBounds}
use Rattle.nl_field.specs.Virtual.{is_inode_address, map_bytes, or_zeros}
use Rattle.nl_field.specs.declared.shape.Shape.{Shape}
use Rattle.nl_iface.specs.Stored.{Value}
use Rattle.nl_meta.specs.Committed.{VirtualMap}
use Rattle.nl_meta.specs.Consistent.{AddressesRight}
use Rattle.nl_meta.specs.Pages.{Frozen, Pages, page_of}
use Rattle.nl_meta.proofs.Lists.{true_false}
use Rattle.nl_journal.specs.Outcomes.{IsHome, bytes_of}
use Rattle.nl_journal.specs.Transaction.{place}
use Rattle.nl_meta_running.specs.Running.{IsNeeded}
use Rattle.nl_journal_commit.specs.Standing.{HasFrozen}

pub index_of : (xs : List ℕ) (v : ℕ) → list_any (λ a. a == v) xs ≡ true → (i : ℕ) × (i < length xs) × (get_or xs i 0 ≡ v)
index_of [] v h = absurd (true_false (sym h))
index_of (x ∷ xs) v h = ⊎_elim
    (λ here. (0, omega arith, eqb-true x v here))
    (λ later. let r = index_of xs v later in let lt = r.1 in (suc r.0, omega (arith, lt), r.2)) (or_cases (x == v) (list_any (λ a. a == v) xs) h)

pub any_at : (xs : List ℕ) (v i : ℕ) → i < length xs → get_or xs i 0 ≡ v → list_any (λ a. a == v) xs ≡ true
any_at [] v i lt is = absurd (let no : ⊥ = omega (arith, lt) in no)
any_at (x ∷ xs) v zero lt is = or_left (x == v) (list_any (λ a. a == v) xs) (eq-eqb x v is)
any_at (x ∷ xs) v (suc i) lt is = or_right (x == v) (list_any (λ a. a == v) xs) (any_at xs v i (omega (arith, lt)) is)

pub has_at : (xs : List ℕ) (i : ℕ) → i < length xs → Has xs (get_or xs i 0)
has_at [] i lt = absurd (let no : ⊥ = omega (arith, lt) in no)
has_at (x ∷ xs) zero lt = inl refl
has_at (x ∷ xs) (suc i) lt = inr (has_at xs i (omega (arith, lt)))

-- where an address has a place, that place is within, and the address stands there
pub at_place : (frozen : Frozen) (v i : ℕ) → place frozen v ≡ Some i → (i < length frozen.addresses) × (get_or frozen.addresses i 0 ≡ v)
at_place frozen v i is = let p = position-Some (λ a. a == v) frozen.addresses i 0 is in (p.0, eqb-true (get_or frozen.addresses i 0) v p.1)

-- an address has no place that is none of the transaction
pub no_place : (frozen : Frozen) (v : ℕ) → list_any (λ a. a == v) frozen.addresses ≡ false → place frozen v ≡ None
no_place frozen v none = by (place frozen v) refl
  where
    by : (o : Option ℕ) → place frozen v ≡ o → place frozen v ≡ None
    by None is = is
    by (Some i) is = let p = at_place frozen v i is in absurd (both_ways _ none (any_at frozen.addresses v i p.0 p.1))

pub absent_no_place : (pages : Pages) (v : ℕ) → HasFrozen pages → page_of pages v ≡ None → place pages.frozen v ≡ None
absent_no_place pages v held gone = by (place pages.frozen v) refl
  where
    by : (o : Option ℕ) → place pages.frozen v ≡ o → place pages.frozen v ≡ None
    by None is = is
    by (Some i) is =
        let p = at_place pages.frozen v i is in
        absurd (both_ways _ (ap is_some gone) (ap (λ (w : ℕ). is_some (page_of pages w)) (sym p.1) ∙ held.resident i p.0))

pub resident_below : (pages : Pages) (v : ℕ) → IsSome (page_of pages v) → v < length pages.running
resident_below pages v there = ⊎_elim (λ lt. lt) (λ past. absurd (both_ways _ (ap is_some (get_or_past pages.running v None past)) there)) (cases_lt v (length pages.running))

-- an address that nodes need is one of the volume
pub needed_home : (shape : Shape) (bounds : ShapeBounds shape) (pages : VirtualMap) (v : ℕ) → AddressesRight shape pages → IsNeeded shape pages v → IsHome shape.vaddrs v
needed_home shape bounds pages v right (inl is) =
    let p = and_parts _ _ is in
    let low = leb-true 67 v p.0 in
    let high = ltb-true v (67 + shape.inode_pages) p.1 in
    let all = bounds.addresses in
    record { below = omega (arith, high, all); outside = inr low }
needed_home shape bounds pages v right (inr (n, slot, at)) =
    let good = right.good n slot v at in
    let low = good.from_pool in
    record { below = good.in_pool; outside = inr (omega (arith, low)) }

-- an address that nodes need is none of the journal's
pub low_of : (shape : Shape) (pages : VirtualMap) (v : ℕ) → AddressesRight shape pages → IsNeeded shape pages v → 67 ≤ v
low_of shape pages v right (inl is) = leb-true 67 v (and_parts _ _ is).0
low_of shape pages v right (inr (n, slot, at)) = let low = (right.good n slot v at).from_pool in omega (arith, low)

-- ---- the bytes of a map

pub same_bytes : (shape : Shape) (old new : ℕ → Option Value) (v : ℕ) → bytes_of new v ≡ bytes_of old v → map_bytes shape new v ≡ map_bytes shape old v
unfolding map_bytes
same_bytes shape old new v same = ap (λ o. cond (nat_lt v shape.vaddrs) (or_zeros shape v o) None) same

pub some_bytes : (shape : Shape) (map : ℕ → Option Value) (v : ℕ) (bytes : List ℕ) → v < shape.vaddrs → bytes_of map v ≡ Some bytes → map_bytes shape map v ≡ Some bytes
unfolding map_bytes
some_bytes shape map v bytes below is =
    cond-true (nat_lt v shape.vaddrs) (or_zeros shape v (bytes_of map v)) None (lt-ltb v shape.vaddrs below)
    ∙ ap (or_zeros shape v) is ∙ by (is_inode_address shape v)
  where
    by : (b : Bool) → cond b (Some (unwrap_or (Some bytes) (zeros 4096))) (Some bytes) ≡ Some bytes
    by true = refl
    by false = refl
