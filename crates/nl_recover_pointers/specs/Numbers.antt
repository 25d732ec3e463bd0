-- Sets of numbers, most of which are kept at places, each by its remainder.
use Rattle.std.specs.Prelude.{◌≡◌, ℕ, ◌%◌, ◌==◌, ◌||◌, max, Bool, false, List, length, slice_index_or, Option, Some, None}
use Rattle.std.specs.BTreeSet.{contains}
use Rattle.std.specs.Ordering.{nat_cmp}
use Rattle.nl_recover_pointers.specs.declared.numbers.Numbers.{Numbers}

-- the place of a number among so many
abbrev pub place_in : ℕ → ℕ → ℕ
place_in count number = number % max count 1

abbrev pub is_it : ℕ → Option ℕ → Bool
is_it number None = false
is_it number (Some other) = other == number

-- the number is kept at its place
abbrev pub is_kept : List (Option ℕ) → ℕ → Bool
is_kept kept number = is_it number (slice_index_or kept (place_in (length kept) number) None)

-- one of these numbers
abbrev pub has_number : Numbers → ℕ → Bool
has_number numbers number = is_kept numbers.kept.items number || contains nat_cmp numbers.more number

abbrev pub HasNone : Numbers → Type 0
HasNone numbers = (number : ℕ) → has_number numbers number ≡ false

-- one number more
abbrev pub AddsNumber : Numbers → Numbers → ℕ → Type 0
AddsNumber old new number = (n : ℕ) → has_number new n ≡ (number == n || has_number old n)
