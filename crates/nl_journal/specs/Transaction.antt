-- The pages of a transaction, and the pages that it is kept on.
use Rattle.std.specs.Prelude.{◌≡◌, ◌≢◌, ℕ, ◌<◌, ◌≤◌, ◌==◌, nat_lt, true, List, length, position, Option, Some, None, option_and_then, [], slice_index, slice_index_or}
use Rattle.std.specs.List.{list_all}
use Rattle.nl_field.specs.Journal.{header_of, commit_of, are_home_addresses}
use Rattle.nl_field.specs.declared.shape.Shape.{Shape}
use Rattle.nl_field.specs.declared.header.HeaderRec.{HeaderRec}
use Rattle.nl_field.specs.declared.commit.CommitRec.{CommitRec}
use Rattle.nl_meta.specs.Committed.{VirtualMap, within_volume}
use Rattle.nl_meta.specs.Pages.{Frozen}
use Rattle.nl_journal.specs.Outcomes.{IsHome}

-- the header that a page spells on a volume
abbrev pub head : Shape → Option (List ℕ) → Option HeaderRec
head shape b = option_and_then (within_volume shape) (option_and_then header_of b)

-- the commit record that a page spells
abbrev pub mark : Option (List ℕ) → Option CommitRec
mark b = option_and_then commit_of b

-- no commit page, or that of a transaction of a lesser number
abbrev pub Older : ℕ → Option (List ℕ) → Type 0
Older number b = (rec : CommitRec) → mark b ≡ Some rec → rec.number < number

-- what the header of the transaction says
abbrev pub header : ℕ → Frozen → HeaderRec
header number frozen = record { number = number; addresses = frozen.addresses }

-- which of the pages an address has, if any
abbrev pub place : Frozen → ℕ → Option ℕ
place frozen v = position (λ a. a == v) frozen.addresses

-- the main bytes of the page at a place
abbrev pub main_at : List (List ℕ) → ℕ → List ℕ
main_at images i = slice_index_or images i []

abbrev pub at_place : Frozen → VirtualMap → ℕ → Option ℕ → Option (List ℕ)
at_place frozen base v None = base v
at_place frozen base v (Some i) = Some (main_at frozen.images i)

-- a map with the pages of the transaction
unfoldable pub with_pages : Frozen → VirtualMap → VirtualMap
with_pages frozen base v = at_place frozen base v (place frozen v)

-- Pages that a transaction can have: 1 to 64, at rising addresses outside the journal.
pub record IsFrozen (frozen : Frozen) : Type 0 where
  pub some : 1 ≤ length frozen.addresses
  pub few : length frozen.addresses ≤ 64
  pub images : length frozen.images ≡ length frozen.addresses
  pub rise : are_home_addresses frozen.addresses ≡ true
  pub apart : (i j : ℕ) → i < j → j < length frozen.addresses → slice_index frozen.addresses i ≢ slice_index frozen.addresses j

-- Pages that a transaction can have, at addresses of a volume with so many.
pub record IsTransaction (count : ℕ) (frozen : Frozen) : Type 0 where
  pub pages : IsFrozen frozen
  pub listed : list_all (λ a. nat_lt a count) frozen.addresses ≡ true
  pub home : (i : ℕ) → i < length frozen.addresses → IsHome count (slice_index frozen.addresses i)
