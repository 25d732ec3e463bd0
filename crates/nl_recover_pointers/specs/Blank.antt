-- Blocks in which no page was seen.
use Rattle.std.specs.Prelude.{ℕ, ◌/◌, ◌==◌, Bool, not, List}
use Rattle.std.specs.List.{list_any, range_with_len}
use Rattle.nl_field.specs.declared.seen.Seen.{Seen}

-- the page lies in this block of so many pages
abbrev pub is_within : ℕ → ℕ → Seen → Bool
is_within size block s = s.page / size == block

-- in one of the blocks from the first on, so many of them, no page was seen
unfoldable pub has_blank : ℕ → ℕ → ℕ → List Seen → Bool
has_blank size first count seen = list_any (λ block. not (list_any (is_within size block) seen)) (range_with_len first count)
