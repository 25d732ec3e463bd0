-- The entries of a directory in the order of their names.
use Rattle.std.specs.Prelude.{◌≡◌, ℕ, Bool, true, false, List, Option, Some, None}
use Rattle.std.specs.Ordering.{is_lt, nat_cmp}
use Rattle.std.specs.Cmp.Lexicographic.{slice_cmp}
use Rattle.nl_field.specs.Graph.{Graph}
use Rattle.nl_field.specs.Members.{Has}
use Rattle.nl_field.specs.declared.entry.EntryRec.{EntryRec}
use Rattle.nl_tree.specs.GraphLaws.{entry_at}

-- The second name comes behind the first. Each name comes behind the one without bytes.
abbrev pub is_behind : List ℕ → List ℕ → Bool
is_behind after name = is_lt (slice_cmp nat_cmp after name)

-- An entry is the least of these behind a name.
pub record IsNextEntry (entries : List EntryRec) (after : List ℕ) (entry : EntryRec) : Type 0 where
  pub has : Has entries entry
  pub behind : is_behind after entry.name ≡ true
  pub least : (other : EntryRec) → Has entries other → is_behind after other.name ≡ true → is_behind other.name entry.name ≡ false

-- a name comes before that of an entry, where there is one
abbrev pub is_lesser : List ℕ → Option EntryRec → Bool
is_lesser name None = true
is_lesser name (Some other) = is_behind name other.name

-- The least of them behind a name, or none where none is behind it.
abbrev pub IsLeastOf : List EntryRec → List ℕ → Option EntryRec → Type 0
IsLeastOf entries after None = (other : EntryRec) → Has entries other → is_behind after other.name ≡ false
IsLeastOf entries after (Some entry) = IsNextEntry entries after entry

-- ---- of a node

-- The node has no entry behind a name.
abbrev pub HasNoneBehind : Graph → ℕ → List ℕ → Type 0
HasNoneBehind graph n after = (name : List ℕ) (m : ℕ) → entry_at graph n name ≡ Some m → is_behind after name ≡ false

-- The node has this entry behind a name, and it is the least of those.
pub record HasLeastBehind (graph : Graph) (n : ℕ) (after : List ℕ) (entry : EntryRec) : Type 0 where
  pub at : entry_at graph n entry.name ≡ Some entry.ino
  pub behind : is_behind after entry.name ≡ true
  pub least : (name : List ℕ) (m : ℕ) → entry_at graph n name ≡ Some m → is_behind after name ≡ true → is_behind name entry.name ≡ false

abbrev pub LeastBehind : Graph → ℕ → List ℕ → Option EntryRec → Type 0
LeastBehind graph n after None = HasNoneBehind graph n after
LeastBehind graph n after (Some entry) = HasLeastBehind graph n after entry
