-- The pages that pointers lead to, and where a name leads.
use Rattle.std.specs.Prelude.{ℕ, ◌==◌, List, find, option_map, unwrap_or}
use Rattle.nl_field.specs.declared.pointer.Tag.{Tag}

-- a page that a pointer leads to: its tag, stamp and bytes, and the page that it is in
pub record LiveEntry : Type 0 where
  pub tag : Tag
  pub stamp : ℕ
  pub bytes : List ℕ
  pub place : ℕ

-- the page to which a name leads: the target of the pair of that old name, else the name
abbrev pub resolve : List (ℕ × ℕ) → ℕ → ℕ
resolve pairs name = unwrap_or (option_map (λ pair. pair.1) (find (λ pair. pair.0 == name) pairs)) name
