-- The names that a put takes for its own.
use Rattle.std.specs.Prelude.{◌≡◌, ℕ, true, List, ◌++◌, codes}
use Rattle.std.specs.List.{list_all}
use Rattle.nl_field.specs.Names.{is_name_byte}

-- `.put-`, and bytes that a name may have
pub record IsMarked (name : List ℕ) : Type 0 where
  pub mark : List ℕ
  pub begins : name ≡ codes ".put-" ++ mark
  pub bytes : list_all is_name_byte mark ≡ true
