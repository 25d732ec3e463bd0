use Rattle.std.proofs.Common.{◌≡◌, ◌∷◌, ◌++◌, ℕ, List, [], codes, refl, ap, true}
use Rattle.std.specs.List.{list_all}
use Rattle.nl_field.specs.Names.{is_name_byte}
use Rattle.nl_cmd_put.proofs.rows.names_and_pieces.Goals as goal

pub returns-clause-marked : goal.returns-clause-marked
returns-clause-marked c = record { mark = codes "12"; begins = refl; bytes = refl }

pub returns-clause-not_marked : goal.returns-clause-not_marked
returns-clause-not_marked c is = let no = is.begins in cc no

slash : (mark : List ℕ) → codes ".put-/" ≡ codes ".put-" ++ mark → list_all is_name_byte mark ≡ true → ⊥
slash [] e all = cc e
slash (x ∷ mark) e all = let one : x ∷ mark ≡ 47 ∷ [] = cc e in let no = ap (list_all is_name_byte) one in cc (all, no)

pub returns-clause-slash : goal.returns-clause-slash
returns-clause-slash c is = slash is.mark is.begins is.bytes
