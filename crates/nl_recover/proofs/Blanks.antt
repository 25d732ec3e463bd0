-- Zeros spell the record of a node that was never used.
use Rattle.std.proofs.Common.{◌≡◌, ℕ, true, List, replicate, Some, refl, sym, ap, ◌∙◌}
use Rattle.std.specs.Prelude.{bytes_eq}
use Rattle.std.proofs.lemmas.Slice.Eq.{bytes_eq-Decides}
use Rattle.nl_field.proofs.OnLiterals.{field_on_literals}
use Rattle.nl_field.specs.Inode.{inode_of}
use Rattle.nl_recover.specs.Blank.{unused_record}

zeros_spelled : inode_of (replicate 256 0) ≡ Some unused_record
unfolding field_on_literals
zeros_spelled = refl

pub blank_spelled : (bytes : List ℕ) → bytes_eq bytes (replicate 256 0) ≡ true → Some unused_record ≡ inode_of bytes
blank_spelled bytes same = sym (ap inode_of ((bytes_eq-Decides bytes (replicate 256 0)).0 same) ∙ zeros_spelled)
