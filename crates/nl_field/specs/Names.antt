-- Which bytes are a name.
use Rattle.std.specs.Prelude.{ℕ, ◌==◌, nat_le, Bool, not, ◌&&◌, List, length, codes, bytes_eq}
use Rattle.std.specs.List.{list_all}

-- a byte that a name may have: no control byte, no space, no DEL and no `/`
abbrev pub is_name_byte : ℕ → Bool
is_name_byte b = nat_le 33 b && not (b == 127) && not (b == 47)

-- a name of any length
unfoldable pub is_name : List ℕ → Bool
is_name name = nat_le 1 (length name) && list_all is_name_byte name && not (bytes_eq name (codes ".")) && not (bytes_eq name (codes ".."))
