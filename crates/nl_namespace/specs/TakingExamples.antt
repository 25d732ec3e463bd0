-- What small volumes have free before and after a call that changes names, and of which generations their nodes are.
use Rattle.std.specs.Prelude.{ℕ, ◌==◌, if◌then◌else◌, true, false, [], ◌∷◌}
use Rattle.nl_field.specs.Graph.{Graph, unused}
use Rattle.nl_inode.specs.Nodes.{Spaces}

-- Of three numbers 1 and 2 are free, and of two addresses 70 and 71 both.
abbrev pub two_free : Spaces
two_free = record { nodes = false ∷ true ∷ true ∷ []; first = 70; pool = true ∷ true ∷ [] }

-- number 1 and address 70 are taken
abbrev pub least_taken : Spaces
least_taken = record { nodes = false ∷ false ∷ true ∷ []; first = 70; pool = false ∷ true ∷ [] }

-- number 2 is taken
abbrev pub second_number_taken : Spaces
second_number_taken = record { nodes = false ∷ true ∷ false ∷ []; first = 70; pool = true ∷ true ∷ [] }

-- address 71 is taken
abbrev pub second_address_taken : Spaces
second_address_taken = record { nodes = false ∷ true ∷ true ∷ []; first = 70; pool = true ∷ false ∷ [] }

-- node m is of this generation, and each other one of generation 7
abbrev pub generations : ℕ → ℕ → Graph
generations m generation n = record { generation = if n == m then generation else 7; body = unused }
