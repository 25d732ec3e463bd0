-- Pages in groups, and the blocks that hold no group alone.
use Rattle.std.specs.Prelude.{ℕ, ◌==◌, Bool, false, not, if◌then◌else◌, List, find, fold, Option}
use Rattle.std.specs.List.{list_any, range_with_len}
use Rattle.nl_device.specs.declared.opening.spare.Spread.{Spread}
use Rattle.nl_device.specs.declared.opening.spare.Spread.TheVariants.{Nowhere, In, Several}

-- what the items of one key give, one after the other
abbrev pub by_key : {X Y : Type 0} → (X → ℕ) → (Y → X → Y) → Y → ℕ → List X → Y
by_key key step start k xs = fold (λ y x. if key x == k then step y x else y) start xs

-- the spread of a group with one page more
abbrev pub spread_more : Spread → ℕ → Spread
spread_more Nowhere block = In block
spread_more (In other) block = if other == block then In other else Several
spread_more Several block = Several

-- the group has pages in this block only
abbrev pub is_alone_in : ℕ → Spread → Bool
is_alone_in block Nowhere = false
is_alone_in block (In other) = other == block
is_alone_in block Several = false

-- the least of the blocks from first on, count of them, that holds no group alone
unfoldable pub spare_of : ℕ → ℕ → List Spread → Option ℕ
spare_of first count spreads = find (λ block. not (list_any (is_alone_in block) spreads)) (range_with_len first count)
