-- Whether the volume has room for what a call writes.
use Rattle.std.specs.Prelude.{ℕ, ◌+◌, nat_lt, [], ◌∷◌, Option}
use Rattle.nl_tree.specs.Step.{first_of, when}
use Rattle.nl_tree.specs.declared.reply.Refusal.{Refusal}
use Rattle.nl_tree.specs.declared.reply.Refusal.TheVariants.{Enospc}
use Rattle.nl_tree.specs.declared.reply.Space.TheVariants.{Meta, Pages}

-- what refuses a call that gives so many ranges a page of pointers and so many indexes a page, where so many addresses are free, and the
-- files have so many pages, of this many
abbrev pub room_refusal : ℕ → ℕ → ℕ → ℕ → ℕ → Option Refusal
room_refusal free ranges cap files pages =
    first_of (when (nat_lt free ranges) (Enospc Meta) ∷ when (nat_lt cap (files + pages)) (Enospc Pages) ∷ [])
