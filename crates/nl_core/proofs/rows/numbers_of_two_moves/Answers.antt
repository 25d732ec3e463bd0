use Rattle.std.proofs.Common.{inl, inr, ◌<◌, ◌≤◌, refl, subst, arith}
use Rattle.nl_iface.specs.Examples.{callback, some_tag, twice}
use Rattle.nl_iface.specs.Names.{Has}
use Rattle.nl_iface.specs.declared.Callback.{Callback}
use Rattle.nl_core.proofs.rows.numbers_of_two_moves.Goals as goal

-- a callback is one of the two
some : (c : Callback) → Has twice.pending c → 0 < c.number
some c (inl e) = subst (λ (x : Callback). 0 < x.number) e (omega arith)
some c (inr (inl e)) = subst (λ (x : Callback). 0 < x.number) e (omega arith)
some c (inr (inr e)) = absurd e

pub returns-clause-both : goal.returns-clause-both
returns-clause-both c = record { above = some; posted = omega arith }

pub returns-clause-first : goal.returns-clause-first
returns-clause-first c is = let low : 1 < 1 = is.above (callback 1 260 300 some_tag 7) (inl refl) in omega (arith, low)

pub returns-clause-none : goal.returns-clause-none
returns-clause-none c = record { above = λ d has. absurd has; posted = omega arith }

pub returns-clause-beyond : goal.returns-clause-beyond
returns-clause-beyond c is = let most : 3 ≤ 2 = is.posted in omega (arith, most)
