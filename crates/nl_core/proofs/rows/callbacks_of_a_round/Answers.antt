use Rattle.std.proofs.Common.{inl, inr, ◌<◌, refl, sym, subst, arith}
use Rattle.std.proofs.lemmas.Option.{none-some}
use Rattle.nl_iface.specs.Examples.{callback, other_tag, some_tag, twice}
use Rattle.nl_iface.specs.Names.{Has}
use Rattle.nl_iface.specs.declared.Callback.{Callback}
use Rattle.nl_core.proofs.rows.callbacks_of_a_round.Goals as goal

-- a callback is one of the two
some : (c : Callback) → Has twice.pending c → 0 < c.number
some c (inl e) = subst (λ (x : Callback). 0 < x.number) e (omega arith)
some c (inr (inl e)) = subst (λ (x : Callback). 0 < x.number) e (omega arith)
some c (inr (inr e)) = absurd e

pub returns-clause-both : goal.returns-clause-both
returns-clause-both c = record { unhandled = λ d has. refl; numbered = λ below. record { above = some; posted = omega arith } }

pub returns-clause-earlier : goal.returns-clause-earlier
returns-clause-earlier c is = let low : 1 < 1 = (is.numbered (omega arith)).above (callback 1 260 300 some_tag 7) (inl refl) in omega (arith, low)

pub returns-clause-handled : goal.returns-clause-handled
returns-clause-handled c is = none-some 4 (sym (is.unhandled (callback 2 270 301 other_tag 9) (inr (inl refl))))

pub returns-clause-ended : goal.returns-clause-ended
returns-clause-ended c = record { unhandled = λ d has. refl; numbered = λ below. absurd (let no : ⊥ = omega (arith, below) in no) }
