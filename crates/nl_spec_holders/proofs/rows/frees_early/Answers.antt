use Rattle.std.proofs.Common.{refl, inl}
use Rattle.std.proofs.lemmas.Option.{none-some}
use Rattle.nl_iface.specs.Examples.{pointer}
use Rattle.nl_spec_holders.proofs.rows.frees_early.Goals as goal

pub returns : goal.returns
returns c f = let r = f.committed (pointer 40 7) (inl refl) in none-some r.leads.0 r.leads.1
