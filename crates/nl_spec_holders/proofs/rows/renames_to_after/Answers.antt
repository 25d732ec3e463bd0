use Rattle.std.proofs.Common.{refl, inl}
use Rattle.std.proofs.lemmas.Option.{none-some}
use Rattle.nl_iface.specs.Examples.{some_tag, pointer}
use Rattle.nl_spec_holders.proofs.rows.renames_to_after.Goals as goal

pub returns : goal.returns
returns c f = let r = f.held.running (some_tag, pointer 300 7) (inl refl) in none-some r.leads.0 r.leads.1
