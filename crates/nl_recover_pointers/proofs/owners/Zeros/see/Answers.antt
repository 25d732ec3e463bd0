use Rattle.std.proofs.Common.{Option, ap, ◌∙◌}
use Rattle.nl_recover_pointers.specs.Owners.{and_owned, zeros_at}
use Rattle.nl_recover_pointers.specs.declared.owners.Owned.{Owned}
use Rattle.nl_recover_pointers.proofs.owners.Zeros.see.Goals as goal

pub returns-in_ok-add-in-Some : goal.returns-in_ok-add-in-Some
returns-in_ok-add-in-Some c s t = c.in_ok-add-in-Some.ensures s t ∙ ap (λ (o : Option Owned). and_owned o (zeros_at c.args.self.now s t) s t) c.in-Some.ensures

pub returns-in-None : goal.returns-in-None
returns-in-None c s t = ap (λ (o : Option Owned). and_owned o (zeros_at c.args.self.now s t) s t) c.in-None.ensures
