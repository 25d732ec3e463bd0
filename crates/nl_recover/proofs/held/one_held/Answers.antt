use Rattle.std.proofs.Common.{◌∙◌, ◌++◌, List, ap}
use Rattle.nl_meta.specs.Nodes.{Held}
use Rattle.nl_meta.specs.Pages.{page_of}
use Rattle.nl_recover.proofs.HeldFacts.{some-here}
use Rattle.nl_recover.proofs.held.one_held.Goals as goal

pub returns-in_ok-push-in-Some-clause-held : goal.returns-in_ok-push-in-Some-clause-held
returns-in_ok-push-in-Some-clause-held c = c.in_ok-push-in-Some.ensures.ok ∙ ap (λ (l : List Held). c.args.held.now ++ l) (some-here (page_of c.args.meta.now) c.args.ino c.args.rec.now c.args.index c.in-Some.pointer c.in-Some.ensures.value)
