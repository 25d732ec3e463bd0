use Rattle.std.proofs.Common.{subst, sym, ◌∙◌}
use Rattle.nl_device.specs.Kept.{KeptPages, has_stamp}
use Rattle.nl_device.proofs.Lookups.{AreRising, stamp_of_found, stamp_of_none}
use Rattle.nl_device.proofs.kept.Kept.has.Goals as goal

pub returns-in-Some : goal.returns-in-Some
unfolding has_stamp
returns-in-Some c = sym (stamp_of_found c.args.self.now.pages c.args.page c.args.stamp c.in-Some.kept (subst (λ (k : KeptPages). AreRising k.pages) c.self.view_is c.self.invariant.rising) (sym c.page.ensures ∙ c.in-Some.is))

pub returns-in-None : goal.returns-in-None
unfolding has_stamp
returns-in-None c = sym (stamp_of_none c.args.self.now.pages c.args.page c.args.stamp (sym c.page.ensures ∙ c.in-None.is))
