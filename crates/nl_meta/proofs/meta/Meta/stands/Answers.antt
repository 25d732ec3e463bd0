use Rattle.std.proofs.Common.{subst}
use Rattle.nl_meta.specs.Pages.{IsPages}
use Rattle.nl_meta.proofs.Kept.{kept-pages}
use Rattle.nl_meta.proofs.meta.Meta.stands.Goals as goal

pub returns : goal.returns
returns c = subst IsPages c.self.view_is (kept-pages _ _ _ _ _ _ _ c.self.invariant)
