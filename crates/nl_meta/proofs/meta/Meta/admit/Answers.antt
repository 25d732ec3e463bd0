use Rattle.std.proofs.Common.{Some, ap, refl, ◌∙◌}
use Rattle.nl_meta.specs.Pages.{Pages, touched}
use Rattle.nl_meta.specs.Steps.{with_page}
use Rattle.nl_meta.proofs.Kept.{set-set}
use Rattle.nl_meta.proofs.meta.Meta.admit.Goals as goal

pub returns : goal.returns
returns c = (
  (
    refl,
    λ w. ap (λ (p : Pages). with_page p c.args.vaddr w.main) c.hold.ensures.1
        ∙ (λ i. record c.args.self.now { running = set-set c.args.self.now.running c.args.vaddr (Some c.hold.ensures.0) (Some w.main) i; recent = touched c.args.vaddr c.args.self.now.recent }),
  ),
  record { writes_back = tt },
)
