use Rattle.std.proofs.Common.{ap, ◌∙◌}
use Rattle.nl_field.specs.Page.{PageBytes}
use Rattle.nl_meta.specs.Pages.{with_image}
use Rattle.nl_meta.specs.Steps.{with_admitted}
use Rattle.nl_meta.proofs.meta.Meta.restore.Goals as goal

pub returns : goal.returns
returns c =
    c.add_image.ensures
    ∙ ap (λ (page : PageBytes). record (with_admitted c.args.self.now c.args.vaddr page.main) { frozen = with_image c.args.self.now.frozen c.args.vaddr c.args.from.now.main }) c.copy_from.ensures
