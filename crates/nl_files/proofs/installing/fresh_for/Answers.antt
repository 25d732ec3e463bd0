use Rattle.std.proofs.Common.{◌∙◌, refl, sym}
use Rattle.nl_files.proofs.Installed.{some-taken}
use Rattle.nl_files.proofs.installing.fresh_for.Goals as goal

pub returns-clause-begins : goal.returns-clause-begins
returns-clause-begins c = λ to. (
  (λ some. record { in_range = c.if-index-lt-DIRECT.false; no_page = sym c.page_address-address.ensures ∙ c.if-address-ne0.false; pointer = refl }),
  (λ begins. some-taken c.take_pool.result c.args.nodes.now c.take_pool.ensures.least (c.requires.fresh to begins)),
)
