use Rattle.std.proofs.Common.{◌<◌, ℕ, inr, sym, ◌∙◌, subst}
use Rattle.nl_inode.proofs.FetchFacts.{none-of, not-dirty}
use Rattle.nl_meta.proofs.RunningProofs.{admits_page}
use Rattle.nl_inode.proofs.loading.fetch.Goals as goal

pub dismiss-requires-clause-clean : goal.dismiss-requires-clause-clean
dismiss-requires-clause-clean g c = not-dirty c.args.meta.now c.args.vaddr c.stands.ensures (none-of _ (sym c.resident.ensures ∙ c.if-resident.false))

pub returns-else-ne-clause-ready : goal.returns-else-ne-clause-ready
returns-else-ne-clause-ready g c = λ e. inr (
  none-of _ (sym c.resident.ensures ∙ c.if-resident.false),
  c.load-answer.new.page.main,
  (λ t. c.load-answer.ensures.page t e),
  admits_page c.args.vaddr c.load-answer.new.page.main c.args.meta.now (subst (λ (n : ℕ). c.args.vaddr < n) (sym c.requires.count) c.requires.within),
)

pub load-answer-requires-clause-stored : goal.load-answer-requires-clause-stored
load-answer-requires-clause-stored g c = c.requires.stored (none-of _ (sym c.resident.ensures ∙ c.if-resident.false))
