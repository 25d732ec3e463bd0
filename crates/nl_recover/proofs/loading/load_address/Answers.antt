use Rattle.nl_recover.proofs.loading.load_address.Goals as goal

pub returns-clause-settled : goal.returns-clause-settled
returns-clause-settled g c = λ e _. c.load_page.ensures.settled e
