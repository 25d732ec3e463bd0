use Rattle.nl_files.proofs.installing.install.Goals as goal

pub replace-requires-clause-begins : goal.replace-requires-clause-begins
replace-requires-clause-begins c = c.fresh_for-fresh.ensures.begins c.args.to

pub returns-clause-installed : goal.returns-clause-installed
returns-clause-installed c = record {
  fresh = c.fresh_for-fresh.result;
  begins = c.fresh_for-fresh.ensures.begins c.args.to;
  taken = c.fresh_for-fresh.ensures.taken;
  stores = c.replace.ensures.stored;
}
