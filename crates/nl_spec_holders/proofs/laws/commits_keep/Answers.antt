use Rattle.nl_spec_holders.proofs.LawProofs as laws
use Rattle.nl_spec_holders.proofs.laws.commits_keep.Goals as goal

pub returns-clause-freeze : goal.returns-clause-freeze
returns-clause-freeze c = laws.freeze_keeps

pub returns-clause-decide : goal.returns-clause-decide
returns-clause-decide c = laws.decide_keeps

pub returns-clause-doubt : goal.returns-clause-doubt
returns-clause-doubt c = laws.doubt_keeps

pub returns-clause-free : goal.returns-clause-free
returns-clause-free c = laws.free_keeps
