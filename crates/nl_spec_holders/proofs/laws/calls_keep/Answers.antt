use Rattle.nl_spec_holders.proofs.LawProofs as laws
use Rattle.nl_spec_holders.proofs.laws.calls_keep.Goals as goal

pub returns-clause-install : goal.returns-clause-install
returns-clause-install c = laws.install_keeps

pub returns-clause-cut : goal.returns-clause-cut
returns-clause-cut c = laws.cut_keeps

pub returns-clause-drop_page : goal.returns-clause-drop_page
returns-clause-drop_page c = laws.drop_keeps
