use Rattle.nl_meta.proofs.FindingProofs.{no_findings}
use Rattle.nl_meta.proofs.laws.no_findings.Goals as goal

pub returns : goal.returns
returns c = no_findings
