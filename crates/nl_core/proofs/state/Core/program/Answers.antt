use Rattle.std.proofs.Common.{⊎_elim, ◌^◌, arith}
use Rattle.nl_core.proofs.LastCommits.{room_none}
use Rattle.nl_core.proofs.Onward.{goes_more, goes_none}
use Rattle.nl_core.proofs.state.Core.program.Goals as goal

pub returns-then-self-ne0-clause-goes : goal.returns-then-self-ne0-clause-goes
returns-then-self-ne0-clause-goes g c =
    let G = g.D.Counts in
    goes_more G 0 (2 ^ 30) c.args.self.now c.args.self.now (omega arith) (goes_none G c.args.self.now c.requires.core)

pub returns-clause-stopped : goal.returns-clause-stopped
returns-clause-stopped g c = (
  λ is. absurd (c.program_now.ensures.runs is),
  λ why. absurd (⊎_elim (λ off. off c.if-self-ne0.false) (λ high. let low = c.if-next_stamp-ge-END.false in let is = c.next_stamp.ensures in let no : ⊥ = omega (arith, high, low, is) in no) why),
)

pub returns-then-self-ne0-clause-at_once : goal.returns-then-self-ne0-clause-at_once
returns-then-self-ne0-clause-at_once g c has = room_none g.D.Counts 1 c.args.self.now

pub returns-clause-at_once : goal.returns-clause-at_once
returns-clause-at_once g c = c.program_now.ensures.at_once
