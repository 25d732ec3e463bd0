use Rattle.std.proofs.Common.{◌≡◌, inl, ◌-◌, ◌*◌, ◌<◌, min, refl, length-take, arith}
use Rattle.nl_calls_steps.proofs.paging.read_head.Goals as goal
use Rattle.nl_calls_steps.proofs.FilePages.{has-page}
use Rattle.nl_calls_steps.proofs.paging.read_head.Goals.{else-held-eq0, else-left-lt-PAGE, then-held-eq0, then-left-lt-PAGE}

pub returns-in-Done-clause-page : goal.returns-in-Done-clause-page
returns-in-Done-clause-page g c =
    let start = c.from-start.ensures in
    let left = c.saturating_sub-left.ensures in
    let held = c.if-left-lt-PAGE.held in
    let at = c.if-held-eq0.at in
    let whole = c.requires.whole in
    let below = c.requires.within in
    let held_is : held ≡ min (c.args.rec.now.size - 4096 * c.args.index) 4096 = elim c.if-left-lt-PAGE.branch [ then-left-lt-PAGE w ↦ omega arith | else-left-lt-PAGE w ↦ omega arith ] in
    let at_is : 0 < held → at ≡ 4096 * c.args.index = λ some. elim c.if-held-eq0.branch [ then-held-eq0 w ↦ omega arith | else-held-eq0 w ↦ omega arith ] in
    let len = c.in-Done.ensures.len in
    let cut = length-take held c.args.out.now in
    has-page g.D.Counts c.args.core.now c.requires.core c.args.ino c.args.index c.args.rec.now c.requires.file below at held c.read_file.new.out c.args.out.now held_is at_is
    (omega (arith, len, cut, whole, held_is)) c.requires.zero (λ tells. c.in-Done.ensures.bytes tells refl)

pub returns-in-Fault-clause-early : goal.returns-in-Fault-clause-early
returns-in-Fault-clause-early g c = inl (c.in-Fault.ensures.faults.cause refl)

pub returns-in-Lost-clause-early : goal.returns-in-Lost-clause-early
returns-in-Lost-clause-early g c = (c.in-Lost.ensures.lost.1, λ tells. c.in-Lost.ensures.told tells tt)
