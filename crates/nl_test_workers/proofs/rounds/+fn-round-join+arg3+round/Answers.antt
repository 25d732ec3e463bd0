use Rattle.std.proofs.Common.{rules, ◌≡◌, ◌+◌, Some, sym, subst, vec_len}
use Rattle.std.specs.Prelude.{slice_get}
use Rattle.nl_test_workers.specs.Work.{CanRunWorkers, SeatsHaveRun}
use Rattle.nl_test_workers.proofs.OneMore.{one_more_ran}
use Rattle.nl_test_workers.proofs.rounds.+fn-round-join+arg3+round.Goals as goal

pub returns : goal.returns
returns g t c =
    let more = vec_len c.pop.new.self in
    let count : vec_len c.args.outs ≡ more + 1 = search rules in
    let at : slice_get c.args.lines.now more ≡ Some c.get-line.result.now = search rules in
    let may = subst (λ n. CanRunWorkers c.args.seat n) count c.requires.may in
    let s = c.in-Some-split.ensures in
    let j = c.join.ensures in
    subst (λ n. SeatsHaveRun c.args.seat c.args.lines.now n c.args.times c.join.new.seat) (sym count)
    (one_more_ran c.args.seat c.in-Some-split.own c.split.new.seat c.join-own.result.0 c.join-own.result.1 c.join.new.seat c.args.lines.now c.get-line.result.now more c.args.times may at s.given s.seat.1 s.numbers.1 c.join-own.ensures.first c.join-own.ensures.second j.seat j.grows j.own j.theirs j.joined j.numbers)
