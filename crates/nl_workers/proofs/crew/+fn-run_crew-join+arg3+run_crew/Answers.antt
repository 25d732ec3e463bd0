use Rattle.std.proofs.Common.{rules, ◌≡◌, ◌+◌, ◌++◌, ◌∷◌, [], ◌<◌, List, length, sym, ap, ◌∙◌, subst, arith, length-append}
use Rattle.nl_turns.specs.Seat.{SeatState, by_seat}
use Rattle.nl_workers.specs.Worked.{MayWork}
use Rattle.nl_workers.specs.Crew.{MayStart, CrewHasRun}
use Rattle.nl_workers.specs.declared.station.Station.{Station}
use Rattle.nl_workers.proofs.Crewing.{none_ran, may_work, may_go_on, own_ran, may_work_own, may_start_left, thread_ran}
use Rattle.nl_workers.proofs.Hearing.{nobody_heard, own_heard, thread_heard, stays_put}
use Rattle.nl_workers.proofs.crew.+fn-run_crew-join+arg3+run_crew.Goals as goal

pub returns-in_default-clause-ran : goal.returns-in_default-clause-ran
returns-in_default-clause-ran g t c =
    let none : c.args.stations.items ≡ [] = search rules in
    let left : c.pop.new.self.items ≡ c.args.stations.items = search rules in
    subst (λ (xs : List Station). CrewHasRun g.V.Served.tells c.args.lines.now c.args.span.from c.args.span.to c.args.seat c.args.stations.items c.args.seat xs) (sym left)
    (none_ran g.V.Served.tells c.args.lines.now c.args.span.from c.args.span.to c.args.seat c.args.stations.items none c.requires.may)

pub work-seat-requires-clause-may : goal.work-seat-requires-clause-may
work-seat-requires-clause-may g t c =
    let more = c.pop.new.self.items in
    let all : c.args.stations.items ≡ more ++ c.in-Some.station ∷ [] = c.in-Some.ensures.items in
    may_work g.V.Served.tells c.args.lines.now c.args.span.from c.args.span.to c.len-worker.result c.args.seat c.in-Some.station more (subst (MayStart g.V.Served.tells c.args.lines.now c.args.span.from c.args.span.to c.args.seat) all c.requires.may) (search rules)

pub run_crew-seat-requires-clause-may : goal.run_crew-seat-requires-clause-may
run_crew-seat-requires-clause-may g t c κs within =
    let more = c.pop.new.self.items in
    let all : c.args.stations.items ≡ more ++ c.in-Some.station ∷ [] = c.in-Some.ensures.items in
    may_go_on g.V.Served.tells c.args.lines.now c.args.span.from c.args.span.to c.len-worker.result c.args.seat c.in-Some.station more (subst (MayStart g.V.Served.tells c.args.lines.now c.args.span.from c.args.span.to c.args.seat) all c.requires.may) (search rules)
    c.work-seat.result.0 c.work-seat.result.1 c.work-seat.ensures.worked

pub returns-then-not-needs_thread-clause-ran : goal.returns-then-not-needs_thread-clause-ran
returns-then-not-needs_thread-clause-ran g t c =
    let more = c.pop.new.self.items in
    let all : c.args.stations.items ≡ more ++ c.in-Some.station ∷ [] = c.in-Some.ensures.items in
    let pushed : c.push_reserved.new.self.items ≡ c.run_crew-seat.result.1.items ++ c.work-seat.result.1 ∷ [] = c.push_reserved.ensures.items in
    let ran = own_ran g.V.Served.tells c.args.lines.now c.args.span.from c.args.span.to c.len-worker.result c.args.seat c.in-Some.station more (subst (MayStart g.V.Served.tells c.args.lines.now c.args.span.from c.args.span.to c.args.seat) all c.requires.may) (search rules)
    c.work-seat.result.0 c.work-seat.result.1 c.work-seat.ensures.worked c.run_crew-seat.result.0 c.run_crew-seat.result.1.items c.run_crew-seat.ensures.ran in
    subst (λ (z : List Station × List Station). CrewHasRun g.V.Served.tells c.args.lines.now c.args.span.from c.args.span.to c.args.seat z.0 c.run_crew-seat.result.0 z.1) (λ i. (sym all i, sym pushed i)) ran

pub join-own-requires-after_bounds : goal.join-own-requires-after_bounds
join-own-requires-after_bounds g t c κs within =
    let lines = c.args.lines.now in
    let seat = c.args.seat in
    let own = c.in-Some-split.own in
    let left = c.split.new.seat in
    let more = c.pop.new.self.items in
    let s = c.in-Some-split.ensures in
    let all : c.args.stations.items ≡ more ++ c.in-Some.station ∷ [] = c.in-Some.ensures.items in
    let start : MayStart g.V.Served.tells lines c.args.span.from c.args.span.to seat (more ++ c.in-Some.station ∷ []) = subst (MayStart g.V.Served.tells lines c.args.span.from c.args.span.to seat) all c.requires.may in
    let some : 0 < c.len-worker.result = search rules in
    let count : c.len-worker.result ≡ length more = search rules in
    let work : MayWork g.V.Served.tells lines c.len-worker.result c.args.span.from c.args.span.to own c.in-Some.station = may_work_own g.V.Served.tells lines c.args.span.from c.args.span.to c.len-worker.result seat c.in-Some.station more start count own left s.given s.seat.1 s.numbers.1 in
    let rest : MayStart g.V.Served.tells lines c.args.span.from c.args.span.to left more = may_start_left g.V.Served.tells lines c.args.span.from c.args.span.to c.len-worker.result seat c.in-Some.station more start count own left s.given s.seat.1 s.numbers.1 some in
    let lock_own : own.lock ≡ c.args.turns.now.name = search rules in
    let lock_left : left.lock ≡ c.args.turns.now.name = search rules in
    ((lock_own, work), (search rules, (search rules, (search rules, (search rules, ((search rules, search rules, lock_left, rest), (search rules, search rules, search rules)))))))

pub returns-clause-ran : goal.returns-clause-ran
returns-clause-ran g t c =
    let lines = c.args.lines.now in
    let seat = c.args.seat in
    let more = c.pop.new.self.items in
    let s = c.in-Some-split.ensures in
    let first = c.join-own.result.0 in
    let second = c.join-own.result.1 in
    let after = c.join.new.seat in
    let j = c.join.ensures in
    let all : c.args.stations.items ≡ more ++ c.in-Some.station ∷ [] = c.in-Some.ensures.items in
    let pushed : c.push_reserved-2.new.self.items ≡ second.1.items ++ first.1 ∷ [] = c.push_reserved-2.ensures.items in
    let start : MayStart g.V.Served.tells lines c.args.span.from c.args.span.to seat (more ++ c.in-Some.station ∷ []) = subst (MayStart g.V.Served.tells lines c.args.span.from c.args.span.to seat) all c.requires.may in
    let count : c.len-worker.result ≡ length more = search rules in
    let ran = thread_ran g.V.Served.tells lines c.args.span.from c.args.span.to c.len-worker.result seat c.in-Some.station more start count c.in-Some-split.own c.split.new.seat s.given s.seat.1 s.numbers.1
    first.0 second.0 after first.1 second.1.items s.seat.0 c.join-own.ensures.first.0 c.join-own.ensures.second.0 j.seat j.grows j.own j.theirs j.joined j.numbers in
    subst (λ (z : List Station × List Station). CrewHasRun g.V.Served.tells lines c.args.span.from c.args.span.to seat z.0 after z.1) (λ i. (sym all i, sym pushed i)) ran

pub returns-in_default-clause-heard : goal.returns-in_default-clause-heard
returns-in_default-clause-heard g t c =
    let none : c.args.stations.items ≡ [] = search rules in
    nobody_heard (g.G.Gate.heard c.args.gate.now) c.args.lines.now c.args.span.from c.args.span.to (length c.args.stations.items) c.args.seat (ap (λ (xs : List Station). length xs) none)

pub returns-then-not-needs_thread-clause-heard : goal.returns-then-not-needs_thread-clause-heard
returns-then-not-needs_thread-clause-heard g t c =
    let more = c.pop.new.self.items in
    let all : c.args.stations.items ≡ more ++ c.in-Some.station ∷ [] = c.in-Some.ensures.items in
    let worker : c.len-worker.result ≡ length more = search rules in
    let count : length c.args.stations.items ≡ length more + 1 = ap (λ (xs : List Station). length xs) all ∙ length-append more (c.in-Some.station ∷ []) in
    own_heard (g.G.Gate.heard c.args.gate.now) c.args.lines.now c.args.span.from c.args.span.to c.len-worker.result (length more) (length c.args.stations.items) worker count c.args.seat
    c.work-seat.result.0 c.run_crew-seat.result.0 c.requires.may.first (ap (λ (z : SeatState). z.next) c.work-seat.ensures.worked.goes.same) c.work-seat.ensures.heard c.run_crew-seat.ensures.heard

pub returns-clause-heard : goal.returns-clause-heard
returns-clause-heard g t c =
    let more = c.pop.new.self.items in
    let s = c.in-Some-split.ensures in
    let own = c.in-Some-split.own in
    let left = c.split.new.seat in
    let first = c.join-own.result.0 in
    let second = c.join-own.result.1 in
    let after = c.join.new.seat in
    let j = c.join.ensures in
    let ran = c.join-own.ensures in
    let all : c.args.stations.items ≡ more ++ c.in-Some.station ∷ [] = c.in-Some.ensures.items in
    let worker : c.len-worker.result ≡ length more = search rules in
    let count : length c.args.stations.items ≡ length more + 1 = ap (λ (xs : List Station). length xs) all ∙ length-append more (c.in-Some.station ∷ []) in
    let unused : by_seat own.number own.seen ≡ [] = s.numbers.1 own.number (omega arith) in
    thread_heard (g.G.Gate.heard c.args.gate.now) c.args.lines.now c.args.span.from c.args.span.to c.len-worker.result (length more) (length c.args.stations.items) worker count c.args.seat
    own first.0 left second.0 after (ap (λ (z : SeatState). z.number) s.given) unused (ap (λ (z : SeatState). z.number) ran.first.0.goes.same)
    (ap (λ (z : SeatState). z.next) s.seat.1) (ap (λ (z : SeatState). z.seen) s.seat.1) (ap (λ (z : SeatState). z.next) j.seat) j.own j.theirs
    (stays_put g.V.Served.tells c.args.lines.now c.args.span.from c.args.span.to left more second.0 second.1.items after ran.second.0 j.joined) ran.first.1 ran.second.2
