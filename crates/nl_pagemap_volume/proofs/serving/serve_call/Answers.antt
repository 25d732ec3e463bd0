use Rattle.std.proofs.Common.{◌≡◌, ◌+◌, inl, Some, [], ap, subst, sym, arith}
use Rattle.std.specs.Prelude.{slice_get}
use Rattle.nl_field.specs.CrashStates.{saturated}
use Rattle.nl_tree.specs.Causes.{FaultWithin, NeverFall, fault_in}
use Rattle.std.specs.Prelude.{IfSome}
use Rattle.nl_calls_steps.specs.Calls.{counts_of}
use Rattle.nl_core.specs.Goes.{TurnsReadOnly}
use Rattle.nl_core.specs.declared.state.Core.{Core}
use Rattle.nl_flight.specs.Flight.{InFlight}
use Rattle.nl_pagemap_volume.specs.Serving.{CoreServes, StampsPaid, TakesStep, TellsAllCalls}
use Rattle.nl_pagemap_volume.proofs.Served.{count_on, few_of, goal_is, keeps_on, serves_on, steps_on, tells_on}
use Rattle.nl_pagemap_volume.proofs.serving.serve_call.Goals as goal

pub answer_call-answer-requires : goal.answer_call-answer-requires
answer_call-answer-requires g c =
    let r = c.requires.serves in
    let u = c.args.core.now in
    let idle = r.idle c.args.worker in
    record {
      core = r.core;
      known = c.requires.known;
      some = omega arith;
      line = inl (ap (λ (y : InFlight). y.line) idle);
      may = c.requires.may;
      runs = r.runs;
      bounded = c.requires.bounded;
      files = r.counted;
      staged = λ place page at. let none : slice_get [] place ≡ Some page = subst (λ (y : InFlight). slice_get y.pages place ≡ Some page) idle at in absurd (cc none);
      others = λ w. few_of u.flight w (r.idle w);
      goal = let all = goal_is u c.args.worker idle in omega (arith, all);
      nothing = c.clear.ensures;
    }

pub returns-clause-serves : goal.returns-clause-serves
returns-clause-serves g c =
    let G = g.D.Counts in
    let a = c.answer_call-answer in
    subst (λ (x : Core g.row.D.Denot). CoreServes G a.result.files x) (sym c.count_call.ensures)
    (serves_on G c.args.files c.args.worker c.args.call.now c.args.core.now a.new.core a.result.reply a.new.out a.result.files c.requires.serves a.ensures.core a.ensures.answers)

pub returns-clause-answers : goal.returns-clause-answers
returns-clause-answers g c = c.answer_call-answer.ensures.answers.answers

pub returns-clause-steps : goal.returns-clause-steps
returns-clause-steps g c =
    let G = g.D.Counts in
    let a = c.answer_call-answer in
    subst (λ (x : Core g.row.D.Denot). TakesStep G c.args.call.now c.args.core.now x a.result.reply) (sym c.count_call.ensures)
    (steps_on G c.args.files c.args.worker c.args.call.now c.args.core.now a.new.core a.result.reply a.new.out a.result.files c.requires.serves a.ensures.core a.ensures.answers)

pub returns-clause-cause : goal.returns-clause-cause
returns-clause-cause g c =
    let G = g.D.Counts in
    let a = c.answer_call-answer in
    subst (λ (x : Core g.row.D.Denot). IfSome (fault_in a.result.reply) (FaultWithin G.tells (counts_of G c.args.core.now.device) (counts_of G x.device))) (sym c.count_call.ensures)
    a.ensures.answers.cause

pub returns-clause-synced : goal.returns-clause-synced
returns-clause-synced g c = c.answer_call-answer.ensures.answers.synced

pub returns-clause-numbers : goal.returns-clause-numbers
returns-clause-numbers g c =
    let G = g.D.Counts in
    let a = c.answer_call-answer in
    subst (λ (x : Core g.row.D.Denot). TellsAllCalls c.args.core.now x a.result.reply) (sym c.count_call.ensures)
    (tells_on G c.args.files c.args.worker c.args.call.now c.args.core.now a.new.core a.result.reply a.new.out a.result.files c.requires.serves a.ensures.core a.ensures.answers)

pub returns-clause-counted : goal.returns-clause-counted
returns-clause-counted g c =
    let G = g.D.Counts in
    let a = c.answer_call-answer in
    let u = c.args.core.now in
    let same = count_on G c.args.files c.args.worker c.args.call.now u a.new.core a.result.reply a.new.out a.result.files c.requires.serves a.ensures.core a.ensures.answers in
    subst (λ (x : Core g.row.D.Denot). x.count ≡ saturated (u.count + 1)) (sym c.count_call.ensures) (ap (λ n. saturated (n + 1)) same)

pub returns-clause-counts : goal.returns-clause-counts
returns-clause-counts g c =
    let G = g.D.Counts in
    let a = c.answer_call-answer in
    let u = c.args.core.now in
    let later = (keeps_on G c.args.files c.args.worker c.args.call.now u a.new.core a.result.reply a.new.out a.result.files c.requires.serves a.ensures.core a.ensures.answers).later in
    subst (λ (x : Core g.row.D.Denot). NeverFall (counts_of G u.device) (counts_of G x.device)) (sym c.count_call.ensures) later

pub returns-clause-same_shape : goal.returns-clause-same_shape
returns-clause-same_shape g c =
    let G = g.D.Counts in
    let a = c.answer_call-answer in
    let u = c.args.core.now in
    let same = (keeps_on G c.args.files c.args.worker c.args.call.now u a.new.core a.result.reply a.new.out a.result.files c.requires.serves a.ensures.core a.ensures.answers).same_shape in
    subst (λ (x : Core g.row.D.Denot). G.shape x.device ≡ G.shape u.device) (sym c.count_call.ensures) same

pub returns-clause-stops : goal.returns-clause-stops
returns-clause-stops g c =
    let G = g.D.Counts in
    let a = c.answer_call-answer in
    let u = c.args.core.now in
    let k = (keeps_on G c.args.files c.args.worker c.args.call.now u a.new.core a.result.reply a.new.out a.result.files c.requires.serves a.ensures.core a.ensures.answers).stops in
    subst (λ (x : Core g.row.D.Denot). TurnsReadOnly G u x) (sym c.count_call.ensures) (record { stands = k.stands; none = k.none; some = k.some })

pub returns-clause-stamps : goal.returns-clause-stamps
returns-clause-stamps g c =
    let G = g.D.Counts in
    let a = c.answer_call-answer in
    let u = c.args.core.now in
    let k = (keeps_on G c.args.files c.args.worker c.args.call.now u a.new.core a.result.reply a.new.out a.result.files c.requires.serves a.ensures.core a.ensures.answers).stamps in
    subst (λ (x : Core g.row.D.Denot). StampsPaid G u.device x.device) (sym c.count_call.ensures) k
