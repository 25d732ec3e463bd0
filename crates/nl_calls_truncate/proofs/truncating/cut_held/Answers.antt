use Rattle.std.proofs.Common.{length, inl, refl, ap, ⊎_elim, arith}
use Rattle.nl_core.specs.declared.state.Core.{Core}
use Rattle.nl_core.proofs.Lines.{in_flight}
use Rattle.nl_calls_steps.proofs.FileInstalled.{few_await}
use Rattle.nl_calls_truncate.proofs.CutFlight.{carried_less}
use Rattle.nl_calls_truncate.proofs.CutHolders.{cut_as_many}
use Rattle.nl_calls_truncate.proofs.CutReads.{uncut_refused}
use Rattle.nl_calls_steps.proofs.LastCommitOn.{steps_commit}
use Rattle.nl_calls_truncate.proofs.truncating.cut_held.Goals as goal

pub pages_of-landing-requires-clause-one : goal.pages_of-landing-requires-clause-one
pages_of-landing-requires-clause-one g c =
    ⊎_elim (λ none. let few = ap length none.0 in omega (arith, few)) (λ one. let few = ap length one.1 in omega (arith, few)) c.requires.partial

pub files_after-requires-clause-enough : goal.files_after-requires-clause-enough
files_after-requires-clause-enough g c =
    let G = g.D.Counts in
    let cut = c.in-Done.ensures.cut refl in
    let sum = cut_as_many G c.args.core.now c.cut_file.new.core c.args.worker c.requires.core c.cut_file.ensures.core c.requires.known cut.steps (ap (λ (x : Core g.row.D.Denot). x.flight) cut.others) in
    let files = c.requires.files in
    let landing = c.pages_of-landing.ensures in
    let awaited = c.len-awaited.ensures.count in
    let now = c.len.ensures.count in
    omega (arith, sum, files, landing, awaited, now)

pub files_after-requires-clause-fits : goal.files_after-requires-clause-fits
files_after-requires-clause-fits g c =
    let G = g.D.Counts in
    let v = c.args.core.now in
    let few = few_await G v c.requires.core c.device_stands.ensures.volume c.device_stands.ensures.names in
    let less = carried_less v.flight c.args.worker (in_flight v.flight c.args.worker c.requires.core.flight c.requires.known) in
    let files = c.requires.files in
    let landing = c.pages_of-landing.ensures in
    let awaited = c.len-awaited.ensures.count in
    omega (arith, few, less, files, landing, awaited)

pub returns-in-Done-clause-cut : goal.returns-in-Done-clause-cut
returns-in-Done-clause-cut g c = c.in-Done.ensures.cut refl

pub returns-in-Done-clause-files : goal.returns-in-Done-clause-files
returns-in-Done-clause-files g c =
    let G = g.D.Counts in
    let cut = c.in-Done.ensures.cut refl in
    let sum = cut_as_many G c.args.core.now c.cut_file.new.core c.args.worker c.requires.core c.cut_file.ensures.core c.requires.known cut.steps (ap (λ (x : Core g.row.D.Denot). x.flight) cut.others) in
    let files = c.requires.files in
    let landing = c.pages_of-landing.ensures in
    let awaited = c.len-awaited.ensures.count in
    let now = c.len.ensures.count in
    let after = c.files_after.ensures in
    omega (arith, sum, files, landing, awaited, now, after)

pub returns-in-Fault-clause-uncut : goal.returns-in-Fault-clause-uncut
returns-in-Fault-clause-uncut g c =
    uncut_refused g.D.Counts c.args.core.now c.cut_file.new.core c.requires.core c.device_stands.ensures.volume c.args.rec.now c.cut_file.new.rec (c.in-Fault.ensures.refused (λ e. cc e))

pub returns-in-Fault-clause-early : goal.returns-in-Fault-clause-early
returns-in-Fault-clause-early g c = inl (c.in-Fault.ensures.faults.cause refl)

pub returns-in-Lost-clause-uncut : goal.returns-in-Lost-clause-uncut
returns-in-Lost-clause-uncut g c =
    uncut_refused g.D.Counts c.args.core.now c.cut_file.new.core c.requires.core c.device_stands.ensures.volume c.args.rec.now c.cut_file.new.rec (c.in-Lost.ensures.refused (λ e. cc e))

pub returns-in-Lost-clause-early : goal.returns-in-Lost-clause-early
returns-in-Lost-clause-early g c = (c.in-Lost.ensures.lost.1, λ tells. c.in-Lost.ensures.told tells tt)

-- ---- nothing is committed

pub returns-in-Done-clause-commit : goal.returns-in-Done-clause-commit
returns-in-Done-clause-commit g c = steps_commit g.D.Counts c.args.core.now c.cut_file.new.core (c.in-Done.ensures.cut refl).steps

pub returns-in-Fault-clause-commit : goal.returns-in-Fault-clause-commit
returns-in-Fault-clause-commit g c = steps_commit g.D.Counts c.args.core.now c.cut_file.new.core (c.in-Fault.ensures.refused (λ e. cc e)).steps

pub returns-in-Lost-clause-commit : goal.returns-in-Lost-clause-commit
returns-in-Lost-clause-commit g c = steps_commit g.D.Counts c.args.core.now c.cut_file.new.core (c.in-Lost.ensures.refused (λ e. cc e)).steps
