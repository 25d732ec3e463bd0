use Rattle.std.proofs.Common.{◌≡◌, ◌∙◌, ◌+◌, ◌^◌, arith}
use Rattle.nl_iface.proofs.RoundSteps.{empties_laws}
use Rattle.nl_core.specs.Core.{names_of}
use Rattle.nl_core.specs.Rounds.{EmptiesTable, HandlesAll}
use Rattle.nl_core.specs.declared.rounds.Rounded.TheVariants as rounded
use Rattle.nl_core.proofs.Onward.{cause_then, goes_more, goes_then}
use Rattle.nl_core.proofs.Rounding.{rounded_to}
use Rattle.nl_core.proofs.state.Core.empty_table.Goals as goal

pub commit_if_due-requires-clause-stamp : goal.commit_if_due-requires-clause-stamp
commit_if_due-requires-clause-stamp g c =
    let room = c.requires.stamp in
    let most = c.handle_all.ensures.goes.stamps.at_most in
    omega (arith, room, most)

pub commit_if_due-requires-clause-writes : goal.commit_if_due-requires-clause-writes
commit_if_due-requires-clause-writes g c = c.in-Done.ensures.handles.runs

pub commit_if_due-requires-clause-handled : goal.commit_if_due-requires-clause-handled
commit_if_due-requires-clause-handled g c = c.in-Done.ensures.handles.handled

pub returns-in-Done-clause-goes : goal.returns-in-Done-clause-goes
returns-in-Done-clause-goes g c =
    let G = g.D.Counts in
    let u = c.args.self.now in
    let w = c.commit_if_due.new.self in
    goes_more G (2 ^ 19 + 512) (2 ^ 20) u w (omega arith) (goes_then G u c.handle_all.new.self w (2 ^ 19) 512 c.handle_all.ensures.goes c.commit_if_due.ensures.goes)

pub returns-in-Done-clause-lines : goal.returns-in-Done-clause-lines
returns-in-Done-clause-lines g c = c.commit_if_due.ensures.lines ∙ c.handle_all.ensures.lines

pub returns-in-Done-clause-emptied : goal.returns-in-Done-clause-emptied
returns-in-Done-clause-emptied g c =
    let G = g.D.Counts in
    let u = c.args.self.now in
    let v = c.handle_all.new.self in
    let w = c.commit_if_due.new.self in
    rounded_to G.tells (EmptiesTable G v w) (EmptiesTable G u w) c.commit_if_due.result
    (λ is (e : EmptiesTable G v w). record {
      no_pairs = e.no_pairs;
      freed = e.freed;
      space = empties_laws.then (names_of G u).space (names_of G v).space (names_of G w).space c.in-Done.ensures.handles.space e.space;
      runs = e.runs;
    })
    c.commit_if_due.ensures.emptied

pub returns-in-Done-clause-faults : goal.returns-in-Done-clause-faults
returns-in-Done-clause-faults g c =
    let G = g.D.Counts in
    cause_then G (c.commit_if_due.result ≡ rounded.Fault) (c.commit_if_due.result ≡ rounded.Fault) c.args.self.now c.handle_all.new.self c.commit_if_due.new.self (2 ^ 19)
    c.handle_all.ensures.goes c.commit_if_due.ensures.faults (λ f. f)

pub returns-in_default : goal.returns-in_default
returns-in_default g c =
    let G = g.D.Counts in
    let u = c.args.self.now in
    let v = c.handle_all.new.self in
    let e = c.handle_all.ensures in
    record {
      core = e.core;
      goes = goes_more G (2 ^ 19) (2 ^ 20) u v (omega arith) e.goes;
      lines = e.lines;
      emptied = rounded_to G.tells (HandlesAll G u v) (EmptiesTable G u v) c.handle_all.result (λ is h. absurd (c.in_default.not-Done is)) e.handles;
      faults = e.faults;
    }
