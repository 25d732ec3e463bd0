use Rattle.std.proofs.Common.{◌≡◌, ◌∙◌, ◌^◌, ap, map}
use Rattle.nl_core_clean.specs.declared.cleaning.Cleaned.TheVariants as cleaned
use Rattle.nl_core_callbacks.specs.Handled.{nameless_line}
use Rattle.nl_core.specs.Rounds.{EmptiesTable, ReclaimPassIsDone}
use Rattle.nl_core.specs.declared.state.Core.{Core}
use Rattle.nl_core.proofs.Onward.{cause_then, goes_then}
use Rattle.nl_core.proofs.Rounding.{posted_after, round_is_done, rounded_to, table_of}
use Rattle.nl_core.proofs.state.Core.round.Goals as goal

pub clean-requires-clause-writes : goal.clean-requires-clause-writes
clean-requires-clause-writes g c = c.in-Done.ensures.emptied.runs

pub returns-in-Done-clean-clause-goes : goal.returns-in-Done-clean-clause-goes
returns-in-Done-clean-clause-goes g c =
    let G = g.D.Counts in
    goes_then G c.args.self.now c.empty_table.new.self c.clean.new.self (2 ^ 20) 0 c.empty_table.ensures.goes c.clean.ensures.goes

pub returns-in-Done-clean-clause-lines : goal.returns-in-Done-clean-clause-lines
returns-in-Done-clean-clause-lines g c = ap (λ (x : Core g.row.D.Denot). map nameless_line x.flight) c.clean.ensures.cleans.others ∙ c.empty_table.ensures.lines

pub returns-in-Done-clean-clause-rounds : goal.returns-in-Done-clean-clause-rounds
returns-in-Done-clean-clause-rounds g c =
    let G = g.D.Counts in
    let u = c.args.self.now in
    let v = c.empty_table.new.self in
    let w = c.clean.new.self in
    let emptied = c.in-Done.ensures.emptied in
    let core = c.empty_table.ensures.core in
    let cleans = c.clean.ensures.cleans in
    let none = g.met.D.MovingPages.unpaired v.device core.formed emptied.no_pairs in
    round_is_done G g.D.MovingPages u v w emptied core c.device_stands.ensures.names.space c.a_cleaning_is_of_a_round.ensures c.clean.result c.in-Done-clean.is cleans
    (posted_after G g.D.MovingPages u v w c.clean.result cleans none c.empty_table.ensures.goes.posted c.clean.ensures.goes.posted) (table_of G w c.clean.ensures.core)

pub returns-in-Done-clean-clause-faults : goal.returns-in-Done-clean-clause-faults
returns-in-Done-clean-clause-faults g c is = absurd (let no : ⊥ = cc in no)

pub returns-in-Lost-clause-goes : goal.returns-in-Lost-clause-goes
returns-in-Lost-clause-goes g c =
    let G = g.D.Counts in
    goes_then G c.args.self.now c.empty_table.new.self c.clean.new.self (2 ^ 20) 0 c.empty_table.ensures.goes c.clean.ensures.goes

pub returns-in-Lost-clause-lines : goal.returns-in-Lost-clause-lines
returns-in-Lost-clause-lines g c = ap (λ (x : Core g.row.D.Denot). map nameless_line x.flight) c.clean.ensures.cleans.others ∙ c.empty_table.ensures.lines

pub returns-in-Lost-clause-rounds : goal.returns-in-Lost-clause-rounds
returns-in-Lost-clause-rounds g c = c.clean.ensures.cleans.lost c.in-Lost.wanted c.in-Lost.found c.in-Lost.is

pub returns-in-Lost-clause-faults : goal.returns-in-Lost-clause-faults
returns-in-Lost-clause-faults g c is = absurd (let no : ⊥ = cc in no)

pub returns-in-Fault-clause-goes : goal.returns-in-Fault-clause-goes
returns-in-Fault-clause-goes g c =
    let G = g.D.Counts in
    goes_then G c.args.self.now c.empty_table.new.self c.clean.new.self (2 ^ 20) 0 c.empty_table.ensures.goes c.clean.ensures.goes

pub returns-in-Fault-clause-lines : goal.returns-in-Fault-clause-lines
returns-in-Fault-clause-lines g c = ap (λ (x : Core g.row.D.Denot). map nameless_line x.flight) c.clean.ensures.cleans.others ∙ c.empty_table.ensures.lines

pub returns-in-Fault-clause-faults : goal.returns-in-Fault-clause-faults
returns-in-Fault-clause-faults g c is =
    let G = g.D.Counts in
    cause_then G (c.clean.result ≡ cleaned.Fault) (c.clean.result ≡ cleaned.Fault) c.args.self.now c.empty_table.new.self c.clean.new.self (2 ^ 20)
    c.empty_table.ensures.goes c.clean.ensures.faults (λ f. f) c.in-Fault.is

pub returns-in_default : goal.returns-in_default
returns-in_default g c =
    let G = g.D.Counts in
    let u = c.args.self.now in
    let v = c.empty_table.new.self in
    let e = c.empty_table.ensures in
    record {
      core = e.core;
      goes = e.goes;
      lines = e.lines;
      rounds = rounded_to G.tells (EmptiesTable G u v) (ReclaimPassIsDone G g.D.MovingPages u v) c.empty_table.result (λ is h. absurd (c.in_default.not-Done is)) e.emptied;
      faults = e.faults;
    }
