use Rattle.std.proofs.Common.{◌∙◌, ap, subst, sym, List}
use Rattle.nl_flight.specs.Flight.{HasFlightRoom, InFlight}
use Rattle.nl_core.specs.Core.{IsCore}
use Rattle.nl_core.specs.Goes.{PreservesVolume}
use Rattle.nl_core.specs.Programming.{PutsPage, with_page}
use Rattle.nl_core.specs.declared.state.Core.{Core}
use Rattle.nl_core.proofs.LastCommits.{none_room, put_room}
use Rattle.nl_core.proofs.Placed.{if_off, is_spelled, none_cause, none_core, none_goes, put_core, put_goes, put_page, puts_none}
use Rattle.nl_core.proofs.state.Core.place_once.Goals as goal

pub put_page-requires-clause-place : goal.put_page-requires-clause-place
put_page-requires-clause-place g c =
    subst (λ (xs : List InFlight). HasFlightRoom xs c.args.worker) (sym (ap (λ (x : Core g.row.D.Denot). x.flight) c.place.ensures.others)) c.requires.place

pub returns-in-Placed-clause-core : goal.returns-in-Placed-clause-core
returns-in-Placed-clause-core g c =
    let G = g.D.Counts in
    let v = c.args.self.now in
    let w = c.place.new.self in
    let e = c.place.ensures in
    let lines = c.put_page.ensures.put ∙ ap (λ (xs : List InFlight). with_page xs c.args.worker c.args.line c.args.tag c.in-Placed.at) (ap (λ (x : Core g.row.D.Denot). x.flight) e.others) in
    subst (λ (xs : List InFlight). IsCore G (record w { flight = xs })) (sym lines)
    (put_core G v w c.args.tag c.args.from.now.main c.place.result e.programs e.others c.requires.core e.volume c.requires.writes e.map e.stores c.in-Placed.at c.in-Placed.is c.args.worker c.args.line c.requires.known c.requires.some c.requires.place e.numbers
    (is_spelled (G.next_stamp v.device) (g.met.D.VirtualPages.next v.device c.requires.core.formed) c.requires.stamp) e.formed)

pub returns-in-Placed-clause-goes : goal.returns-in-Placed-clause-goes
returns-in-Placed-clause-goes g c =
    let G = g.D.Counts in
    let v = c.args.self.now in
    let w = c.place.new.self in
    let e = c.place.ensures in
    let lines = c.put_page.ensures.put ∙ ap (λ (xs : List InFlight). with_page xs c.args.worker c.args.line c.args.tag c.in-Placed.at) (ap (λ (x : Core g.row.D.Denot). x.flight) e.others) in
    subst (λ (xs : List InFlight). PreservesVolume G 1 v (record w { flight = xs })) (sym lines)
    (put_goes G v w c.args.tag c.args.from.now.main c.place.result e.programs e.others c.requires.core e.volume c.requires.writes e.map e.stores c.in-Placed.at c.in-Placed.is c.args.worker c.args.line c.requires.known c.requires.some c.requires.place e.numbers)

pub returns-in-Placed-clause-placed : goal.returns-in-Placed-clause-placed
returns-in-Placed-clause-placed g c =
    let G = g.D.Counts in
    let v = c.args.self.now in
    let w = c.place.new.self in
    let e = c.place.ensures in
    let lines = c.put_page.ensures.put ∙ ap (λ (xs : List InFlight). with_page xs c.args.worker c.args.line c.args.tag c.in-Placed.at) (ap (λ (x : Core g.row.D.Denot). x.flight) e.others) in
    subst (λ (xs : List InFlight). PutsPage G c.args.worker c.args.line c.args.tag c.args.from.now.main v (record w { flight = xs }) c.in-Placed.at) (sym lines)
    (put_page G v w c.args.tag c.args.from.now.main c.place.result e.programs e.others c.requires.core e.volume c.requires.writes e.map e.stores c.in-Placed.at c.in-Placed.is c.args.worker c.args.line c.requires.known c.requires.some c.requires.place e.numbers)

pub returns-in-Placed-clause-faults : goal.returns-in-Placed-clause-faults
returns-in-Placed-clause-faults g c is = absurd (let no : ⊥ = cc in no)

pub returns-in-Placed-clause-at_once : goal.returns-in-Placed-clause-at_once
returns-in-Placed-clause-at_once g c =
    put_room g.D.Counts c.args.self.now c.place.new.self c.args.tag c.args.from.now.main c.place.result c.place.ensures.programs c.place.ensures.others c.put_page.new.flight

pub returns-in_default : goal.returns-in_default
returns-in_default g c =
    let G = g.D.Counts in
    let v = c.args.self.now in
    let w = c.place.new.self in
    let e = c.place.ensures in
    let none = c.in_default.not-Placed in
    record {
      core = none_core G v w c.args.tag c.args.from.now.main c.place.result e.programs e.others c.requires.core e.volume c.requires.writes e.map e.stores none e.formed;
      goes = none_goes G v w c.args.tag c.args.from.now.main c.place.result e.programs e.others c.requires.core e.volume c.requires.writes e.map e.stores none;
      no_page = e.programs.no_page;
      placed = if_off c.place.result _ none;
      none = λ off. puts_none G v w c.args.tag c.args.from.now.main c.place.result e.programs e.others c.requires.core e.volume c.requires.writes e.map e.stores none;
      faults = none_cause G v w c.args.tag c.args.from.now.main c.place.result e.programs e.others c.requires.core e.volume c.requires.writes e.map e.stores none;
      at_once = none_room G v w c.args.tag c.args.from.now.main c.place.result e.programs e.others;
    }
