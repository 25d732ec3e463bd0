use Rattle.std.proofs.Common.{◌≡◌, ⊎_elim, ap, sym, subst, refl}
use Rattle.nl_core_clean.specs.Carried.{KeepsStored}
use Rattle.nl_core_clean.specs.declared.cleaning.Cleaned.TheVariants as cleaned
use Rattle.nl_iface.specs.Calls.{NoWriteFailed, stored}
use Rattle.nl_iface.specs.Space.{CanLand}
use Rattle.nl_core.specs.Calls.{FailureIsCounted}
use Rattle.nl_core.specs.Cleaning.{CleansDevice}
use Rattle.nl_core.specs.Core.{IsCore, names_of}
use Rattle.nl_core.specs.Goes.{PreservesVolume}
use Rattle.nl_core.specs.Writing.{stopped_by, stopped_on}
use Rattle.nl_core.specs.declared.state.Core.{Core}
use Rattle.nl_core.proofs.Cleaned.{carried_core, carried_goes, cleans_segment}
use Rattle.nl_core.proofs.state.Core.clean.Goals as goal

pub returns-clause-core : goal.returns-clause-core
returns-clause-core g c =
    let G = g.D.Counts in
    let v = c.args.self.now in
    let t = c.clean-answer.new.device in
    let e = c.clean-answer.ensures in
    let stopped = stopped_by v.stopped (G.read_faults t) c.write_faults-faults.result (G.write_faults t) in
    let w : Core g.row.D.Denot = record v { device = t; stopped = stopped } in
    let same : c.note_fault.new.self ≡ w = c.note_fault.ensures in
    let segment = cleans_segment c.clean-answer.result (names_of G v).space (G.names t).space e.space in
    let noted : stopped ≡ stopped_on G (G.write_faults v.device) v w = ap (λ n. stopped_by v.stopped (G.read_faults t) n (G.write_faults t)) c.write_faults-faults.ensures in
    let lands : NoWriteFailed G v.device t → CanLand (G.names t).space = λ none. ⊎_elim (λ x. absurd (none x.1)) (λ l. l) e.lands in
    let agrees : G.tells → NoWriteFailed G v.device t → KeepsStored (stored G v.device) (stored G t) = λ tells none. ⊎_elim (λ x. absurd (none x.1)) (λ k. k) (e.stored tells) in
    subst (λ (x : Core g.row.D.Denot). IsCore G x) (sym same) (carried_core G v w refl c.requires.core c.device_stands.ensures.volume c.requires.writes noted e.faults.reads_never_fall e.faults.writes_never_fall e.held segment.0 segment.1 c.device_stands.ensures.map c.device_stands-2.ensures.pages lands agrees e.formed)

pub returns-clause-goes : goal.returns-clause-goes
returns-clause-goes g c =
    let G = g.D.Counts in
    let v = c.args.self.now in
    let t = c.clean-answer.new.device in
    let e = c.clean-answer.ensures in
    let stopped = stopped_by v.stopped (G.read_faults t) c.write_faults-faults.result (G.write_faults t) in
    let w : Core g.row.D.Denot = record v { device = t; stopped = stopped } in
    let same : c.note_fault.new.self ≡ w = c.note_fault.ensures in
    let segment = cleans_segment c.clean-answer.result (names_of G v).space (G.names t).space e.space in
    let noted : stopped ≡ stopped_on G (G.write_faults v.device) v w = ap (λ n. stopped_by v.stopped (G.read_faults t) n (G.write_faults t)) c.write_faults-faults.ensures in
    let lands : NoWriteFailed G v.device t → CanLand (G.names t).space = λ none. ⊎_elim (λ x. absurd (none x.1)) (λ l. l) e.lands in
    let agrees : G.tells → NoWriteFailed G v.device t → KeepsStored (stored G v.device) (stored G t) = λ tells none. ⊎_elim (λ x. absurd (none x.1)) (λ k. k) (e.stored tells) in
    subst (λ (x : Core g.row.D.Denot). PreservesVolume G 0 v x) (sym same) (carried_goes G v w refl c.requires.core c.device_stands.ensures.volume c.requires.writes noted e.faults.reads_never_fall e.faults.writes_never_fall e.held segment.0 segment.1 c.device_stands.ensures.map c.device_stands-2.ensures.pages lands agrees)

pub returns-clause-cleans : goal.returns-clause-cleans
returns-clause-cleans g c =
    let G = g.D.Counts in
    let v = c.args.self.now in
    let t = c.clean-answer.new.device in
    let e = c.clean-answer.ensures in
    let stopped = stopped_by v.stopped (G.read_faults t) c.write_faults-faults.result (G.write_faults t) in
    let w : Core g.row.D.Denot = record v { device = t; stopped = stopped } in
    let same : c.note_fault.new.self ≡ w = c.note_fault.ensures in
    subst (λ (x : Core g.row.D.Denot). CleansDevice G g.D.MovingPages v x c.clean-answer.result) (sym same) (record {
      block = e.block;
      nothing = e.nothing;
      space = e.space;
      pending = e.held.pages.pending;
      posted = e.held.pages.posted;
      others = refl;
      lost = λ w found is. ((e.lost w found is).0, λ tells. e.told tells w found is);
    })

pub returns-clause-faults : goal.returns-clause-faults
returns-clause-faults g c =
    let G = g.D.Counts in
    let v = c.args.self.now in
    let t = c.clean-answer.new.device in
    let e = c.clean-answer.ensures in
    let stopped = stopped_by v.stopped (G.read_faults t) c.write_faults-faults.result (G.write_faults t) in
    let w : Core g.row.D.Denot = record v { device = t; stopped = stopped } in
    let same : c.note_fault.new.self ≡ w = c.note_fault.ensures in
    subst (λ (x : Core g.row.D.Denot). FailureIsCounted G (c.clean-answer.result ≡ cleaned.Fault) v x) (sym same) e.faults.cause
