use Rattle.std.proofs.Common.{◌≡◌, ◌≢◌, ◌∙◌, ℕ, Option, Some, refl, sym, ap, subst}
use Rattle.nl_field.specs.declared.answers.VirtualWrite.TheVariants as write
use Rattle.nl_iface.specs.Calls.{StoresPages}
use Rattle.nl_journal.specs.declared.answers.Phase.TheVariants.{Commit}
use Rattle.nl_journal_commit.specs.Stepping.{TellsCommitPage}
use Rattle.nl_core.specs.Writing.{stopped_by}
use Rattle.nl_core.specs.declared.state.Core.{Core}
use Rattle.nl_core.proofs.Decided.{decides_core, decides_does, decides_goes, no_commit_page, other_core, other_does, other_goes}
use Rattle.nl_core.proofs.Taken.{WritesUnit}
use Rattle.nl_core.proofs.state.Core.write_unit.Goals as goal

pub returns-in-Some-clause-core : goal.returns-in-Some-clause-core
returns-in-Some-clause-core g c =
    let G = g.D.Counts in
    let v = c.args.self.now in
    let w = c.note_fault.new.self in
    let t = c.take_unit-taken.new.device in
    let e = c.take_unit-taken.ensures in
    let answer = c.take_unit-taken.result.answer in
    let noted = c.note_fault.ensures in
    let device : w.device ≡ t = ap (λ (x : Core g.row.D.Denot). x.device) noted in
    let b : WritesUnit G v w answer = subst (λ (x : Core g.row.D.Denot). WritesUnit G v x answer) (sym noted) (record {
      others = refl;
      stopped = ap (λ n. stopped_by v.stopped (G.read_faults t) n (G.write_faults t)) c.write_faults-faults.ensures;
      stands = e.stands;
      goes = e.goes;
      writes = e.writes;
      passes = e.passes;
      lost = e.lost;
      clock = e.clock;
      faults = e.faults;
    }) in
    let stores : G.tells → StoresPages G w.device = λ tells. subst (λ (d : g.row.D.Denot). StoresPages G d) (sym device) (c.device_stands-2.ensures.pages tells) in
    let formed : G.formed w.device = subst G.formed (sym device) e.formed in
    let d = c.decide.ensures.decided in
    let tells = subst (λ (x : Option ℕ). TellsCommitPage (answer ≡ write.Done) v.journal x) c.in-Some.is e.decided in
    decides_core G v w answer b c.requires.core c.device_stands.ensures.volume stores c.requires.writes c.requires.some formed c.decide.new.self c.in-Some.number d tells.0 tells.1 tells.2 d.stores c.decide.ensures.formed

pub returns-in-Some-clause-goes : goal.returns-in-Some-clause-goes
returns-in-Some-clause-goes g c =
    let G = g.D.Counts in
    let v = c.args.self.now in
    let w = c.note_fault.new.self in
    let t = c.take_unit-taken.new.device in
    let e = c.take_unit-taken.ensures in
    let answer = c.take_unit-taken.result.answer in
    let noted = c.note_fault.ensures in
    let device : w.device ≡ t = ap (λ (x : Core g.row.D.Denot). x.device) noted in
    let b : WritesUnit G v w answer = subst (λ (x : Core g.row.D.Denot). WritesUnit G v x answer) (sym noted) (record {
      others = refl;
      stopped = ap (λ n. stopped_by v.stopped (G.read_faults t) n (G.write_faults t)) c.write_faults-faults.ensures;
      stands = e.stands;
      goes = e.goes;
      writes = e.writes;
      passes = e.passes;
      lost = e.lost;
      clock = e.clock;
      faults = e.faults;
    }) in
    let stores : G.tells → StoresPages G w.device = λ tells. subst (λ (d : g.row.D.Denot). StoresPages G d) (sym device) (c.device_stands-2.ensures.pages tells) in
    let formed : G.formed w.device = subst G.formed (sym device) e.formed in
    let d = c.decide.ensures.decided in
    let tells = subst (λ (x : Option ℕ). TellsCommitPage (answer ≡ write.Done) v.journal x) c.in-Some.is e.decided in
    decides_goes G v w answer b c.requires.core c.device_stands.ensures.volume stores c.requires.writes c.requires.some formed c.decide.new.self c.in-Some.number d tells.0 tells.1 tells.2 d.stores

pub returns-in-Some-clause-does : goal.returns-in-Some-clause-does
returns-in-Some-clause-does g c =
    let G = g.D.Counts in
    let v = c.args.self.now in
    let w = c.note_fault.new.self in
    let t = c.take_unit-taken.new.device in
    let e = c.take_unit-taken.ensures in
    let answer = c.take_unit-taken.result.answer in
    let noted = c.note_fault.ensures in
    let device : w.device ≡ t = ap (λ (x : Core g.row.D.Denot). x.device) noted in
    let b : WritesUnit G v w answer = subst (λ (x : Core g.row.D.Denot). WritesUnit G v x answer) (sym noted) (record {
      others = refl;
      stopped = ap (λ n. stopped_by v.stopped (G.read_faults t) n (G.write_faults t)) c.write_faults-faults.ensures;
      stands = e.stands;
      goes = e.goes;
      writes = e.writes;
      passes = e.passes;
      lost = e.lost;
      clock = e.clock;
      faults = e.faults;
    }) in
    let stores : G.tells → StoresPages G w.device = λ tells. subst (λ (d : g.row.D.Denot). StoresPages G d) (sym device) (c.device_stands-2.ensures.pages tells) in
    let formed : G.formed w.device = subst G.formed (sym device) e.formed in
    let d = c.decide.ensures.decided in
    let tells = subst (λ (x : Option ℕ). TellsCommitPage (answer ≡ write.Done) v.journal x) c.in-Some.is e.decided in
    decides_does G v w answer b c.requires.core c.device_stands.ensures.volume stores c.requires.writes c.requires.some formed c.decide.new.self c.in-Some.number d tells.0 tells.1 tells.2 d.stores

pub returns-in_default-clause-core : goal.returns-in_default-clause-core
returns-in_default-clause-core g c =
    let G = g.D.Counts in
    let v = c.args.self.now in
    let w = c.note_fault.new.self in
    let t = c.take_unit-taken.new.device in
    let e = c.take_unit-taken.ensures in
    let answer = c.take_unit-taken.result.answer in
    let noted = c.note_fault.ensures in
    let device : w.device ≡ t = ap (λ (x : Core g.row.D.Denot). x.device) noted in
    let b : WritesUnit G v w answer = subst (λ (x : Core g.row.D.Denot). WritesUnit G v x answer) (sym noted) (record {
      others = refl;
      stopped = ap (λ n. stopped_by v.stopped (G.read_faults t) n (G.write_faults t)) c.write_faults-faults.ensures;
      stands = e.stands;
      goes = e.goes;
      writes = e.writes;
      passes = e.passes;
      lost = e.lost;
      clock = e.clock;
      faults = e.faults;
    }) in
    let stores : G.tells → StoresPages G w.device = λ tells. subst (λ (d : g.row.D.Denot). StoresPages G d) (sym device) (c.device_stands-2.ensures.pages tells) in
    let formed : G.formed w.device = subst G.formed (sym device) e.formed in
    other_core G v w answer b c.requires.core c.device_stands.ensures.volume stores c.requires.writes c.requires.some formed
    (no_commit_page (answer ≡ write.Done) v.journal c.take_unit-taken.result.decided c.in_default.not-Some e.decided)

pub returns-in_default-clause-goes : goal.returns-in_default-clause-goes
returns-in_default-clause-goes g c =
    let G = g.D.Counts in
    let v = c.args.self.now in
    let w = c.note_fault.new.self in
    let t = c.take_unit-taken.new.device in
    let e = c.take_unit-taken.ensures in
    let answer = c.take_unit-taken.result.answer in
    let noted = c.note_fault.ensures in
    let device : w.device ≡ t = ap (λ (x : Core g.row.D.Denot). x.device) noted in
    let b : WritesUnit G v w answer = subst (λ (x : Core g.row.D.Denot). WritesUnit G v x answer) (sym noted) (record {
      others = refl;
      stopped = ap (λ n. stopped_by v.stopped (G.read_faults t) n (G.write_faults t)) c.write_faults-faults.ensures;
      stands = e.stands;
      goes = e.goes;
      writes = e.writes;
      passes = e.passes;
      lost = e.lost;
      clock = e.clock;
      faults = e.faults;
    }) in
    let stores : G.tells → StoresPages G w.device = λ tells. subst (λ (d : g.row.D.Denot). StoresPages G d) (sym device) (c.device_stands-2.ensures.pages tells) in
    let formed : G.formed w.device = subst G.formed (sym device) e.formed in
    other_goes G v w answer b c.requires.core c.device_stands.ensures.volume stores c.requires.writes c.requires.some formed
    (no_commit_page (answer ≡ write.Done) v.journal c.take_unit-taken.result.decided c.in_default.not-Some e.decided)

pub returns-in_default-clause-does : goal.returns-in_default-clause-does
returns-in_default-clause-does g c =
    let G = g.D.Counts in
    let v = c.args.self.now in
    let w = c.note_fault.new.self in
    let t = c.take_unit-taken.new.device in
    let e = c.take_unit-taken.ensures in
    let answer = c.take_unit-taken.result.answer in
    let noted = c.note_fault.ensures in
    let device : w.device ≡ t = ap (λ (x : Core g.row.D.Denot). x.device) noted in
    let b : WritesUnit G v w answer = subst (λ (x : Core g.row.D.Denot). WritesUnit G v x answer) (sym noted) (record {
      others = refl;
      stopped = ap (λ n. stopped_by v.stopped (G.read_faults t) n (G.write_faults t)) c.write_faults-faults.ensures;
      stands = e.stands;
      goes = e.goes;
      writes = e.writes;
      passes = e.passes;
      lost = e.lost;
      clock = e.clock;
      faults = e.faults;
    }) in
    let stores : G.tells → StoresPages G w.device = λ tells. subst (λ (d : g.row.D.Denot). StoresPages G d) (sym device) (c.device_stands-2.ensures.pages tells) in
    let formed : G.formed w.device = subst G.formed (sym device) e.formed in
    other_does G v w answer b c.requires.core c.device_stands.ensures.volume stores c.requires.writes c.requires.some formed
    (no_commit_page (answer ≡ write.Done) v.journal c.take_unit-taken.result.decided c.in_default.not-Some e.decided)
