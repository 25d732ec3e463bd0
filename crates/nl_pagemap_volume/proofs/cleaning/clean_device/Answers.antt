use Rattle.std.proofs.Common.{◌≡◌, ⊎_elim, inl, inr, ap, sym, subst, refl}
use Rattle.nl_calls_steps.specs.Calls.{counts_of}
use Rattle.nl_core.specs.Core.{IsCore}
use Rattle.nl_core.specs.Goes.{PreservesVolume}
use Rattle.nl_core.specs.Writing.{stopped_by, stopped_on}
use Rattle.nl_core.specs.declared.state.Core.{Core}
use Rattle.nl_pagemap.specs.contracts.counts.PagemapCounts.TheImpl.{ghosts}
use Rattle.nl_pagemap.specs.declared.cleaning.Cleaning.TheVariants as cleaning
use Rattle.nl_pagemap.specs.declared.pagemap.Pagemap.{Pagemap}
use Rattle.nl_tree.specs.Causes.{FaultRose}
use Rattle.nl_pagemap_volume.proofs.Cleaned.{cleaned_core, cleaned_goes}
use Rattle.nl_pagemap_volume.proofs.cleaning.clean_device.Goals as goal

pub returns-clause-core : goal.returns-clause-core
returns-clause-core g c =
    let G = ghosts g.row.M g.M.Nand g.M.Nand-dict in
    let v = c.args.core.now in
    let t = c.clean-answer.new.self in
    let e = c.clean-answer.ensures in
    let stopped = stopped_by v.stopped (G.read_faults t) c.write_faults-faults.result (G.write_faults t) in
    let w : Core (Pagemap g.row.M.Denot) = record v { device = t; stopped = stopped } in
    let noted : stopped ≡ stopped_on G (G.write_faults v.device) v w = ap (λ n. stopped_by v.stopped (G.read_faults t) n (G.write_faults t)) c.write_faults-faults.ensures in
    subst (λ (x : Core (Pagemap g.row.M.Denot)). IsCore G x) (sym c.note_fault.ensures)
    (cleaned_core G v w (c.clean-answer.result ≡ cleaning.Fault) refl c.requires.core c.device_stands.ensures.volume c.requires.writes noted e.faults e.tables e.space e.now e.left e.kept c.device_stands.ensures.map c.device_stands-2.ensures.pages e.formed)

pub returns-clause-goes : goal.returns-clause-goes
returns-clause-goes g c =
    let G = ghosts g.row.M g.M.Nand g.M.Nand-dict in
    let v = c.args.core.now in
    let t = c.clean-answer.new.self in
    let e = c.clean-answer.ensures in
    let stopped = stopped_by v.stopped (G.read_faults t) c.write_faults-faults.result (G.write_faults t) in
    let w : Core (Pagemap g.row.M.Denot) = record v { device = t; stopped = stopped } in
    let noted : stopped ≡ stopped_on G (G.write_faults v.device) v w = ap (λ n. stopped_by v.stopped (G.read_faults t) n (G.write_faults t)) c.write_faults-faults.ensures in
    subst (λ (x : Core (Pagemap g.row.M.Denot)). PreservesVolume G 0 v x) (sym c.note_fault.ensures)
    (cleaned_goes G v w (c.clean-answer.result ≡ cleaning.Fault) refl c.requires.core c.device_stands.ensures.volume c.requires.writes noted e.faults e.tables e.space e.now e.left e.kept c.device_stands.ensures.map c.device_stands-2.ensures.pages)

pub returns-clause-flight : goal.returns-clause-flight
returns-clause-flight g c = ap (λ (x : Core (Pagemap g.row.M.Denot)). x.flight) c.note_fault.ensures

pub returns-clause-failed : goal.returns-clause-failed
returns-clause-failed g c is =
    let G = ghosts g.row.M g.M.Nand g.M.Nand-dict in
    let v = c.args.core.now in
    subst (λ (x : Core (Pagemap g.row.M.Denot)). FaultRose (counts_of G v.device) (counts_of G x.device)) (sym c.note_fault.ensures) (c.clean-answer.ensures.faults.cause is)
