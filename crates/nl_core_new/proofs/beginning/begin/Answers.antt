use Rattle.std.proofs.Common.{◌*◌, ◌≤◌, arith, subst, sym}
use Rattle.nl_core.specs.Core.{IsCore}
use Rattle.nl_core.specs.declared.state.Core.{Core}
use Rattle.nl_field.specs.declared.shape.Shape.{Shape}
use Rattle.nl_flight.specs.Flight.{IsFlight}
use Rattle.nl_core_new.specs.New.{IsNew}
use Rattle.nl_core_new.proofs.Begun.{begun_core, begun_new, made}
use Rattle.nl_core_new.proofs.Ready.{ready}
use Rattle.nl_core_new.proofs.beginning.begin.Goals as goal

pub returns-clause-core : goal.returns-clause-core
returns-clause-core g c =
    let G = g.D.Counts in
    let s = c.args.device in
    let w = c.args.walked in
    let seen = c.args.scan.now.seen in
    let d = c.device_stands.ensures in
    let idle = ready G s c.requires.idle d.table d.volume d.names c.requires.firm in
    subst (λ (x : Core g.row.D.Denot). IsCore G x)
    (made G s seen w c.args.freeing c.args.shape c.args.flight c.clock-moment.result c.requires.shape c.requires.flight (sym c.clock-moment.ensures))
    (begun_core G s seen w c.args.freeing idle c.requires.walked c.requires.kept (subst IsFlight c.requires.flight c.lines_stand.ensures) c.requires.freeing
    (subst (λ (h : Shape). h.pblocks * h.pages ≤ c.args.freeing.room) c.requires.shape c.requires.room)
    (let none = c.requires.count in omega (arith, none)))

pub returns-clause-new : goal.returns-clause-new
returns-clause-new g c =
    let G = g.D.Counts in
    let s = c.args.device in
    let w = c.args.walked in
    let seen = c.args.scan.now.seen in
    let d = c.device_stands.ensures in
    let idle = ready G s c.requires.idle d.table d.volume d.names c.requires.firm in
    subst (λ (x : Core g.row.D.Denot). IsNew G x)
    (made G s seen w c.args.freeing c.args.shape c.args.flight c.clock-moment.result c.requires.shape c.requires.flight (sym c.clock-moment.ensures))
    (begun_new G s seen w c.args.freeing idle c.requires.walked c.requires.kept (subst IsFlight c.requires.flight c.lines_stand.ensures) c.requires.freeing
    (subst (λ (h : Shape). h.pblocks * h.pages ≤ c.args.freeing.room) c.requires.shape c.requires.room)
    c.requires.root c.requires.count)
