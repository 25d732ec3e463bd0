use Rattle.std.proofs.Common.{ap, subst, sym, ◌∙◌}
use Rattle.nl_iface.specs.Calls.{StoresPages}
use Rattle.nl_core.specs.Programming.{ProgramsNewName}
use Rattle.nl_core.specs.declared.state.Core.{Core}
use Rattle.nl_core.proofs.state.Core.place.Goals as goal

pub returns-clause-stores : goal.returns-clause-stores
returns-clause-stores g c tells =
    let G = g.D.Counts in
    subst (λ (d : g.row.D.Denot). StoresPages G d) (sym (ap (λ (x : Core g.row.D.Denot). x.device) c.note_fault.ensures)) (c.device_stands-2.ensures.pages tells)

pub returns-clause-programs : goal.returns-clause-programs
returns-clause-programs g c =
    let G = g.D.Counts in
    let s = c.args.self.now.device in
    let t = c.nameless_write-answer.new.self in
    let e = c.nameless_write-answer.ensures in
    subst (λ (d : g.row.D.Denot). ProgramsNewName G c.args.tag c.args.from.now.main c.nameless_write-answer.result s d) (sym (ap (λ (x : Core g.row.D.Denot). x.device) c.note_fault.ensures))
    (record {
      not_live = e.not_live;
      no_page = e.no_page;
      placed = e.placed;
      none = e.none;
      refused = e.refused;
      left = e.left;
      kept = e.kept;
      next_stamp = e.next_stamp;
      counts = e.counts;
      retired = g.met.D.MovingPages.none_bad t ∙ sym (g.met.D.MovingPages.none_bad s);
    })
