use Rattle.std.proofs.Common.{◌≡◌, ◌*◌, ◌≤◌, ◌∙◌, List, ap, arith, refl, subst, sym}
use Rattle.nl_device.specs.Kept.{KeptPages}
use Rattle.nl_device.specs.Retain.{CanRetain, kept_of, retained_at}
use Rattle.nl_device.specs.Reopened.{CanBeRetained}
use Rattle.nl_device.specs.Shown.{found_by_number}
use Rattle.nl_device.specs.contracts.counts.DeviceCounts.TheImpl.{ghosts}
use Rattle.nl_field.specs.declared.pointer.Pointer.{Pointer}
use Rattle.nl_field.specs.declared.shape.Shape.{Shape}
use Rattle.nl_flight.specs.Flight.{IsFlight}
use Rattle.nl_iface.specs.Names.{Has}
use Rattle.nl_meta_running.specs.Running.{running_on}
use Rattle.nl_spec_commits.specs.Trees.{all_at}
use Rattle.nl_recover.specs.Retaining.{pointers_in}
use Rattle.nl_core.specs.Core.{IsCore}
use Rattle.nl_core.specs.declared.state.Core.{Core}
use Rattle.nl_meta.specs.Consistent.{page_on}
use Rattle.nl_core.specs.Trees.{CoreRepresents}
use Rattle.nl_core_open.specs.Beginning.{stopped_by}
use Rattle.nl_core_open.proofs.Begun.{as_many_pages, begun_core, begun_stands, made}
use Rattle.nl_core_open.proofs.OneKept.{one_kept}
use Rattle.nl_core_open.proofs.Owners.{found_is_seen}
use Rattle.nl_device.specs.declared.device.Device.{Device}
use Rattle.nl_core_open.proofs.beginning.begin.Goals as goal

pub retain-requires-clause-can : goal.retain-requires-clause-can
retain-requires-clause-can g c =
    let G = ghosts g.row.M g.M.Nand g.M.Nand-dict in
    let s = c.args.device in
    let w = c.args.walked in
    let seen = c.args.scan.now.seen in
    let told = c.kept_can_be_retained.ensures in
    let pages = running_on G s w.meta in
    let consistent = c.requires.walked.consistent in
    let held : CanBeRetained s.shape seen (pointers_in s.shape pages) = record {
      spare = told.spare s.shape pages seen consistent;
      found = told.found s.shape pages seen consistent;
      differ = told.differ s.shape pages seen consistent;
      names_differ = told.names_differ s.shape pages seen consistent;
      own = told.own s.shape pages seen consistent;
      few_lost = told.few_lost s.shape pages seen consistent;
    } in
    let listed : CanBeRetained s.shape seen w.kept.items = subst (λ (ps : List Pointer). CanBeRetained s.shape seen ps) (sym c.requires.walked.kept) held in
    subst (λ (k : KeptPages). CanRetain k w.kept.items) (sym c.requires.can.kept) (c.a_list_tells_what_can_be_retained.ensures s.shape seen w.kept.items listed)

pub returns-clause-core : goal.returns-clause-core
returns-clause-core g c =
    let G = ghosts g.row.M g.M.Nand g.M.Nand-dict in
    let s = c.args.device in
    let t = c.retain.new.self in
    let w = c.args.walked in
    let seen = c.args.scan.now.seen in
    let e = c.retain.ensures in
    let clock : G.clock s ≡ c.clock-moment.result = sym (c.clock-moment.ensures ∙ e.medium.clock) in
    let stopped : stopped_by (G.write_faults s) ≡ c.stopped_by-stopped.result = sym (c.stopped_by-stopped.ensures ∙ ap stopped_by (c.write_faults.ensures ∙ e.medium.write_faults)) in
    subst (λ (x : Core (Device g.row.M.Denot)). IsCore G x)
    (made G s t seen w c.args.freeing t c.args.shape c.args.flight c.clock-moment.result c.stopped_by-stopped.result c.requires.shape c.requires.flight clock stopped)
    (begun_core G s t seen w c.args.freeing c.requires.can c.requires.walked c.device_stands.ensures.volume
    (λ p page has. found_is_seen s.shape seen p page (subst (λ (k : KeptPages). Has (found_by_number k) (p, page)) c.requires.can.kept has))
    e.medium (retained_at (kept_of s) w.kept.items) e.retained c.device_stands-2.ensures.table c.device_stands-2.ensures.names e.space.lands (one_kept t.pseg) c.device_stands-2.ensures.pages
    (subst IsFlight c.requires.flight c.lines_stand.ensures) c.requires.freeing
    (subst (λ (h : Shape). h.pblocks * h.pages ≤ c.args.freeing.room) c.requires.shape c.requires.room) c.retain.ensures.formed
    (let calls = c.count_of-count.type_inv in let same = c.count_of-count.ensures in omega (arith, calls, same)))

pub returns-clause-stands : goal.returns-clause-stands
returns-clause-stands g c tells image tree over =
    let G = ghosts g.row.M g.M.Nand g.M.Nand-dict in
    let s = c.args.device in
    let t = c.retain.new.self in
    let w = c.args.walked in
    let seen = c.args.scan.now.seen in
    let e = c.retain.ensures in
    let clock : G.clock s ≡ c.clock-moment.result = sym (c.clock-moment.ensures ∙ e.medium.clock) in
    let stopped : stopped_by (G.write_faults s) ≡ c.stopped_by-stopped.result = sym (c.stopped_by-stopped.ensures ∙ ap stopped_by (c.write_faults.ensures ∙ e.medium.write_faults)) in
    subst (λ (x : Core (Device g.row.M.Denot)). CoreRepresents G x (page_on image) (all_at w.count tree))
    (made G s t seen w c.args.freeing t c.args.shape c.args.flight c.clock-moment.result c.stopped_by-stopped.result c.requires.shape c.requires.flight clock stopped)
    (begun_stands G s t seen w c.args.freeing c.requires.can c.requires.walked c.device_stands.ensures.volume
    (λ p page has. found_is_seen s.shape seen p page (subst (λ (k : KeptPages). Has (found_by_number k) (p, page)) c.requires.can.kept has))
    e.medium (retained_at (kept_of s) w.kept.items) e.retained c.device_stands-2.ensures.table c.device_stands-2.ensures.names e.space.lands (one_kept t.pseg) c.device_stands-2.ensures.pages
    (subst IsFlight c.requires.flight c.lines_stand.ensures) c.requires.freeing
    (subst (λ (h : Shape). h.pblocks * h.pages ≤ c.args.freeing.room) c.requires.shape c.requires.room)
    tells image tree over)

pub returns-clause-files : goal.returns-clause-files
returns-clause-files g c =
    let G = ghosts g.row.M g.M.Nand g.M.Nand-dict in
    let s = c.args.device in
    let t = c.retain.new.self in
    let w = c.args.walked in
    let seen = c.args.scan.now.seen in
    let e = c.retain.ensures in
    as_many_pages G s t seen w c.args.freeing c.requires.can c.requires.walked c.device_stands.ensures.volume
    (λ p page has. found_is_seen s.shape seen p page (subst (λ (k : KeptPages). Has (found_by_number k) (p, page)) c.requires.can.kept has))
    e.medium (retained_at (kept_of s) w.kept.items) e.retained c.device_stands-2.ensures.table c.device_stands-2.ensures.names e.space.lands (one_kept t.pseg) c.device_stands-2.ensures.pages
    (subst IsFlight c.requires.flight c.lines_stand.ensures) c.requires.freeing
    (subst (λ (h : Shape). h.pblocks * h.pages ≤ c.args.freeing.room) c.requires.shape c.requires.room)

pub returns-clause-pairs : goal.returns-clause-pairs
returns-clause-pairs g c = c.retain.ensures.space.pairs

pub returns-clause-begins : goal.returns-clause-begins
returns-clause-begins g c =
    let e = c.retain.ensures in
    record {
      medium = e.medium;
      metadata = (refl, refl, refl);
      counts = (refl, refl, c.clock-moment.ensures ∙ e.medium.clock, c.stopped_by-stopped.ensures ∙ ap stopped_by (c.write_faults.ensures ∙ e.medium.write_faults));
      flight = c.requires.flight;
      freeing = c.requires.freeing;
    }
