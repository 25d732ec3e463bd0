use Rattle.std.proofs.Common.{◌≡◌, inl, refl, sym, subst, arith}
use Rattle.nl_field.specs.declared.pointer.Tag.{Tag}
use Rattle.nl_flight.specs.Flight.{IsFlight}
use Rattle.nl_core.specs.declared.state.Core.{Core}
use Rattle.nl_calls_bytes.specs.Ranges.{from_of, len_of, path_of}
use Rattle.nl_tree.specs.declared.turn.Stage.TheVariants as stage
use Rattle.nl_volume_stage.specs.StagedPages.{IsTagOfCall}
use Rattle.nl_volume_stage.specs.Staging.{IsNextTag, IsNextIn, StagesOn, TellsLeft}
use Rattle.nl_volume_stage.specs.declared.next.Next.TheVariants as next
use Rattle.nl_volume_stage.proofs.Few.{few_staged}
use Rattle.nl_volume_stage.proofs.Flights.{faults_on}
use Rattle.nl_volume_stage.proofs.Nexts.{tells_page, tells_whole}
use Rattle.nl_volume_stage.proofs.Pages.{leaves_call, leaves_page, read_failed, read_leaves, read_lost, read_stays, read_whole, read_writable}
use Rattle.nl_volume_stage.proofs.Stages.{keeps_line, passes_reads, passes_then, same_lines, stages_failed, stages_lost, stages_whole}
use Rattle.nl_core.specs.LastCommit.{KeepsCommit}
use Rattle.nl_calls_steps.proofs.LastCommitOn.{reads_commit, reads_leaves, reads_room}
use Rattle.nl_volume_stage.proofs.Uncommitted.{noted_commit, page_then}
use Rattle.nl_volume_stage.proofs.Serving.{goals_within}
use Rattle.nl_volume_stage.proofs.staging.stage_now.Goals as goal

pub next_of-next-requires-clause-few : goal.next_of-next-requires-clause-few
next_of-next-requires-clause-few g c =
    let G = g.D.Counts in
    let s = c.requires.stands in
    let few = few_staged G s.1 c.args.core.now s.4.serves.core s.4.flight c.args.worker in
    let count = c.flying-place.ensures in
    omega (arith, few, count)

pub stage_page-requires-clause-stands : goal.stage_page-requires-clause-stands
stage_page-requires-clause-stands g c =
    let G = g.D.Counts in
    let s = c.requires.stands in
    let u = c.args.core.now in
    let v = c.next_of-next.new.core in
    let e = c.in-Page.ensures in
    (s.0, s.1, s.2, s.3, (passes_reads G c.args.worker c.args.line u v s.4.serves.core c.device_stands.ensures.volume e.core.formed c.device_stands-2.ensures.pages c.counts.ensures e.same (goals_within G c.requires.stands.0 c.requires.stands.1 c.requires.stands.2 c.args.core.now c.requires.stands.3 c.requires.stands.4)).on s.0 s.1 s.2 s.3 s.4, s.5)

pub stage_page-requires-clause-line : goal.stage_page-requires-clause-line
stage_page-requires-clause-line g c =
    let G = g.D.Counts in
    let s = c.requires.stands in
    let u = c.args.core.now in
    let v = c.next_of-next.new.core in
    let e = c.in-Page.ensures in
    keeps_line u.flight v.flight c.args.worker c.args.line (same_lines G c.args.worker c.args.line u v s.4.serves.core c.device_stands.ensures.volume e.core.formed c.device_stands-2.ensures.pages c.counts.ensures e.same (goals_within G c.requires.stands.0 c.requires.stands.1 c.requires.stands.2 c.args.core.now c.requires.stands.3 c.requires.stands.4)) c.requires.line

pub returns-in-Page-clause-stages : goal.returns-in-Page-clause-stages
returns-in-Page-clause-stages g c =
    let G = g.D.Counts in
    let s = c.requires.stands in
    let u = c.args.core.now in
    let v = c.next_of-next.new.core in
    let e = c.in-Page.ensures in
    passes_then G c.args.worker c.args.line c.args.call.now u v c.stage_page.new.core c.stage_page.result
    (passes_reads G c.args.worker c.args.line u v s.4.serves.core c.device_stands.ensures.volume e.core.formed c.device_stands-2.ensures.pages c.counts.ensures e.same (goals_within G c.requires.stands.0 c.requires.stands.1 c.requires.stands.2 c.args.core.now c.requires.stands.3 c.requires.stands.4)) c.stage_page.ensures.stages

pub returns-in-Whole-clause-stages : goal.returns-in-Whole-clause-stages
returns-in-Whole-clause-stages g c =
    let G = g.D.Counts in
    let s = c.requires.stands in
    let u = c.args.core.now in
    let v = c.next_of-next.new.core in
    let e = c.in-Whole.ensures in
    stages_whole G c.args.worker c.args.line c.args.call.now u v
    (passes_reads G c.args.worker c.args.line u v s.4.serves.core c.device_stands.ensures.volume e.core.formed c.device_stands-2.ensures.pages c.counts.ensures e.same (goals_within G c.requires.stands.0 c.requires.stands.1 c.requires.stands.2 c.args.core.now c.requires.stands.3 c.requires.stands.4))

pub returns-in-Lost-clause-stages : goal.returns-in-Lost-clause-stages
returns-in-Lost-clause-stages g c =
    let G = g.D.Counts in
    let s = c.requires.stands in
    let u = c.args.core.now in
    let v = c.next_of-next.new.core in
    let e = c.in-Lost.ensures in
    let k = e.lost c.in-Lost.wanted c.in-Lost.found refl in
    stages_lost G c.args.worker c.args.line c.args.call.now u v
    (passes_reads G c.args.worker c.args.line u v s.4.serves.core c.device_stands.ensures.volume e.core.formed c.device_stands-2.ensures.pages c.counts.ensures e.same (goals_within G c.requires.stands.0 c.requires.stands.1 c.requires.stands.2 c.args.core.now c.requires.stands.3 c.requires.stands.4))
    c.in-Lost.wanted c.in-Lost.found (k.1, λ same. k.0 (sym same))

pub returns-in-Fault-clause-stages : goal.returns-in-Fault-clause-stages
returns-in-Fault-clause-stages g c =
    let G = g.D.Counts in
    let s = c.requires.stands in
    let u = c.args.core.now in
    let v = c.next_of-next.new.core in
    let e = c.in-Fault.ensures in
    let noted = c.note_failure.ensures.noted in
    let p = passes_reads G c.args.worker c.args.line u v s.4.serves.core c.device_stands.ensures.volume e.core.formed c.device_stands-2.ensures.pages c.counts.ensures e.same (goals_within G c.requires.stands.0 c.requires.stands.1 c.requires.stands.2 c.args.core.now c.requires.stands.3 c.requires.stands.4) in
    let lines = same_lines G c.args.worker c.args.line u v s.4.serves.core c.device_stands.ensures.volume e.core.formed c.device_stands-2.ensures.pages c.counts.ensures e.same (goals_within G c.requires.stands.0 c.requires.stands.1 c.requires.stands.2 c.args.core.now c.requires.stands.3 c.requires.stands.4) in
    subst (λ (x : Core g.row.D.Denot). StagesOn G c.args.worker c.args.line c.args.call.now u x stage.Fault) (sym noted)
    (stages_failed G c.args.worker c.args.line c.args.call.now u v p
    s.4.serves.core e.core c.device_stands-2.ensures.volume c.device_stands-2.ensures.pages c.counts.ensures c.requires.known c.requires.some
    (keeps_line u.flight v.flight c.args.worker c.args.line lines c.requires.line) (inl (e.fault refl)) (faults_on u v lines)
    (subst (λ (x : Core g.row.D.Denot). IsFlight x.flight) noted c.note_failure.ensures.lines))

pub returns-in-Page-clause-in_flight : goal.returns-in-Page-clause-in_flight
returns-in-Page-clause-in_flight g c =
    let G = g.D.Counts in
    let u = c.args.core.now in
    let v = c.next_of-next.new.core in
    let e = c.in-Page.ensures in
    let call = c.args.call.now in
    leaves_call G c.args.worker c.args.line (IsTagOfCall G u c.args.call.now) u c.stage_page.new.core c.stage_page.result c.args.call.now c.requires.no_sync
    (read_leaves G c.args.worker c.args.line u v e.same (λ (tag : Tag). tag ≡ c.in-Page.tag) (IsTagOfCall G u call) (λ tag is. subst (IsTagOfCall G u call) (sym is) e.own)
    c.stage_page.new.core c.stage_page.result (leaves_page G c.args.worker c.args.line (λ (tag : Tag). tag ≡ c.in-Page.tag) v c.stage_page.new.core c.stage_page.result call c.requires.no_sync c.stage_page.ensures.in_flight))

pub returns-in-Page-clause-left : goal.returns-in-Page-clause-left
returns-in-Page-clause-left g c =
    let G = g.D.Counts in
    let s = c.requires.stands in
    let u = c.args.core.now in
    let v = c.next_of-next.new.core in
    let e = c.in-Page.ensures in
    let call = c.args.call.now in
    let tag = c.in-Page.tag in
    let count = c.flying-place.ensures in
    tells_page G s.0 s.1 s.2 u s.3 c.args.worker c.args.line call s.4 s.5 c.requires.line tag (subst (λ n. IsNextTag call n tag) count e.page)
    (subst (λ n. IsNextIn G u (path_of call) (from_of call) (len_of call) n (next.Page tag)) count e.left) c.stage_page.new.core c.stage_page.result (IsTagOfCall G u call)
    (passes_then G c.args.worker c.args.line call u v c.stage_page.new.core c.stage_page.result
    (passes_reads G c.args.worker c.args.line u v s.4.serves.core c.device_stands.ensures.volume e.core.formed c.device_stands-2.ensures.pages c.counts.ensures e.same (goals_within G c.requires.stands.0 c.requires.stands.1 c.requires.stands.2 c.args.core.now c.requires.stands.3 c.requires.stands.4)) c.stage_page.ensures.stages)
    (leaves_page G c.args.worker c.args.line (IsTagOfCall G u call) u c.stage_page.new.core c.stage_page.result call c.requires.no_sync (returns-in-Page-clause-in_flight g c))
    c.stage_page.ensures.not_whole

pub returns-in-Whole-clause-left : goal.returns-in-Whole-clause-left
returns-in-Whole-clause-left g c =
    let G = g.D.Counts in
    let s = c.requires.stands in
    let u = c.args.core.now in
    let call = c.args.call.now in
    tells_whole G s.0 s.1 s.2 u s.3 c.args.worker c.args.line call s.4 s.5 c.requires.line c.next_of-next.new.core
    (subst (λ n. IsNextIn G u (path_of call) (from_of call) (len_of call) n next.Whole) c.flying-place.ensures c.in-Whole.ensures.left)

pub returns-in-Lost-clause-left : goal.returns-in-Lost-clause-left
returns-in-Lost-clause-left g c tells page_of_stamp tree runs = tt

pub returns-in-Fault-clause-left : goal.returns-in-Fault-clause-left
returns-in-Fault-clause-left g c =
    let G = g.D.Counts in
    subst (λ (x : Core g.row.D.Denot). TellsLeft G c.args.worker c.args.line c.args.call.now c.args.core.now x stage.Fault) (sym c.note_failure.ensures.noted)
    (λ tells page_of_stamp tree runs none. c.in-Fault.ensures.fault refl)

pub returns-in-Whole-clause-in_flight : goal.returns-in-Whole-clause-in_flight
returns-in-Whole-clause-in_flight g c =
    let G = g.D.Counts in
    let u = c.args.core.now in
    leaves_call G c.args.worker c.args.line (IsTagOfCall G u c.args.call.now) u c.next_of-next.new.core stage.Whole c.args.call.now c.requires.no_sync
    (read_whole G c.args.worker c.args.line u c.next_of-next.new.core c.in-Whole.ensures.same (IsTagOfCall G u c.args.call.now) c.requires.some c.requires.stands.4.serves.core c.requires.line)

pub returns-in-Lost-clause-in_flight : goal.returns-in-Lost-clause-in_flight
returns-in-Lost-clause-in_flight g c =
    let G = g.D.Counts in
    let u = c.args.core.now in
    leaves_call G c.args.worker c.args.line (IsTagOfCall G u c.args.call.now) u c.next_of-next.new.core (stage.Lost c.in-Lost.wanted c.in-Lost.found) c.args.call.now c.requires.no_sync
    (read_lost G c.args.worker c.args.line u c.next_of-next.new.core c.in-Lost.ensures.same (IsTagOfCall G u c.args.call.now) c.requires.some c.requires.stands.4.serves.core c.requires.line
    c.in-Lost.wanted c.in-Lost.found)

pub returns-in-Fault-clause-in_flight : goal.returns-in-Fault-clause-in_flight
returns-in-Fault-clause-in_flight g c =
    let G = g.D.Counts in
    let u = c.args.core.now in
    let e = c.in-Fault.ensures in
    leaves_call G c.args.worker c.args.line (IsTagOfCall G u c.args.call.now) u c.note_failure.new.self stage.Fault c.args.call.now c.requires.no_sync
    (read_failed G c.args.worker c.args.line u c.next_of-next.new.core e.same (IsTagOfCall G u c.args.call.now) c.requires.some c.requires.stands.4.serves.core c.requires.line
    e.core c.requires.known _ c.note_failure.ensures.noted)

pub returns-in-Page-clause-unfailed : goal.returns-in-Page-clause-unfailed
returns-in-Page-clause-unfailed g c far =
    read_writable g.D.Counts c.args.worker c.args.line c.args.core.now c.next_of-next.new.core c.in-Page.ensures.same c.stage_page.new.core (c.stage_page.ensures.unfailed far)

pub returns-in-Whole-clause-unfailed : goal.returns-in-Whole-clause-unfailed
returns-in-Whole-clause-unfailed g c far = read_stays g.D.Counts c.args.worker c.args.line c.args.core.now c.next_of-next.new.core c.in-Whole.ensures.same c.requires.writes

pub returns-in-Lost-clause-unfailed : goal.returns-in-Lost-clause-unfailed
returns-in-Lost-clause-unfailed g c far = read_stays g.D.Counts c.args.worker c.args.line c.args.core.now c.next_of-next.new.core c.in-Lost.ensures.same c.requires.writes

pub returns-in-Fault-clause-unfailed : goal.returns-in-Fault-clause-unfailed
returns-in-Fault-clause-unfailed g c far = absurd (far refl)

-- ---- what stays

pub returns-in-Page-clause-kept : goal.returns-in-Page-clause-kept
returns-in-Page-clause-kept g c is = absurd (c.stage_page.ensures.not_whole is)

pub returns-in-Page-clause-commit : goal.returns-in-Page-clause-commit
returns-in-Page-clause-commit g c =
    let G = g.D.Counts in
    let u = c.args.core.now in
    let v = c.next_of-next.new.core in
    page_then G u v c.stage_page.new.core (reads_room G u v c.next_of-next.ensures.same) c.stage_page.ensures.commit

pub returns-in-Whole-clause-kept : goal.returns-in-Whole-clause-kept
returns-in-Whole-clause-kept g c is = reads_leaves g.D.Counts c.args.core.now c.next_of-next.new.core c.next_of-next.ensures.same

pub returns-in-Whole-clause-commit : goal.returns-in-Whole-clause-commit
returns-in-Whole-clause-commit g c has = reads_commit g.D.Counts c.args.core.now c.next_of-next.new.core c.next_of-next.ensures.same

pub returns-in-Lost-clause-kept : goal.returns-in-Lost-clause-kept
returns-in-Lost-clause-kept g c is = absurd (cc is)

pub returns-in-Lost-clause-commit : goal.returns-in-Lost-clause-commit
returns-in-Lost-clause-commit g c has = reads_commit g.D.Counts c.args.core.now c.next_of-next.new.core c.next_of-next.ensures.same

pub returns-in-Fault-clause-kept : goal.returns-in-Fault-clause-kept
returns-in-Fault-clause-kept g c is = absurd (cc is)

pub returns-in-Fault-clause-commit : goal.returns-in-Fault-clause-commit
returns-in-Fault-clause-commit g c has =
    let G = g.D.Counts in
    let u = c.args.core.now in
    let v = c.next_of-next.new.core in
    subst (λ (x : Core g.row.D.Denot). KeepsCommit u x) (sym c.note_failure.ensures.noted) (noted_commit G c.args.worker c.args.line u v (reads_commit G u v c.next_of-next.ensures.same))
