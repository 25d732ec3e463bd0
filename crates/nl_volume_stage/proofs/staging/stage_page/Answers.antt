use Rattle.std.proofs.Common.{◌≡◌, ⊎_elim, inl, refl, sym, subst, arith}
use Rattle.nl_field.specs.declared.pointer.Tag.{Tag}
use Rattle.nl_flight.specs.Flight.{IsFlight}
use Rattle.nl_core.specs.declared.state.Core.{Core}
use Rattle.nl_tree.specs.declared.turn.Stage.TheVariants as stage
use Rattle.nl_volume_stage.specs.Staging.{StagesOn}
use Rattle.nl_volume_stage.proofs.Few.{place_below}
use Rattle.nl_volume_stage.proofs.Flights.{faults_on}
use Rattle.nl_volume_stage.proofs.Pages.{leaves_call, leaves_failed, leaves_lost, leaves_staged, leaves_tried, put_fault, put_line, tried_not, tried_writable}
use Rattle.nl_volume_stage.proofs.Stages.{keeps_line, passes_kept, stages_failed, stages_lost, stages_put, stages_tried}
use Rattle.nl_core.specs.LastCommit.{KeepsCommit}
use Rattle.nl_volume_stage.proofs.Uncommitted.{noted_commit, tried_commit}
use Rattle.nl_volume_stage.proofs.Serving.{goals_within}
use Rattle.nl_volume_stage.proofs.staging.stage_page.Goals as goal

pub program-programmed-requires-clause-place : goal.program-programmed-requires-clause-place
program-programmed-requires-clause-place g c = inl (place_below c.args.call.now c.args.tag.index _ c.requires.stands.5.bounded.bytes c.requires.next.index c.requires.next.whole)

pub unreachable-requires : goal.unreachable-requires
unreachable-requires g c =
    let low = c.requires.stamp in
    ⊎_elim (λ off. off c.requires.writes) (λ high. let no : ⊥ = omega (arith, high, low) in no) (c.in-Stopped.ensures.stopped.0 refl)

pub returns-in-InFlight-clause-stages : goal.returns-in-InFlight-clause-stages
returns-in-InFlight-clause-stages g c =
    let G = g.D.Counts in
    let u = c.args.core.now in
    let v = c.program-programmed.new.self in
    let e = c.in-InFlight.ensures in
    let core = c.requires.stands.4.serves.core in
    let main = c.fill_page.new.page.main in
    stages_tried G c.args.worker c.args.line c.args.call.now u v stage.Staged
    (stages_put G c.args.worker c.args.line c.args.call.now u v core e.core c.counts.ensures c.requires.known c.requires.some _ e.goes
    c.args.tag main e.programs c.requires.line c.requires.next c.fill_page.ensures
    (place_below c.args.call.now c.args.tag.index _ c.requires.stands.5.bounded.bytes c.requires.next.index c.requires.next.whole) (goals_within G c.requires.stands.0 c.requires.stands.1 c.requires.stands.2 c.args.core.now c.requires.stands.3 c.requires.stands.4))
    core e.core c.device_stands-2.ensures.volume c.device_stands-2.ensures.pages c.counts.ensures c.requires.known c.requires.some
    (put_line G c.args.worker c.args.line u v core c.requires.known c.requires.some c.args.tag main e.programs c.requires.line)
    (put_fault G c.args.worker c.args.line u v core c.requires.known c.requires.some c.args.tag main e.programs c.requires.line)
    c.requires.writes c.end_tried.new.core c.end_tried.result c.end_tried.ensures

pub returns-in-InFlight-clause-not_stopped : goal.returns-in-InFlight-clause-not_stopped
returns-in-InFlight-clause-not_stopped g c =
    tried_not g.D.Counts c.args.worker c.args.line stage.Staged c.program-programmed.new.self c.end_tried.new.core c.end_tried.result c.end_tried.ensures stage.Stopped (λ is. absurd (cc is)) (λ is. absurd (cc is))

pub returns-in-InFlight-clause-not_whole : goal.returns-in-InFlight-clause-not_whole
returns-in-InFlight-clause-not_whole g c =
    tried_not g.D.Counts c.args.worker c.args.line stage.Staged c.program-programmed.new.self c.end_tried.new.core c.end_tried.result c.end_tried.ensures stage.Whole (λ is. absurd (cc is)) (λ is. absurd (cc is))

pub returns-in-InFlight-clause-in_flight : goal.returns-in-InFlight-clause-in_flight
returns-in-InFlight-clause-in_flight g c =
    let G = g.D.Counts in
    let u = c.args.core.now in
    let v = c.program-programmed.new.self in
    let e = c.in-InFlight.ensures in
    leaves_call G c.args.worker c.args.line (λ (tag : Tag). tag ≡ c.args.tag) u c.end_tried.new.core c.end_tried.result c.args.call.now c.requires.no_sync
    (leaves_tried G c.args.worker c.args.line (λ (tag : Tag). tag ≡ c.args.tag) u v e.core c.requires.known c.requires.some stage.Staged
    (leaves_staged G c.args.worker c.args.line u v c.requires.stands.4.serves.core c.requires.known c.requires.some c.args.tag c.fill_page.new.page.main e.programs c.requires.line)
    c.end_tried.new.core c.end_tried.result c.end_tried.ensures)

pub returns-in-InFlight-clause-unfailed : goal.returns-in-InFlight-clause-unfailed
returns-in-InFlight-clause-unfailed g c far =
    tried_writable g.D.Counts _ c.args.core.now c.program-programmed.new.self c.in-InFlight.ensures.goes c.args.worker c.args.line stage.Staged c.end_tried.new.core c.end_tried.result c.end_tried.ensures far

pub returns-in-Lost-clause-stages : goal.returns-in-Lost-clause-stages
returns-in-Lost-clause-stages g c =
    let G = g.D.Counts in
    let u = c.args.core.now in
    let v = c.program-programmed.new.self in
    let e = c.in-Lost.ensures in
    let core = c.requires.stands.4.serves.core in
    stages_tried G c.args.worker c.args.line c.args.call.now u v (stage.Lost c.in-Lost.wanted c.in-Lost.found)
    (stages_lost G c.args.worker c.args.line c.args.call.now u v (passes_kept G c.args.worker c.args.line u v e.core c.counts.ensures _ e.goes e.programs.0 (goals_within G c.requires.stands.0 c.requires.stands.1 c.requires.stands.2 c.args.core.now c.requires.stands.3 c.requires.stands.4)) c.in-Lost.wanted c.in-Lost.found
    (e.programs.2, λ same. e.programs.1 (sym same)))
    core e.core c.device_stands-2.ensures.volume c.device_stands-2.ensures.pages c.counts.ensures c.requires.known c.requires.some
    (keeps_line u.flight v.flight c.args.worker c.args.line e.programs.0 c.requires.line) (faults_on u v e.programs.0)
    c.requires.writes c.end_tried-in-Lost.new.core c.end_tried-in-Lost.result c.end_tried-in-Lost.ensures

pub returns-in-Lost-clause-not_stopped : goal.returns-in-Lost-clause-not_stopped
returns-in-Lost-clause-not_stopped g c =
    tried_not g.D.Counts c.args.worker c.args.line (stage.Lost c.in-Lost.wanted c.in-Lost.found) c.program-programmed.new.self c.end_tried-in-Lost.new.core c.end_tried-in-Lost.result c.end_tried-in-Lost.ensures stage.Stopped (λ is. absurd (cc is)) (λ is. absurd (cc is))

pub returns-in-Lost-clause-not_whole : goal.returns-in-Lost-clause-not_whole
returns-in-Lost-clause-not_whole g c =
    tried_not g.D.Counts c.args.worker c.args.line (stage.Lost c.in-Lost.wanted c.in-Lost.found) c.program-programmed.new.self c.end_tried-in-Lost.new.core c.end_tried-in-Lost.result c.end_tried-in-Lost.ensures stage.Whole (λ is. absurd (cc is)) (λ is. absurd (cc is))

pub returns-in-Lost-clause-in_flight : goal.returns-in-Lost-clause-in_flight
returns-in-Lost-clause-in_flight g c =
    let G = g.D.Counts in
    let u = c.args.core.now in
    let v = c.program-programmed.new.self in
    let e = c.in-Lost.ensures in
    leaves_call G c.args.worker c.args.line (λ (tag : Tag). tag ≡ c.args.tag) u c.end_tried-in-Lost.new.core c.end_tried-in-Lost.result c.args.call.now c.requires.no_sync
    (leaves_tried G c.args.worker c.args.line (λ (tag : Tag). tag ≡ c.args.tag) u v e.core c.requires.known c.requires.some (stage.Lost c.in-Lost.wanted c.in-Lost.found)
    (leaves_lost G c.args.worker c.args.line (λ (tag : Tag). tag ≡ c.args.tag) u v c.requires.some e.programs.0 c.requires.stands.4.serves.core c.requires.line
    (keeps_line u.flight v.flight c.args.worker c.args.line e.programs.0 c.requires.line) c.in-Lost.wanted c.in-Lost.found)
    c.end_tried-in-Lost.new.core c.end_tried-in-Lost.result c.end_tried-in-Lost.ensures)

pub returns-in-Lost-clause-unfailed : goal.returns-in-Lost-clause-unfailed
returns-in-Lost-clause-unfailed g c far =
    tried_writable g.D.Counts _ c.args.core.now c.program-programmed.new.self c.in-Lost.ensures.goes c.args.worker c.args.line (stage.Lost c.in-Lost.wanted c.in-Lost.found) c.end_tried-in-Lost.new.core c.end_tried-in-Lost.result c.end_tried-in-Lost.ensures far

pub returns-in-Fault-clause-stages : goal.returns-in-Fault-clause-stages
returns-in-Fault-clause-stages g c =
    let G = g.D.Counts in
    let u = c.args.core.now in
    let v = c.program-programmed.new.self in
    let e = c.in-Fault.ensures in
    let noted = c.note_failure.ensures.noted in
    subst (λ (x : Core g.row.D.Denot). StagesOn G c.args.worker c.args.line c.args.call.now u x stage.Fault) (sym noted)
    (stages_failed G c.args.worker c.args.line c.args.call.now u v (passes_kept G c.args.worker c.args.line u v e.core c.counts.ensures _ e.goes e.programs (goals_within G c.requires.stands.0 c.requires.stands.1 c.requires.stands.2 c.args.core.now c.requires.stands.3 c.requires.stands.4))
    c.requires.stands.4.serves.core e.core c.device_stands-2.ensures.volume c.device_stands-2.ensures.pages c.counts.ensures c.requires.known c.requires.some
    (keeps_line u.flight v.flight c.args.worker c.args.line e.programs c.requires.line) (e.faults refl) (faults_on u v e.programs)
    (subst (λ (x : Core g.row.D.Denot). IsFlight x.flight) noted c.note_failure.ensures.lines))

pub returns-in-Fault-clause-in_flight : goal.returns-in-Fault-clause-in_flight
returns-in-Fault-clause-in_flight g c =
    let G = g.D.Counts in
    let u = c.args.core.now in
    let v = c.program-programmed.new.self in
    let e = c.in-Fault.ensures in
    leaves_call G c.args.worker c.args.line (λ (tag : Tag). tag ≡ c.args.tag) u c.note_failure.new.self stage.Fault c.args.call.now c.requires.no_sync
    (leaves_failed G c.args.worker c.args.line (λ (tag : Tag). tag ≡ c.args.tag) u v c.requires.some e.programs c.requires.stands.4.serves.core c.requires.line
    (keeps_line u.flight v.flight c.args.worker c.args.line e.programs c.requires.line) e.core c.requires.known _ c.note_failure.ensures.noted)

pub returns-in-Fault-clause-unfailed : goal.returns-in-Fault-clause-unfailed
returns-in-Fault-clause-unfailed g c far = absurd (far refl)

pub returns-in-InFlight-clause-commit : goal.returns-in-InFlight-clause-commit
returns-in-InFlight-clause-commit g c has =
    let G = g.D.Counts in
    tried_commit G c.args.worker c.args.line stage.Staged c.args.core.now c.program-programmed.new.self c.end_tried.new.core c.end_tried.result c.end_tried.ensures (c.in-InFlight.ensures.at_once has).commit

pub returns-in-Lost-clause-commit : goal.returns-in-Lost-clause-commit
returns-in-Lost-clause-commit g c has =
    let G = g.D.Counts in
    tried_commit G c.args.worker c.args.line (stage.Lost c.in-Lost.wanted c.in-Lost.found) c.args.core.now c.program-programmed.new.self c.end_tried-in-Lost.new.core c.end_tried-in-Lost.result c.end_tried-in-Lost.ensures
    (c.in-Lost.ensures.at_once has).commit

pub returns-in-Fault-clause-commit : goal.returns-in-Fault-clause-commit
returns-in-Fault-clause-commit g c has =
    let G = g.D.Counts in
    let u = c.args.core.now in
    subst (λ (x : Core g.row.D.Denot). KeepsCommit u x) (sym c.note_failure.ensures.noted) (noted_commit G c.args.worker c.args.line u c.program-programmed.new.self (c.in-Fault.ensures.at_once has).commit)
