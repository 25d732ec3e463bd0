use Rattle.std.proofs.Common.{◌∙◌, ◌<◌, refl, sym, ap, subst, arith}
use Rattle.nl_flight.specs.Flight.{IsFlight}
use Rattle.nl_tree.specs.Causes.{FaultRose}
use Rattle.nl_calls_steps.specs.Calls.{counts_of}
use Rattle.nl_tree.specs.declared.call.Call.TheVariants.{Sync}
use Rattle.nl_tree.specs.declared.turn.Stage.TheVariants as stage
use Rattle.nl_core.specs.Core.{IsCore}
use Rattle.nl_core.specs.Goes.{PreservesVolume}
use Rattle.nl_core.specs.LastCommit.{LeavesMedium}
use Rattle.nl_core.specs.Lines.{fixes_goal, notes_fault}
use Rattle.nl_core.specs.Programming.{HasLineOrNone}
use Rattle.nl_core.specs.Units.{DoesUnit, goal_of, goal_or}
use Rattle.nl_core.specs.declared.state.Core.{Core}
use Rattle.nl_volume_stage.specs.StagedPages.{KeepsLinePages}
use Rattle.nl_volume_stage.specs.Staging.{StagesTurn, TellsUnit}
use Rattle.nl_volume_stage.specs.Turns.{AreCounts}
use Rattle.nl_volume_stage.proofs.Fixed.{due_within, failed_goal, failed_line, failed_pages, goal_is, leaves_fixed, line_tried, lost_cause, pages_fixed, pages_tried, unit_goes, has_fixed, tells_tried, tells_unit, tells_whole, turn_done, turn_failed, turn_tried, turn_whole}
use Rattle.nl_volume_stage.proofs.Pages.{tried_not, tried_writable}
use Rattle.nl_volume_stage.proofs.Serving.{goals_within}
use Rattle.nl_volume_stage.proofs.staging.stage_sync.Goals as goal

pub returns-then-core-goal-clause-stages : goal.returns-then-core-goal-clause-stages
returns-then-core-goal-clause-stages g c =
    let G = g.D.Counts in
    let s = c.requires.stands in
    let u = c.args.core.now in
    let k = c.args.worker in
    let l = c.args.line in
    let core = s.4.serves.core in
    let f = c.fix_goal-goal.ensures in
    let v : Core g.row.D.Denot = fixes_goal k l u in
    let after : IsCore G v = subst (λ (x : Core g.row.D.Denot). IsCore G x) f.fixed f.core in
    let most : AreCounts G v = subst (λ (x : Core g.row.D.Denot). AreCounts G x) f.fixed c.counts.ensures in
    let goes : PreservesVolume G 0 u v = subst (λ (x : Core g.row.D.Denot). PreservesVolume G 0 u x) f.fixed f.goes in
    subst (λ (x : Core g.row.D.Denot). StagesTurn G k l Sync u x stage.Whole) (sym f.fixed) (turn_whole G u k l core c.requires.known c.requires.some c.requires.line after most goes)

pub returns-then-core-goal-clause-units : goal.returns-then-core-goal-clause-units
returns-then-core-goal-clause-units g c =
    let G = g.D.Counts in
    let s = c.requires.stands in
    let u = c.args.core.now in
    let k = c.args.worker in
    let l = c.args.line in
    let core = s.4.serves.core in
    let f = c.fix_goal-goal.ensures in
    let v : Core g.row.D.Denot = fixes_goal k l u in
    let after : IsCore G v = subst (λ (x : Core g.row.D.Denot). IsCore G x) f.fixed f.core in
    let most : AreCounts G v = subst (λ (x : Core g.row.D.Denot). AreCounts G x) f.fixed c.counts.ensures in
    let goes : PreservesVolume G 0 u v = subst (λ (x : Core g.row.D.Denot). PreservesVolume G 0 u x) f.fixed f.goes in
    let is = f.goal ∙ goal_is G u k l core c.requires.known c.requires.some c.requires.line in
    let committed = ap (λ (x : Core g.row.D.Denot). x.committed) f.fixed in
    let above = c.if-core-goal.true in
    subst (λ (x : Core g.row.D.Denot). TellsUnit G k l Sync u x stage.Whole) (sym f.fixed) (tells_whole G u k l core c.requires.known c.requires.some c.requires.line (omega (arith, is, committed, above)))

pub returns-then-core-goal-clause-line : goal.returns-then-core-goal-clause-line
returns-then-core-goal-clause-line g c =
    let G = g.D.Counts in
    let s = c.requires.stands in
    let u = c.args.core.now in
    let k = c.args.worker in
    let l = c.args.line in
    let core = s.4.serves.core in
    let f = c.fix_goal-goal.ensures in
    let v : Core g.row.D.Denot = fixes_goal k l u in
    let after : IsCore G v = subst (λ (x : Core g.row.D.Denot). IsCore G x) f.fixed f.core in
    let most : AreCounts G v = subst (λ (x : Core g.row.D.Denot). AreCounts G x) f.fixed c.counts.ensures in
    let goes : PreservesVolume G 0 u v = subst (λ (x : Core g.row.D.Denot). PreservesVolume G 0 u x) f.fixed f.goes in
    subst (λ (x : Core g.row.D.Denot). HasLineOrNone x.flight k l) (sym f.fixed) (has_fixed G u k l core c.requires.known c.requires.some c.requires.line)

pub returns-then-core-goal-clause-pages : goal.returns-then-core-goal-clause-pages
returns-then-core-goal-clause-pages g c =
    let G = g.D.Counts in
    let s = c.requires.stands in
    let u = c.args.core.now in
    let k = c.args.worker in
    let l = c.args.line in
    let core = s.4.serves.core in
    let f = c.fix_goal-goal.ensures in
    let v : Core g.row.D.Denot = fixes_goal k l u in
    let after : IsCore G v = subst (λ (x : Core g.row.D.Denot). IsCore G x) f.fixed f.core in
    let most : AreCounts G v = subst (λ (x : Core g.row.D.Denot). AreCounts G x) f.fixed c.counts.ensures in
    let goes : PreservesVolume G 0 u v = subst (λ (x : Core g.row.D.Denot). PreservesVolume G 0 u x) f.fixed f.goes in
    subst (λ (x : Core g.row.D.Denot). KeepsLinePages k l u.flight x.flight) (sym f.fixed) (pages_fixed G u k l core c.requires.known c.requires.some c.requires.line)

pub returns-then-core-goal-clause-unfailed : goal.returns-then-core-goal-clause-unfailed
returns-then-core-goal-clause-unfailed g c far =
    let f = c.fix_goal-goal.ensures in
    record { writes = ap (λ (x : Core g.row.D.Denot). x.stopped) f.fixed ∙ c.requires.writes; count = ap (λ (x : Core g.row.D.Denot). g.D.Counts.write_faults x.device) f.fixed }

pub returns-then-core-goal-clause-kept : goal.returns-then-core-goal-clause-kept
returns-then-core-goal-clause-kept g c whole =
    let G = g.D.Counts in
    let s = c.requires.stands in
    let u = c.args.core.now in
    let k = c.args.worker in
    let l = c.args.line in
    let core = s.4.serves.core in
    let f = c.fix_goal-goal.ensures in
    let v : Core g.row.D.Denot = fixes_goal k l u in
    let after : IsCore G v = subst (λ (x : Core g.row.D.Denot). IsCore G x) f.fixed f.core in
    let most : AreCounts G v = subst (λ (x : Core g.row.D.Denot). AreCounts G x) f.fixed c.counts.ensures in
    let goes : PreservesVolume G 0 u v = subst (λ (x : Core g.row.D.Denot). PreservesVolume G 0 u x) f.fixed f.goes in
    subst (λ (x : Core g.row.D.Denot). LeavesMedium G u x) (sym f.fixed) (leaves_fixed G u k l core c.requires.known c.requires.some c.requires.line)

pub returns-in-Done-clause-stages : goal.returns-in-Done-clause-stages
returns-in-Done-clause-stages g c =
    let G = g.D.Counts in
    let s = c.requires.stands in
    let u = c.args.core.now in
    let k = c.args.worker in
    let l = c.args.line in
    let core = s.4.serves.core in
    let f = c.fix_goal-goal.ensures in
    let v : Core g.row.D.Denot = fixes_goal k l u in
    let after : IsCore G v = subst (λ (x : Core g.row.D.Denot). IsCore G x) f.fixed f.core in
    let most : AreCounts G v = subst (λ (x : Core g.row.D.Denot). AreCounts G x) f.fixed c.counts.ensures in
    let goes : PreservesVolume G 0 u v = subst (λ (x : Core g.row.D.Denot). PreservesVolume G 0 u x) f.fixed f.goes in
    let w = c.unit-done.new.self in
    let d = c.unit-done.ensures in
    let second : PreservesVolume G 1 v w = subst (λ (x : Core g.row.D.Denot). PreservesVolume G 1 x w) f.fixed d.goes in
    let does : DoesUnit G v w c.unit-done.result = subst (λ (x : Core g.row.D.Denot). DoesUnit G x w c.unit-done.result) f.fixed d.does in
    let within = goals_within G s.0 s.1 s.2 u s.3 s.4 in
    let low = due_within G u k l core c.requires.known c.requires.some c.requires.line within in
    let is = f.goal ∙ goal_is G u k l core c.requires.known c.requires.some c.requires.line in
    let committed = ap (λ (x : Core g.row.D.Denot). x.committed) f.fixed in
    let above = c.if-core-goal.false in
    let more : u.committed < goal_or (goal_of u.flight k l) u.count = omega (arith, is, committed, above) in
    turn_tried G u k l core c.requires.known c.requires.some c.requires.line within w c.unit-done.result after most goes d.core c.counts-2.ensures second does c.requires.writes c.device_stands-2.ensures.volume c.device_stands-2.ensures.pages low more stage.Staged c.end_tried.new.core c.end_tried.result (turn_done G u k l core c.requires.known c.requires.some c.requires.line within w c.unit-done.result after most goes d.core c.counts-2.ensures second does stage.Staged refl (λ at. c.in-Done.is) low more (λ at. absurd (cc at)) (λ y z at. absurd (cc at))) c.end_tried.ensures

pub returns-in-Done-clause-units : goal.returns-in-Done-clause-units
returns-in-Done-clause-units g c =
    let G = g.D.Counts in
    let s = c.requires.stands in
    let u = c.args.core.now in
    let k = c.args.worker in
    let l = c.args.line in
    let core = s.4.serves.core in
    let f = c.fix_goal-goal.ensures in
    let v : Core g.row.D.Denot = fixes_goal k l u in
    let after : IsCore G v = subst (λ (x : Core g.row.D.Denot). IsCore G x) f.fixed f.core in
    let most : AreCounts G v = subst (λ (x : Core g.row.D.Denot). AreCounts G x) f.fixed c.counts.ensures in
    let goes : PreservesVolume G 0 u v = subst (λ (x : Core g.row.D.Denot). PreservesVolume G 0 u x) f.fixed f.goes in
    let w = c.unit-done.new.self in
    let d = c.unit-done.ensures in
    let second : PreservesVolume G 1 v w = subst (λ (x : Core g.row.D.Denot). PreservesVolume G 1 x w) f.fixed d.goes in
    let does : DoesUnit G v w c.unit-done.result = subst (λ (x : Core g.row.D.Denot). DoesUnit G x w c.unit-done.result) f.fixed d.does in
    let within = goals_within G s.0 s.1 s.2 u s.3 s.4 in
    let low = due_within G u k l core c.requires.known c.requires.some c.requires.line within in
    let is = f.goal ∙ goal_is G u k l core c.requires.known c.requires.some c.requires.line in
    let committed = ap (λ (x : Core g.row.D.Denot). x.committed) f.fixed in
    let above = c.if-core-goal.false in
    let more : u.committed < goal_or (goal_of u.flight k l) u.count = omega (arith, is, committed, above) in
    tells_tried G u k l core c.requires.known c.requires.some c.requires.line within w c.unit-done.result after most goes d.core c.counts-2.ensures second does c.requires.writes c.device_stands-2.ensures.volume c.device_stands-2.ensures.pages low more stage.Staged c.end_tried.new.core c.end_tried.result (λ at. c.in-Done.is) (λ at. absurd (cc at)) c.end_tried.ensures

pub returns-in-Done-clause-not_stopped : goal.returns-in-Done-clause-not_stopped
returns-in-Done-clause-not_stopped g c = tried_not g.D.Counts c.args.worker c.args.line stage.Staged c.unit-done.new.self c.end_tried.new.core c.end_tried.result c.end_tried.ensures stage.Stopped (λ is. absurd (cc is)) (λ is. absurd (cc is))

pub returns-in-Done-clause-line : goal.returns-in-Done-clause-line
returns-in-Done-clause-line g c =
    let G = g.D.Counts in
    let s = c.requires.stands in
    let u = c.args.core.now in
    let k = c.args.worker in
    let l = c.args.line in
    let core = s.4.serves.core in
    let f = c.fix_goal-goal.ensures in
    let v : Core g.row.D.Denot = fixes_goal k l u in
    let after : IsCore G v = subst (λ (x : Core g.row.D.Denot). IsCore G x) f.fixed f.core in
    let most : AreCounts G v = subst (λ (x : Core g.row.D.Denot). AreCounts G x) f.fixed c.counts.ensures in
    let goes : PreservesVolume G 0 u v = subst (λ (x : Core g.row.D.Denot). PreservesVolume G 0 u x) f.fixed f.goes in
    let w = c.unit-done.new.self in
    let d = c.unit-done.ensures in
    let second : PreservesVolume G 1 v w = subst (λ (x : Core g.row.D.Denot). PreservesVolume G 1 x w) f.fixed d.goes in
    let does : DoesUnit G v w c.unit-done.result = subst (λ (x : Core g.row.D.Denot). DoesUnit G x w c.unit-done.result) f.fixed d.does in
    let within = goals_within G s.0 s.1 s.2 u s.3 s.4 in
    let low = due_within G u k l core c.requires.known c.requires.some c.requires.line within in
    let is = f.goal ∙ goal_is G u k l core c.requires.known c.requires.some c.requires.line in
    let committed = ap (λ (x : Core g.row.D.Denot). x.committed) f.fixed in
    let above = c.if-core-goal.false in
    let more : u.committed < goal_or (goal_of u.flight k l) u.count = omega (arith, is, committed, above) in
    line_tried G u k l core c.requires.known c.requires.some c.requires.line within w c.unit-done.result after most goes d.core c.counts-2.ensures second does c.requires.writes c.device_stands-2.ensures.volume c.device_stands-2.ensures.pages low more stage.Staged c.end_tried.new.core c.end_tried.result c.end_tried.ensures

pub returns-in-Done-clause-pages : goal.returns-in-Done-clause-pages
returns-in-Done-clause-pages g c =
    let G = g.D.Counts in
    let s = c.requires.stands in
    let u = c.args.core.now in
    let k = c.args.worker in
    let l = c.args.line in
    let core = s.4.serves.core in
    let f = c.fix_goal-goal.ensures in
    let v : Core g.row.D.Denot = fixes_goal k l u in
    let after : IsCore G v = subst (λ (x : Core g.row.D.Denot). IsCore G x) f.fixed f.core in
    let most : AreCounts G v = subst (λ (x : Core g.row.D.Denot). AreCounts G x) f.fixed c.counts.ensures in
    let goes : PreservesVolume G 0 u v = subst (λ (x : Core g.row.D.Denot). PreservesVolume G 0 u x) f.fixed f.goes in
    let w = c.unit-done.new.self in
    let d = c.unit-done.ensures in
    let second : PreservesVolume G 1 v w = subst (λ (x : Core g.row.D.Denot). PreservesVolume G 1 x w) f.fixed d.goes in
    let does : DoesUnit G v w c.unit-done.result = subst (λ (x : Core g.row.D.Denot). DoesUnit G x w c.unit-done.result) f.fixed d.does in
    let within = goals_within G s.0 s.1 s.2 u s.3 s.4 in
    let low = due_within G u k l core c.requires.known c.requires.some c.requires.line within in
    let is = f.goal ∙ goal_is G u k l core c.requires.known c.requires.some c.requires.line in
    let committed = ap (λ (x : Core g.row.D.Denot). x.committed) f.fixed in
    let above = c.if-core-goal.false in
    let more : u.committed < goal_or (goal_of u.flight k l) u.count = omega (arith, is, committed, above) in
    pages_tried G u k l core c.requires.known c.requires.some c.requires.line within w c.unit-done.result after most goes d.core c.counts-2.ensures second does c.requires.writes c.device_stands-2.ensures.volume c.device_stands-2.ensures.pages low more stage.Staged c.end_tried.new.core c.end_tried.result c.end_tried.ensures

pub returns-in-Done-clause-unfailed : goal.returns-in-Done-clause-unfailed
returns-in-Done-clause-unfailed g c far =
    let G = g.D.Counts in
    let s = c.requires.stands in
    let u = c.args.core.now in
    let k = c.args.worker in
    let l = c.args.line in
    let core = s.4.serves.core in
    let f = c.fix_goal-goal.ensures in
    let v : Core g.row.D.Denot = fixes_goal k l u in
    let after : IsCore G v = subst (λ (x : Core g.row.D.Denot). IsCore G x) f.fixed f.core in
    let most : AreCounts G v = subst (λ (x : Core g.row.D.Denot). AreCounts G x) f.fixed c.counts.ensures in
    let goes : PreservesVolume G 0 u v = subst (λ (x : Core g.row.D.Denot). PreservesVolume G 0 u x) f.fixed f.goes in
    let w = c.unit-done.new.self in
    let d = c.unit-done.ensures in
    let second : PreservesVolume G 1 v w = subst (λ (x : Core g.row.D.Denot). PreservesVolume G 1 x w) f.fixed d.goes in
    let does : DoesUnit G v w c.unit-done.result = subst (λ (x : Core g.row.D.Denot). DoesUnit G x w c.unit-done.result) f.fixed d.does in
    let within = goals_within G s.0 s.1 s.2 u s.3 s.4 in
    let low = due_within G u k l core c.requires.known c.requires.some c.requires.line within in
    let is = f.goal ∙ goal_is G u k l core c.requires.known c.requires.some c.requires.line in
    let committed = ap (λ (x : Core g.row.D.Denot). x.committed) f.fixed in
    let above = c.if-core-goal.false in
    let more : u.committed < goal_or (goal_of u.flight k l) u.count = omega (arith, is, committed, above) in
    tried_writable G 1 u w (unit_goes G u k l core c.requires.known c.requires.some c.requires.line within w c.unit-done.result after most goes d.core c.counts-2.ensures second does) k l stage.Staged c.end_tried.new.core c.end_tried.result c.end_tried.ensures far

pub returns-in-Done-clause-kept : goal.returns-in-Done-clause-kept
returns-in-Done-clause-kept g c is = absurd (tried_not g.D.Counts c.args.worker c.args.line stage.Staged c.unit-done.new.self c.end_tried.new.core c.end_tried.result c.end_tried.ensures stage.Whole (λ is. absurd (cc is)) (λ is. absurd (cc is)) is)

pub returns-in-Lost-clause-stages : goal.returns-in-Lost-clause-stages
returns-in-Lost-clause-stages g c =
    let G = g.D.Counts in
    let s = c.requires.stands in
    let u = c.args.core.now in
    let k = c.args.worker in
    let l = c.args.line in
    let core = s.4.serves.core in
    let f = c.fix_goal-goal.ensures in
    let v : Core g.row.D.Denot = fixes_goal k l u in
    let after : IsCore G v = subst (λ (x : Core g.row.D.Denot). IsCore G x) f.fixed f.core in
    let most : AreCounts G v = subst (λ (x : Core g.row.D.Denot). AreCounts G x) f.fixed c.counts.ensures in
    let goes : PreservesVolume G 0 u v = subst (λ (x : Core g.row.D.Denot). PreservesVolume G 0 u x) f.fixed f.goes in
    let w = c.unit-done.new.self in
    let d = c.unit-done.ensures in
    let second : PreservesVolume G 1 v w = subst (λ (x : Core g.row.D.Denot). PreservesVolume G 1 x w) f.fixed d.goes in
    let does : DoesUnit G v w c.unit-done.result = subst (λ (x : Core g.row.D.Denot). DoesUnit G x w c.unit-done.result) f.fixed d.does in
    let within = goals_within G s.0 s.1 s.2 u s.3 s.4 in
    let low = due_within G u k l core c.requires.known c.requires.some c.requires.line within in
    let is = f.goal ∙ goal_is G u k l core c.requires.known c.requires.some c.requires.line in
    let committed = ap (λ (x : Core g.row.D.Denot). x.committed) f.fixed in
    let above = c.if-core-goal.false in
    let more : u.committed < goal_or (goal_of u.flight k l) u.count = omega (arith, is, committed, above) in
    turn_tried G u k l core c.requires.known c.requires.some c.requires.line within w c.unit-done.result after most goes d.core c.counts-2.ensures second does c.requires.writes c.device_stands-2.ensures.volume c.device_stands-2.ensures.pages low more (stage.Lost c.in-Lost.wanted c.in-Lost.found) c.end_tried-in-Lost.new.core c.end_tried-in-Lost.result (turn_done G u k l core c.requires.known c.requires.some c.requires.line within w c.unit-done.result after most goes d.core c.counts-2.ensures second does (stage.Lost c.in-Lost.wanted c.in-Lost.found) refl (λ at. absurd (cc at)) low more (λ at. absurd (cc at)) (lost_cause G.tells c.in-Lost.wanted c.in-Lost.found (let o = does.lost c.in-Lost.wanted c.in-Lost.found c.in-Lost.is in (o.1, λ same. o.0 (sym same))))) c.end_tried-in-Lost.ensures

pub returns-in-Lost-clause-units : goal.returns-in-Lost-clause-units
returns-in-Lost-clause-units g c =
    let G = g.D.Counts in
    let s = c.requires.stands in
    let u = c.args.core.now in
    let k = c.args.worker in
    let l = c.args.line in
    let core = s.4.serves.core in
    let f = c.fix_goal-goal.ensures in
    let v : Core g.row.D.Denot = fixes_goal k l u in
    let after : IsCore G v = subst (λ (x : Core g.row.D.Denot). IsCore G x) f.fixed f.core in
    let most : AreCounts G v = subst (λ (x : Core g.row.D.Denot). AreCounts G x) f.fixed c.counts.ensures in
    let goes : PreservesVolume G 0 u v = subst (λ (x : Core g.row.D.Denot). PreservesVolume G 0 u x) f.fixed f.goes in
    let w = c.unit-done.new.self in
    let d = c.unit-done.ensures in
    let second : PreservesVolume G 1 v w = subst (λ (x : Core g.row.D.Denot). PreservesVolume G 1 x w) f.fixed d.goes in
    let does : DoesUnit G v w c.unit-done.result = subst (λ (x : Core g.row.D.Denot). DoesUnit G x w c.unit-done.result) f.fixed d.does in
    let within = goals_within G s.0 s.1 s.2 u s.3 s.4 in
    let low = due_within G u k l core c.requires.known c.requires.some c.requires.line within in
    let is = f.goal ∙ goal_is G u k l core c.requires.known c.requires.some c.requires.line in
    let committed = ap (λ (x : Core g.row.D.Denot). x.committed) f.fixed in
    let above = c.if-core-goal.false in
    let more : u.committed < goal_or (goal_of u.flight k l) u.count = omega (arith, is, committed, above) in
    tells_tried G u k l core c.requires.known c.requires.some c.requires.line within w c.unit-done.result after most goes d.core c.counts-2.ensures second does c.requires.writes c.device_stands-2.ensures.volume c.device_stands-2.ensures.pages low more (stage.Lost c.in-Lost.wanted c.in-Lost.found) c.end_tried-in-Lost.new.core c.end_tried-in-Lost.result (λ at. absurd (cc at)) (λ at. absurd (cc at)) c.end_tried-in-Lost.ensures

pub returns-in-Lost-clause-not_stopped : goal.returns-in-Lost-clause-not_stopped
returns-in-Lost-clause-not_stopped g c = tried_not g.D.Counts c.args.worker c.args.line (stage.Lost c.in-Lost.wanted c.in-Lost.found) c.unit-done.new.self c.end_tried-in-Lost.new.core c.end_tried-in-Lost.result c.end_tried-in-Lost.ensures stage.Stopped (λ is. absurd (cc is)) (λ is. absurd (cc is))

pub returns-in-Lost-clause-line : goal.returns-in-Lost-clause-line
returns-in-Lost-clause-line g c =
    let G = g.D.Counts in
    let s = c.requires.stands in
    let u = c.args.core.now in
    let k = c.args.worker in
    let l = c.args.line in
    let core = s.4.serves.core in
    let f = c.fix_goal-goal.ensures in
    let v : Core g.row.D.Denot = fixes_goal k l u in
    let after : IsCore G v = subst (λ (x : Core g.row.D.Denot). IsCore G x) f.fixed f.core in
    let most : AreCounts G v = subst (λ (x : Core g.row.D.Denot). AreCounts G x) f.fixed c.counts.ensures in
    let goes : PreservesVolume G 0 u v = subst (λ (x : Core g.row.D.Denot). PreservesVolume G 0 u x) f.fixed f.goes in
    let w = c.unit-done.new.self in
    let d = c.unit-done.ensures in
    let second : PreservesVolume G 1 v w = subst (λ (x : Core g.row.D.Denot). PreservesVolume G 1 x w) f.fixed d.goes in
    let does : DoesUnit G v w c.unit-done.result = subst (λ (x : Core g.row.D.Denot). DoesUnit G x w c.unit-done.result) f.fixed d.does in
    let within = goals_within G s.0 s.1 s.2 u s.3 s.4 in
    let low = due_within G u k l core c.requires.known c.requires.some c.requires.line within in
    let is = f.goal ∙ goal_is G u k l core c.requires.known c.requires.some c.requires.line in
    let committed = ap (λ (x : Core g.row.D.Denot). x.committed) f.fixed in
    let above = c.if-core-goal.false in
    let more : u.committed < goal_or (goal_of u.flight k l) u.count = omega (arith, is, committed, above) in
    line_tried G u k l core c.requires.known c.requires.some c.requires.line within w c.unit-done.result after most goes d.core c.counts-2.ensures second does c.requires.writes c.device_stands-2.ensures.volume c.device_stands-2.ensures.pages low more (stage.Lost c.in-Lost.wanted c.in-Lost.found) c.end_tried-in-Lost.new.core c.end_tried-in-Lost.result c.end_tried-in-Lost.ensures

pub returns-in-Lost-clause-pages : goal.returns-in-Lost-clause-pages
returns-in-Lost-clause-pages g c =
    let G = g.D.Counts in
    let s = c.requires.stands in
    let u = c.args.core.now in
    let k = c.args.worker in
    let l = c.args.line in
    let core = s.4.serves.core in
    let f = c.fix_goal-goal.ensures in
    let v : Core g.row.D.Denot = fixes_goal k l u in
    let after : IsCore G v = subst (λ (x : Core g.row.D.Denot). IsCore G x) f.fixed f.core in
    let most : AreCounts G v = subst (λ (x : Core g.row.D.Denot). AreCounts G x) f.fixed c.counts.ensures in
    let goes : PreservesVolume G 0 u v = subst (λ (x : Core g.row.D.Denot). PreservesVolume G 0 u x) f.fixed f.goes in
    let w = c.unit-done.new.self in
    let d = c.unit-done.ensures in
    let second : PreservesVolume G 1 v w = subst (λ (x : Core g.row.D.Denot). PreservesVolume G 1 x w) f.fixed d.goes in
    let does : DoesUnit G v w c.unit-done.result = subst (λ (x : Core g.row.D.Denot). DoesUnit G x w c.unit-done.result) f.fixed d.does in
    let within = goals_within G s.0 s.1 s.2 u s.3 s.4 in
    let low = due_within G u k l core c.requires.known c.requires.some c.requires.line within in
    let is = f.goal ∙ goal_is G u k l core c.requires.known c.requires.some c.requires.line in
    let committed = ap (λ (x : Core g.row.D.Denot). x.committed) f.fixed in
    let above = c.if-core-goal.false in
    let more : u.committed < goal_or (goal_of u.flight k l) u.count = omega (arith, is, committed, above) in
    pages_tried G u k l core c.requires.known c.requires.some c.requires.line within w c.unit-done.result after most goes d.core c.counts-2.ensures second does c.requires.writes c.device_stands-2.ensures.volume c.device_stands-2.ensures.pages low more (stage.Lost c.in-Lost.wanted c.in-Lost.found) c.end_tried-in-Lost.new.core c.end_tried-in-Lost.result c.end_tried-in-Lost.ensures

pub returns-in-Lost-clause-unfailed : goal.returns-in-Lost-clause-unfailed
returns-in-Lost-clause-unfailed g c far =
    let G = g.D.Counts in
    let s = c.requires.stands in
    let u = c.args.core.now in
    let k = c.args.worker in
    let l = c.args.line in
    let core = s.4.serves.core in
    let f = c.fix_goal-goal.ensures in
    let v : Core g.row.D.Denot = fixes_goal k l u in
    let after : IsCore G v = subst (λ (x : Core g.row.D.Denot). IsCore G x) f.fixed f.core in
    let most : AreCounts G v = subst (λ (x : Core g.row.D.Denot). AreCounts G x) f.fixed c.counts.ensures in
    let goes : PreservesVolume G 0 u v = subst (λ (x : Core g.row.D.Denot). PreservesVolume G 0 u x) f.fixed f.goes in
    let w = c.unit-done.new.self in
    let d = c.unit-done.ensures in
    let second : PreservesVolume G 1 v w = subst (λ (x : Core g.row.D.Denot). PreservesVolume G 1 x w) f.fixed d.goes in
    let does : DoesUnit G v w c.unit-done.result = subst (λ (x : Core g.row.D.Denot). DoesUnit G x w c.unit-done.result) f.fixed d.does in
    let within = goals_within G s.0 s.1 s.2 u s.3 s.4 in
    let low = due_within G u k l core c.requires.known c.requires.some c.requires.line within in
    let is = f.goal ∙ goal_is G u k l core c.requires.known c.requires.some c.requires.line in
    let committed = ap (λ (x : Core g.row.D.Denot). x.committed) f.fixed in
    let above = c.if-core-goal.false in
    let more : u.committed < goal_or (goal_of u.flight k l) u.count = omega (arith, is, committed, above) in
    tried_writable G 1 u w (unit_goes G u k l core c.requires.known c.requires.some c.requires.line within w c.unit-done.result after most goes d.core c.counts-2.ensures second does) k l (stage.Lost c.in-Lost.wanted c.in-Lost.found) c.end_tried-in-Lost.new.core c.end_tried-in-Lost.result c.end_tried-in-Lost.ensures far

pub returns-in-Lost-clause-kept : goal.returns-in-Lost-clause-kept
returns-in-Lost-clause-kept g c is = absurd (tried_not g.D.Counts c.args.worker c.args.line (stage.Lost c.in-Lost.wanted c.in-Lost.found) c.unit-done.new.self c.end_tried-in-Lost.new.core c.end_tried-in-Lost.result c.end_tried-in-Lost.ensures stage.Whole (λ is. absurd (cc is)) (λ is. absurd (cc is)) is)

pub returns-in-Fault-clause-stages : goal.returns-in-Fault-clause-stages
returns-in-Fault-clause-stages g c =
    let G = g.D.Counts in
    let s = c.requires.stands in
    let u = c.args.core.now in
    let k = c.args.worker in
    let l = c.args.line in
    let core = s.4.serves.core in
    let f = c.fix_goal-goal.ensures in
    let v : Core g.row.D.Denot = fixes_goal k l u in
    let after : IsCore G v = subst (λ (x : Core g.row.D.Denot). IsCore G x) f.fixed f.core in
    let most : AreCounts G v = subst (λ (x : Core g.row.D.Denot). AreCounts G x) f.fixed c.counts.ensures in
    let goes : PreservesVolume G 0 u v = subst (λ (x : Core g.row.D.Denot). PreservesVolume G 0 u x) f.fixed f.goes in
    let w = c.unit-done.new.self in
    let d = c.unit-done.ensures in
    let second : PreservesVolume G 1 v w = subst (λ (x : Core g.row.D.Denot). PreservesVolume G 1 x w) f.fixed d.goes in
    let does : DoesUnit G v w c.unit-done.result = subst (λ (x : Core g.row.D.Denot). DoesUnit G x w c.unit-done.result) f.fixed d.does in
    let within = goals_within G s.0 s.1 s.2 u s.3 s.4 in
    let low = due_within G u k l core c.requires.known c.requires.some c.requires.line within in
    let is = f.goal ∙ goal_is G u k l core c.requires.known c.requires.some c.requires.line in
    let committed = ap (λ (x : Core g.row.D.Denot). x.committed) f.fixed in
    let above = c.if-core-goal.false in
    let more : u.committed < goal_or (goal_of u.flight k l) u.count = omega (arith, is, committed, above) in
    let rose = subst (λ (x : Core g.row.D.Denot). FaultRose (counts_of G x.device) (counts_of G w.device)) f.fixed (d.faults c.in-Fault.is) in
    let noted = c.note_failure.ensures.noted in
    let lines = subst (λ (x : Core g.row.D.Denot). IsFlight x.flight) noted c.note_failure.ensures.lines in
    subst (λ (x : Core g.row.D.Denot). StagesTurn G k l Sync u x stage.Fault) (sym noted) (turn_failed G u k l core c.requires.known c.requires.some c.requires.line within w c.unit-done.result after most goes d.core c.counts-2.ensures second does c.device_stands-2.ensures.volume c.device_stands-2.ensures.pages rose lines)

pub returns-in-Fault-clause-units : goal.returns-in-Fault-clause-units
returns-in-Fault-clause-units g c =
    let G = g.D.Counts in
    let s = c.requires.stands in
    let u = c.args.core.now in
    let k = c.args.worker in
    let l = c.args.line in
    let core = s.4.serves.core in
    let f = c.fix_goal-goal.ensures in
    let v : Core g.row.D.Denot = fixes_goal k l u in
    let after : IsCore G v = subst (λ (x : Core g.row.D.Denot). IsCore G x) f.fixed f.core in
    let most : AreCounts G v = subst (λ (x : Core g.row.D.Denot). AreCounts G x) f.fixed c.counts.ensures in
    let goes : PreservesVolume G 0 u v = subst (λ (x : Core g.row.D.Denot). PreservesVolume G 0 u x) f.fixed f.goes in
    let w = c.unit-done.new.self in
    let d = c.unit-done.ensures in
    let second : PreservesVolume G 1 v w = subst (λ (x : Core g.row.D.Denot). PreservesVolume G 1 x w) f.fixed d.goes in
    let does : DoesUnit G v w c.unit-done.result = subst (λ (x : Core g.row.D.Denot). DoesUnit G x w c.unit-done.result) f.fixed d.does in
    let within = goals_within G s.0 s.1 s.2 u s.3 s.4 in
    let low = due_within G u k l core c.requires.known c.requires.some c.requires.line within in
    let is = f.goal ∙ goal_is G u k l core c.requires.known c.requires.some c.requires.line in
    let committed = ap (λ (x : Core g.row.D.Denot). x.committed) f.fixed in
    let above = c.if-core-goal.false in
    let more : u.committed < goal_or (goal_of u.flight k l) u.count = omega (arith, is, committed, above) in
    let rose = subst (λ (x : Core g.row.D.Denot). FaultRose (counts_of G x.device) (counts_of G w.device)) f.fixed (d.faults c.in-Fault.is) in
    let noted = c.note_failure.ensures.noted in
    let lines = subst (λ (x : Core g.row.D.Denot). IsFlight x.flight) noted c.note_failure.ensures.lines in
    subst (λ (x : Core g.row.D.Denot). TellsUnit G k l Sync u x stage.Fault) (sym noted) (tells_unit G u k l core c.requires.known c.requires.some c.requires.line within w c.unit-done.result after most goes d.core c.counts-2.ensures second does (notes_fault G k l w) stage.Fault (λ at. absurd (cc at)) (λ at. absurd (cc at)) low more (failed_goal G u k l core c.requires.known c.requires.some c.requires.line within w c.unit-done.result after most goes d.core c.counts-2.ensures second does c.device_stands-2.ensures.volume c.device_stands-2.ensures.pages rose lines))

pub returns-in-Fault-clause-line : goal.returns-in-Fault-clause-line
returns-in-Fault-clause-line g c =
    let G = g.D.Counts in
    let s = c.requires.stands in
    let u = c.args.core.now in
    let k = c.args.worker in
    let l = c.args.line in
    let core = s.4.serves.core in
    let f = c.fix_goal-goal.ensures in
    let v : Core g.row.D.Denot = fixes_goal k l u in
    let after : IsCore G v = subst (λ (x : Core g.row.D.Denot). IsCore G x) f.fixed f.core in
    let most : AreCounts G v = subst (λ (x : Core g.row.D.Denot). AreCounts G x) f.fixed c.counts.ensures in
    let goes : PreservesVolume G 0 u v = subst (λ (x : Core g.row.D.Denot). PreservesVolume G 0 u x) f.fixed f.goes in
    let w = c.unit-done.new.self in
    let d = c.unit-done.ensures in
    let second : PreservesVolume G 1 v w = subst (λ (x : Core g.row.D.Denot). PreservesVolume G 1 x w) f.fixed d.goes in
    let does : DoesUnit G v w c.unit-done.result = subst (λ (x : Core g.row.D.Denot). DoesUnit G x w c.unit-done.result) f.fixed d.does in
    let within = goals_within G s.0 s.1 s.2 u s.3 s.4 in
    let low = due_within G u k l core c.requires.known c.requires.some c.requires.line within in
    let is = f.goal ∙ goal_is G u k l core c.requires.known c.requires.some c.requires.line in
    let committed = ap (λ (x : Core g.row.D.Denot). x.committed) f.fixed in
    let above = c.if-core-goal.false in
    let more : u.committed < goal_or (goal_of u.flight k l) u.count = omega (arith, is, committed, above) in
    let rose = subst (λ (x : Core g.row.D.Denot). FaultRose (counts_of G x.device) (counts_of G w.device)) f.fixed (d.faults c.in-Fault.is) in
    let noted = c.note_failure.ensures.noted in
    let lines = subst (λ (x : Core g.row.D.Denot). IsFlight x.flight) noted c.note_failure.ensures.lines in
    subst (λ (x : Core g.row.D.Denot). HasLineOrNone x.flight k l) (sym noted) (failed_line G u k l core c.requires.known c.requires.some c.requires.line within w c.unit-done.result after most goes d.core c.counts-2.ensures second does c.device_stands-2.ensures.volume c.device_stands-2.ensures.pages rose lines)

pub returns-in-Fault-clause-pages : goal.returns-in-Fault-clause-pages
returns-in-Fault-clause-pages g c =
    let G = g.D.Counts in
    let s = c.requires.stands in
    let u = c.args.core.now in
    let k = c.args.worker in
    let l = c.args.line in
    let core = s.4.serves.core in
    let f = c.fix_goal-goal.ensures in
    let v : Core g.row.D.Denot = fixes_goal k l u in
    let after : IsCore G v = subst (λ (x : Core g.row.D.Denot). IsCore G x) f.fixed f.core in
    let most : AreCounts G v = subst (λ (x : Core g.row.D.Denot). AreCounts G x) f.fixed c.counts.ensures in
    let goes : PreservesVolume G 0 u v = subst (λ (x : Core g.row.D.Denot). PreservesVolume G 0 u x) f.fixed f.goes in
    let w = c.unit-done.new.self in
    let d = c.unit-done.ensures in
    let second : PreservesVolume G 1 v w = subst (λ (x : Core g.row.D.Denot). PreservesVolume G 1 x w) f.fixed d.goes in
    let does : DoesUnit G v w c.unit-done.result = subst (λ (x : Core g.row.D.Denot). DoesUnit G x w c.unit-done.result) f.fixed d.does in
    let within = goals_within G s.0 s.1 s.2 u s.3 s.4 in
    let low = due_within G u k l core c.requires.known c.requires.some c.requires.line within in
    let is = f.goal ∙ goal_is G u k l core c.requires.known c.requires.some c.requires.line in
    let committed = ap (λ (x : Core g.row.D.Denot). x.committed) f.fixed in
    let above = c.if-core-goal.false in
    let more : u.committed < goal_or (goal_of u.flight k l) u.count = omega (arith, is, committed, above) in
    let rose = subst (λ (x : Core g.row.D.Denot). FaultRose (counts_of G x.device) (counts_of G w.device)) f.fixed (d.faults c.in-Fault.is) in
    let noted = c.note_failure.ensures.noted in
    let lines = subst (λ (x : Core g.row.D.Denot). IsFlight x.flight) noted c.note_failure.ensures.lines in
    subst (λ (x : Core g.row.D.Denot). KeepsLinePages k l u.flight x.flight) (sym noted) (failed_pages G u k l core c.requires.known c.requires.some c.requires.line within w c.unit-done.result after most goes d.core c.counts-2.ensures second does c.device_stands-2.ensures.volume c.device_stands-2.ensures.pages rose lines)

pub returns-in-Fault-clause-unfailed : goal.returns-in-Fault-clause-unfailed
returns-in-Fault-clause-unfailed g c far = absurd (far refl)

pub returns-in-Fault-clause-kept : goal.returns-in-Fault-clause-kept
returns-in-Fault-clause-kept g c is = absurd (cc is)
