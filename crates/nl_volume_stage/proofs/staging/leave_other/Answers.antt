use Rattle.std.proofs.Common.{◌∙◌, inl, inr, ⊎_elim, refl, sym}
use Rattle.nl_volume_stage.proofs.Nexts.{goal_dropped, staged_dropped}
use Rattle.nl_volume_stage.proofs.Pages.{dropped_pages, own_pages}
use Rattle.nl_volume_stage.proofs.Stages.{passes_dropped, passes_none}
use Rattle.nl_core.proofs.LastCommits.{drops_leaves, drops_room, leaves_none, room_none}
use Rattle.nl_volume_stage.proofs.staging.leave_other.Goals as goal

pub returns-then-now-line-clause-passes : goal.returns-then-now-line-clause-passes
returns-then-now-line-clause-passes g c =
    let G = g.D.Counts in
    let u = c.args.core.now in
    let e = c.drop_line.ensures in
    passes_dropped G c.args.worker c.args.line u c.drop_line.new.self c.requires.stands.4.serves.core e.core c.counts.ensures c.requires.known c.requires.some
    (λ same. c.if-now-line.true (c.line-now.ensures.line ∙ same)) 0 e.goes e.dropped

pub returns-else-now-ne0-clause-passes : goal.returns-else-now-ne0-clause-passes
returns-else-now-ne0-clause-passes g c =
    let G = g.D.Counts in
    passes_none G c.args.worker c.args.line c.args.core.now c.requires.stands.4.serves.core

pub returns-else-now-ne0-clause-line : goal.returns-else-now-ne0-clause-line
returns-else-now-ne0-clause-line g c = ⊎_elim (λ is. inr (sym c.line-now.ensures.line ∙ is.1)) (λ none. inl (sym c.line-now.ensures.line ∙ none)) c.else-now-ne0.either

pub returns-then-now-line-clause-staged : goal.returns-then-now-line-clause-staged
returns-then-now-line-clause-staged g c =
    let G = g.D.Counts in
    let u = c.args.core.now in
    staged_dropped G c.args.worker c.args.line u c.drop_line.new.self c.requires.stands.4.serves.core c.requires.known c.requires.some (λ same. c.if-now-line.true (c.line-now.ensures.line ∙ same)) c.drop_line.ensures.dropped

pub returns-else-now-ne0-clause-staged : goal.returns-else-now-ne0-clause-staged
returns-else-now-ne0-clause-staged g c = refl

pub returns-then-now-line-clause-pages : goal.returns-then-now-line-clause-pages
returns-then-now-line-clause-pages g c =
    let G = g.D.Counts in
    let u = c.args.core.now in
    dropped_pages G c.args.worker c.args.line u c.drop_line.new.self c.requires.stands.4.serves.core c.requires.known (λ same. c.if-now-line.true (c.line-now.ensures.line ∙ same)) c.drop_line.ensures.dropped

pub returns-else-now-ne0-clause-pages : goal.returns-else-now-ne0-clause-pages
returns-else-now-ne0-clause-pages g c =
    let u = c.args.core.now in
    own_pages u.flight c.args.worker c.args.line c.requires.some (⊎_elim (λ is. inr (sym c.line-now.ensures.line ∙ is.1)) (λ none. inl (sym c.line-now.ensures.line ∙ none)) c.else-now-ne0.either)
    (λ none. (c.requires.stands.4.serves.core.flight.idle c.args.worker none).0)

pub returns-then-now-line-clause-write_faults : goal.returns-then-now-line-clause-write_faults
returns-then-now-line-clause-write_faults g c = c.drop_line.ensures.dropped.frees.kept.write_faults

pub returns-then-now-line-clause-kept : goal.returns-then-now-line-clause-kept
returns-then-now-line-clause-kept g c = drops_leaves g.D.Counts c.args.worker c.args.core.now c.drop_line.new.self c.drop_line.ensures.dropped

pub returns-then-now-line-clause-room : goal.returns-then-now-line-clause-room
returns-then-now-line-clause-room g c = drops_room g.D.Counts c.args.worker c.args.core.now c.drop_line.new.self c.drop_line.ensures.dropped

pub returns-else-now-ne0-clause-kept : goal.returns-else-now-ne0-clause-kept
returns-else-now-ne0-clause-kept g c = leaves_none g.D.Counts c.args.core.now

pub returns-else-now-ne0-clause-room : goal.returns-else-now-ne0-clause-room
returns-else-now-ne0-clause-room g c = room_none g.D.Counts 0 c.args.core.now

pub returns-then-now-line-clause-goal : goal.returns-then-now-line-clause-goal
returns-then-now-line-clause-goal g c =
    let G = g.D.Counts in
    goal_dropped G c.args.worker c.args.line c.args.core.now c.drop_line.new.self c.requires.stands.4.serves.core c.requires.known c.requires.some (λ same. c.if-now-line.true (c.line-now.ensures.line ∙ same)) c.drop_line.ensures.dropped

pub returns-then-now-line-clause-others : goal.returns-then-now-line-clause-others
returns-then-now-line-clause-others g c = c.drop_line.ensures.dropped.others

pub returns-else-now-ne0-clause-others : goal.returns-else-now-ne0-clause-others
returns-else-now-ne0-clause-others g c = refl
