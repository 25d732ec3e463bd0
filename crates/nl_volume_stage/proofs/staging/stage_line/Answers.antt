use Rattle.std.proofs.Common.{◌∙◌, ◌^◌, ⊎_elim, inl, inr, refl, sym, subst, arith}
use Rattle.std.proofs.lemmas.Bool.{cases_lt}
use Rattle.nl_calls_bytes.specs.Ranges.{path_of}
use Rattle.nl_tree.specs.declared.call.Call.{Call}
use Rattle.nl_tree.specs.declared.turn.Stage.TheVariants as stage
use Rattle.nl_turns.specs.Served.{IsLineOf}
use Rattle.nl_volume_stage.specs.StagedPages.{IsTagOfCall, StagesPageOf}
use Rattle.nl_volume_stage.specs.Staging.{StagesTurn, TellsRest}
use Rattle.nl_volume_stage.proofs.Nexts.{tells_through}
use Rattle.nl_volume_stage.proofs.Own.{own_before}
use Rattle.nl_volume_stage.proofs.Pages.{leaves_call, leaves_from, leaves_page, own_pages, pages_stopped, writable_from}
use Rattle.nl_volume_stage.proofs.Rest.{passes_turn, rest_of_pages, rest_of_units, rest_stopped}
use Rattle.nl_volume_stage.proofs.Staged.{turn_of}
use Rattle.nl_volume_stage.proofs.Stages.{passes_then, stages_stopped}
use Rattle.nl_core.proofs.LastCommits.{leaves_then}
use Rattle.nl_volume_stage.proofs.Uncommitted.{page_then}
use Rattle.nl_volume_stage.proofs.staging.stage_line.Goals as goal
use Rattle.nl_volume_stage.proofs.staging.stage_line.Goals.{then-core-ne0-via-then-core-ne0, then-core-ne0-via-else-core-ne0+then-is_worn}

pub returns-then-core-ne0-clause-stages : goal.returns-then-core-ne0-clause-stages
returns-then-core-ne0-clause-stages g c =
    let G = g.D.Counts in
    turn_of G c.args.worker c.args.line c.args.call.now c.args.core.now c.leave_other.new.core stage.Stopped (stages_stopped G c.args.worker c.args.line c.args.call.now c.args.core.now c.leave_other.new.core c.leave_other.ensures.passes)

pub returns-then-core-ne0-clause-left : goal.returns-then-core-ne0-clause-left
returns-then-core-ne0-clause-left g c = rest_stopped g.D.Counts c.args.worker c.args.line c.args.call.now c.args.core.now c.leave_other.new.core

pub returns-then-core-ne0-clause-stopped : goal.returns-then-core-ne0-clause-stopped
returns-then-core-ne0-clause-stopped g c =
    let same = c.leave_other.ensures.stamp in (
      (λ is. elim c.then-core-ne0.branch [
        | then-core-ne0-via-then-core-ne0 w ↦ inl (λ none. w.if-core-ne0.true (c.leave_other.ensures.stopped ∙ none))
        | then-core-ne0-via-else-core-ne0+then-is_worn w ↦ inr (let high = w.is_worn.ensures.0 w.if-is_worn.true in omega (arith, high, same))
      ]),
      λ why. refl,
    )

pub stage_now-requires-clause-stands : goal.stage_now-requires-clause-stands
stage_now-requires-clause-stands g c = let s = c.requires.stands in (s.0, s.1, s.2, s.3, c.leave_other.ensures.passes.on s.0 s.1 s.2 s.3 s.4, s.5)

pub stage_now-requires-clause-stamp : goal.stage_now-requires-clause-stamp
stage_now-requires-clause-stamp g c = ⊎_elim (λ low. low) (λ high. absurd (cc (c.if-is_worn.ensures.1 high))) (cases_lt (g.D.Counts.next_stamp c.leave_other.new.core.device) (2 ^ 62))

pub returns-in_default-clause-stages : goal.returns-in_default-clause-stages
returns-in_default-clause-stages g c =
    let G = g.D.Counts in
    turn_of G c.args.worker c.args.line c.args.call.now c.args.core.now c.stage_now.new.core c.stage_now.result
    (passes_then G c.args.worker c.args.line c.args.call.now c.args.core.now c.leave_other.new.core c.stage_now.new.core c.stage_now.result
    c.leave_other.ensures.passes c.stage_now.ensures.stages)

pub returns-in_default-clause-stopped : goal.returns-in_default-clause-stopped
returns-in_default-clause-stopped g c =
    let same = c.leave_other.ensures.stamp in (
      (λ is. absurd (c.stage_now.ensures.not_stopped is)),
      λ why. ⊎_elim (λ off. absurd (off (sym c.leave_other.ensures.stopped ∙ c.if-core-ne0.false))) (λ high. absurd (cc (c.if-is_worn.ensures.1 (omega (arith, high, same))))) why,
    )

pub returns-in_default-clause-left : goal.returns-in_default-clause-left
returns-in_default-clause-left g c =
    let G = g.D.Counts in
    rest_of_pages G c.args.worker c.args.line c.args.call.now c.args.core.now c.stage_now.new.core c.stage_now.result c.in_default.not-Sync
    (tells_through G c.args.worker c.args.line c.args.call.now c.args.core.now c.leave_other.new.core c.stage_now.new.core c.stage_now.result
    c.leave_other.ensures.passes c.leave_other.ensures.staged c.stage_now.ensures.left)

pub returns-then-core-ne0-clause-in_flight : goal.returns-then-core-ne0-clause-in_flight
returns-then-core-ne0-clause-in_flight g c =
    let G = g.D.Counts in
    let u = c.args.core.now in
    record { line_is = c.leave_other.ensures.line; pages = pages_stopped G c.args.worker c.args.line (IsTagOfCall G u c.args.call.now) u c.leave_other.new.core stage.Stopped c.args.call.now c.leave_other.ensures.pages }

pub returns-in_default-clause-in_flight : goal.returns-in_default-clause-in_flight
returns-in_default-clause-in_flight g c =
    let G = g.D.Counts in
    let s = c.requires.stands in
    let u = c.args.core.now in
    let v = c.leave_other.new.core in
    let call = c.args.call.now in
    let p = c.leave_other.ensures.passes in
    let t = p.on s.0 s.1 s.2 s.3 s.4 in
    let stamp = c.leave_other.ensures.stamp in
    leaves_call G c.args.worker c.args.line (IsTagOfCall G u call) u c.stage_now.new.core c.stage_now.result call c.in_default.not-Sync
    (leaves_from G c.args.worker c.args.line (IsTagOfCall G v call) (IsTagOfCall G u call) u v c.stage_now.new.core (λ tag own. own_before G p.most u v p.goes (path_of call) tag own)
    (sym (own_pages v.flight c.args.worker c.args.line c.requires.some c.leave_other.ensures.line (λ none. (t.serves.core.flight.idle c.args.worker none).0)) ∙ c.leave_other.ensures.pages)
    (omega (arith, stamp)) c.stage_now.result (leaves_page G c.args.worker c.args.line (IsTagOfCall G v call) v c.stage_now.new.core c.stage_now.result call c.in_default.not-Sync c.stage_now.ensures.in_flight))

pub returns-then-core-ne0-clause-unfailed : goal.returns-then-core-ne0-clause-unfailed
returns-then-core-ne0-clause-unfailed g c far off = absurd (off refl)

pub returns-in_default-clause-unfailed : goal.returns-in_default-clause-unfailed
returns-in_default-clause-unfailed g c far off =
    writable_from g.D.Counts c.args.core.now c.leave_other.new.core c.stage_now.new.core c.leave_other.ensures.write_faults (c.stage_now.ensures.unfailed far)

-- ---- what stays

pub returns-then-core-ne0-clause-kept : goal.returns-then-core-ne0-clause-kept
returns-then-core-ne0-clause-kept g c is = c.leave_other.ensures.kept

pub returns-then-core-ne0-clause-commit : goal.returns-then-core-ne0-clause-commit
returns-then-core-ne0-clause-commit g c other has = c.leave_other.ensures.room.commit

pub returns-in_default-clause-kept : goal.returns-in_default-clause-kept
returns-in_default-clause-kept g c is =
    let G = g.D.Counts in
    let u = c.args.core.now in
    let v = c.leave_other.new.core in
    leaves_then G u v c.stage_now.new.core c.leave_other.ensures.kept (c.stage_now.ensures.kept (⊎_elim (λ stopped. absurd (c.stage_now.ensures.not_stopped stopped)) (λ whole. whole) is))

pub returns-in_default-clause-commit : goal.returns-in_default-clause-commit
returns-in_default-clause-commit g c other =
    let G = g.D.Counts in
    let u = c.args.core.now in
    let v = c.leave_other.new.core in
    page_then G u v c.stage_now.new.core c.leave_other.ensures.room c.stage_now.ensures.commit

-- ---- a sync

pub stage_sync-requires-clause-stands : goal.stage_sync-requires-clause-stands
stage_sync-requires-clause-stands g c = let s = c.requires.stands in (s.0, s.1, s.2, s.3, c.leave_other.ensures.passes.on s.0 s.1 s.2 s.3 s.4, subst (λ (x : Call). IsLineOf s.1 c.args.worker c.args.line x) c.in-Sync.is s.5)

pub stage_sync-requires-clause-stamp : goal.stage_sync-requires-clause-stamp
stage_sync-requires-clause-stamp g c = ⊎_elim (λ low. low) (λ high. absurd (cc (c.if-is_worn.ensures.1 high))) (cases_lt (g.D.Counts.next_stamp c.leave_other.new.core.device) (2 ^ 62))

pub returns-in-Sync-clause-stages : goal.returns-in-Sync-clause-stages
returns-in-Sync-clause-stages g c =
    let G = g.D.Counts in
    let u = c.args.core.now in
    let w = c.stage_sync.new.core in
    let answer = c.stage_sync.result in
    subst (λ (x : Call). StagesTurn G c.args.worker c.args.line x u w answer) (sym c.in-Sync.is)
    (passes_turn G c.args.worker c.args.line u c.leave_other.new.core w answer c.leave_other.ensures.passes c.leave_other.ensures.goal c.leave_other.ensures.kept c.leave_other.ensures.others c.stage_sync.ensures.stages)

pub returns-in-Sync-clause-left : goal.returns-in-Sync-clause-left
returns-in-Sync-clause-left g c =
    let G = g.D.Counts in
    let u = c.args.core.now in
    let w = c.stage_sync.new.core in
    let answer = c.stage_sync.result in
    subst (λ (x : Call). TellsRest G c.args.worker c.args.line x u w answer) (sym c.in-Sync.is)
    (rest_of_units G c.args.worker c.args.line u c.leave_other.new.core w answer c.leave_other.ensures.passes c.leave_other.ensures.goal c.leave_other.ensures.kept c.leave_other.ensures.others c.stage_sync.ensures.units)

pub returns-in-Sync-clause-stopped : goal.returns-in-Sync-clause-stopped
returns-in-Sync-clause-stopped g c =
    let same = c.leave_other.ensures.stamp in (
      (λ is. absurd (c.stage_sync.ensures.not_stopped is)),
      λ why. ⊎_elim (λ off. absurd (off (sym c.leave_other.ensures.stopped ∙ c.if-core-ne0.false))) (λ high. absurd (cc (c.if-is_worn.ensures.1 (omega (arith, high, same))))) why,
    )

pub returns-in-Sync-clause-in_flight : goal.returns-in-Sync-clause-in_flight
returns-in-Sync-clause-in_flight g c =
    let G = g.D.Counts in
    let s = c.requires.stands in
    let u = c.args.core.now in
    let v = c.leave_other.new.core in
    let w = c.stage_sync.new.core in
    let t = c.leave_other.ensures.passes.on s.0 s.1 s.2 s.3 s.4 in
    record {
      line_is = c.stage_sync.ensures.line;
      pages = subst (λ (x : Call). StagesPageOf G x c.args.worker c.args.line (IsTagOfCall G u c.args.call.now) u w c.stage_sync.result) (sym c.in-Sync.is)
          (c.stage_sync.ensures.pages ∙ (sym (own_pages v.flight c.args.worker c.args.line c.requires.some c.leave_other.ensures.line (λ none. (t.serves.core.flight.idle c.args.worker none).0)) ∙ c.leave_other.ensures.pages));
    }

pub returns-in-Sync-clause-unfailed : goal.returns-in-Sync-clause-unfailed
returns-in-Sync-clause-unfailed g c far off =
    writable_from g.D.Counts c.args.core.now c.leave_other.new.core c.stage_sync.new.core c.leave_other.ensures.write_faults (c.stage_sync.ensures.unfailed far)

pub returns-in-Sync-clause-kept : goal.returns-in-Sync-clause-kept
returns-in-Sync-clause-kept g c is =
    let G = g.D.Counts in
    leaves_then G c.args.core.now c.leave_other.new.core c.stage_sync.new.core c.leave_other.ensures.kept (c.stage_sync.ensures.kept (⊎_elim (λ stopped. absurd (c.stage_sync.ensures.not_stopped stopped)) (λ whole. whole) is))

pub returns-in-Sync-clause-commit : goal.returns-in-Sync-clause-commit
returns-in-Sync-clause-commit g c other = absurd (other c.in-Sync.is)
