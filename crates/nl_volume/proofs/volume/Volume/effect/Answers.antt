use Rattle.std.proofs.Common.{◌≡◌, ◌≢◌, ℕ, ◌∙◌, ◌≤◌, ◌++◌, ◌∷◌, [], sym, ap, subst}
use Rattle.nl_device.specs.contracts.counts.DeviceCounts.TheImpl.{ghosts}
use Rattle.nl_device.specs.declared.device.Device.{Device}
use Rattle.nl_tree.specs.Causes.{FaultIsDue, NeverFall}
use Rattle.nl_calls.specs.Answering.{EndsLine, pages_of_files}
use Rattle.nl_core.specs.declared.state.Core.{Core}
use Rattle.nl_core.specs.Calls.{counted}
use Rattle.nl_turns.specs.Served.{FaultHasCause, StaysReadOnly, effect_entry}
use Rattle.nl_calls_steps.specs.Calls.{counts_of}
use Rattle.nl_volume_stage.specs.Serving.{refusing_of, some_number, to_stage_of}
use Rattle.nl_volume_stage.specs.Standing.{RepresentsHistory}
use Rattle.nl_volume.proofs.Answering.{cause_since, later, line_stands}
use Rattle.nl_volume.proofs.Effected.{line_answers, line_less, line_ordinal, line_place, line_staged, stays_read}
use Rattle.nl_volume_stage.proofs.Serving.{goals_within, worker_known}
use Rattle.nl_core.specs.Units.{goal_of, goal_or}
use Rattle.nl_core.specs.LastCommit.{KeepsCommit, LeavesMedium}
use Rattle.nl_volume.proofs.Uncommitted.{counted_commit, counted_leaves}
use Rattle.nl_volume.proofs.volume.Volume.effect.Goals as goal

pub answer-reply-requires-clause-stands : goal.answer-reply-requires-clause-stands
answer-reply-requires-clause-stands g c = let r = c.requires in (r.0.core, r.1, r.2, c.args.self.now.done, r.3.0, r.4)

pub answer-reply-requires-clause-known : goal.answer-reply-requires-clause-known
answer-reply-requires-clause-known g c =
    let G = ghosts g.row.M g.M.Nand g.M.Nand-dict in
    let r = c.requires in
    worker_known G r.0.core r.1 r.2 c.args.self.now.core c.args.self.now.done c.args.worker c.args.line c.args.call.now r.3.0.serves r.4

pub returns-clause-stands : goal.returns-clause-stands
returns-clause-stands g c v o h s of =
    let G = ghosts g.row.M g.M.Nand g.M.Nand-dict in
    let r = c.requires in
    let u = c.args.self.now.core in
    let w = c.answer-reply.new.core in
    let x = c.answer-reply.ensures.answers in
    let k = line_stands G v.core o h u w c.args.self.now.done c.args.worker c.args.line c.args.call.now c.answer-reply.result.reply c.answer-reply.new.out c.answer-reply.result.files s.0 of x c.counts.ensures c.device_stands.ensures.volume in (
      subst (λ (y : Core (Device g.row.M.Denot)). RepresentsHistory G v.core o (h ++ effect_entry c.args.line c.answer-reply.result.reply ∷ []) y c.saturating_add-self.result) (sym c.count_call.ensures)
          (subst (λ n. RepresentsHistory G v.core o (h ++ effect_entry c.args.line c.answer-reply.result.reply ∷ []) (counted w) n) (sym c.saturating_add-self.ensures) k),
      x.files_are ∙ ap (λ (y : Core (Device g.row.M.Denot)). pages_of_files G y) (sym c.count_call.ensures),
    )

pub returns-clause-counts : goal.returns-clause-counts
returns-clause-counts g c =
    let G = ghosts g.row.M g.M.Nand g.M.Nand-dict in
    let r = c.requires in
    let u = c.args.self.now.core in
    let w = c.answer-reply.new.core in
    let x = c.answer-reply.ensures.answers in
    subst (λ (y : Core (Device g.row.M.Denot)). NeverFall (counts_of G u.device) (counts_of G y.device)) (sym c.count_call.ensures)
    (later G r.0.core r.1 r.2 u w c.args.self.now.done c.args.worker c.args.line c.args.call.now c.answer-reply.result.reply c.answer-reply.new.out c.answer-reply.result.files r.3.0 r.4 x c.counts.ensures c.device_stands.ensures.volume)

pub returns-clause-less : goal.returns-clause-less
returns-clause-less g c =
    let G = ghosts g.row.M g.M.Nand g.M.Nand-dict in
    let r = c.requires in
    let u = c.args.self.now.core in
    let w = c.answer-reply.new.core in
    let x = c.answer-reply.ensures.answers in
    subst (λ (y : Core (Device g.row.M.Denot)). (k l : ℕ) → k ≢ c.args.worker → to_stage_of y k l ≤ to_stage_of u k l) (sym c.count_call.ensures)
    (line_less G u w c.args.worker c.args.line c.args.call.now c.answer-reply.result.reply c.answer-reply.new.out c.answer-reply.result.files x (goals_within G r.0.core r.1 r.2 u c.args.self.now.done r.3.0))

pub returns-clause-ended : goal.returns-clause-ended
returns-clause-ended g c =
    subst (λ (y : Core (Device g.row.M.Denot)). EndsLine c.args.worker c.args.self.now.core.flight y.flight) (sym c.count_call.ensures) c.answer-reply.ensures.answers.ended

pub returns-clause-read_only : goal.returns-clause-read_only
returns-clause-read_only g c =
    let G = ghosts g.row.M g.M.Nand g.M.Nand-dict in
    let r = c.requires in
    let u = c.args.self.now.core in
    let w = c.answer-reply.new.core in
    let x = c.answer-reply.ensures.answers in
    subst (λ (y : Core (Device g.row.M.Denot)). StaysReadOnly (counts_of G u.device) (counts_of G y.device) (some_number u.stopped) (some_number y.stopped)) (sym c.count_call.ensures)
    (stays_read G (goal_or (goal_of u.flight c.args.worker c.args.line) u.count) c.args.call.now u w r.3.0.serves.core c.answer-reply.result.reply x.effect)

pub returns-clause-staged : goal.returns-clause-staged
returns-clause-staged g c =
    let G = ghosts g.row.M g.M.Nand g.M.Nand-dict in
    let r = c.requires in
    let u = c.args.self.now.core in
    let w = c.answer-reply.new.core in
    let x = c.answer-reply.ensures.answers in
    subst (λ (y : Core (Device g.row.M.Denot)). (k l : ℕ) → k ≢ c.args.worker → (refusing_of G y k l).staged ≡ (refusing_of G u k l).staged) (sym c.count_call.ensures) (line_staged G u w c.args.worker c.args.line c.args.call.now c.answer-reply.result.reply c.answer-reply.new.out c.answer-reply.result.files x)

pub returns-clause-place : goal.returns-clause-place
returns-clause-place g c v o h s of =
    let G = ghosts g.row.M g.M.Nand g.M.Nand-dict in
    let r = c.requires in
    let u = c.args.self.now.core in
    let w = c.answer-reply.new.core in
    let x = c.answer-reply.ensures.answers in
    ap (λ (y : Core (Device g.row.M.Denot)). y.count) c.count_call.ensures
    ∙ line_place G u w c.args.worker c.args.line c.args.call.now c.answer-reply.result.reply c.answer-reply.new.out c.answer-reply.result.files x v.core o h c.args.self.now.done s.0 of c.counts.ensures c.device_stands.ensures.volume

pub returns-clause-ordinal : goal.returns-clause-ordinal
returns-clause-ordinal g c v o h s of =
    let G = ghosts g.row.M g.M.Nand g.M.Nand-dict in
    let r = c.requires in
    let u = c.args.self.now.core in
    let w = c.answer-reply.new.core in
    let x = c.answer-reply.ensures.answers in
    c.saturating_add-self.ensures
    ∙ line_ordinal G u w c.args.worker c.args.line c.args.call.now c.answer-reply.result.reply c.answer-reply.new.out c.answer-reply.result.files x v.core o h c.args.self.now.done s.0 of c.counts.ensures c.device_stands.ensures.volume

pub returns-clause-answer : goal.returns-clause-answer
returns-clause-answer g c tells v o h s of =
    let G = ghosts g.row.M g.M.Nand g.M.Nand-dict in
    let r = c.requires in
    let u = c.args.self.now.core in
    let w = c.answer-reply.new.core in
    let x = c.answer-reply.ensures.answers in
    line_answers G u w c.args.worker c.args.line c.args.call.now c.answer-reply.result.reply c.answer-reply.new.out c.answer-reply.result.files x v.core o h c.args.self.now.done s.0 of c.counts.ensures c.device_stands.ensures.volume tells

pub returns-clause-cause : goal.returns-clause-cause
returns-clause-cause g c =
    let G = ghosts g.row.M g.M.Nand g.M.Nand-dict in
    let r = c.requires in
    let u = c.args.self.now.core in
    let w = c.answer-reply.new.core in
    let x = c.answer-reply.ensures.answers in
    subst (λ (y : Core (Device g.row.M.Denot)). FaultIsDue g.M.Nand.tells (refusing_of G u c.args.worker c.args.line) (counts_of G u.device) (counts_of G y.device) c.args.call.now c.answer-reply.result.reply) (sym c.count_call.ensures) x.due

pub returns-clause-since_opening : goal.returns-clause-since_opening
returns-clause-since_opening g c v o h s of =
    let G = ghosts g.row.M g.M.Nand g.M.Nand-dict in
    let r = c.requires in
    let u = c.args.self.now.core in
    let w = c.answer-reply.new.core in
    let x = c.answer-reply.ensures.answers in
    subst (λ (y : Core (Device g.row.M.Denot)). FaultHasCause g.M.Nand.tells o (counts_of G y.device) c.args.call.now c.answer-reply.result.reply) (sym c.count_call.ensures)
    (cause_since G v.core o h u w c.args.self.now.done c.args.worker c.args.line c.args.call.now c.answer-reply.result.reply c.answer-reply.new.out c.answer-reply.result.files s.0 of x c.counts.ensures c.device_stands.ensures.volume)

pub returns-clause-cleaned : goal.returns-clause-cleaned
returns-clause-cleaned g c is done = (c.answer-reply.new.core, c.answer-reply.ensures.cleaned is done, c.count_call.ensures)

pub returns-clause-kept : goal.returns-clause-kept
returns-clause-kept g c cannot =
    let G = ghosts g.row.M g.M.Nand g.M.Nand-dict in
    let u = c.args.self.now.core in
    subst (λ (y : Core (Device g.row.M.Denot)). LeavesMedium G u y) (sym c.count_call.ensures) (counted_leaves G u c.answer-reply.new.core (c.answer-reply.ensures.kept cannot))

pub returns-clause-commit : goal.returns-clause-commit
returns-clause-commit g c needs =
    let u = c.args.self.now.core in
    subst (λ (y : Core (Device g.row.M.Denot)). KeepsCommit u y) (sym c.count_call.ensures) (counted_commit u c.answer-reply.new.core (c.answer-reply.ensures.commit needs))
