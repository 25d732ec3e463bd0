use Rattle.std.proofs.Common.{◌≡◌, ◌<◌, ◌^◌, [], length, sym, ◌∙◌, ap, subst}
use Rattle.nl_field.specs.declared.answers.VirtualWrite.TheVariants as write
use Rattle.nl_meta.specs.Pages.{Pages, dirty_pages}
use Rattle.nl_journal.specs.Left.{FinishWrites}
use Rattle.nl_journal.specs.Progress.{HasNumber, begun, raised}
use Rattle.nl_journal.specs.Units.{CommitIsDone}
use Rattle.nl_journal.proofs.CommitSteps.{begun_header, dirty_by, dirty_writes}
use Rattle.nl_journal.proofs.journal.Journal.commit_dirty.Goals as goal
use Rattle.nl_journal.proofs.journal.Journal.commit_dirty.Goals.{in-Done, in-Lost, in-Fault}

pub returns-clause-writes : goal.returns-clause-writes
returns-clause-writes g c t numbers =
    let G = g.D.Counts in
    let pages = c.args.meta.now in
    let p = c.args.self.now in
    let frozen : Pages = record pages { dirty = []; frozen = dirty_pages pages } in
    let starts : begun p (length pages.dirty) ≡ raised p.number = begun_header p.phase p.number (length pages.dirty) c.requires.header c.requires.dirty.pages.some in
    let begins : begun c.finish.new.self (length c.finish.new.meta.frozen.addresses) ≡ raised p.number = subst (λ (n : Pages). begun c.finish.new.self (length c.finish.new.meta.frozen.addresses) ≡ begun p (length n.frozen.addresses)) c.freeze.ensures c.finish.ensures.finishes.begun_stays ∙ starts in
    let below : raised p.number < 2 ^ 63 = subst (λ n. n < 9223372036854775808) begins numbers in
    let writes : FinishWrites G (c.finish.result ≡ write.Done) p c.finish.new.self frozen c.finish.new.meta c.args.device.now c.finish.new.device =
    subst (λ (n : Pages). HasNumber p (length n.frozen.addresses) → FinishWrites G (c.finish.result ≡ write.Done) p c.finish.new.self n c.finish.new.meta c.args.device.now c.finish.new.device) c.freeze.ensures (c.finish.ensures.writes t)
    (subst (λ n. n < 9223372036854775808) (sym starts) below) in
    let all = dirty_writes G (c.finish.result ≡ write.Done) c.args.device.now c.finish.new.device p c.finish.new.self pages c.finish.new.meta c.requires.header c.requires.dirty.pages.some
    (ap (λ (n : Pages). n.dirty) c.finish.ensures.finishes.kept ∙ ap (λ (n : Pages). n.dirty) c.freeze.ensures) below writes in
    dirty_by G (c.finish.result ≡ write.Done) (CommitIsDone c.match-finish.result) c.args.device.now c.finish.new.device p c.finish.new.self pages c.finish.new.meta
    (elim c.match-finish.branch [
      | in-Done w ↦ λ d. w.in-Done.is
      | in-Lost w ↦ λ d. absurd (subst CommitIsDone w.result-is d)
      | in-Fault w ↦ λ d. absurd (subst CommitIsDone w.result-is d)
    ]) all
