use Rattle.std.proofs.Common.{refl, sym, subst}
use Rattle.nl_meta.specs.Pages.{Pages}
use Rattle.nl_journal_commit.specs.Counting.{with_frozen}
use Rattle.nl_journal_commit.specs.Standing.{IsJournaled, PreservesGraph}
use Rattle.nl_journal_commit.proofs.Standing.{freezing_stands, stands_then}
use Rattle.nl_journal_commit.proofs.changes.commit_changes.Goals as goal

pub complete-requires-clause-journaled : goal.complete-requires-clause-journaled
complete-requires-clause-journaled g c =
    let G = g.D.Counts in
    let s = c.args.device.now in
    let p = c.args.journal.now in
    let frozen = freezing_stands G s p c.args.meta.now (g.met.D.VirtualPages.numbers s c.requires.formed) c.requires.journaled c.stands.ensures c.requires.changes in
    subst (λ (n : Pages). IsJournaled G s p n) (sym c.freeze.ensures) frozen.journaled

pub returns-clause-stands : goal.returns-clause-stands
returns-clause-stands g c =
    let G = g.D.Counts in
    let s = c.args.device.now in
    let t = c.complete.new.device in
    let p = c.args.journal.now in
    let r = c.complete.new.journal in
    let pages = c.args.meta.now in
    let now = c.complete.new.meta in
    let volume = g.met.D.VirtualPages.numbers s c.requires.formed in
    let frozen = freezing_stands G s p pages volume c.requires.journaled c.stands.ensures c.requires.changes in
    stands_then G s s t p r pages (with_frozen pages) now volume refl frozen (subst (λ (n : Pages). PreservesGraph G s n t r now) c.freeze.ensures c.complete.ensures.stands)
