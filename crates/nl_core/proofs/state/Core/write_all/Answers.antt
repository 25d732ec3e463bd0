use Rattle.std.proofs.Common.{◌≡◌, ◌∙◌, ap, sym, subst, refl, length}
use Rattle.std.specs.Prelude.{IfSome, if◌then◌else◌}
use Rattle.nl_spec_commits.specs.Held.{leaving_after}
use Rattle.nl_spec_commits.specs.TreeLaws.{last_commit_moment}
use Rattle.nl_journal.specs.Left.{CommitWrites}
use Rattle.nl_journal.specs.Progress.{HasNumber}
use Rattle.nl_journal_commit.specs.Committing.{ChangesAt, CommitsWhole, EarlierAt}
use Rattle.nl_journal_commit.specs.Counting.{with_count}
use Rattle.nl_field.specs.declared.answers.VirtualWrite.TheVariants as write
use Rattle.nl_iface.specs.Calls.{StoresPages}
use Rattle.nl_core.specs.Writing.{WritesAll, committed_by, noted, stopped_by, stored_count}
use Rattle.nl_core.specs.declared.state.Core.{Core}
use Rattle.nl_core.proofs.state.Core.write_all.Goals as goal

pub returns-clause-stores : goal.returns-clause-stores
returns-clause-stores g c tells =
    let G = g.D.Counts in
    subst (λ (d : g.row.D.Denot). StoresPages G d) (sym (ap (λ (x : Core g.row.D.Denot). x.device) (c.note_commit.ensures) ∙ ap (λ (x : Core g.row.D.Denot). x.device) c.note_fault.ensures))
    (c.device_stands-2.ensures.pages tells)

pub returns-clause-written : goal.returns-clause-written
returns-clause-written g c =
    let G = g.D.Counts in
    let v = c.args.self.now in
    let done = c.commit-done.result in
    let t = c.commit-done.new.device in
    let r = c.commit-done.new.journal in
    let now = c.commit-done.new.meta in
    let e = c.commit-done.ensures in
    let stopped = stopped_by v.stopped (G.read_faults t) (c.write_faults-faults.result) (G.write_faults t) in
    let count : c.min-count.result ≡ stored_count v = c.min-count.ensures in
    let w : Core g.row.D.Denot = record v {
      device = t;
      journal = r;
      meta = now;
      stopped = stopped;
      leaving = leaving_after done.froze done.earlier done.decided (length v.freeing.items) v.leaving;
      committed = committed_by v.committed v.frozen v.count done.earlier done.decided;
      frozen = if done.froze then v.count else v.frozen;
      moment = last_commit_moment v.moment done.earlier done.decided;
    } in
    let same : c.note_commit.new.self ≡ w =
    c.note_commit.ensures
    ∙ ap (λ (x : Core g.row.D.Denot). noted x done.froze done.earlier done.decided) c.note_fault.ensures in
    subst (λ (x : Core g.row.D.Denot). WritesAll G v x done.answer) (sym same)
    (record {
      froze = done.froze;
      earlier = done.earlier;
      decided = done.decided;
      rest = record { shape = refl; nodes = refl; flight = refl; freeing = refl; count = refl };
      committed = refl;
      frozen = refl;
      leaving = refl;
      moment = refl;
      stopped = ap (λ n. stopped_by v.stopped (G.read_faults t) n (G.write_faults t)) c.write_faults-faults.ensures;
      stands = e.stands;
      commits = subst (λ n. CommitsWhole G (done.answer ≡ write.Done) done.froze done.earlier done.decided v.device v.journal (with_count v.shape n v.meta) t r now) count e.commits;
      earlier_at = subst (λ n. IfSome done.earlier (EarlierAt G v.device t v.journal r (with_count v.shape n v.meta) now)) count e.earlier;
      decided_at = subst (λ n. IfSome done.decided (ChangesAt G v.device t v.journal r (with_count v.shape n v.meta) now)) count e.decided;
      writes = subst (λ n. G.tells → HasNumber r (length now.frozen.addresses) → CommitWrites G (done.answer ≡ write.Done) v.journal r (with_count v.shape n v.meta) now v.device t) count e.writes;
      passes = e.passes;
      lost = e.lost;
      clock = e.clock;
      faults = e.faults;
    })
