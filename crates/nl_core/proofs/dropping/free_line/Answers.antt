use Rattle.std.proofs.Common.{◌≡◌, ◌∙◌, subst, take, arith}
use Rattle.nl_journal_commit.specs.Freeing.{FreesEach}
use Rattle.nl_flight.specs.Flight.{of_worker}
use Rattle.nl_iface.proofs.Stops.{keeps_medium_then}
use Rattle.nl_core.specs.Dropping.{pointers_of}
use Rattle.nl_core.proofs.Freed.{all_freed, frees_at}
use Rattle.nl_core.proofs.dropping.free_line.Goals as goal

pub loop-i-preserved : goal.loop-i-preserved
loop-i-preserved g c =
    let G = g.D.Counts in
    let old = c.args.device.now in
    let mid = c.loop-i.device in
    let new = c.free_at.new.device in
    let i = c.loop-i.invariant in
    let e = c.free_at.ensures in
    record {
      formed = e.formed;
      freed = frees_at (pointers_of (of_worker c.args.flight.now c.args.worker)) c.loop-i.i (G.names old) (G.names mid) (G.names new) i.freed e.freed;
      kept = keeps_medium_then G old mid new i.kept e.kept;
      read_faults = e.read_faults ∙ i.read_faults;
    }

pub returns-clause-freed : goal.returns-clause-freed
returns-clause-freed g c =
    let G = g.D.Counts in
    let past = c.loop-i-test.false in
    let most = c.loop-i.auto.i-end in
    let end : c.loop-i.i ≡ 18 = omega (arith, past, most) in
    all_freed c.args.flight.now c.args.worker c.requires.flight c.requires.known (G.names c.args.device.now) (G.names c.loop-i.device)
    (subst (λ n. FreesEach (take n (pointers_of (of_worker c.args.flight.now c.args.worker))) (G.names c.args.device.now) (G.names c.loop-i.device)) end c.loop-i.invariant.freed)
