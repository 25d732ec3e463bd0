use Rattle.std.proofs.Common.{◌∙◌, ◌++◌, ◌∷◌, [], List, ℕ, ap, arith}
use Rattle.nl_meta.specs.Pages.{page_of}
use Rattle.nl_recover.specs.Reaching.{reached_by, targets_of, with_node}
use Rattle.nl_recover.specs.Scanning.{gathered}
use Rattle.nl_recover.proofs.ReachFacts.{all-marked, begins, done-step, queue-few, read-at}
use Rattle.nl_recover.proofs.reach.reach.Goals as goal

pub loop-next-init : goal.loop-next-init
loop-next-init c =
    let some = c.requires.some_nodes in
    begins c.args.shape.now (page_of c.args.meta.now) c.in_ok-marks.marks.items c.push.new.self.items (omega (arith, some)) c.in_ok-marks.ensures
    (c.in_ok-push.ensures.items ∙ ap (λ (l : List ℕ). l ++ 0 ∷ []) c.new-queue.ensures.items)

pub loop-next-smaller : goal.loop-next-smaller
loop-next-smaller c =
    let few = queue-few c.args.shape.now (page_of c.args.meta.now) c.loop-next.next (reached_by c.loop-next.marks.items c.loop-next.queue.items) c.loop-next.invariant in
    let test = c.loop-next-test.true in
    let len = c.len.ensures in
    omega (arith, few, test, len)

pub loop-next-preserved : goal.loop-next-preserved
loop-next-preserved c =
    done-step c.args.shape.now (page_of c.args.meta.now) c.loop-next.next (reached_by c.loop-next.marks.items c.loop-next.queue.items) (reached_by c.visit.new.marks.items c.visit.new.queue.items) c.loop-next.invariant
    (let test = c.loop-next-test.true in let len = c.len.ensures in omega (arith, test, len))
    (c.in_ok-visit.ensures.visited ∙ ap (λ (d : ℕ). gathered (with_node c.args.shape.now.nodes) (reached_by c.loop-next.marks.items c.loop-next.queue.items) (targets_of (page_of c.args.meta.now) d))
    (read-at c.loop-next.queue.items c.loop-next.next c.index-dir.result.now (let test = c.loop-next-test.true in let len = c.len.ensures in omega (arith, test, len)) c.index-dir.ensures))

pub returns-clause-marks : goal.returns-clause-marks
returns-clause-marks c =
    all-marked c.args.shape.now (page_of c.args.meta.now) c.loop-next.next (reached_by c.loop-next.marks.items c.loop-next.queue.items) c.loop-next.invariant
    (let test = c.loop-next-test.false in let len = c.len.ensures in omega (arith, test, len))
