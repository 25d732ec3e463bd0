use Rattle.std.proofs.Common.{◌∙◌, ◌*◌, sym, arith}
use Rattle.nl_meta.specs.Pages.{page_of}
use Rattle.nl_meta.specs.Walk.{inode_fault}
use Rattle.nl_recover.specs.Phases.{is_bad_node}
use Rattle.nl_recover.proofs.Firsts.{first_in_range, none_in_range}
use Rattle.nl_recover.proofs.nodes.inode_fault.Goals as goal

pub returns-then-is_bad : goal.returns-then-is_bad
unfolding inode_fault
returns-then-is_bad c =
    sym (first_in_range (is_bad_node c.args.shape.now (page_of c.args.meta.now)) (16 * c.args.shape.now.inode_pages) c.loop-ino.ino (omega arith) c.loop-ino.invariant (sym c.is_bad.ensures ∙ c.if-is_bad.true))

pub returns : goal.returns
unfolding inode_fault
returns c =
    let past = c.loop-ino-test.false in
    sym (none_in_range (is_bad_node c.args.shape.now (page_of c.args.meta.now)) (16 * c.args.shape.now.inode_pages) (λ k h. c.loop-ino.invariant k (omega (arith, past, h))))
