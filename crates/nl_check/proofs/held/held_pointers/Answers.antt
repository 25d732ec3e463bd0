use Rattle.std.proofs.Common.{◌≡◌, ◌∙◌, ◌++◌, List, ap, sym, arith}
use Rattle.nl_meta.specs.Nodes.{Held}
use Rattle.nl_meta.specs.Pages.{page_of}
use Rattle.nl_recover.specs.Held.{pointers_at_node}
use Rattle.nl_recover.proofs.HeldFacts.{all-held}
use Rattle.nl_recover.proofs.Scans.{grows, upto}
use Rattle.nl_check.proofs.held.held_pointers.Goals as goal

pub loop-ino-preserved : goal.loop-ino-preserved
loop-ino-preserved c = record {
  held = c.in_ok-node_held.ensures.held ∙ ap (λ (l : List Held). l ++ pointers_at_node (page_of c.args.meta.now) c.loop-ino.ino) c.loop-ino.invariant.held ∙ sym (grows (pointers_at_node (page_of c.args.meta.now)) c.loop-ino.ino);
  longer = let a = c.in_ok-node_held.ensures.longer in let b = c.loop-ino.invariant.longer in omega (arith, a, b);
}

pub returns : goal.returns
returns c =
    let past = c.loop-ino-test.false in
    let most = c.loop-ino.auto.ino-end in
    let end : c.loop-ino.ino ≡ c.args.shape.now.nodes = omega (arith, past, most) in
    c.loop-ino.invariant.held ∙ ap (upto (pointers_at_node (page_of c.args.meta.now))) end ∙ sym (all-held c.args.shape.now (page_of c.args.meta.now))
