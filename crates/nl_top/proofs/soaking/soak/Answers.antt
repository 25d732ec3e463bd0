use Rattle.std.proofs.Common.{◌≡◌, ◌∙◌, List, Option, Ok, ap, codes, refl, subst, sym}
use Rattle.std.specs.Prelude.{IfSome}
use Rattle.nl_cmd_words.specs.Ends.{no_memory}
use Rattle.nl_tree.specs.declared.call.Line.{Line}
use Rattle.nl_top.specs.RunEnds.{not_run}
use Rattle.nl_top.proofs.Left.{same_leaves}
use Rattle.nl_top.proofs.soaking.soak.Goals as goal

pub returns-in-Some-clause-ended : goal.returns-in-Some-clause-ended
returns-in-Some-clause-ended g c =
    let drawn = c.drawn_lines.ensures in
    let same = subst (λ (o : Option (List Line)). IfSome o (λ d. d ≡ drawn.0)) c.in-Some.is drawn.2 in
    (c.in-Some.lines, drawn.1 ∙ ap (λ (ls : List Line). Ok ls) (sym same), c.run_on.ensures.ended)

-- no memory for the script
pub returns-in-None-clause-ended : goal.returns-in-None-clause-ended
returns-in-None-clause-ended g c =
    let m = g.M.Nand in
    let e = c.ended.ensures in
    let drawn = c.drawn_lines.ensures in (
      drawn.0,
      drawn.1,
      not_run (codes "memory\n") (no_memory e.status refl) (same_leaves m c.args.media c.ended.result.media e.media)
          (record {
            prints = e.prints;
            untouched = record {
              same_contents = λ told. ap m.contents e.media;
              same_clock = ap m.clock e.media;
              same_write_faults = ap m.write_faults e.media;
            };
            no_lines = e.order;
            no_syncs = e.syncs;
          }),
    )
