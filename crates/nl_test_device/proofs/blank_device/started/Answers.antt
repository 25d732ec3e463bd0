use Rattle.std.proofs.Common.{inr, ap, sym, ◌∙◌, arith}
use Rattle.nl_field.specs.Numbers.{shape_for}
use Rattle.nl_nand.specs.Memory.{contents_of}
use Rattle.nl_nand.specs.declared.geometry.Geometry.{Geometry}
use Rattle.nl_test_device.proofs.Blank.{blank_spare}
use Rattle.nl_test_device.proofs.Standing.{none-agree}
use Rattle.nl_test_device.proofs.blank_device.started.Goals as goal

pub returns-then-len-eq0-clause-numbers : goal.returns-then-len-eq0-clause-numbers
returns-then-len-eq0-clause-numbers c = c.in-Ready.ensures.started.numbers ∙ ap (λ (n : Geometry). shape_for n.blocks n.pages) c.requires.numbers

pub returns-then-len-eq0-clause-spare : goal.returns-then-len-eq0-clause-spare
returns-then-len-eq0-clause-spare c =
    c.in-Ready.ensures.spare (0, inr (tt, blank_spare (contents_of c.args.media) (ap (λ (n : Geometry). n.blocks) c.requires.numbers) (ap (λ (n : Geometry). n.pages) c.requires.numbers) c.requires.erased))

pub returns-then-len-eq0-clause-none_failed : goal.returns-then-len-eq0-clause-none_failed
returns-then-len-eq0-clause-none_failed c = λ v x below.
    c.in-Ready.ensures.agreed tt (none-agree c.in-Ready.tables.seen (omega (arith, c.if-len-eq0.true, c.len.ensures))) v x below
