use Rattle.std.proofs.Common.{List, Option, None, get_or, sym, ◌∙◌, ap, arith}
use Rattle.std.proofs.lemmas.Option.{none-some}
use Rattle.nl_pseg.specs.declared.held.Held.{Held}
use Rattle.nl_test_device_segments.proofs.named.Rig.give_back.Goals as goal

pub invariant_of-self : goal.invariant_of-self
invariant_of-self c =
    let is = c.args.self.now.is in
    let e = c.give_back.ensures.given in
    let empty = e.copies in
    record {
      is = record {
        numbers = is.numbers;
        first = e.range.range_first ∙ is.first;
        blocks = e.range.range_blocks ∙ is.blocks;
        size = e.range.range_size ∙ is.size;
        segment = record {
          holds = λ p h named. absurd (none-some h (sym (c.requires.none p) ∙ (ap (λ (l : List (Option Held)). get_or l p None) (sym e.held) ∙ named)));
          blank = λ p taken. is.segment.blank p (e.erased p taken);
          blank_copy = λ p next. absurd (omega (arith, empty, next.0, next.1));
        };
      };
    }
