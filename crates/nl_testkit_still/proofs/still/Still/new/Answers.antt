use Rattle.std.proofs.Common.{◌≡◌, ℕ, ◌+◌, ◌-◌, ◌*◌, ◌<◌, ◌≤◌, List, Option, Some, None, length, replicate, get_or, refl, sym, ◌∙◌, ap, arith}
use Rattle.std.proofs.lemmas.Bool.{cases_lt}
use Rattle.std.proofs.lemmas.List.{get_or-replicate, get_or_past, length-replicate}
use Rattle.std.proofs.lemmas.Option.{none-some}
use Rattle.nl_field.specs.Numbers.{ShapeBounds}
use Rattle.nl_field.specs.declared.shape.Shape.{Shape}
use Rattle.nl_testkit_still.proofs.Fresh.{all_none, count_none, fits}
use Rattle.nl_testkit_still.proofs.still.Still.new.Goals as goal

pub returns-clause-formed : goal.returns-clause-formed
returns-clause-formed c =
    let h = c.args.shape in
    let labels = c.in_ok-no_labels.ensures in
    let live = c.in_ok-no_labels-2.ensures in
    let stamps = c.in_ok-no_stamps.ensures in
    record {
      volume = c.requires.volume;
      bounds = c.requires.bounds;
      labels = count_none _ _ labels;
      live = count_none _ _ live;
      pages = c.in_ok-blank_pages.ensures;
      stamps = count_none _ _ stamps;
      values = c.in_ok-blank_pages-2.ensures;
      written = λ p l is. absurd (none-some l (sym (all_none _ _ labels p) ∙ is));
      differ = λ p q a b is other e. absurd (none-some a (sym (all_none _ _ labels p) ∙ is));
      holds = λ p l is. absurd (none-some l (sym (all_none _ _ live p) ∙ is));
      from = omega arith;
      room = fits h c.requires.bounds;
      free = refl;
      some = omega arith;
      addresses = λ v t is. absurd (none-some t (sym (all_none _ _ stamps v) ∙ is));
    }
