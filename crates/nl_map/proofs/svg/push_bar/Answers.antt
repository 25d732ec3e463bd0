use Rattle.std.proofs.Common.{◌∙◌}
use Rattle.std.proofs.lemmas.List.{append_assoc}
use Rattle.std.proofs.lemmas.Result.{on_ok_weaker}
use Rattle.nl_map.specs.Svg.{bar_text}
use Rattle.nl_map.proofs.svg.push_bar.Goals as goal

pub returns : goal.returns
unfolding bar_text
returns c =
    on_ok_weaker c.push_around-2.result
    (λ last. last ∙ rw (c.in_ok-push_around.ensures, c.in_ok-push-2.ensures, c.class_of.ensures, c.in_ok-push.ensures) (simp (append_assoc)))
    c.push_around-2.ensures
