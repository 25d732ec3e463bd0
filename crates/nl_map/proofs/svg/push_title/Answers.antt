use Rattle.std.proofs.Common.{◌∙◌}
use Rattle.std.proofs.lemmas.List.{append_assoc}
use Rattle.std.proofs.lemmas.Result.{on_ok_weaker}
use Rattle.nl_map.specs.Svg.{title_text}
use Rattle.nl_map.proofs.svg.push_title.Goals as goal

pub returns : goal.returns
unfolding title_text
returns c = on_ok_weaker c.push-3.result (λ last. last ∙ rw (c.in_ok-push_geometry-2.ensures, c.in_ok-push-2.ensures, c.in_ok-push_geometry.ensures, c.in_ok-push.ensures) (simp (append_assoc))) c.push-3.ensures
