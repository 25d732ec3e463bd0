use Rattle.std.proofs.Common.{◌∙◌}
use Rattle.std.proofs.lemmas.List.{append_assoc}
use Rattle.std.proofs.lemmas.Result.{on_ok_weaker}
use Rattle.nl_map.specs.Svg.{size_text}
use Rattle.nl_map.proofs.svg.push_size.Goals as goal

pub returns : goal.returns
unfolding size_text
returns c = on_ok_weaker c.push_around-2.result (λ last. last ∙ rw (c.in_ok-push_around.ensures, c.from.ensures, c.from-2.ensures) (simp (append_assoc))) c.push_around-2.ensures
