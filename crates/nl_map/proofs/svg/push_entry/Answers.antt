use Rattle.std.proofs.Common.{◌∙◌}
use Rattle.std.proofs.lemmas.List.{append_assoc}
use Rattle.std.proofs.lemmas.Result.{on_ok_weaker}
use Rattle.nl_map.specs.Svg.{entry_text}
use Rattle.nl_map.proofs.svg.push_entry.Goals as goal

pub returns : goal.returns
unfolding entry_text
returns c =
    on_ok_weaker c.push-3.result
    (λ last. last ∙ rw (c.in_ok-push_kind.ensures, c.in_ok-push-2.ensures, c.in_ok-push.ensures, c.class_of.ensures, c.in_ok-push_around.ensures) (simp (append_assoc)))
    c.push-3.ensures
