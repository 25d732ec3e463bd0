use Rattle.std.proofs.Common.{◌∙◌}
use Rattle.std.proofs.lemmas.List.{append_assoc}
use Rattle.std.proofs.lemmas.Result.{on_ok_weaker}
use Rattle.nl_map.proofs.svg.push_last_entries.Goals as goal

pub returns : goal.returns
returns c = on_ok_weaker c.push_entry-3.result (λ last. last ∙ rw (c.in_ok-push_entry-2.ensures, c.in_ok-push_entry.ensures) (simp (append_assoc))) c.push_entry-3.ensures
