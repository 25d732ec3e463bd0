use Rattle.std.proofs.Common.{◌≡◌, ◌++◌, drop}
use Rattle.nl_map.specs.Text.{pages_text}
use Rattle.nl_map.proofs.text.push_pages.Given as goal

abbrev pub invariant-loop-look : goal.invariant-loop-look
invariant-loop-look l = l.text.items ++ pages_text (drop l.look-index l.looks) ≡ l.initial.text.items ++ pages_text l.looks
