use Rattle.std.proofs.Common.{◌≡◌, ◌+◌, ◌++◌, drop}
use Rattle.std.specs.Prelude.{flat_map}
use Rattle.nl_map.specs.Runs.{runs_after}
use Rattle.nl_map.specs.Svg.{bar_text}
use Rattle.nl_map.proofs.svg.push_bars_after.Given as goal

abbrev pub invariant-loop-look : goal.invariant-loop-look
invariant-loop-look l =
    (l.text.items ++ flat_map bar_text (runs_after l.mark l.from l.count (drop l.look-index l.looks)) ≡ l.initial.text.items ++ flat_map bar_text (runs_after l.fn.first 0 1 l.looks))
    × (l.from + l.count ≡ l.look-index + 1)
