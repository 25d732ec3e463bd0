use Rattle.std.proofs.Common.{◌≡◌, ◌≤◌, ◌+◌, length}
use Rattle.nl_script.specs.Words.{words_from}
use Rattle.nl_script.proofs.words.Words.next.Given as goal

abbrev pub invariant-loop-self : goal.invariant-loop-self
invariant-loop-self l = record {
  words : words_from l.self-inside.column l.self-inside.rest.now ≡ l.fn.self;
  bound : l.self-inside.column + length l.self-inside.rest.now ≤ 140001;
}

abbrev pub decreases-loop-self : goal.decreases-loop-self
decreases-loop-self l = length l.self-inside.rest.now
