use Rattle.std.proofs.Common.{◌<◌, ◌^◌, arith}
use Rattle.std.proofs.lemmas.Grind.{common_steps}
use Rattle.nl_cmd_words.proofs.Digits.{small}
use Rattle.nl_cmd_words.proofs.word.number_of.Goals as goal

pub overflow_mul-value : goal.overflow_mul-value
overflow_mul-value c =
    let below : c.loop-byte.value < 10 ^ 18 = small c.loop-byte.byte-index c.loop-byte.value (grind (arith, common_steps)) c.loop-byte.invariant.bound in
    omega arith

pub overflow_add-value : goal.overflow_add-value
overflow_add-value c =
    let below : c.loop-byte.value < 10 ^ 18 = small c.loop-byte.byte-index c.loop-byte.value (grind (arith, common_steps)) c.loop-byte.invariant.bound in
    omega arith
