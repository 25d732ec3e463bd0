-- What follows the front of an answer.
use Rattle.std.specs.Prelude.{ℕ, List, []}
use Rattle.hex.specs.Hex.{encode_lower}
use Rattle.nl_print.specs.declared.answer.Tail.{Tail}
use Rattle.nl_print.specs.declared.answer.Tail.TheVariants.{Nothing, Hex, Plain}

abbrev pub tail_text : Tail → List ℕ → List ℕ
tail_text Nothing bytes = []
tail_text Hex bytes = encode_lower bytes
tail_text Plain bytes = bytes
