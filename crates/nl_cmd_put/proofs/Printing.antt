-- A sink that takes nothing was printed nothing.
use Rattle.std.proofs.Common.{◌≡◌, ℕ, List, [], ◌++◌, Option, Some, None, refl, sym, ap, arith}
use Rattle.std.proofs.lemmas.List.{append-nil}
use Rattle.std.specs.Option.{option_map}
use Rattle.nl_io.specs.declared.sink.SinkAnswer.TheVariants.{Took}
use Rattle.nl_spec_headline.specs.Streams.{Prints, stream}

nothing_more : (bytes : Option (List ℕ)) → bytes ≡ option_map (λ before. before ++ []) bytes
nothing_more None = refl
nothing_more (Some xs) = ap Some (sym (append-nil xs))

pub prints_none : (bytes : Option (List ℕ)) (faults : ℕ) → Prints (stream bytes faults) (stream bytes faults) []
prints_none bytes faults = record { answer = Took; taken = nothing_more bytes; never_falls = omega arith; cause = λ e. absurd (cc e) }
