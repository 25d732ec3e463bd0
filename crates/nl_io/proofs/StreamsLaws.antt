-- Two writes, one after the other, and a write that a failure ends.
use Rattle.std.proofs.Common.{◌≡◌, ℕ, List, ◌++◌, length, take, sym, ap, ◌∙◌, arith, append_assoc, length-append, refl, ◌+◌}
use Rattle.std.proofs.Math.Seq.{take-append-add}
use Rattle.std.proofs.lemmas.List.{take-append-le}
use Rattle.std.specs.Prelude.{Option, Some, None}
use Rattle.std.specs.Option.{option_map}
use Rattle.nl_io.specs.Streams.{WritesStream}
use Rattle.nl_io.specs.declared.sink.SinkAnswer.{SinkAnswer}
use Rattle.nl_io.specs.declared.sink.SinkAnswer.TheVariants as sink

both : (old : Option (List ℕ)) (a b : List ℕ) → option_map (λ before. before ++ b) (option_map (λ before. before ++ a) old) ≡ option_map (λ before. before ++ (a ++ b)) old
both None a b = refl
both (Some x) a b = ap Some (append_assoc x a b)

pub then_write : (old mid new : Option (List ℕ)) (answer : SinkAnswer) (a b : List ℕ) → WritesStream old mid sink.Took a → WritesStream mid new answer b → WritesStream old new answer (a ++ b)
then_write old mid new sink.Took a b first second = second ∙ ap (option_map (λ before. before ++ b)) first ∙ both old a b
then_write old mid new sink.Failed a b first (n, fits, is) = (
  length a + n,
  omega (arith, length-append a b),
  is ∙ ap (option_map (λ before. before ++ take n b)) first ∙ both old a (take n b) ∙ ap (λ (t : List ℕ). option_map (λ before. before ++ t) old) (sym (take-append-add a b n)),
)

pub stopped : (old new : Option (List ℕ)) (a b : List ℕ) → WritesStream old new sink.Failed a → WritesStream old new sink.Failed (a ++ b)
stopped old new a b (n, fits, is) =
    (n, omega (arith, length-append a b), is ∙ ap (λ (t : List ℕ). option_map (λ before. before ++ t) old) (sym (take-append-le n a b fits)))
