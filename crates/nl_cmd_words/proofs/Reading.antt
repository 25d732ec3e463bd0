-- A script that is longer than a script may be.
use Rattle.std.proofs.Common.{◌≡◌, ◌<◌, ℕ, ◌+◌, List, length, ◌++◌, true, refl, arith, inr}
use Rattle.std.specs.Prelude.{Err, nat_lt, option_map}
use Rattle.std.proofs.lemmas.Bool.{lt-ltb}
use Rattle.nl_spec_headline.specs.Streams.{Stream}
use Rattle.nl_script.specs.Script.{max_script, script}
use Rattle.nl_script.specs.declared.refusal.ScriptRefusal.TheVariants.{Refused}
use Rattle.nl_script.specs.declared.why.Why.TheVariants.{Size}
use Rattle.nl_cmd_words.specs.Ends.{RefusesScript}

long_refused : (bytes : List ℕ) → max_script < length bytes → script bytes ≡ Err (Refused 0 0 Size)
unfolding script
long_refused bytes long = let is : nat_lt max_script (length bytes) ≡ true = lt-ltb max_script (length bytes) long in rw is refl

pub too_long : (old new : Stream) (read : List ℕ) → length read ≡ max_script + 1 → old.bytes ≡ option_map (λ rest. read ++ rest) new.bytes → RefusesScript old new 0 0 Size
too_long old new read is begins =
    let long : max_script < length read = omega (arith, is) in
    record { bytes = read; read = inr (long, begins); refused = long_refused read long }
