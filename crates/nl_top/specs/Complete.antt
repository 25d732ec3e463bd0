-- Completeness: where nothing fails and memory is enough, a command is carried out, and each answer of a run is the plain tree's own.
use Rattle.std.specs.Prelude.{◌≡◌, ◌⊎◌, ⊤, ℕ, false, is_some, List, Option, None, Some, Ok}
use Rattle.std.specs.List.{list_any}
use Rattle.nl_cmd_view.specs.Complete.{IsCarriedOutUnless}
use Rattle.nl_cmd_view.specs.Getting.{refusal_of_read}
use Rattle.nl_cmd_put.specs.Complete.{IsPutOrRefused}
use Rattle.nl_cmd_words.specs.Complete.{CountsLast, IsCarriedOut, StartsConsistent}
use Rattle.nl_cmd_words.specs.declared.command.Command.{Command}
use Rattle.nl_cmd_words.specs.declared.command.Command.TheVariants.{Check, Compare, Format, Get, Map, MapSvg, Put, Report, Run, Soak, Tree}
use Rattle.nl_spec_headline.specs.Streams.{Medium, Stream}
use Rattle.nl_spec_headline.specs.declared.lists.Ordered.{Ordered}
use Rattle.nl_script.specs.Script.{script}
use Rattle.nl_tree.specs.declared.call.Line.{Line}

-- no line was answered by a fault reply
abbrev pub NoFaultAnswered : List Ordered → Type 0
NoFaultAnswered order = list_any (λ o. is_some o.fault) order ≡ false

-- The run is carried out, and no answer is a fault reply; or memory was wanting.
abbrev pub RunCompletes : ℕ → List Ordered → Type 0
RunCompletes status order = ((status ≡ 0) × NoFaultAnswered order) ⊎ (status ≡ 6)

-- Each command is carried out: a volume is made; a medium that starts consistent is checked, and its paths, its report and its map are
-- printed, and the file at the path of the words, where its tree does not refuse to read there; and while counts last, the script that the
-- source has left is run on it, and a soak, and no answer is a fault reply, and what the source has left is put at the path of the words,
-- or refused. A comparison, which asks nothing of the medium, prints its numbers.
abbrev pub CarriesOut : Option Command → Option (List (List ℕ)) → Type 0 → Stream → Medium → Medium → List Ordered → ℕ → Type 0
CarriesOut None path tells source medium medium' order status = ⊤
CarriesOut (Some (Format blocks pages)) path tells source medium medium' order status = IsCarriedOut status
CarriesOut (Some Run) path tells source medium medium' order status =
    (bytes : List ℕ) (lines : List Line) (count : ℕ) → source.bytes ≡ Some bytes → script bytes ≡ Ok lines → StartsConsistent tells medium count
    → CountsLast medium medium' → RunCompletes status order
CarriesOut (Some Check) path tells source medium medium' order status = (count : ℕ) → StartsConsistent tells medium count → IsCarriedOut status
CarriesOut (Some Tree) path tells source medium medium' order status = (count : ℕ) → StartsConsistent tells medium count → IsCarriedOut status
CarriesOut (Some Report) path tells source medium medium' order status = (count : ℕ) → StartsConsistent tells medium count → IsCarriedOut status
CarriesOut (Some Map) path tells source medium medium' order status = (count : ℕ) → StartsConsistent tells medium count → IsCarriedOut status
CarriesOut (Some MapSvg) path tells source medium medium' order status = (count : ℕ) → StartsConsistent tells medium count → IsCarriedOut status
CarriesOut (Some Get) path tells source medium medium' order status =
    (names : List (List ℕ)) (count : ℕ) → path ≡ Some names → (starts : StartsConsistent tells medium count)
    → IsCarriedOutUnless (refusal_of_read starts.tree names) status
CarriesOut (Some Put) path tells source medium medium' order status =
    (count : ℕ) → StartsConsistent tells medium count → CountsLast medium medium' → IsPutOrRefused status
CarriesOut (Some (Soak seed lines workers)) path tells source medium medium' order status =
    (count : ℕ) → StartsConsistent tells medium count → CountsLast medium medium' → RunCompletes status order
CarriesOut (Some (Compare seed lines workers)) path tells source medium medium' order status = IsCarriedOut status
