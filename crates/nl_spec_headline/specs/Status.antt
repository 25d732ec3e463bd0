-- The status of a command that was carried out, and its cause.
use Rattle.std.specs.Prelude.{◌≡◌, ◌⊎◌, ℕ, Bool, true, false, IsTrue, List, is_some}
use Rattle.std.specs.List.{list_any}
use Rattle.nl_field.specs.CrashStates.{Rose}
use Rattle.nl_tree.specs.Causes.{Counts, FaultRose, MayBeExhausted}
use Rattle.nl_spec_headline.specs.Streams.{PrintsWhole, Stream}
use Rattle.nl_spec_headline.specs.declared.lists.Ordered.{Ordered}

-- some line was answered by a fault reply
abbrev pub AnsweredFault : List Ordered → Type 0
AnsweredFault order = IsTrue (list_any (λ o. is_some o.fault) order)

-- An answer is a fault reply, a count of faults of the medium rose, a page was lost, or closing found the volume worn.
abbrev pub RunFailed : List Ordered → Counts → Counts → Bool → Bool → Type 0
RunFailed order before now lost worn = AnsweredFault order ⊎ (FaultRose before now ⊎ ((lost ≡ true) ⊎ (worn ≡ true)))

-- 5 exactly where it failed; else 0 where the text was taken whole, and 4 where the sink failed
abbrev pub DoneStatus : ℕ → Type 0 → Stream → Stream → List ℕ → Type 0
DoneStatus status failed sink sink' text =
    ((status ≡ 5) × failed)
    ⊎ (((status ≡ 4) × (failed → ⊥) × Rose sink.faults sink'.faults)
    ⊎ ((status ≡ 0) × (failed → ⊥) × PrintsWhole sink sink' text))

-- Over a medium that tells its contents no page is lost. The write sequence numbers are exhausted only where programs since the opening may
-- have used them up.
pub record HaveCauses (tells : Type 0) (before now : Counts) (next_stamp : ℕ) (lost worn : Bool) : Type 0 where
  pub lost_is : tells → lost ≡ false
  pub worn_is : worn ≡ true → MayBeExhausted before now next_stamp
