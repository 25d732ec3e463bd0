-- When a run failed: the medium did, an answer is a fault reply, a page was lost, or the volume is worn.
use Rattle.std.proofs.Common.{◌≡◌, ◌||◌, ℕ, Bool, true, false, IsTrue, List, refl, sym, inl, inr}
use Rattle.std.specs.Prelude.{is_some}
use Rattle.std.specs.List.{list_any}
use Rattle.nl_spec_headline.specs.Status.{DoneStatus, RunFailed}
use Rattle.nl_spec_headline.specs.Streams.{Stream}
use Rattle.nl_spec_headline.specs.declared.lists.Ordered.{Ordered}
use Rattle.nl_tree.specs.Causes.{Counts, FaultRose}

module _ (order : List Ordered) (before now : Counts) (lost worn : Bool) where
  pub some_failed : (m a l w : Bool) → (IsTrue m → FaultRose before now) → a ≡ list_any (λ (o : Ordered). is_some o.fault) order → l ≡ lost → w ≡ worn → IsTrue (m || (a || (l || w))) → RunFailed order before now lost worn
  some_failed true a l w medium is_fault is_lost is_worn sure = inr (inl (medium refl))
  some_failed false true l w medium is_fault is_lost is_worn sure = inl (sym is_fault)
  some_failed false false true w medium is_fault is_lost is_worn sure = inr (inr (inl (sym is_lost)))
  some_failed false false false true medium is_fault is_lost is_worn sure = inr (inr (inr (sym is_worn)))
  some_failed false false false false medium is_fault is_lost is_worn sure = cc sure

  pub failed_some : (m a l w : Bool) → (FaultRose before now → IsTrue m) → a ≡ list_any (λ (o : Ordered). is_some o.fault) order → l ≡ lost → w ≡ worn → RunFailed order before now lost worn → IsTrue (m || (a || (l || w)))
  failed_some true a l w medium is_fault is_lost is_worn any = refl
  failed_some false true l w medium is_fault is_lost is_worn any = refl
  failed_some false false true w medium is_fault is_lost is_worn any = refl
  failed_some false false false true medium is_fault is_lost is_worn any = refl
  failed_some false false false false medium is_fault is_lost is_worn (inl f) = cc (is_fault, f)
  failed_some false false false false medium is_fault is_lost is_worn (inr (inl rose)) = medium rose
  failed_some false false false false medium is_fault is_lost is_worn (inr (inr (inl l))) = cc (is_lost, l)
  failed_some false false false false medium is_fault is_lost is_worn (inr (inr (inr w))) = cc (is_worn, w)

-- a status says of one thing what it says of another that holds exactly where that does
pub failed_by : (status : ℕ) (a b : Type 0) (sink sink' : Stream) (text : List ℕ) → (a → b) → (b → a) → DoneStatus status a sink sink' text → DoneStatus status b sink sink' text
failed_by status a b sink sink' text to from (inl five) = inl (five.0, to five.1)
failed_by status a b sink sink' text to from (inr (inl four)) = inr (inl (four.0, λ is. four.1 (from is), four.2))
failed_by status a b sink sink' text to from (inr (inr zero)) = inr (inr (zero.0, λ is. zero.1 (from is), zero.2))
