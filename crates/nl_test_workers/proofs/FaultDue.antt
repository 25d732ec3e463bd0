-- Why the volume that fails may answer a fault.
use Rattle.std.proofs.Common.{◌≡◌, ℕ, Bool, true, false, Option, None, refl, sym, subst}
use Rattle.std.specs.Prelude.{if◌then◌else◌, ⊤, MatchOption, IfSome}
use Rattle.nl_tree.specs.Causes.{Counts, FaultIsDue, FaultRose, FaultWithin, fault_in, fault_of_change, fault_sum, is_changing}
use Rattle.nl_tree.specs.declared.call.Call.{Call}
use Rattle.nl_tree.specs.declared.reply.FaultReply.{FaultReply}
use Rattle.nl_tree.specs.declared.reply.FaultReply.TheVariants.{Eio}
use Rattle.nl_tree.specs.declared.reply.Reply.{Reply}
use Rattle.nl_tree.specs.declared.reply.Reply.TheVariants.{Fault}
use Rattle.nl_test_workers.specs.Failing.{refuses_none}

refuses_nothing : (changes : Bool) → (if changes then fault_of_change None 1 else None) ≡ None
refuses_nothing true = refl
refuses_nothing false = refl

pub due : (before now : Counts) (call : Call) (n : ℕ) → FaultRose before now → n ≡ fault_sum now → FaultIsDue ⊤ refuses_none before now call (Fault (Eio n))
due before now call n rose sum =
    subst (λ (o : Option FaultReply). MatchOption o (IfSome (fault_in (Fault (Eio n))) (FaultWithin ⊤ before now)) (λ fault. ◌≡◌ {A = Reply} (Fault (Eio n)) (Fault fault)))
    (sym (refuses_nothing (is_changing call))) (rose, sum)
