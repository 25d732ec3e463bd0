-- Where nothing fails and counts last, no fault reply has a cause, and no volume is worn.
use Rattle.std.proofs.Common.{◌≡◌, ◌⊎◌, ◌+◌, ◌-◌, ◌<◌, ◌≤◌, ℕ, inl, inr, arith}
use Rattle.std.specs.Prelude.{◌^◌}
use Rattle.nl_field.specs.CrashStates.{Rose, top}
use Rattle.nl_tree.specs.Causes.{Counts, HasCause, MayBeExhausted}
use Rattle.nl_tree.specs.declared.call.Call.{Call}
use Rattle.nl_tree.specs.declared.reply.FaultReply.{FaultReply}
use Rattle.nl_tree.specs.declared.reply.FaultReply.TheVariants.{Eio, Erofs, Eworn, Edamaged}

not_risen : (before now : ℕ) → (Rose before now → ⊥) → (now ≤ before) × (now < top)
not_risen before now none = omega (arith, none)

module _ (tells : Type 0) (before now : Counts) (next_stamp : ℕ) (told : tells) (reads : Rose before.read_faults now.read_faults → ⊥) (writes : Rose before.write_faults now.write_faults → ⊥)
    (clock : now.clock < 2 ^ 63) (stamps : next_stamp + (now.clock - before.clock) < 2 ^ 62) (faults : now.read_faults + now.write_faults < top) where
  reads_stay : (now.read_faults ≤ before.read_faults) × (now.read_faults < top)
  reads_stay = not_risen before.read_faults now.read_faults reads

  writes_stay : (now.write_faults ≤ before.write_faults) × (now.write_faults < top)
  writes_stay = not_risen before.write_faults now.write_faults writes

  pub never_worn : MayBeExhausted before now next_stamp → ⊥
  never_worn (inl past) = omega (arith, past, writes_stay.0, stamps)
  never_worn (inr (inl c)) = omega (arith, c, clock)
  never_worn (inr (inr f)) = omega (arith, f, writes_stay.1)

  pub no_cause : (call : Call) (fault : FaultReply) → HasCause tells before now next_stamp call fault → ⊥
  no_cause call (Eio n) (inl since, most) = omega (arith, since, most, reads_stay.0, writes_stay.0)
  no_cause call (Eio n) (inr at_top, most) = omega (arith, at_top, most, faults)
  no_cause call (Erofs n) (changing, inl rose, sum) = omega (arith, rose, writes_stay.0)
  no_cause call (Erofs n) (changing, inr at_top, sum) = omega (arith, at_top, writes_stay.1)
  no_cause call Eworn (changing, worn) = never_worn worn
  no_cause call (Edamaged wanted found) (untold, differ) = untold told
