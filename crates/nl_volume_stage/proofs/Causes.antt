-- Causes of faults stay causes while the counts of the medium rise.
use Rattle.std.proofs.Common.{inl, inr, ⊎_elim, ℕ, ◌+◌, ◌<◌, ◌≤◌, arith}
use Rattle.std.proofs.lemmas.Bool.{cases_lt}
use Rattle.nl_field.specs.CrashStates.{Rose, top}
use Rattle.nl_tree.specs.Causes.{Counts, HasCause, IsSumSince, MayBeExhausted, NeverFall, WriteFailed, fault_sum}
use Rattle.nl_tree.specs.declared.call.Call.{Call}
use Rattle.nl_tree.specs.declared.reply.FaultReply.{FaultReply}
use Rattle.nl_tree.specs.declared.reply.FaultReply.TheVariants.{Eio, Erofs, Eworn, Edamaged}
use Rattle.nl_tree.proofs.FaultProofs.{fault_laws}

pub later_then : (a b c : Counts) → NeverFall a b → NeverFall b c → NeverFall a c
later_then a b c one two = record {
  clock = let p = one.clock in let q = two.clock in omega (arith, p, q);
  read_faults = let p = one.read_faults in let q = two.read_faults in omega (arith, p, q);
  write_faults = let p = one.write_faults in let q = two.write_faults in omega (arith, p, q);
}

module _ (opening before now : Counts) (later : NeverFall before now) (since : NeverFall opening before) (most : now.write_faults ≤ top) where
  pub still_failed : WriteFailed opening before → WriteFailed opening now
  still_failed (inl rose) = inl (let up = later.write_faults in omega (arith, rose, up))
  still_failed (inr full) = inr (let up = later.write_faults in omega (arith, full, up, most))

  still_worn : now.clock ≤ top → (next_stamp : ℕ) → MayBeExhausted opening before next_stamp → MayBeExhausted opening now next_stamp
  still_worn few next_stamp (inl paid) = inl (let c = later.clock in let w = later.write_faults in omega (arith, paid, c, w))
  still_worn few next_stamp (inr (inl full)) = inr (inl (let up = later.clock in omega (arith, full, up, few)))
  still_worn few next_stamp (inr (inr full)) = inr (inr (let up = later.write_faults in omega (arith, full, up, most)))

  -- a cause of before is one of now
  pub still_cause : now.clock ≤ top → (tells : Type 0) (next_stamp : ℕ) (call : Call) (fault : FaultReply) → HasCause tells opening before next_stamp call fault → HasCause tells opening now next_stamp call fault
  still_cause few tells next_stamp call (Eio n) is = fault_laws.stays opening before now n is later
  still_cause few tells next_stamp call (Erofs n) is = (is.0, still_failed is.1, fault_laws.stays opening before now n is.2 later)
  still_cause few tells next_stamp call Eworn is = (is.0, still_worn few next_stamp is.1)
  still_cause few tells next_stamp call (Edamaged wanted found) is = is

-- the first write that failed
module _ (opening before now : Counts) (since : NeverFall opening before) (rose : Rose before.write_faults now.write_faults) (few : before.write_faults < top) where
  pub first_failed : WriteFailed opening now
  first_failed = inl (let up = since.write_faults in omega (arith, up, rose, few))

  pub first_sum : (n : ℕ) → Rose (before.read_faults + before.write_faults) n → n ≤ fault_sum now → IsSumSince opening now n
  first_sum n above most = (
    ⊎_elim
        (λ low. inl (let r = since.read_faults in let w = since.write_faults in omega (arith, r, w, above, low)))
        (λ high. inr (omega (arith, high, most, above)))
        (cases_lt (before.read_faults + before.write_faults) top),
    most,
  )
