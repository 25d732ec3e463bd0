-- A device that was written on, and then read.
use Rattle.std.proofs.Common.{◌≡◌, ℕ, Result, Ok, Err, IfOk, sym, subst, ◌∙◌, arith}
use Rattle.nl_iface.specs.Calls.{OnlyReads}
use Rattle.nl_iface.specs.declared.counts.Counts.{Ghosts}
use Rattle.nl_core.specs.declared.state.Core.{Core}
use Rattle.nl_core_new.specs.New.{IsWrittenOn, device_in}

module _ {D : Type 0} (g : Ghosts D) (s t u : D) (n : ℕ) where
  pub read_on : IsWrittenOn g n s t → OnlyReads g t u → IsWrittenOn g n s u
  read_on before reads = record {
    shape = reads.medium.virtual.same_shape ∙ before.shape;
    names = reads.names ∙ before.names;
    stamps = let first = before.stamps in let second = reads.medium.next_stamp in omega (arith, first, second);
    clean = λ clean. reads.medium.clean (before.clean clean);
    write_faults = reads.medium.write_faults ∙ before.write_faults;
  }

  -- the core over it, where there is one
  pub core_on : (r : Result (Core D) D) → IsWrittenOn g n s u → device_in r ≡ u → IfOk r (λ v. IsWrittenOn g n s v.device)
  core_on (Ok v) written same = subst (λ (d : D). IsWrittenOn g n s d) (sym same) written
  core_on (Err d) written same = tt
