-- What is kept where nothing is done, and by one step after the other.
use Rattle.std.proofs.Common.{◌≡◌, ◌⊎◌, inl, ℕ, refl, sym, subst}
use Rattle.nl_spec_holders.specs.Holding.{Holding}
use Rattle.nl_spec_holders.specs.Laws.{PreservesHolding}
use Rattle.nl_iface.specs.Names.{Names}
use Rattle.nl_iface.specs.declared.counts.Counts.{Ghosts}
use Rattle.nl_core_callbacks.specs.Handled.{FreeStays, MarksSomeHandled, Volume}

pub marks-none : (transaction : ℕ) (s t : Names) → t ≡ s → MarksSomeHandled transaction s t
marks-none transaction s t same = subst (λ (n : Names). MarksSomeHandled transaction s n) (sym same) (record {
  live = λ q. refl;
  pairs = refl;
  pending = refl;
  posted = refl;
  space = refl;
  handled = λ n. inl refl;
})

pub free-then : {D : Type 0} (g : Ghosts D) (u v w : Volume D) → FreeStays g u v → FreeStays g v w → FreeStays g u w
free-then g u v w k l = record { nodes = λ s f. l.nodes s (k.nodes s f); pool = λ s f. l.pool s (k.pool s f) }

pub keeps-itself : (h : Holding) → PreservesHolding h h
keeps-itself h = record { holds = λ f. f; committed = λ f k. k }
