-- No callback is handled by a transaction after the next one; so a commit that handled all leaves only what was posted since.
use Rattle.std.proofs.Common.{◌≡◌, ◌≢◌, ℕ, ◌≤◌, Option, Some, None, refl, sym, ap, subst, ◌∙◌, ◌⊎◌, inl, inr}
use Rattle.std.proofs.lemmas.Bool.{cases_eq}
use Rattle.std.proofs.lemmas.Option.{none-some, same_Some}
use Rattle.nl_iface.specs.declared.Callback.{Callback}
use Rattle.nl_iface.specs.Moves.{Acknowledges, Copies, MarksHandled, first_handled}
use Rattle.nl_iface.specs.Names.{Has, Names}
use Rattle.nl_spec_holders.specs.Holding.{HandledUpTo}
use Rattle.nl_spec_holders.proofs.Words.{IsPending}

pub same-marked : (old new : Names) (top : ℕ) → ((c : Callback) → IsPending new c → IsPending old c) → ((c : Callback) → IsPending new c → new.handled c.number ≡ old.handled c.number) → HandledUpTo old top → HandledUpTo new top
same-marked old new top back same f c n has m = f c n (back c has) (sym (same c has) ∙ m)

pub copy-marked : (c : Callback) (old new : Names) (top : ℕ) → Copies c old new → HandledUpTo old top → HandledUpTo new top
copy-marked c old new top s f d n has m = by (s.only d has)
  where
    by : (d ≡ c) ⊎ IsPending old d → n ≤ top
    by (inl e) = absurd (none-some n (sym s.unhandled ∙ (ap (λ (z : Callback). new.handled z.number) (sym e) ∙ m)))
    by (inr old_one) = f d n old_one (sym (s.handled d old_one) ∙ m)

pub handle-marked : (c : Callback) (number : ℕ) (old new : Names) (top : ℕ) → number ≤ top → MarksHandled c number old new → HandledUpTo old top → HandledUpTo new top
handle-marked c number old new top le s f d n has m = by (cases_eq d.number c.number)
  where
    first : (o : Option ℕ) → old.handled c.number ≡ o → first_handled o number ≡ Some n → n ≤ top
    first None was e = subst (λ (x : ℕ). x ≤ top) (same_Some number n e) le
    first (Some x) was e = f c n s.has (was ∙ e)

    by : (d.number ≡ c.number) ⊎ (d.number ≢ c.number) → n ≤ top
    by (inl e) = first (old.handled c.number) refl (sym s.here ∙ (ap new.handled (sym e) ∙ m))
    by (inr far) = f d n (subst (λ cs. Has cs d) s.pending has) (sym (s.elsewhere d.number far) ∙ m)

-- what is pending after all up to the greatest mark was acknowledged was not handled
pub all-gone : (upto : ℕ) (old new : Names) → Acknowledges upto old new → HandledUpTo old upto → (c : Callback) → IsPending new c → new.handled c.number ≡ None
all-gone upto old new s f c has = by (old.handled c.number) refl
  where
    by : (o : Option ℕ) → old.handled c.number ≡ o → new.handled c.number ≡ None
    by None e = s.handled c has ∙ e
    by (Some n) e = let h = s.only c has in absurd (h.1 (n, e, f c n h.0 e))
