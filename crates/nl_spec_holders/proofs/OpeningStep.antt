-- After an opening all holds.
use Rattle.std.proofs.Common.{◌≡◌, ◌≢◌, ℕ, ◌+◌, ◌≤◌, List, [], ◌∷◌, drop, Some, refl, sym, ap, subst, ◌∙◌, ◌⊎◌, inl, inr, arith}
use Rattle.std.proofs.lemmas.Bool.{cases_eq}
use Rattle.std.proofs.lemmas.Option.{none-some}
use Rattle.nl_field.specs.declared.pointer.Pointer.{Pointer}
use Rattle.nl_iface.specs.declared.Callback.{Callback}
use Rattle.nl_iface.specs.Holders.{IsRef, always, plain, tagged, times, wants}
use Rattle.nl_iface.specs.Moves.{Retains}
use Rattle.nl_iface.specs.Names.{Has, IsTableOfNames, LivePage, Names, led}
use Rattle.nl_spec_holders.specs.Holding.{Holding, KeepsCommitted}
use Rattle.nl_spec_holders.specs.Opening.{OpensHolding}
use Rattle.nl_spec_holders.proofs.Words.{Holds, IsPending, live_in}

module _ (kept : List Pointer) (place : Pointer → ℕ) (found : List (ℕ × LivePage)) (v : Holding) (table : IsTableOfNames v.names) (r : Retains kept place found v.names) (o : OpensHolding kept v) where
  ref : (p : Pointer) (due : ℕ → Type 0) → Has kept p → IsRef v.names due (wants p) p.name
  ref p due has = let h = r.lives p has in record {
    leads = (h.0, ap v.names.live (r.ways p has) ∙ h.1, h.2);
    safe = λ c n pending m k. absurd (none-some n (sym (r.unhandled c pending) ∙ m));
  }

  pub opens-held : Holds v
  opens-held = record {
    table = table;
    running = λ h has. let x = ref h.1 always (o.running h has) in record { leads = (x.leads.0, x.leads.1, (o.tags h x.leads.0 has x.leads.1, x.leads.2)); safe = x.safe };
    flight = λ h has. absurd (subst (λ xs. Has xs h) o.no_flight has);
    freeing = λ p has. absurd (subst (λ xs. Has xs p) o.none_await has);
    once = λ s. few (times tagged s v.running) (times tagged s v.flight) (times plain s v.freeing) (ap (times tagged s) o.no_flight) (ap (times plain s) o.none_await) (o.once s);
    each = λ q d is. let g = r.only q d is in some (times tagged d.stamp v.running) (times tagged d.stamp v.flight) (times plain d.stamp v.freeing) (subst (λ (s : ℕ). 1 ≤ times tagged s v.running) (sym g.3) (o.all g.0 g.1));
  }
    where
      few : (x y z : ℕ) → y ≡ 0 → z ≡ 0 → x ≤ 1 → x + y + z ≤ 1
      few x y z e f h = omega (arith, e, f, h)

      some : (x y z : ℕ) → 1 ≤ x → 1 ≤ x + y + z
      some x y z h = omega (arith, h)

  pub opens-safe : KeepsCommitted v
  opens-safe = record {
    committed = λ p has. ref p (λ n. n ≤ v.decided) (o.committed p has);
    committed_kept = λ p has. some (times tagged p.stamp v.running) (times plain p.stamp (drop v.due v.freeing)) (o.all p (o.committed p has));
    frozen = λ p has. absurd (subst (λ xs. Has xs p) o.thawed has);
    frozen_kept = λ p has. absurd (subst (λ xs. Has xs p) o.thawed has);
    decided_first = let e = o.number in omega (arith, e);
    next_later = let e = o.number in let h = o.next in omega (arith, e, h);
    leaving_awaits = let e = o.none_leaves in omega (arith, e);
    due_awaits = let e = o.none_due in omega (arith, e);
  }
    where
      some : (x y : ℕ) → 1 ≤ x → 1 ≤ x + y
      some x y h = omega (arith, h)
