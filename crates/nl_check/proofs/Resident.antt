-- Pages of a device that become resident, one after the other, until all are.
use Rattle.std.proofs.Common.{◌≡◌, ℕ, ◌<◌, ◌≤◌, List, [], length, get_or, set, refl, sym, ap, subst, ◌∙◌, Option, Some, None, ◌⊎◌, inl, inr, arith, nat_lt}
use Rattle.std.proofs.lemmas.Bool.{cases_eq, cases_lt, cond-false, le-ltb}
use Rattle.std.proofs.lemmas.List.{get_or_past, get_or-set_other, get_or-set_same, length-set}
use Rattle.nl_field.specs.Virtual.{map_bytes}
use Rattle.nl_field.specs.declared.shape.Shape.{Shape}
use Rattle.nl_iface.specs.Calls.{KeepsVirtual}
use Rattle.nl_iface.specs.Device.{IsVolumeShape}
use Rattle.nl_iface.specs.Stored.{Value}
use Rattle.nl_iface.specs.declared.counts.Counts.{Ghosts}
use Rattle.nl_journal.proofs.BackStands.{stored-same}
use Rattle.nl_meta.specs.Committed.{VirtualMap, committed}
use Rattle.nl_meta.specs.Pages.{Pages, page_of}
use Rattle.nl_meta.specs.Running.{or_stored, running_over}
use Rattle.nl_meta.specs.Steps.{with_admitted, without_page}
use Rattle.nl_meta_running.specs.Running.{stored_on}
use Rattle.nl_recover.specs.Reading.{MetadataIsRead}
use Rattle.nl_recover.specs.declared.metadata.Metadata.{Metadata}
use Rattle.nl_recover.proofs.LoadFacts.{runs}
use Rattle.nl_recover.proofs.WalkedFacts.{same-loaded}
use Rattle.nl_check.specs.Reading.{IfAllRead, IsResident, MakesResident}
use Rattle.nl_check.specs.declared.reading.ReadAll.{ReadAll}
use Rattle.nl_check.specs.declared.reading.ReadAll.TheVariants as read

module _ (tells : Type 0) where
  pub makes-none : (stored : VirtualMap) (p : Pages) → MakesResident tells stored p p
  makes-none stored p = record { count = refl; each = λ u. inl refl }

  module _ (stored stored' : VirtualMap) (same : tells → (u : ℕ) → stored' u ≡ stored u) where
    pub resident-later : (p q r : Pages) (u : ℕ) → MakesResident tells stored p q → IsResident tells stored' q r u → IsResident tells stored p r u
    resident-later p q r u a s t = s t ∙ runs tells stored stored' same p q u (a.each u) t

    pub resident-stays : (p q r : Pages) (u : ℕ) → IsResident tells stored p q u → MakesResident tells stored p q → MakesResident tells stored' q r → IsResident tells stored p r u
    resident-stays p q r u s a b t = by (b.each u)
      where
        by : (page_of r u ≡ page_of q u) ⊎ (tells → page_of r u ≡ running_over stored' q u) → page_of r u ≡ running_over stored p u
        by (inl e) = e ∙ s t
        by (inr e) = e t ∙ runs tells stored stored' same p q u (a.each u) t

    pub makes-then : (p q r : Pages) → MakesResident tells stored p q → MakesResident tells stored' q r → MakesResident tells stored p r
    makes-then p q r a b = record { count = b.count ∙ a.count; each = λ u. by u (a.each u) (b.each u) }
      where
        by : (u : ℕ) → (page_of q u ≡ page_of p u) ⊎ (tells → page_of q u ≡ running_over stored p u) → (page_of r u ≡ page_of q u) ⊎ (tells → page_of r u ≡ running_over stored' q u)
            → (page_of r u ≡ page_of p u) ⊎ (tells → page_of r u ≡ running_over stored p u)
        by u (inl e) (inl f) = inl (f ∙ e)
        by u (inr e) (inl f) = inr (λ t. f ∙ e t)
        by u e (inr f) = inr (λ t. f t ∙ runs tells stored stored' same p q u e t)

  module _ (stored : VirtualMap) (p : Pages) (v : ℕ) (bytes : List ℕ) (below : v < length p.running) (gone : page_of p v ≡ None) where
    -- it was read
    pub admitted-makes : (tells → stored v ≡ Some bytes) → MakesResident tells stored p (with_admitted p v bytes)
    unfolding running_over
    admitted-makes is = record { count = length-set p.running v (Some bytes); each = λ u. by u (cases_eq u v) }
      where
        by : (u : ℕ) → (u ≡ v) ⊎ (u ≡ v → ⊥) → (page_of (with_admitted p v bytes) u ≡ page_of p u) ⊎ (tells → page_of (with_admitted p v bytes) u ≡ or_stored (page_of p u) (stored u))
        by u (inl e) = inr (λ t.
            ap (λ (w : ℕ). get_or (set p.running v (Some bytes)) w None) e ∙ get_or-set_same p.running v (Some bytes) None below
            ∙ sym (ap (λ (w : ℕ). or_stored (page_of p w) (stored w)) e ∙ ap (λ (o : Option (List ℕ)). or_stored o (stored v)) gone ∙ is t))
        by u (inr far) = inl (get_or-set_other p.running v u (Some bytes) None far)

    gone-again : page_of (without_page (with_admitted p v bytes) v) v ≡ None
    gone-again = get_or-set_same (set p.running v (Some bytes)) v None None (subst (λ (n : ℕ). v < n) (sym (length-set p.running v (Some bytes))) below)

    -- it was not
    pub dismissed-makes : MakesResident tells stored p (without_page (with_admitted p v bytes) v)
    dismissed-makes = record {
      count = length-set (set p.running v (Some bytes)) v None ∙ length-set p.running v (Some bytes);
      each = λ u. inl (by u (cases_eq u v));
    }
      where
        by : (u : ℕ) → (u ≡ v) ⊎ (u ≡ v → ⊥) → page_of (without_page (with_admitted p v bytes) v) u ≡ page_of p u
        by u (inl e) = ap (λ (w : ℕ). page_of (without_page (with_admitted p v bytes) v) w) e ∙ gone-again ∙ sym (ap (λ (w : ℕ). page_of p w) e ∙ gone)
        by u (inr far) = get_or-set_other (set p.running v (Some bytes)) v u None None far ∙ get_or-set_other p.running v u (Some bytes) None far

-- ---- all of them

-- no address is there from the count of addresses on
beyond-stored : (shape : Shape) (map : ℕ → Option Value) (u : ℕ) → shape.vaddrs ≤ u → map_bytes shape map u ≡ None
unfolding map_bytes
beyond-stored shape map u far = cond-false (nat_lt u shape.vaddrs) _ _ (le-ltb u shape.vaddrs far)

beyond-pages : (xs : List (Option (List ℕ))) (u : ℕ) → length xs ≤ u → get_or xs u None ≡ None
beyond-pages xs u far = get_or_past xs u None far

pub all-resident : (tells : Type 0) (shape : Shape) (map : ℕ → Option Value) (p q : Pages) → length p.running ≡ shape.vaddrs → length q.running ≡ shape.vaddrs
    → ((u : ℕ) → 0 ≤ u → u < shape.vaddrs → IsResident tells (map_bytes shape map) p q u) → (u : ℕ) → IsResident tells (map_bytes shape map) p q u
unfolding running_over
all-resident tells shape map p q size-p size-q each u t = by (cases_lt u shape.vaddrs)
  where
    by : (u < shape.vaddrs) ⊎ (shape.vaddrs ≤ u) → page_of q u ≡ or_stored (page_of p u) (map_bytes shape map u)
    by (inl below) = each u (omega arith) below t
    by (inr far) =
        beyond-pages q.running u (omega (arith, size-q, far))
        ∙ sym (λ i. or_stored (beyond-pages p.running u (omega (arith, size-p, far)) i) (beyond-stored shape map u far i))

module _ {D : Type 0} (g : Ghosts D) where
  -- the pages that were read, and then all others: each is the committed one
  pub all-committed : (s t : D) (shape : Shape) (m : Metadata) (q : Pages) → shape ≡ g.shape t → KeepsVirtual g s t → IsVolumeShape (g.shape t) → MetadataIsRead g t m → g.tells
      → ((u : ℕ) → IsResident g.tells (map_bytes (g.shape t) (g.map t)) m.meta q u) → (v : ℕ) → page_of q v ≡ committed shape (stored_on g s) v
  all-committed s t shape m q is k volume read tells all v =
      all v tells
      ∙ same-loaded g t [] m.journal read.restored volume read.back m.meta read.loads tells v
      ∙ (λ i. committed (sym is i) (λ (u : ℕ). stored-same g s t k tells u i) v)

pub if-all-read : (r : ReadAll) (P Q : Pages → Type 0) → ((p : Pages) → P p → Q p) → IfAllRead r P → IfAllRead r Q
if-all-read (read.Done p) P Q f h = f p h
if-all-read read.Fault P Q f h = h
if-all-read read.Memory P Q f h = h
