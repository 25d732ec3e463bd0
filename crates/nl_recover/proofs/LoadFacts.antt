-- Pages of a device that become resident, one after the other.
use Rattle.std.proofs.Common.{◌≡◌, ℕ, ◌<◌, false, List, length, get_or, set, refl, sym, ap, subst, ◌∙◌, Option, Some, None, IsSome, is_some, option_map, ◌⊎◌, inl, inr}
use Rattle.std.proofs.lemmas.Bool.{both_ways, cases_eq, cond-false, cond-true, lt-ltb}
use Rattle.std.proofs.lemmas.List.{get_or-set_other, get_or-set_same, length-set}
use Rattle.nl_field.specs.Virtual.{is_inode_address, map_bytes, or_zeros}
use Rattle.nl_field.specs.declared.shape.Shape.{Shape}
use Rattle.nl_iface.specs.Stored.{Value}
use Rattle.nl_meta.specs.Committed.{VirtualMap}
use Rattle.nl_meta.specs.PageLaws.{IsApart}
use Rattle.nl_meta.specs.Pages.{Pages, page_of}
use Rattle.nl_meta.specs.Running.{or_stored, running_over}
use Rattle.nl_meta.specs.Steps.{with_admitted, without_page}
use Rattle.nl_recover.specs.Loading.{LoadsMetadata, Settled}

-- ---- what a device has

pub absent-bytes : (shape : Shape) (map : ℕ → Option Value) (v : ℕ) → v < shape.vaddrs → map v ≡ None → is_inode_address shape v ≡ false → map_bytes shape map v ≡ None
unfolding map_bytes
absent-bytes shape map v below gone inode =
    cond-true _ _ _ (lt-ltb v shape.vaddrs below) ∙ ap (λ (o : Option Value). or_zeros shape v (option_map (λ x. x.1) o)) gone ∙ cond-false (is_inode_address shape v) _ _ inode

-- ---- pages

twice : (a s : Option (List ℕ)) → or_stored (or_stored a s) s ≡ or_stored a s
twice None None = refl
twice None (Some b) = refl
twice (Some b) s = refl

module _ (tells : Type 0) where
  pub loads-none : (stored : VirtualMap) (p : Pages) → LoadsMetadata tells stored p p
  loads-none stored p = record { count = refl; dirty = refl; frozen = refl; kept = λ u h. refl; each = λ u. inl refl; apart = λ u h. inl h }

  module _ (stored stored' : VirtualMap) (same : tells → (u : ℕ) → stored' u ≡ stored u) where
    pub runs : (p q : Pages) (u : ℕ) → (page_of q u ≡ page_of p u) ⊎ (tells → page_of q u ≡ running_over stored p u) → tells → running_over stored' q u ≡ running_over stored p u
    unfolding running_over
    runs p q u (inl e) t = (λ i. or_stored (e i) (same t u i))
    runs p q u (inr e) t = (λ i. or_stored (e t i) (same t u i)) ∙ twice (page_of p u) (stored u)

    pub settled-later : (p q r : Pages) (u : ℕ) → LoadsMetadata tells stored p q → Settled tells stored' q r u → Settled tells stored p r u
    settled-later p q r u a s t = s t ∙ runs p q u (a.each u) t

    pub settled-stays : (p q r : Pages) (u : ℕ) → Settled tells stored p q u → LoadsMetadata tells stored p q → LoadsMetadata tells stored' q r → Settled tells stored p r u
    settled-stays p q r u s a b t = by (b.each u)
      where
        by : (page_of r u ≡ page_of q u) ⊎ (tells → page_of r u ≡ running_over stored' q u) → page_of r u ≡ running_over stored p u
        by (inl e) = e ∙ s t
        by (inr e) = e t ∙ runs p q u (a.each u) t

    pub loads-then : (p q r : Pages) → LoadsMetadata tells stored p q → LoadsMetadata tells stored' q r → LoadsMetadata tells stored p r
    loads-then p q r a b = record {
      count = b.count ∙ a.count;
      dirty = b.dirty ∙ a.dirty;
      frozen = b.frozen ∙ a.frozen;
      kept = λ u h. b.kept u (subst (λ (o : Option (List ℕ)). IsSome o) (sym (a.kept u h)) h) ∙ a.kept u h;
      each = λ u. by u (a.each u) (b.each u);
      apart = λ u h. before u (b.apart u h);
    }
      where
        before : (u : ℕ) → IsSome (page_of q u) ⊎ IsApart u → IsSome (page_of p u) ⊎ IsApart u
        before u (inl h) = a.apart u h
        before u (inr far) = inr far

        by : (u : ℕ) → (page_of q u ≡ page_of p u) ⊎ (tells → page_of q u ≡ running_over stored p u) → (page_of r u ≡ page_of q u) ⊎ (tells → page_of r u ≡ running_over stored' q u)
            → (page_of r u ≡ page_of p u) ⊎ (tells → page_of r u ≡ running_over stored p u)
        by u (inl e) (inl f) = inl (f ∙ e)
        by u (inr e) (inl f) = inr (λ t. f ∙ e t)
        by u e (inr f) = inr (λ t. f t ∙ runs p q u e t)

  -- a page that is resident
  pub settled-there : (stored : VirtualMap) (p : Pages) (u : ℕ) → IsSome (page_of p u) → Settled tells stored p p u
  unfolding running_over
  settled-there stored p u h t = by (page_of p u) h
    where
      by : (o : Option (List ℕ)) → IsSome o → o ≡ or_stored o (stored u)
      by None h = absurd (both_ways false refl h)
      by (Some b) h = refl

  module _ (stored : VirtualMap) (p : Pages) (v : ℕ) (bytes : List ℕ) (below : v < length p.running) (gone : page_of p v ≡ None) where
    other : (u : ℕ) → IsSome (page_of p u) → u ≡ v → ⊥
    other u h e = both_ways _ (ap (λ (w : ℕ). is_some (page_of p w)) e ∙ ap is_some gone) h

    -- it was read
    pub admitted-loads : IsApart v → (tells → stored v ≡ Some bytes) → LoadsMetadata tells stored p (with_admitted p v bytes)
    unfolding running_over
    admitted-loads apart is = record {
      count = length-set p.running v (Some bytes);
      dirty = refl;
      frozen = refl;
      kept = λ u h. get_or-set_other p.running v u (Some bytes) None (other u h);
      each = λ u. by u (cases_eq u v);
      apart = λ u h. only u h (cases_eq u v);
    }
      where
        only : (u : ℕ) → IsSome (page_of (with_admitted p v bytes) u) → (u ≡ v) ⊎ (u ≡ v → ⊥) → IsSome (page_of p u) ⊎ IsApart u
        only u h (inl e) = inr (subst IsApart (sym e) apart)
        only u h (inr far) = inl (subst (λ (o : Option (List ℕ)). IsSome o) (get_or-set_other p.running v u (Some bytes) None far) h)

        by : (u : ℕ) → (u ≡ v) ⊎ (u ≡ v → ⊥) → (page_of (with_admitted p v bytes) u ≡ page_of p u) ⊎ (tells → page_of (with_admitted p v bytes) u ≡ or_stored (page_of p u) (stored u))
        by u (inl e) = inr (λ t.
            ap (λ (w : ℕ). get_or (set p.running v (Some bytes)) w None) e ∙ get_or-set_same p.running v (Some bytes) None below
            ∙ sym (ap (λ (w : ℕ). or_stored (page_of p w) (stored w)) e ∙ ap (λ (o : Option (List ℕ)). or_stored o (stored v)) gone ∙ is t))
        by u (inr far) = inl (get_or-set_other p.running v u (Some bytes) None far)

    pub admitted-settled : (tells → stored v ≡ Some bytes) → Settled tells stored p (with_admitted p v bytes) v
    unfolding running_over
    admitted-settled is t = get_or-set_same p.running v (Some bytes) None below ∙ sym (ap (λ (o : Option (List ℕ)). or_stored o (stored v)) gone ∙ is t)

    gone-again : page_of (without_page (with_admitted p v bytes) v) v ≡ None
    gone-again = get_or-set_same (set p.running v (Some bytes)) v None None (subst (λ (n : ℕ). v < n) (sym (length-set p.running v (Some bytes))) below)

    -- it was not
    pub dismissed-loads : LoadsMetadata tells stored p (without_page (with_admitted p v bytes) v)
    dismissed-loads = record {
      count = length-set (set p.running v (Some bytes)) v None ∙ length-set p.running v (Some bytes);
      dirty = refl;
      frozen = refl;
      kept = λ u h. beside u (other u h);
      each = λ u. inl (by u (cases_eq u v));
      apart = λ u h. inl (subst (λ (o : Option (List ℕ)). IsSome o) (by u (cases_eq u v)) h);
    }
      where
        beside : (u : ℕ) → (u ≡ v → ⊥) → page_of (without_page (with_admitted p v bytes) v) u ≡ page_of p u
        beside u far = get_or-set_other (set p.running v (Some bytes)) v u None None far ∙ get_or-set_other p.running v u (Some bytes) None far

        by : (u : ℕ) → (u ≡ v) ⊎ (u ≡ v → ⊥) → page_of (without_page (with_admitted p v bytes) v) u ≡ page_of p u
        by u (inl e) = ap (λ (w : ℕ). page_of (without_page (with_admitted p v bytes) v) w) e ∙ gone-again ∙ sym (ap (λ (w : ℕ). page_of p w) e ∙ gone)
        by u (inr far) = beside u far

    pub dismissed-settled : (tells → stored v ≡ None) → Settled tells stored p (without_page (with_admitted p v bytes) v) v
    unfolding running_over
    dismissed-settled is t = gone-again ∙ sym (ap (λ (o : Option (List ℕ)). or_stored o (stored v)) gone ∙ is t)
