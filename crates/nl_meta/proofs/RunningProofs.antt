-- The running map over a device.
use Rattle.std.proofs.Common.{◌≡◌, ◌≢◌, ℕ, ◌<◌, Bool, true, false, ◌==◌, List, [], ◌∷◌, ◌++◌, length, get_or, refl, sym, ap, subst, ◌∙◌, Option, Some, None, IsSome, is_some, ◌⊎◌, inl, inr, nat_lt}
use Rattle.std.proofs.Math.ListN.{set}
use Rattle.std.proofs.lemmas.Bool.{cases_eq, cases_order, eqb-false, lt-ltb, both_ways}
use Rattle.std.proofs.lemmas.List.{get_or-set_same, get_or-set_other, length-set}
use Rattle.std.specs.List.{list_any}
use Rattle.nl_field.specs.Bytes.{zeros}
use Rattle.nl_field.specs.Members.{Has}
use Rattle.nl_meta.specs.Committed.{VirtualMap}
use Rattle.nl_meta.specs.Pages.{Pages, above, below, dirty_pages, is_dirty, is_frozen, none_frozen, page_of, touched, with_address}
use Rattle.nl_meta.specs.Running.{AdmitsPage, MissesPage, CleanIsStored, DiffersAt, RunningMap, SameRunning, SetsRunningPage, or_stored, running_over}
use Rattle.nl_meta.specs.Steps.{Admits, KeepsOtherPages, Misses, with_dirty, with_restored}
use Rattle.nl_meta.proofs.Lists.{any-none, none-any, none_some, filter-member, append-member-left, append-member-right}

-- ---- a list with one more

in-with : (v : ℕ) (xs : List ℕ) → Has (with_address v xs) v
unfolding with_address
in-with v xs = append-member-right (below v xs) (v ∷ above v xs) v (inl refl)

kept-with : (v : ℕ) (xs : List ℕ) (x : ℕ) → Has xs x → Has (with_address v xs) x
unfolding with_address
kept-with v xs x m = by (cases_order x v)
  where
    by : (x ≡ v) ⊎ ((x < v) ⊎ (v < x)) → Has (below v xs ++ v ∷ above v xs) x
    by (inl e) = append-member-right (below v xs) (v ∷ above v xs) x (inl (sym e))
    by (inr (inl h)) = append-member-left (below v xs) (v ∷ above v xs) x (filter-member (λ a. nat_lt a v) xs x m (lt-ltb x v h))
    by (inr (inr h)) = append-member-right (below v xs) (v ∷ above v xs) x (inr (filter-member (λ a. nat_lt v a) xs x m (lt-ltb v x h)))

-- an address that is not in it is another, and was not in it before
pub not-with : (v : ℕ) (xs : List ℕ) (u : ℕ) → list_any (λ a. a == u) (with_address v xs) ≡ false → (u ≢ v) × (list_any (λ a. a == u) xs ≡ false)
not-with v xs u e = (
  (λ s. eqb-false v u (any-none (λ a. a == u) (with_address v xs) e v (in-with v xs)) (sym s)),
  none-any (λ a. a == u) xs (λ x m. any-none (λ a. a == u) (with_address v xs) e x (kept-with v xs x m)),
)

not-last : (v : ℕ) (xs : List ℕ) (u : ℕ) → list_any (λ a. a == u) (xs ++ v ∷ []) ≡ false → (u ≢ v) × (list_any (λ a. a == u) xs ≡ false)
not-last v xs u e = (
  (λ s. eqb-false v u (any-none (λ a. a == u) (xs ++ v ∷ []) e v (append-member-right xs (v ∷ []) v (inl refl))) (sym s)),
  none-any (λ a. a == u) xs (λ x m. any-none (λ a. a == u) (xs ++ v ∷ []) e x (append-member-left xs (v ∷ []) x m)),
)

-- ---- the laws

module _ (device : VirtualMap) (p : Pages) (clean : CleanIsStored device p) where
  -- another address has what it had
  stays : (v : ℕ) (new : Pages) → KeepsOtherPages v p new → (u : ℕ) → u ≢ v → running_over device new u ≡ running_over device p u
  unfolding running_over
  stays v new keeps u far = ap (λ o. or_stored o (device u)) (keeps.others u far)

  -- what another address has is the device's, where it is clean
  stored : (v : ℕ) (new : Pages) → KeepsOtherPages v p new → (u : ℕ) → u ≢ v → (bytes : List ℕ) → page_of new u ≡ Some bytes → is_dirty p u ≡ false → is_frozen p u ≡ false → device u ≡ Some bytes
  stored v new keeps u far bytes is d f = clean.each u bytes (sym (keeps.others u far) ∙ is) d f

  here : (v : ℕ) (bytes : List ℕ) (new : Pages) → page_of new v ≡ Some bytes → running_over device new v ≡ Some bytes
  unfolding running_over
  here v bytes new is = ap (λ o. or_stored o (device v)) is

  absent : (v : ℕ) → page_of p v ≡ None → running_over device p v ≡ device v
  unfolding running_over
  absent v is = ap (λ o. or_stored o (device v)) is

  alike : (new : Pages) → new.running ≡ p.running → (u : ℕ) → running_over device new u ≡ running_over device p u
  unfolding running_over
  alike new e u = ap (λ (running : List (Option (List ℕ))). or_stored (get_or running u None) (device u)) e

  admitted : (v : ℕ) (bytes : List ℕ) (new : Pages) → device v ≡ Some bytes → page_of p v ≡ None → Admits v bytes p new → SameRunning device p new
  admitted v bytes new has gone is = record {
    same = λ u. same u (cases_eq u v);
    clean = record { each = λ u b at d f. each u b at d f (cases_eq u v) };
  }
    where
      same : (u : ℕ) → (u ≡ v) ⊎ (u ≡ v → ⊥) → running_over device new u ≡ running_over device p u
      same u (inl e) = subst (λ (w : ℕ). running_over device new w ≡ running_over device p w) (sym e) (here v bytes new is.page ∙ sym (absent v gone ∙ has))
      same u (inr far) = stays v new is.keeps u far

      each : (u : ℕ) (b : List ℕ) → page_of new u ≡ Some b → is_dirty new u ≡ false → is_frozen new u ≡ false → (u ≡ v) ⊎ (u ≡ v → ⊥) → device u ≡ Some b
      each u b at d f (inl e) = ap device e ∙ has ∙ sym is.page ∙ ap (page_of new) (sym e) ∙ at
      each u b at d f (inr far) =
          stored v new is.keeps u far b at (ap (λ (xs : List ℕ). list_any (λ a. a == u) xs) (sym is.dirty) ∙ d) (ap (λ fs. list_any (λ a. a == u) fs.addresses) (sym is.keeps.frozen) ∙ f)

  missed : (v : ℕ) (new : Pages) → page_of p v ≡ None → Misses v p new → SameRunning device p new
  unfolding running_over
  missed v new gone is = record {
    same = λ u. same u (cases_eq u v);
    clean = record { each = λ u b at d f. each u b at d f (cases_eq u v) };
  }
    where
      same : (u : ℕ) → (u ≡ v) ⊎ (u ≡ v → ⊥) → running_over device new u ≡ running_over device p u
      same u (inl e) = ap (λ o. or_stored o (device u)) (ap (page_of new) e ∙ is.page ∙ sym gone ∙ ap (page_of p) (sym e))
      same u (inr far) = stays v new is.keeps u far

      each : (u : ℕ) (b : List ℕ) → page_of new u ≡ Some b → is_dirty new u ≡ false → is_frozen new u ≡ false → (u ≡ v) ⊎ (u ≡ v → ⊥) → device u ≡ Some b
      each u b at d f (inl e) = absurd (none_some b (sym is.page ∙ ap (page_of new) (sym e) ∙ at))
      each u b at d f (inr far) =
          stored v new is.keeps u far b at (ap (λ (xs : List ℕ). list_any (λ a. a == u) xs) (sym is.dirty) ∙ d) (ap (λ fs. list_any (λ a. a == u) fs.addresses) (sym is.keeps.frozen) ∙ f)

  with-one : (v : ℕ) (bytes : List ℕ) (new : Pages) → page_of new v ≡ Some bytes → new.dirty ≡ with_address v p.dirty → KeepsOtherPages v p new → SetsRunningPage v bytes device p new
  with-one v bytes new is dirty keeps = record {
    at = here v bytes new is;
    others = stays v new keeps;
    clean = record { each = λ u b at d f. each u b at (not-with v p.dirty u (ap (λ (xs : List ℕ). list_any (λ a. a == u) xs) (sym dirty) ∙ d)) f };
  }
    where
      each : (u : ℕ) (b : List ℕ) → page_of new u ≡ Some b → (u ≢ v) × (list_any (λ a. a == u) p.dirty ≡ false) → is_frozen new u ≡ false → device u ≡ Some b
      each u b at d f = stored v new keeps u d.0 b at d.1 (ap (λ fs. list_any (λ a. a == u) fs.addresses) (sym keeps.frozen) ∙ f)

  changed : (v : ℕ) (bytes : List ℕ) → v < length p.running → SetsRunningPage v bytes device p (with_dirty p v bytes)
  unfolding running_over
  changed v bytes below = record {
    at = here v bytes (with_dirty p v bytes) (get_or-set_same p.running v (Some bytes) None below);
    others = others;
    clean = record { each = λ u b at d f. let n = not-with v p.dirty u d in clean.each u b (sym (get_or-set_other p.running v u (Some bytes) None n.0) ∙ at) n.1 f };
  }
    where
      others : (u : ℕ) → u ≢ v → running_over device (with_dirty p v bytes) u ≡ running_over device p u
      others u far = ap (λ o. or_stored o (device u)) (get_or-set_other p.running v u (Some bytes) None far)

  restored : (v : ℕ) (bytes : List ℕ) → v < length p.running → SetsRunningPage v bytes device p (with_restored p v bytes)
  unfolding running_over
  restored v bytes below = record {
    at = here v bytes (with_restored p v bytes) (get_or-set_same p.running v (Some bytes) None below);
    others = others;
    clean = record { each = λ u b at d f. let n = not-last v p.frozen.addresses u f in clean.each u b (sym (get_or-set_other p.running v u (Some bytes) None n.0) ∙ at) d n.1 };
  }
    where
      others : (u : ℕ) → u ≢ v → running_over device (with_restored p v bytes) u ≡ running_over device p u
      others u far = ap (λ o. or_stored o (device u)) (get_or-set_other p.running v u (Some bytes) None far)

  written : (v : ℕ) (after : VirtualMap) → DiffersAt v device after → IsSome (page_of p v) → (is_dirty p v ≡ true) ⊎ (is_frozen p v ≡ true)
      → ((u : ℕ) → running_over after p u ≡ running_over device p u) × CleanIsStored after p
  unfolding running_over
  written v after differs there held = ((λ u. same u (cases_eq u v)), record { each = λ u b at d f. each u b at d f (cases_eq u v) })
    where
      either : (o s t : Option (List ℕ)) → is_some o ≡ true → or_stored o s ≡ or_stored o t
      either (Some bytes) s t h = refl
      either None s t h = absurd (both_ways false refl h)

      same : (u : ℕ) → (u ≡ v) ⊎ (u ≡ v → ⊥) → or_stored (page_of p u) (after u) ≡ or_stored (page_of p u) (device u)
      same u (inl e) = either (page_of p u) (after u) (device u) (ap (λ (w : ℕ). is_some (page_of p w)) e ∙ there)
      same u (inr far) = ap (or_stored (page_of p u)) (differs u far)

      each : (u : ℕ) (b : List ℕ) → page_of p u ≡ Some b → is_dirty p u ≡ false → is_frozen p u ≡ false → (u ≡ v) ⊎ (u ≡ v → ⊥) → after u ≡ Some b
      each u b at d f (inr far) = differs u far ∙ clean.each u b at d f
      each u b at d f (inl e) = absurd (none held)
        where
          none : (is_dirty p v ≡ true) ⊎ (is_frozen p v ≡ true) → ⊥
          none (inl h) = both_ways _ (ap (is_dirty p) (sym e) ∙ d) h
          none (inr h) = both_ways _ (ap (is_frozen p) (sym e) ∙ f) h

pub running_map : RunningMap
running_map device p clean = record {
  admitted = admitted device p clean;
  missed = missed device p clean;
  freshened = λ v new is. with-one device p clean v (zeros 4096) new is.page is.dirty is.keeps;
  changed = changed device p clean;
  restored = restored device p clean;
  touched = λ v. record { same = alike device p clean (record p { recent = touched v p.recent }) refl; clean = record { each = clean.each } };
  frozen = λ none. record {
    same = alike device p clean (record p { dirty = []; frozen = dirty_pages p }) refl;
    clean = record { each = λ u b at d f. clean.each u b at f (ap (λ (xs : List ℕ). list_any (λ a. a == u) xs) none) };
  };
  thawed = λ home. record {
    same = alike device p clean (record p { frozen = none_frozen }) refl;
    clean = record { each = λ u b at d f. thawn u b at d home (is_frozen p u) refl };
  };
  written = written device p clean;
}
  where
    thawn : (u : ℕ) (b : List ℕ) → page_of p u ≡ Some b → is_dirty p u ≡ false
        → ((u : ℕ) (bytes : List ℕ) → page_of p u ≡ Some bytes → is_frozen p u ≡ true → is_dirty p u ≡ false → device u ≡ Some bytes)
        → (t : Bool) → is_frozen p u ≡ t → device u ≡ Some b
    thawn u b at d home true e = home u b at e d
    thawn u b at d home false e = clean.each u b at d e

pub admits_page : AdmitsPage
admits_page v bytes p below = record {
  page = get_or-set_same p.running v (Some bytes) None below;
  dirty = refl;
  keeps = record {
    count = length-set p.running v (Some bytes);
    frozen = refl;
    recent = refl;
    others = λ u far. get_or-set_other p.running v u (Some bytes) None far;
  };
}

pub misses_page : MissesPage
misses_page v bytes p below gone = record {
  page = get_or-set_same (set p.running v (Some bytes)) v None None (subst (λ (n : ℕ). v < n) (sym (length-set p.running v (Some bytes))) below);
  dirty = refl;
  keeps = record {
    count = length-set (set p.running v (Some bytes)) v None ∙ length-set p.running v (Some bytes);
    frozen = refl;
    recent = refl;
    others = λ u far. get_or-set_other (set p.running v (Some bytes)) v u None None far ∙ get_or-set_other p.running v u (Some bytes) None far;
  };
}
