-- What a change of the pages is.
use Rattle.std.proofs.Common.{◌≡◌, ◌≢◌, ◌⊎◌, ⊎_elim, inl, inr, ℕ, zero, suc, ◌==◌, false, true, List, [], ◌∷◌, get_or, Option, Some, None, IsSome, is_some, refl, sym, ap, subst, ◌∙◌}
use Rattle.std.proofs.Math.ListN.{set}
use Rattle.std.proofs.lemmas.Bool.{both_ways, cases_eq}
use Rattle.std.proofs.lemmas.List.{get_or-set_other}
use Rattle.std.specs.List.{list_any}
use Rattle.nl_meta.specs.Pages.{Pages, is_dirty, page_of, touched, with_address}
use Rattle.nl_meta.specs.PageLaws.{CallsChangePages, IsApart, LoadsPages}
use Rattle.nl_meta.specs.Steps.{Admits, ChangesRunningPages, Freshens, KeepsOtherPages, Misses, with_dirty}
use Rattle.nl_meta.proofs.RunningProofs.{not-with}

-- a page that is replaced where it was is there
some-set : {X : Type 0} (xs : List (Option X)) (v : ℕ) (x : X) → is_some (get_or xs v None) ≡ true → is_some (get_or (set xs v (Some x)) v None) ≡ true
some-set [] v x h = h
some-set (o ∷ xs) zero x h = refl
some-set (o ∷ xs) (suc v) x h = some-set xs v x h

-- what is there is not missing
off : {X : Type 0} (o : Option X) → o ≡ None → is_some o ≡ true → ⊥
off o e h = both_ways (is_some o) (ap is_some e) h

pub none : (p : Pages) → ChangesRunningPages p p
none p = record {
  same_frozen = refl;
  stays = λ v there. there;
  was_clean = λ v clean. clean;
  same_clean = λ v clean there. refl;
  apart = λ v there. inl there;
}

pub both : (p q r : Pages) → ChangesRunningPages p q → ChangesRunningPages q r → ChangesRunningPages p r
both p q r a b = record {
  same_frozen = b.same_frozen ∙ a.same_frozen;
  stays = λ v there. b.stays v (a.stays v there);
  was_clean = λ v clean. a.was_clean v (b.was_clean v clean);
  same_clean = λ v clean there. b.same_clean v clean (a.stays v there) ∙ a.same_clean v (b.was_clean v clean) there;
  apart = λ v there. ⊎_elim (λ before. a.apart v before) (λ far. inr far) (b.apart v there);
}

pub loaded : (p new : Pages) → LoadsPages p new → ChangesRunningPages p new
loaded p new l = record {
  same_frozen = l.frozen;
  stays = λ v there. ap is_some (l.stays v there) ∙ there;
  was_clean = λ v clean. ap (λ (xs : List ℕ). list_any (λ a. a == v) xs) (sym l.dirty) ∙ clean;
  same_clean = λ v clean there. l.stays v there;
  apart = l.apart;
}

-- ---- one page is dirty

module _ (p : Pages) (v : ℕ) (new : Pages) (frozen : new.frozen ≡ p.frozen) (dirty : new.dirty ≡ with_address v p.dirty) (others : (u : ℕ) → u ≢ v → page_of new u ≡ page_of p u)
    (there : IsSome (page_of p v) → IsSome (page_of new v)) (may : IsSome (page_of p v) ⊎ IsApart v) where
  before : (u : ℕ) → is_dirty new u ≡ false → (u ≢ v) × (is_dirty p u ≡ false)
  before u clean = not-with v p.dirty u (ap (λ (xs : List ℕ). list_any (λ a. a == u) xs) (sym dirty) ∙ clean)

  stays : (u : ℕ) → (u ≡ v) ⊎ (u ≢ v) → IsSome (page_of p u) → IsSome (page_of new u)
  stays u (inl e) is = ap (λ (w : ℕ). is_some (page_of new w)) e ∙ there (ap (λ (w : ℕ). is_some (page_of p w)) (sym e) ∙ is)
  stays u (inr far) is = ap is_some (others u far) ∙ is

  apart : (u : ℕ) → (u ≡ v) ⊎ (u ≢ v) → IsSome (page_of new u) → IsSome (page_of p u) ⊎ IsApart u
  apart u (inl e) is = subst (λ (w : ℕ). IsSome (page_of p w) ⊎ IsApart w) (sym e) may
  apart u (inr far) is = inl (ap is_some (sym (others u far)) ∙ is)

  pub changes-one : ChangesRunningPages p new
  changes-one = record {
    same_frozen = frozen;
    stays = λ u is. stays u (cases_eq u v) is;
    was_clean = λ u clean. (before u clean).1;
    same_clean = λ u clean is. others u (before u clean).0;
    apart = λ u is. apart u (cases_eq u v) is;
  }

pub changed : (p : Pages) (v : ℕ) (bytes : List ℕ) → IsSome (page_of p v) ⊎ IsApart v → ChangesRunningPages p (with_dirty p v bytes)
changed p v bytes may = changes-one p v (with_dirty p v bytes) refl refl (λ u far. get_or-set_other p.running v u (Some bytes) None far) (some-set p.running v bytes) may

pub freshened : (p : Pages) (v : ℕ) (new : Pages) → IsSome (page_of p v) ⊎ IsApart v → Freshens v p new → ChangesRunningPages p new
freshened p v new may is = changes-one p v new is.keeps.frozen is.dirty is.keeps.others (λ before. ap is_some is.page) may

-- ---- one page may become resident

module _ (p : Pages) (v : ℕ) (gone : page_of p v ≡ None) (new : Pages) (dirty : new.dirty ≡ p.dirty) (keeps : KeepsOtherPages v p new) where
  far-from : (u : ℕ) → IsSome (page_of p u) → u ≢ v
  far-from u there e = off (page_of p u) (ap (page_of p) e ∙ gone) there

  pub loads-one : ((u : ℕ) → u ≡ v → IsSome (page_of new u) → IsSome (page_of p u) ⊎ IsApart u) → LoadsPages p new
  loads-one at = record {
    dirty = dirty;
    frozen = keeps.frozen;
    stays = λ u there. keeps.others u (far-from u there);
    apart = λ u there. ⊎_elim (λ e. at u e there) (λ far. inl (ap is_some (sym (keeps.others u far)) ∙ there)) (cases_eq u v);
  }

pub admitted : (p : Pages) (v : ℕ) (bytes : List ℕ) (new : Pages) → IsApart v → page_of p v ≡ None → Admits v bytes p new → ChangesRunningPages p new
admitted p v bytes new far gone is = loaded p new (loads-one p v gone new is.dirty is.keeps (λ u e there. inr (subst IsApart (sym e) far)))

pub missed : (p : Pages) (v : ℕ) (new : Pages) → page_of p v ≡ None → Misses v p new → ChangesRunningPages p new
missed p v new gone is = loaded p new (loads-one p v gone new is.dirty is.keeps (λ u e there. absurd (off (page_of new u) (ap (page_of new) e ∙ is.page) there)))

pub calls_change_pages : CallsChangePages
calls_change_pages p = record {
  none = none p;
  both = both p;
  loaded = loaded p;
  changed = changed p;
  freshened = freshened p;
  admitted = admitted p;
  missed = missed p;
  touched = λ v. loaded p (record p { recent = touched v p.recent }) (record {
    dirty = refl;
    frozen = refl;
    stays = λ u there. refl;
    apart = λ u there. inl there;
  });
}
