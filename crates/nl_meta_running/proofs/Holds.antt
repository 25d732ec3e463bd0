-- A page that is touched or fetched leaves the running map.
use Rattle.std.proofs.Common.{◌≡◌, ◌≢◌, ◌⊎◌, ℕ, ◌+◌, ◌≤◌, ◌<◌, Bool, true, false, cond, nat_le, List, length, refl, sym, ap, subst, ◌∙◌, Option, Some, None, IsSome, is_some, inl, inr, ⊎_elim, arith, nat_lt, option_map}
use Rattle.std.proofs.lemmas.Bool.{and_parts, both_ways, cases_eq, leb-true, ltb-true}
use Rattle.nl_field.specs.Bytes.{zeros}
use Rattle.nl_field.specs.Numbers.{ShapeBounds}
use Rattle.nl_field.specs.Virtual.{is_inode_address, map_bytes, or_zeros}
use Rattle.nl_field.specs.declared.shape.Shape.{Shape}
use Rattle.nl_field.proofs.Bounds.{bounds}
use Rattle.nl_iface.specs.Calls.{OnlyReads}
use Rattle.nl_iface.specs.Device.{IsVolumeShape}
use Rattle.nl_iface.specs.Stored.{Value}
use Rattle.nl_iface.specs.declared.counts.Counts.{Ghosts}
use Rattle.nl_inode.specs.Fetching.{Fetches, FetchesNone}
use Rattle.nl_meta.specs.PageLaws.{IsApart}
use Rattle.nl_meta.specs.Pages.{Pages, page_of, touched}
use Rattle.nl_meta.specs.Running.{CleanIsStored, SameRunning, or_stored, running_over}
use Rattle.nl_meta.proofs.Lists.{none_some}
use Rattle.nl_meta.proofs.RunningProofs.{running_map}
use Rattle.nl_meta.specs.Steps.{KeepsOtherPages}
use Rattle.nl_meta_running.specs.Holding.{HoldsPage}
use Rattle.nl_meta_running.specs.Running.{IsNeeded, RunningIsRight, PreservesRunning, running_on, stored_on}

pub bounds-of : (shape : Shape) → IsVolumeShape shape → ShapeBounds shape
bounds-of shape is = subst ShapeBounds (sym is.numbers) (bounds shape.blocks shape.pages is.legal)

by-cases : (a b : Bool) (bytes : List ℕ) → cond a (cond b (Some (zeros 4096)) None) None ≡ Some bytes → b ≡ true
by-cases true true bytes x = refl
by-cases true false bytes x = absurd (none_some bytes x)
by-cases false b bytes x = absurd (none_some bytes x)

-- a page that is resident is another one than one that was not
stays-but : (p q : Pages) (v : ℕ) → page_of p v ≡ None → KeepsOtherPages v p q → (u : ℕ) → IsSome (page_of p u) → page_of q u ≡ page_of p u
stays-but p q v gone keeps u there = keeps.others u (λ e. both_ways _ refl (ap is_some (sym gone) ∙ ap (λ (w : ℕ). is_some (page_of p w)) (sym e) ∙ there))

-- a page that became resident is that one
apart-but : (p q : Pages) (v : ℕ) → KeepsOtherPages v p q → 67 ≤ v → (u : ℕ) → IsSome (page_of q u) → IsSome (page_of p u) ⊎ IsApart u
apart-but p q v keeps far u there = by (cases_eq u v)
  where
    by : (u ≡ v) ⊎ (u ≢ v) → IsSome (page_of p u) ⊎ IsApart u
    by (inl e) = inr (inr (omega (arith, e, far)))
    by (inr off) = inl (ap is_some (sym (keeps.others u off)) ∙ there)

-- what a fetch makes resident, and what stays
pub fetched-holds : (tells : Type 0) (stored : Option (List ℕ)) (v : ℕ) (p q : Pages) → Fetches tells stored v p q → HoldsPage v p q
fetched-holds tells stored v p q (inl x) = subst (λ (n : Pages). HoldsPage v p n) (sym x.1) (record { there = x.0; recent = refl; stays = λ u h. h })
fetched-holds tells stored v p q (inr (gone, bytes, is, admits)) = record {
  there = ap is_some admits.page;
  recent = admits.keeps.recent;
  stays = λ u h. ap is_some (stays-but p q v gone admits.keeps u h) ∙ h;
}

pub reads-none : {D : Type 0} (g : Ghosts D) (s : D) → OnlyReads g s s
reads-none g s = record {
  medium = record {
    virtual = record { same_shape = refl; same_stamps = λ v. refl; same_map = λ t v. refl; no_failed = λ t v x f. f; spare = λ k. k };
    contents = λ t. refl;
    left = λ t m c l. l;
    bytes = λ t p. refl;
    found = refl;
    next_stamp = refl;
    clean = λ c. c;
    clock = refl;
    write_faults = refl;
  };
  names = refl;
}

module _ {D : Type 0} (g : Ghosts D) (s : D) (p : Pages) (runs : RunningIsRight g s p) where
  -- the device has the same bytes after a read, where it tells
  stored-same : (t : D) → OnlyReads g s t → g.tells → (v : ℕ) → stored_on g t v ≡ stored_on g s v
  unfolding map_bytes
  stored-same t reads told v =
      ap (λ (shape : Shape). map_bytes shape (g.map t) v) reads.medium.virtual.same_shape
      ∙ ap (λ (o : Option Value). cond (nat_lt v (g.shape s).vaddrs) (or_zeros (g.shape s) v (option_map (λ x. x.1) o)) None) (reads.medium.virtual.same_map told v)

  clean-moved : (t : D) (q : Pages) → OnlyReads g s t → g.tells → CleanIsStored (stored_on g s) q → CleanIsStored (stored_on g t) q
  clean-moved t q reads told clean = record { each = λ u bytes at d f. stored-same t reads told u ∙ clean.each u bytes at d f }

  -- a map over the same pages
  moved : (t : D) (q : Pages) → OnlyReads g s t → g.tells → (v : ℕ) → running_on g t q v ≡ running_over (stored_on g s) q v
  unfolding running_over
  moved t q reads told v = ap (λ o. or_stored (page_of q v) o) (stored-same t reads told v)

  told-touched : (v : ℕ) (t : D) → OnlyReads g s t → g.tells → (u : ℕ) → running_on g t (record p { recent = touched v p.recent }) u ≡ running_on g s p u
  unfolding running_over
  told-touched v t reads told u = ap (λ o. or_stored (page_of p u) o) (stored-same t reads told u)

  there-touched : (v : ℕ) (t : D) → OnlyReads g s t → (u : ℕ) → IsNeeded (g.shape s) (running_on g s p) u → (o : Option (List ℕ)) → page_of p u ≡ o
      → running_on g t (record p { recent = touched v p.recent }) u ≡ running_on g s p u
  unfolding running_over
  there-touched v t reads u need None gone = told-touched v t reads (runs.absent u need gone) u
  there-touched v t reads u need (Some bytes) there = ap (λ o. or_stored o (stored_on g t u)) there ∙ sym (ap (λ o. or_stored o (stored_on g s u)) there)

  pub touched-runs : (v : ℕ) (t : D) → OnlyReads g s t → PreservesRunning g s p t (record p { recent = touched v p.recent })
  touched-runs v t reads = record {
    reads = reads;
    count = refl;
    dirty = refl;
    frozen = refl;
    needed = λ u need. there-touched v t reads u need (page_of p u) refl;
    told = λ told u. told-touched v t reads told u;
    stays = λ u h. refl;
    only = λ u h. inl h;
    apart = λ u there. inl there;
    absent = runs.absent;
    clean = λ told. clean-moved t (record p { recent = touched v p.recent }) reads told (record { each = (runs.clean told).each });
  }

  pub none-runs : PreservesRunning g s p s p
  none-runs = record {
    reads = reads-none g s;
    count = refl;
    dirty = refl;
    frozen = refl;
    needed = λ u need. refl;
    told = λ told u. refl;
    stays = λ u h. refl;
    only = λ u h. inl h;
    apart = λ u there. inl there;
    absent = runs.absent;
    clean = runs.clean;
  }

  told-runs : (t : D) (q : Pages) → OnlyReads g s t → g.tells → length q.running ≡ length p.running → q.dirty ≡ p.dirty → q.frozen ≡ p.frozen
      → ((u : ℕ) → IsSome (page_of p u) → page_of q u ≡ page_of p u) → ((u : ℕ) → IsSome (page_of q u) → IsSome (page_of p u) ⊎ IsNeeded (g.shape s) (running_on g s p) u)
      → ((u : ℕ) → IsSome (page_of q u) → IsSome (page_of p u) ⊎ IsApart u) → SameRunning (stored_on g s) p q → PreservesRunning g s p t q
  told-runs t q reads told count dirty frozen stays only apart alike = record {
    reads = reads;
    count = count;
    dirty = dirty;
    frozen = frozen;
    needed = λ u need. moved t q reads told u ∙ alike.same u;
    told = λ told u. moved t q reads told u ∙ alike.same u;
    stays = stays;
    only = only;
    apart = apart;
    absent = λ u need gone. told;
    clean = λ told. clean-moved t q reads told alike.clean;
  }

  module _ (v : ℕ) (need : IsNeeded (g.shape s) (running_on g s p) v) where
    -- no other page becomes resident
    only-but : (q : Pages) → KeepsOtherPages v p q → (u : ℕ) → IsSome (page_of q u) → IsSome (page_of p u) ⊎ IsNeeded (g.shape s) (running_on g s p) u
    only-but q keeps u there = ⊎_elim (λ same. inr (subst (λ (w : ℕ). IsNeeded (g.shape s) (running_on g s p) w) (sym same) need)) (λ far. inl (ap is_some (sym (keeps.others u far)) ∙ there)) (cases_eq u v)

    -- it is none of the journal's
    need-apart : 67 ≤ v
    need-apart = by need
      where
        by : IsNeeded (g.shape s) (running_on g s p) v → 67 ≤ v
        by (inr u) = let low = (runs.addresses.good u.0 u.1 v u.2).from_pool in omega (arith, low)
        by (inl e) = leb-true 67 v (and_parts (nat_le 67 v) _ e).0

    pub missed-runs : (t : D) (q : Pages) → OnlyReads g s t → FetchesNone v p q → PreservesRunning g s p t q
    missed-runs t q reads none =
        let told = runs.absent v need none.0 in
        told-runs t q reads told none.1.keeps.count none.1.dirty none.1.keeps.frozen (stays-but p q v none.0 none.1.keeps) (only-but q none.1.keeps) (apart-but p q v none.1.keeps need-apart) ((running_map (stored_on g s) p (runs.clean told)).missed v q none.0 none.1)

    pub fetched-runs : (t : D) (q : Pages) → OnlyReads g s t → Fetches g.tells (stored_on g s v) v p q → PreservesRunning g s p t q
    fetched-runs t q reads (inl there) = subst (λ (n : Pages). PreservesRunning g s p t n) (sym there.1) (touched-runs v t reads)
    fetched-runs t q reads (inr (gone, bytes, is, admits)) =
        let told = runs.absent v need gone in
        told-runs t q reads told admits.keeps.count admits.dirty admits.keeps.frozen (stays-but p q v gone admits.keeps) (only-but q admits.keeps) (apart-but p q v admits.keeps need-apart) ((running_map (stored_on g s) p (runs.clean told)).admitted v bytes q (is told) gone admits)

    -- an address that is not resident is one of the volume, and was written or has nodes
    pub within-volume : IsVolumeShape (g.shape s) → v < (g.shape s).vaddrs
    within-volume is = by need
      where
        by : IsNeeded (g.shape s) (running_on g s p) v → v < (g.shape s).vaddrs
        by (inr u) = (runs.addresses.good u.0 u.1 v u.2).in_pool
        by (inl e) =
            let b = bounds-of (g.shape s) is in
            let h = ltb-true v (67 + (g.shape s).inode_pages) (and_parts (nat_le 67 v) _ e).1 in
            let m = b.addresses in
            omega (arith, h, m)

    stored-needed : page_of p v ≡ None → g.map s v ≡ None → (bytes : List ℕ) → running_on g s p v ≡ Some bytes → is_inode_address (g.shape s) v ≡ true
    unfolding running_over map_bytes
    stored-needed gone none bytes e = by-cases (nat_lt v (g.shape s).vaddrs) (is_inode_address (g.shape s) v) bytes
        (sym (ap (λ (o : Option Value). cond (nat_lt v (g.shape s).vaddrs) (or_zeros (g.shape s) v (option_map (λ x. x.1) o)) None) none)
        ∙ sym (ap (λ o. or_stored o (stored_on g s v)) gone) ∙ e)

    pub written-or-nodes : page_of p v ≡ None → g.map s v ≡ None → is_inode_address (g.shape s) v ≡ true
    written-or-nodes gone none = by need
      where
        by : IsNeeded (g.shape s) (running_on g s p) v → is_inode_address (g.shape s) v ≡ true
        by (inl e) = e
        by (inr u) = let good = runs.addresses.good u.0 u.1 v u.2 in stored-needed gone none good.bytes good.committed
