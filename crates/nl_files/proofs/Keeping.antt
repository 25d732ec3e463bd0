-- How the pages of a file stay at hand.
use Rattle.std.proofs.Common.{◌≡◌, ◌≢◌, ◌⊎◌, inl, inr, ℕ, zero, suc, ◌≤◌, ◌<◌, Bool, true, false, arith, cond, List, [], ◌∷◌, get_or, length, is_some, Option, Some, None, option_map, nat_lt, refl, sym, ap, ◌∙◌, subst}
use Rattle.std.specs.Prelude.{slice_index}
use Rattle.std.proofs.lemmas.Bool.{both_ways, cases_Bool, cases_eq, cases_lt, cond-true, cond-false, ltb-true}
use Rattle.nl_field.specs.Pointers.{is_none_pointer}
use Rattle.nl_field.specs.Virtual.{is_inode_address, map_bytes, or_zeros}
use Rattle.nl_field.specs.declared.inode.InodeRec.{InodeRec}
use Rattle.nl_field.specs.declared.pointer.Pointer.{Pointer}
use Rattle.nl_field.specs.declared.shape.Shape.{Shape}
use Rattle.nl_iface.specs.Calls.{OnlyReads}
use Rattle.nl_iface.specs.Holders.{IsRef, always, wants_tagged}
use Rattle.nl_iface.specs.Names.{Names}
use Rattle.nl_iface.specs.Stored.{Value}
use Rattle.nl_iface.specs.declared.counts.Counts.{Ghosts}
use Rattle.nl_meta.specs.Committed.{VirtualMap}
use Rattle.nl_meta.specs.Nodes.{pointer_at, slots_of}
use Rattle.nl_meta.specs.Pages.{Pages, page_of, touched}
use Rattle.nl_meta.specs.Running.{CleanIsStored, SameRunning, or_stored, running_over}
use Rattle.nl_meta.specs.Steps.{Admits, KeepsOtherPages, Misses}
use Rattle.nl_meta.proofs.Lists.{map_none, none_some}
use Rattle.nl_meta.proofs.RunningProofs.{running_map as laws_of}
use Rattle.nl_inode.specs.Fetching.{Fetches}
use Rattle.nl_inode.specs.declared.answer.Fetch.{Fetch}
use Rattle.nl_inode.specs.declared.answer.Fetch.TheVariants as fetch
use Rattle.nl_indirect.specs.Ranges.{HasPointers, range_of, slot_of}
use Rattle.nl_indirect.proofs.Pointing.{at-node, in-range, no-page, runs, same-page}
use Rattle.nl_files.specs.Standing.{FileIsAtHand, IsAtHand, KeepsRunning, PointersLead, device_map, running_map, tag_of}

is-ready : Fetch → Bool
is-ready fetch.Ready = true
is-ready fetch.Fault = false
is-ready (fetch.Lost w f) = false

pub fault-not-ready : fetch.Fault ≡ fetch.Ready → ⊥
unfolding is-ready
fault-not-ready e = both_ways false refl (ap is-ready e)

-- ---- a page of the running map

absent : (device : VirtualMap) (p : Pages) (v : ℕ) → page_of p v ≡ None → running_over device p v ≡ device v
unfolding running_over
absent device p v is = ap (λ o. or_stored o (device v)) is

resident : (device other : VirtualMap) (p q : Pages) (v : ℕ) → page_of q v ≡ page_of p v → is_some (page_of p v) ≡ true → running_over other q v ≡ running_over device p v
unfolding running_over
resident device other p q v same there = ap (λ o. or_stored o (other v)) same ∙ either (page_of p v) (other v) (device v) there
  where
    either : (o s t : Option (List ℕ)) → is_some o ≡ true → or_stored o s ≡ or_stored o t
    either (Some bytes) s t h = refl
    either None s t h = absurd (both_ways false refl h)

over : (device other : VirtualMap) (p : Pages) (v : ℕ) → other v ≡ device v → running_over other p v ≡ running_over device p v
unfolding running_over
over device other p v same = ap (or_stored (page_of p v)) same

pub resident-pointers : (device : VirtualMap) (p : Pages) (v : ℕ) → HasPointers (running_over device p) v → is_some (page_of p v) ≡ true → HasPointers (page_of p) v
resident-pointers device p v has there = by (page_of p v) refl there
  where
    by : (o : Option (List ℕ)) → page_of p v ≡ o → is_some o ≡ true → HasPointers (page_of p) v
    by None is h = absurd (both_ways false refl h)
    by (Some bytes) is h = record { bytes = has.bytes; there = is ∙ sym (runs device p v bytes is) ∙ has.there; spelled = has.spelled }

pub admitted-pointers : (device : VirtualMap) (p q : Pages) (v : ℕ) (bytes : List ℕ) → HasPointers (running_over device p) v → page_of p v ≡ None → device v ≡ Some bytes → page_of q v ≡ Some bytes → HasPointers (page_of q) v
admitted-pointers device p q v bytes has gone is new = record { bytes = has.bytes; there = new ∙ sym is ∙ sym (absent device p v gone) ∙ has.there; spelled = has.spelled }

-- ---- an address that has bytes

pub in-list : (xs : List (Option (List ℕ))) (v : ℕ) (bytes : List ℕ) → get_or xs v None ≡ Some bytes → v < length xs
in-list [] v bytes is = absurd (none_some bytes is)
in-list (x ∷ xs) zero bytes is = omega arith
in-list (x ∷ xs) (suc v) bytes is = let h = in-list xs v bytes is in omega (arith, h)

pub address-below : (shape : Shape) (map : ℕ → Option Value) (p : Pages) (v : ℕ) → length p.running ≡ shape.vaddrs → HasPointers (running_over (map_bytes shape map) p) v → v < shape.vaddrs
unfolding map_bytes
address-below shape map p v count has = at (page_of p v) refl
  where
    by : page_of p v ≡ None → (nat_lt v shape.vaddrs ≡ true) ⊎ (nat_lt v shape.vaddrs ≡ false) → v < shape.vaddrs
    by gone (inl e) = ltb-true v shape.vaddrs e
    by gone (inr e) = absurd (none_some has.bytes (sym (cond-false (nat_lt v shape.vaddrs) _ _ e) ∙ sym (absent (map_bytes shape map) p v gone) ∙ has.there))

    at : (o : Option (List ℕ)) → page_of p v ≡ o → v < shape.vaddrs
    at None gone = by gone (cases_Bool (nat_lt v shape.vaddrs))
    at (Some bytes) is = subst (λ (n : ℕ). v < n) count (in-list p.running v bytes is)

unwritten : (shape : Shape) (v : ℕ) (bytes : List ℕ) → or_zeros shape v None ≡ Some bytes → is_inode_address shape v ≡ true
unwritten shape v bytes is = by (cases_Bool (is_inode_address shape v))
  where
    by : (is_inode_address shape v ≡ true) ⊎ (is_inode_address shape v ≡ false) → is_inode_address shape v ≡ true
    by (inl e) = e
    by (inr e) = absurd (none_some bytes (sym (cond-false (is_inode_address shape v) _ _ e) ∙ is))

pub address-written : (shape : Shape) (map : ℕ → Option Value) (p : Pages) (v : ℕ) → HasPointers (running_over (map_bytes shape map) p) v → page_of p v ≡ None → option_map (λ (x : Value). x.0) (map v) ≡ None → is_inode_address shape v ≡ true
unfolding map_bytes
address-written shape map p v has gone none = by (cases_Bool (nat_lt v shape.vaddrs))
  where
    empty : map v ≡ None
    empty = map_none (λ (x : Value). x.0) (map v) none

    by : (nat_lt v shape.vaddrs ≡ true) ⊎ (nat_lt v shape.vaddrs ≡ false) → is_inode_address shape v ≡ true
    by (inl e) = unwritten shape v has.bytes (ap (λ (o : Option Value). or_zeros shape v (option_map (λ x. x.1) o)) (sym empty) ∙ sym (cond-true (nat_lt v shape.vaddrs) _ _ e) ∙ sym (absent (map_bytes shape map) p v gone) ∙ has.there)
    by (inr e) = absurd (none_some has.bytes (sym (cond-false (nat_lt v shape.vaddrs) _ _ e) ∙ sym (absent (map_bytes shape map) p v gone) ∙ has.there))

-- two devices with the same map
runs-alike : (d e : VirtualMap) (p q : Pages) → ((u : ℕ) → e u ≡ d u) → SameRunning e p q → SameRunning d p q
runs-alike d e p q same alike = record {
  same = λ u. sym (over d e q u (same u)) ∙ alike.same u ∙ over d e p u (same u);
  clean = record { each = λ u bytes there clean frozen. sym (same u) ∙ alike.clean.each u bytes there clean frozen };
}

runs-then : (d : VirtualMap) (p q r : Pages) → SameRunning d p q → SameRunning d q r → SameRunning d p r
runs-then d p q r k l = record { same = λ u. l.same u ∙ k.same u; clean = l.clean }

-- a page that is resident is another one
stays-but : (p q : Pages) (v : ℕ) → page_of p v ≡ None → KeepsOtherPages v p q → (u : ℕ) → is_some (page_of p u) ≡ true → page_of q u ≡ page_of p u
stays-but p q v gone keeps u there = keeps.others u (λ e. both_ways false refl (ap is_some (sym gone) ∙ ap (λ (w : ℕ). is_some (page_of p w)) (sym e) ∙ there))

-- what a fetch leaves of the other pages
pub fetched-others : (tells : Type 0) (stored : Option (List ℕ)) (p q : Pages) (v : ℕ) → Fetches tells stored v p q → KeepsOtherPages v p q
fetched-others tells stored p q v (inl x) = subst (λ (r : Pages). KeepsOtherPages v p r) (sym x.1) (record { count = refl; frozen = refl; recent = refl; others = λ u far. refl })
fetched-others tells stored p q v (inr x) = x.3.keeps

module _ {D : Type 0} (g : Ghosts D) where
  -- ---- a page is made resident

  pub tells-of : (p : Pages) (v : ℕ) → IsAtHand g.tells p v → page_of p v ≡ None → g.tells
  tells-of p v (inl t) gone = t
  tells-of p v (inr there) gone = absurd (both_ways false refl (ap is_some (sym gone) ∙ there))

  pub keeps-touched : (s : D) (p : Pages) (v : ℕ) → (g.tells → CleanIsStored (device_map g s) p) → KeepsRunning g s p (record p { recent = touched v p.recent })
  keeps-touched s p v clean = record { count = refl; dirty = refl; frozen = refl; alike = λ t. (laws_of (device_map g s) p (clean t)).touched v; there = λ u. inr refl; stays = λ u there. refl }

  pub keeps-admitted : (s : D) (p q : Pages) (v : ℕ) (bytes : List ℕ) → (g.tells → CleanIsStored (device_map g s) p) → g.tells → page_of p v ≡ None → device_map g s v ≡ Some bytes → Admits v bytes p q → KeepsRunning g s p q
  keeps-admitted s p q v bytes clean t gone is admits = record {
    count = admits.keeps.count;
    dirty = admits.dirty;
    frozen = admits.keeps.frozen;
    alike = λ u. (laws_of (device_map g s) p (clean t)).admitted v bytes q is gone admits;
    there = λ u. inl t;
    stays = λ u there. stays-but p q v gone admits.keeps u there;
  }

  pub keeps-missed : (s : D) (p q : Pages) (v : ℕ) → (g.tells → CleanIsStored (device_map g s) p) → IsAtHand g.tells p v → page_of p v ≡ None → Misses v p q → KeepsRunning g s p q
  keeps-missed s p q v clean at gone misses = record {
    count = misses.keeps.count;
    dirty = misses.dirty;
    frozen = misses.keeps.frozen;
    alike = λ t. (laws_of (device_map g s) p (clean t)).missed v q gone misses;
    there = λ u. inl (tells-of p v at gone);
    stays = λ u there. stays-but p q v gone misses.keeps u there;
  }

  pub fetched-keeps : (s : D) (p q : Pages) (v : ℕ) → (g.tells → CleanIsStored (device_map g s) p) → IsAtHand g.tells p v → Fetches g.tells (device_map g s v) v p q → KeepsRunning g s p q
  fetched-keeps s p q v clean at (inl x) = subst (λ (r : Pages). KeepsRunning g s p r) (sym x.1) (keeps-touched s p v clean)
  fetched-keeps s p q v clean at (inr x) = let t = tells-of p v at x.0 in keeps-admitted s p q v x.1 clean t x.0 (x.2 t) x.3

  pub fetched-pointers : (s : D) (p q : Pages) (v : ℕ) → IsAtHand g.tells p v → HasPointers (running_map g s p) v → Fetches g.tells (device_map g s v) v p q → HasPointers (page_of q) v
  fetched-pointers s p q v at has (inl x) = subst (λ (r : Pages). HasPointers (page_of r) v) (sym x.1) (resident-pointers (device_map g s) p v has x.0)
  fetched-pointers s p q v at has (inr x) = admitted-pointers (device_map g s) p q v x.1 has x.0 (x.2 (tells-of p v at x.0)) x.3.page

  -- ---- one call after another

  pub same-device : (s t : D) → OnlyReads g s t → g.tells → (u : ℕ) → device_map g t u ≡ device_map g s u
  unfolding map_bytes
  same-device s t reads tells u =
      ap (λ (shape : Shape). map_bytes shape (g.map t) u) reads.medium.virtual.same_shape
      ∙ ap (λ (o : Option Value). cond (nat_lt u (g.shape s).vaddrs) (or_zeros (g.shape s) u (option_map (λ x. x.1) o)) None) (reads.medium.virtual.same_map tells u)

  pub keeps-none : (s : D) (p : Pages) → (g.tells → CleanIsStored (device_map g s) p) → KeepsRunning g s p p
  keeps-none s p clean = record { count = refl; dirty = refl; frozen = refl; alike = λ t. record { same = λ u. refl; clean = clean t }; there = λ u. inr refl; stays = λ u there. refl }

  pub keeps-then : (s t : D) (p q r : Pages) → OnlyReads g s t → KeepsRunning g s p q → KeepsRunning g t q r → KeepsRunning g s p r
  keeps-then s t p q r reads k l = record {
    count = l.count ∙ k.count;
    dirty = l.dirty ∙ k.dirty;
    frozen = l.frozen ∙ k.frozen;
    alike = λ tells. runs-then (device_map g s) p q r (k.alike tells) (runs-alike (device_map g s) (device_map g t) q r (same-device s t reads tells) (l.alike tells));
    there = λ u. by u (k.there u) (l.there u);
    stays = λ u there. l.stays u (ap is_some (k.stays u there) ∙ there) ∙ k.stays u there;
  }
    where
      by : (u : ℕ) → g.tells ⊎ (page_of q u ≡ page_of p u) → g.tells ⊎ (page_of r u ≡ page_of q u) → g.tells ⊎ (page_of r u ≡ page_of p u)
      by u (inl tells) y = inl tells
      by u (inr x) (inl tells) = inl tells
      by u (inr x) (inr y) = inr (y ∙ x)

  module _ (s t : D) (rec : InodeRec) (p q : Pages) (reads : OnlyReads g s t) (keeps : KeepsRunning g s p q) where
    told : g.tells → (a : ℕ) → running_map g t q a ≡ running_map g s p a
    told tells a = over (device_map g s) (device_map g t) q a (same-device s t reads tells a) ∙ (keeps.alike tells).same a

    same-at : (a : ℕ) → IsAtHand g.tells p a → running_map g t q a ≡ running_map g s p a
    same-at a (inl tells) = told tells a
    same-at a (inr there) = resident (device_map g s) (device_map g t) p q a (keeps.stays a there) there

    still : (a : ℕ) → IsAtHand g.tells p a → IsAtHand g.tells q a
    still a (inl tells) = inl tells
    still a (inr there) = inr (ap is_some (keeps.stays a there) ∙ there)

    module _ (stands : FileIsAtHand g s rec p) where
      pub stands-then : FileIsAtHand g t rec q
      stands-then = record {
        count = keeps.count ∙ stands.count ∙ sym (ap (λ (shape : Shape). shape.vaddrs) reads.medium.virtual.same_shape);
        clean = λ tells. (runs-alike (device_map g t) (device_map g s) p q (λ u. sym (same-device s t reads tells u)) (keeps.alike tells)).clean;
        file = stands.file;
        pages = λ r far. let has = stands.pages r far in record { bytes = has.bytes; there = same-at (slice_index (slots_of rec) r) (stands.at_hand r far) ∙ has.there; spelled = has.spelled };
        at_hand = λ r far. still (slice_index (slots_of rec) r) (stands.at_hand r far);
      }

      pub pointer-then : (i : ℕ) → pointer_at (running_map g t q) rec i ≡ pointer_at (running_map g s p) rec i
      pointer-then i = by (cases_lt i 8)
        where
          in-page : 8 ≤ i → (slice_index (slots_of rec) (range_of i) ≡ 0) ⊎ (slice_index (slots_of rec) (range_of i) ≢ 0) → pointer_at (running_map g t q) rec i ≡ pointer_at (running_map g s p) rec i
          in-page high (inl none) = in-range (running_map g t q) rec i high ∙ no-page (running_map g t q) _ (slot_of i) none ∙ sym (in-range (running_map g s p) rec i high ∙ no-page (running_map g s p) _ (slot_of i) none)
          in-page high (inr far) =
              in-range (running_map g t q) rec i high
              ∙ same-page (running_map g s p) (running_map g t q) (slice_index (slots_of rec) (range_of i)) (slot_of i) (same-at (slice_index (slots_of rec) (range_of i)) (stands.at_hand (range_of i) far))
              ∙ sym (in-range (running_map g s p) rec i high)

          by : (i < 8) ⊎ (8 ≤ i) → pointer_at (running_map g t q) rec i ≡ pointer_at (running_map g s p) rec i
          by (inl low) = at-node (running_map g t q) rec i low ∙ sym (at-node (running_map g s p) rec i low)
          by (inr high) = in-page high (cases_eq (slice_index (slots_of rec) (range_of i)) 0)

      pub leads-then : (ino : ℕ) → PointersLead (g.names s) ino rec (running_map g s p) → PointersLead (g.names t) ino rec (running_map g t q)
      leads-then ino leads i below some =
          subst (λ (names : Names). IsRef names always (wants_tagged (tag_of ino rec i, pointer_at (running_map g t q) rec i)) (pointer_at (running_map g t q) rec i).name) (sym reads.names)
          (subst (λ (at : Pointer). IsRef (g.names s) always (wants_tagged (tag_of ino rec i, at)) at.name) (sym (pointer-then i))
          (leads i below (ap is_none_pointer (sym (pointer-then i)) ∙ some)))
