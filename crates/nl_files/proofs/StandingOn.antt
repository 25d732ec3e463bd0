-- A file that a call gives another record stands on.
use Rattle.std.proofs.Common.{◌≡◌, ◌≢◌, ◌⊎◌, inl, inr, ℕ, ◌/◌, ◌≤◌, ◌<◌, length, List, get_or, is_some, IsSome, Option, Some, None, true, false, refl, sym, ap, ◌∙◌, subst, arith}
use Rattle.std.specs.Prelude.{slice_index}
use Rattle.std.proofs.Math.ListN.{set}
use Rattle.std.proofs.lemmas.Bool.{both_ways, cases_eq, cases_lt}
use Rattle.std.proofs.lemmas.List.{get_or-set_same, get_or-set_other, length-set}
use Rattle.nl_field.specs.declared.inode.InodeRec.{InodeRec}
use Rattle.nl_field.specs.declared.pointer.Pointer.{Pointer}
use Rattle.nl_iface.specs.declared.counts.Counts.{Ghosts}
use Rattle.nl_meta.specs.Committed.{VirtualMap}
use Rattle.nl_meta.specs.Nodes.{slots_of}
use Rattle.nl_meta.specs.Pages.{Pages, page_of}
use Rattle.nl_meta.specs.Running.{CleanIsStored, or_stored, running_over}
use Rattle.nl_inode.specs.Nodes.{Spaces}
use Rattle.nl_indirect.specs.Ranges.{HasPointers, HasRange, IsFileRecord, address_of, range_of}
use Rattle.nl_indirect.specs.Storing.{Stores}
use Rattle.nl_indirect.specs.declared.answer.Stored.TheVariants.{Done}
use Rattle.nl_indirect.proofs.Pointing.{address-node, address-range, runs}
use Rattle.nl_files.specs.Cutting.{Cuts, Rewrites}
use Rattle.nl_files.specs.Laws.{FilePreservedWith}
use Rattle.nl_files.specs.Standing.{FileIsAtHand, IsAtHand, device_map, running_map}
use Rattle.nl_files.proofs.Keeping.{in-list, resident-pointers}

abbrev pub slot : InodeRec → ℕ → ℕ
slot rec r = slice_index (slots_of rec) r

-- What a call does to the pages of a file's addresses, over any device: each that the record has afterwards spells pointers, where those
-- did that the record had before.
pub record Goes (was is : InodeRec) (p q : Pages) : Type 0 where
  pub count : length q.running ≡ length p.running
  pub clean : (device : VirtualMap) → CleanIsStored device p → CleanIsStored device q
  pub file : IsFileRecord is
  pub spelled : (device : VirtualMap) → CleanIsStored device p → (r : ℕ) → slot is r ≢ 0 → (slot was r ≢ 0 → HasPointers (running_over device p) (slot was r)) → HasPointers (running_over device q) (slot is r)
  pub there : (r : ℕ) → slot is r ≢ 0 → (slot was r ≢ 0 → IsSome (page_of p (slot was r))) → IsSome (page_of q (slot is r))

-- the resident pages as a device
self : (p : Pages) → CleanIsStored (page_of p) p
self p = record { each = λ u bytes there clean frozen. there }

over-pages : (device : VirtualMap) (p : Pages) (v : ℕ) → HasPointers (page_of p) v → HasPointers (running_over device p) v
over-pages device p v has = record { bytes = has.bytes; there = runs device p v has.bytes has.there; spelled = has.spelled }

module _ (was is : InodeRec) (p q : Pages) (goes : Goes was is p q) where
  -- the page of an address whose page before is resident
  resident : (r : ℕ) → slot is r ≢ 0 → (slot was r ≢ 0 → HasPointers (page_of p) (slot was r)) → HasPointers (page_of q) (slot is r)
  resident r far has = resident-pointers (page_of p) q (slot is r)
      (goes.spelled (page_of p) (self p) r far (λ some. over-pages (page_of p) p (slot was r) (has some)))
      (goes.there r far (λ some. ap is_some (has some).there))

  ranges : (i : ℕ) → HasRange (page_of p) was i → HasRange (page_of q) is i
  ranges i has far = by (cases_lt i 8)
    where
      by : (i < 8) ⊎ (8 ≤ i) → HasPointers (page_of q) (address_of is i)
      by (inl low) = absurd (far (address-node is i low))
      by (inr high) =
          subst (λ (v : ℕ). HasPointers (page_of q) v) (sym (address-range is i high))
          (resident (range_of i) (λ e. far (address-range is i high ∙ e)) (λ some. subst (λ (v : ℕ). HasPointers (page_of p) v) (address-range was i high) (has (λ e. some (sym (address-range was i high) ∙ e)))))

  module _ {D : Type 0} (g : Ghosts D) (s : D) (stands : FileIsAtHand g s was p) where
    pages : (r : ℕ) → slot is r ≢ 0 → HasPointers (running_map g s q) (slot is r)
    pages r far = by (cases_eq (slot was r) 0)
      where
        at : slot was r ≢ 0 → IsAtHand g.tells p (slot was r) → HasPointers (running_map g s q) (slot is r)
        at some (inl tells) = goes.spelled (device_map g s) (stands.clean tells) r far (λ n. stands.pages r n)
        at some (inr there) = over-pages (device_map g s) q (slot is r) (resident r far (λ n. resident-pointers (device_map g s) p (slot was r) (stands.pages r n) there))

        by : (slot was r ≡ 0) ⊎ (slot was r ≢ 0) → HasPointers (running_map g s q) (slot is r)
        by (inl none) = over-pages (device_map g s) q (slot is r) (resident r far (λ n. absurd (n none)))
        by (inr some) = at some (stands.at_hand r some)

    at_hand : (r : ℕ) → slot is r ≢ 0 → IsAtHand g.tells q (slot is r)
    at_hand r far = by (cases_eq (slot was r) 0)
      where
        at : IsAtHand g.tells p (slot was r) → IsAtHand g.tells q (slot is r)
        at (inl tells) = inl tells
        at (inr there) = inr (goes.there r far (λ n. there))

        by : (slot was r ≡ 0) ⊎ (slot was r ≢ 0) → IsAtHand g.tells q (slot is r)
        by (inl none) = inr (goes.there r far (λ n. absurd (n none)))
        by (inr some) = at (stands.at_hand r some)

    stands-on : FileIsAtHand g s is q
    stands-on = record {
      count = goes.count ∙ stands.count;
      clean = λ tells. goes.clean (device_map g s) (stands.clean tells);
      file = goes.file;
      pages = pages;
      at_hand = at_hand;
    }

pub stands-after : {D : Type 0} (g : Ghosts D) (s : D) (was is : InodeRec) (p q : Pages) → Goes was is p q → FilePreservedWith g s was is p q
stands-after g s was is p q goes = record { stands = λ stands. stands-on was is p q goes g s stands; ranges = ranges was is p q goes }

-- ---- a pointer is installed

module _ (index : ℕ) (to : Pointer) (fresh : Option ℕ) (was is : InodeRec) (p q : Pages) (stores : Stores index to fresh was is p q Done) where
  count-stored : length q.running ≡ length p.running
  count-stored = by (cases_eq (address_of is index) 0)
    where
      at : address_of is index ≢ 0 → (o : Option ℕ) → fresh ≡ o → length q.running ≡ length p.running
      at far None e = ap (λ (n : Pages). length n.running) (stores.pages.written far e) ∙ length-set p.running (address_of is index) _
      at far (Some a) e = (stores.pages.begun (ap is_some e)).keeps.count

      by : (address_of is index ≡ 0) ⊎ (address_of is index ≢ 0) → length q.running ≡ length p.running
      by (inl none) = ap (λ (n : Pages). length n.running) (stores.pages.same none)
      by (inr far) = at far fresh refl

  kept-stored : (v : ℕ) → v ≢ address_of is index → page_of q v ≡ page_of p v
  kept-stored v off = by (cases_eq (address_of is index) 0)
    where
      at : address_of is index ≢ 0 → (o : Option ℕ) → fresh ≡ o → page_of q v ≡ page_of p v
      at far None e = ap (λ (n : Pages). page_of n v) (stores.pages.written far e) ∙ get_or-set_other p.running (address_of is index) v _ None off
      at far (Some a) e = (stores.pages.begun (ap is_some e)).keeps.others v off

      by : (address_of is index ≡ 0) ⊎ (address_of is index ≢ 0) → page_of q v ≡ page_of p v
      by (inl none) = ap (λ (n : Pages). page_of n v) (stores.pages.same none)
      by (inr far) = at far fresh refl

  -- an address has the page of the index, or what it had
  each-stored : (r : ℕ) → slot is r ≢ 0 → HasPointers (page_of q) (slot is r) ⊎ ((slot is r ≡ slot was r) × (page_of q (slot is r) ≡ page_of p (slot is r)))
  each-stored r far = by (cases_lt index 8) (cases_eq r (range_of index))
    where
      other : (8 ≤ index → r ≢ range_of index) → HasPointers (page_of q) (slot is r) ⊎ ((slot is r ≡ slot was r) × (page_of q (slot is r) ≡ page_of p (slot is r)))
      other off = inr (stores.record_kept.addresses r off, kept-stored (slot is r) (λ e. apart e (cases_lt index 8)))
        where
          apart : slot is r ≡ address_of is index → (index < 8) ⊎ (8 ≤ index) → ⊥
          apart e (inl low) = far (e ∙ address-node is index low)
          apart e (inr high) = off high (stores.file.differ (range_of index) r (λ none. far (e ∙ address-range is index high ∙ none)) (e ∙ address-range is index high))

      by : (index < 8) ⊎ (8 ≤ index) → (r ≡ range_of index) ⊎ (r ≢ range_of index) → HasPointers (page_of q) (slot is r) ⊎ ((slot is r ≡ slot was r) × (page_of q (slot is r) ≡ page_of p (slot is r)))
      by (inl low) either = other (λ high. absurd (less low high))
        where
          less : index < 8 → 8 ≤ index → ⊥
          less low high = omega arith
      by (inr high) (inr off) = other (λ h. off)
      by (inr high) (inl e) =
          let at : slot is r ≡ address_of is index = ap (slot is) e ∙ sym (address-range is index high) in
          inl (subst (λ (v : ℕ). HasPointers (page_of q) v) (sym at) (stores.range (λ none. far (at ∙ none))))

  pub goes-stored : Goes was is p q
  unfolding running_over
  goes-stored = record {
    count = count-stored;
    clean = stores.clean;
    file = stores.file;
    spelled = λ device clean r far has. spelled device r far has (each-stored r far);
    there = λ r far has. there r far has (each-stored r far);
  }
    where
      spelled : (device : VirtualMap) (r : ℕ) → slot is r ≢ 0 → (slot was r ≢ 0 → HasPointers (running_over device p) (slot was r))
          → HasPointers (page_of q) (slot is r) ⊎ ((slot is r ≡ slot was r) × (page_of q (slot is r) ≡ page_of p (slot is r))) → HasPointers (running_over device q) (slot is r)
      spelled device r far has (inl new) = over-pages device q (slot is r) new
      spelled device r far has (inr (same, kept)) =
          let old = has (λ none. far (same ∙ none)) in
          record { bytes = old.bytes; there = ap (λ o. or_stored o (device (slot is r))) kept ∙ ap (running_over device p) same ∙ old.there; spelled = old.spelled }

      there : (r : ℕ) → slot is r ≢ 0 → (slot was r ≢ 0 → IsSome (page_of p (slot was r)))
          → HasPointers (page_of q) (slot is r) ⊎ ((slot is r ≡ slot was r) × (page_of q (slot is r) ≡ page_of p (slot is r))) → IsSome (page_of q (slot is r))
      there r far has (inl new) = ap is_some new.there
      there r far has (inr (same, kept)) = ap is_some kept ∙ ap (λ (v : ℕ). is_some (page_of p v)) same ∙ has (λ none. far (same ∙ none))

-- ---- a file is cut

-- a page that is written stays resident, and so do the others
resident-dirty : (xs : List (Option (List ℕ))) (a v : ℕ) (bytes : List ℕ) → is_some (get_or xs v None) ≡ true → is_some (get_or (set xs a (Some bytes)) v None) ≡ true
resident-dirty xs a v bytes there = by (cases_eq v a)
  where
    below : (o : Option (List ℕ)) → get_or xs v None ≡ o → is_some o ≡ true → v < length xs
    below None is h = absurd (both_ways false refl h)
    below (Some b) is h = in-list xs v b is

    by : (v ≡ a) ⊎ (v ≢ a) → is_some (get_or (set xs a (Some bytes)) v None) ≡ true
    by (inl e) = subst (λ (w : ℕ). is_some (get_or (set xs w (Some bytes)) v None) ≡ true) e (ap is_some (get_or-set_same xs v (Some bytes) None (below (get_or xs v None) refl there)))
    by (inr far) = ap is_some (get_or-set_other xs a v (Some bytes) None far) ∙ there

module _ (size : ℕ) (partial : Option Pointer) (was is : InodeRec) (p q : Pages) (s t : Spaces) (cuts : Cuts size partial was is p q s t) where
  pub goes-cut : Goes was is p q
  goes-cut = record {
    count = count cuts.written;
    clean = cuts.clean;
    file = cuts.file;
    spelled = λ device clean r far has.
        let e = same r far (cuts.addresses.either r) in
        (cuts.pointers device clean).spelled r far (subst (λ (v : ℕ). HasPointers (running_over device p) v) (sym e) (has (λ none. far (e ∙ none))));
    there = λ r far has.
        let e = same r far (cuts.addresses.either r) in
        stays (slot is r) cuts.written (subst (λ (v : ℕ). IsSome (page_of p v)) (sym e) (has (λ none. far (e ∙ none))));
  }
    where
      same : (r : ℕ) → slot is r ≢ 0 → (slot is r ≡ slot was r) ⊎ (slot is r ≡ 0) → slot is r ≡ slot was r
      same r far (inl e) = e
      same r far (inr none) = absurd (far none)

      count : (q ≡ p) ⊎ Rewrites (address_of is (size / 4096)) p q → length q.running ≡ length p.running
      count (inl e) = ap (λ (n : Pages). length n.running) e
      count (inr new) = ap (λ (n : Pages). length n.running) new.page ∙ length-set p.running _ _

      stays : (v : ℕ) → (q ≡ p) ⊎ Rewrites (address_of is (size / 4096)) p q → IsSome (page_of p v) → IsSome (page_of q v)
      stays v (inl e) there = ap (λ (n : Pages). is_some (page_of n v)) e ∙ there
      stays v (inr new) there = ap (λ (n : Pages). is_some (page_of n v)) new.page ∙ resident-dirty p.running (address_of is (size / 4096)) v new.bytes there
