-- The file of the tests stays one.
use Rattle.std.proofs.Common.{◌≡◌, ◌≢◌, ℕ, ◌≤◌, ◌<◌, true, length, refl, sym, ap, ◌∙◌, subst, Option, Some, None, IfSome, is_some, unwrap_or, ◌⊎◌, inl, inr, arith}
use Rattle.std.proofs.lemmas.Bool.{cases_eq, cases_lt}
use Rattle.std.proofs.lemmas.List.{length-set}
use Rattle.std.specs.Prelude.{slice_index}
use Rattle.nl_field.specs.declared.inode.InodeRec.{InodeRec}
use Rattle.nl_field.specs.declared.pointer.Pointer.{Pointer}
use Rattle.nl_meta.specs.Nodes.{slots_of}
use Rattle.nl_meta.specs.Pages.{Pages, has_room, page_of}
use Rattle.nl_test_metadata.specs.Tested.{IsTested}
use Rattle.nl_indirect.specs.Ranges.{HasPointers, address_of, range_of}
use Rattle.nl_indirect.specs.Storing.{AnswersStored, Stores}
use Rattle.nl_indirect.specs.declared.answer.Stored.{Stored}
use Rattle.nl_indirect.specs.declared.answer.Stored.TheVariants.{Done, Emptied}
use Rattle.nl_indirect.proofs.Fresh.{dirty_has_room}
use Rattle.nl_indirect.proofs.Pointing.{address-node, address-range}

no-both : (i : ℕ) → i < 8 → 8 ≤ i → ⊥
no-both i low high = omega (arith, low, high)

module _ (range index : ℕ) (to : Pointer) (fresh : Option ℕ) (was is : InodeRec) (old new : Pages) (answer : Stored) (ready : IsTested range was old) (here : 8 ≤ index → range_of index ≡ range)
    (page-71 : IfSome fresh (λ a. a ≡ 71)) (stores : Stores index to fresh was is old new answer) where
  at-71 : address_of is index ≢ 0 → address_of is index ≡ 71
  at-71 far = by answer stores.answered fresh refl page-71 (cases_lt index 8)
    where
      by : (s : Stored) → AnswersStored index fresh was is s → (f : Option ℕ) → fresh ≡ f → IfSome f (λ a. a ≡ 71) → (index < 8) ⊎ (8 ≤ index) → address_of is index ≡ 71
      by (Emptied b) h f e p at = absurd (far h.2)
      by Done h (Some b) e p at = h ∙ ap (λ (o : Option ℕ). unwrap_or o (address_of was index)) e ∙ p
      by Done h None e p (inl low) = absurd (far (address-node is index low))
      by Done h None e p (inr high) =
          let same : address_of is index ≡ slice_index (slots_of was) range =
          h ∙ ap (λ (o : Option ℕ). unwrap_or o (address_of was index)) e ∙ address-range was index high ∙ ap (λ (r : ℕ). slice_index (slots_of was) r) (here high) in
          same ∙ (ready.page (λ z. far (same ∙ z))).0

  -- how the dirty list and the count change
  by-page : (has_room new 71 ≡ true) × (length new.running ≡ 103)
  by-page = by (cases_eq (address_of is index) 0) fresh refl
    where
      by : (address_of is index ≡ 0) ⊎ (address_of is index ≡ 0 → ⊥) → (f : Option ℕ) → fresh ≡ f → (has_room new 71 ≡ true) × (length new.running ≡ 103)
      by (inl z) f g = subst (λ (p : Pages). (has_room p 71 ≡ true) × (length p.running ≡ 103)) (sym (stores.pages.same z)) (ready.room, ready.count)
      by (inr far) None g =
          let w = stores.pages.written far g in
          (subst (λ (v : ℕ). has_room new v ≡ true) (at-71 far) (dirty_has_room _ old new (ap (λ (p : Pages). p.dirty) w)), ap (λ (p : Pages). length p.running) w ∙ length-set old.running _ _ ∙ ready.count)
      by (inr far) (Some b) g =
          let n = stores.pages.begun (ap is_some g) in
          (subst (λ (v : ℕ). has_room new v ≡ true) (at-71 far) (dirty_has_room _ old new n.dirty), n.keeps.count ∙ ready.count)

  tested-page : slice_index (slots_of is) range ≢ 0 → (slice_index (slots_of is) range ≡ 71) × HasPointers (page_of new) 71
  tested-page far = by (cases_lt index 8)
    where
      by : (index < 8) ⊎ (8 ≤ index) → (slice_index (slots_of is) range ≡ 71) × HasPointers (page_of new) 71
      by (inl low) =
          let same : slice_index (slots_of is) range ≡ slice_index (slots_of was) range = stores.record_kept.addresses range (λ high. absurd (no-both index low high)) in
          let p = ready.page (λ z. far (same ∙ z)) in
          (same ∙ p.0, subst (λ (q : Pages). HasPointers (page_of q) 71) (sym (stores.pages.same (address-node is index low))) p.1)
      by (inr high) =
          let same : address_of is index ≡ slice_index (slots_of is) range = address-range is index high ∙ ap (λ (r : ℕ). slice_index (slots_of is) r) (here high) in
          let one = at-71 (λ z. far (sym same ∙ z)) in
          (sym same ∙ one, subst (λ (v : ℕ). HasPointers (page_of new) v) one (stores.range (λ z. far (sym same ∙ z))))

  pub tested : IsTested range is new
  tested = record {
    file = stores.file;
    others = λ r off. stores.record_kept.addresses r (λ high e. off (e ∙ here high)) ∙ ready.others r off;
    page = tested-page;
    room = by-page.0;
    count = by-page.1;
  }
