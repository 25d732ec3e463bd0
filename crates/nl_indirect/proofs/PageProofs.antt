-- What the calls mean for the pages in memory.
use Rattle.std.proofs.Common.{◌≡◌, ◌≢◌, ◌⊎◌, inl, inr, ℕ, ◌+◌, ◌*◌, ◌≤◌, ◌<◌, [], Option, Some, None, IfSome, IsSome, is_some, unwrap_or, refl, sym, ap, subst, ◌∙◌, arith}
use Rattle.std.proofs.lemmas.Bool.{cases_eq, cases_lt}
use Rattle.std.specs.Prelude.{slice_index}
use Rattle.nl_field.specs.Bytes.{zeros}
use Rattle.nl_field.specs.Pointers.{pointer_bytes}
use Rattle.nl_field.specs.declared.inode.InodeRec.{InodeRec}
use Rattle.nl_meta.specs.Nodes.{slots_of}
use Rattle.nl_meta.specs.PageLaws.{IsApart}
use Rattle.nl_meta.specs.Pages.{Pages, page_of}
use Rattle.nl_meta.specs.SlotLaws.{with_slot}
use Rattle.nl_meta.specs.Steps.{ChangesRunningPages}
use Rattle.nl_meta.proofs.PageProofs.{changed, changes-one, none}
use Rattle.nl_indirect.specs.PageLaws.{StoringChangesPages, TruncatingChangesPages}
use Rattle.nl_indirect.specs.Ranges.{HasRange, address_of, range_of, slot_of}
use Rattle.nl_indirect.specs.Storing.{AnswersStored, HasNewPage}
use Rattle.nl_indirect.specs.declared.answer.Stored.{Stored}
use Rattle.nl_indirect.specs.declared.answer.Stored.TheVariants.{Done, Emptied}
use Rattle.nl_indirect.proofs.Pointing.{address-node, address-range}

-- the page that a range had, or none of the journal's
pub may-be : (old : Pages) (was : InodeRec) (index a : ℕ) → HasRange (page_of old) was index → (a ≡ address_of was index) ⊎ (a ≡ 0) → IsSome (page_of old a) ⊎ IsApart a
may-be old was index a range (inr none) = inr (inl none)
may-be old was index a range (inl same) = by (cases_eq a 0)
  where
    by : (a ≡ 0) ⊎ (a ≢ 0) → IsSome (page_of old a) ⊎ IsApart a
    by (inl none) = inr (inl none)
    by (inr far) = inl (ap (λ (v : ℕ). is_some (page_of old v)) same ∙ ap is_some (range (λ z. far (same ∙ z))).there)

pub storing_changes_pages : StoringChangesPages
storing_changes_pages index to fresh was is old new answer range far stores = by fresh refl (cases_eq (address_of is index) 0)
  where
    before : (f : Option ℕ) → f ≡ None → (r : Stored) → AnswersStored index f was is r → (address_of is index ≡ address_of was index) ⊎ (address_of is index ≡ 0)
    before f e Done h = inl (h ∙ ap (λ (o : Option ℕ). unwrap_or o (address_of was index)) e)
    before f e (Emptied a) h = inr h.2

    taken : (f : Option ℕ) (v : ℕ) → f ≡ Some v → IfSome f IsApart → (r : Stored) → AnswersStored index f was is r → IsApart (address_of is index)
    taken f v e h Done s = subst IsApart (sym (s ∙ ap (λ (o : Option ℕ). unwrap_or o (address_of was index)) e)) (subst (λ (o : Option ℕ). IfSome o IsApart) e h)
    taken f v e h (Emptied a) s = inl s.2

    by : (f : Option ℕ) → fresh ≡ f → (address_of is index ≡ 0) ⊎ (address_of is index ≢ 0) → ChangesRunningPages old new
    by None e (inl at) = subst (ChangesRunningPages old) (sym (stores.pages.same at)) (none old)
    by None e (inr at) = subst (ChangesRunningPages old) (sym (stores.pages.written at e))
        (changed old (address_of is index) (with_slot 16 (slot_of index) (pointer_bytes to) (unwrap_or (page_of old (address_of is index)) []))
        (may-be old was index (address_of is index) range (before fresh e answer stores.answered)))
    by (Some v) e at = changes-one old (address_of is index) new new-page.keeps.frozen new-page.dirty new-page.keeps.others (λ there. ap is_some new-page.page) (inr (taken fresh v e far answer stores.answered))
      where
        new-page : HasNewPage (address_of is index) (with_slot 16 (slot_of index) (pointer_bytes to) (zeros 4096)) old new
        new-page = stores.pages.begun (ap is_some e)

pub truncating_changes_pages : TruncatingChangesPages
truncating_changes_pages from was is old new range cuts = by (cases_eq (address_of is from) 0)
  where
    first : (from : ℕ) → 8 ≤ from → slot_of from ≡ 0 → from ≤ 8 + 256 * range_of from
    first from high e = omega (arith, high, e)

    in-range : address_of is from ≢ 0 → 8 ≤ from
    in-range far = at (cases_lt from 8)
      where
        at : (from < 8) ⊎ (8 ≤ from) → 8 ≤ from
        at (inl low) = absurd (far (address-node is from low))
        at (inr high) = high

    -- an index that is the first of its range has no page
    behind : address_of is from ≢ 0 → slot_of from ≢ 0
    behind far e = far (address-range is from (in-range far) ∙ cuts.addresses.behind (range_of from) (first from (in-range far) e))

    same : (far : address_of is from ≢ 0) → (address_of is from ≡ address_of was from) ⊎ (address_of is from ≡ 0)
    same far = at (cuts.addresses.either (range_of from))
      where
        at : (slice_index (slots_of is) (range_of from) ≡ slice_index (slots_of was) (range_of from)) ⊎ (slice_index (slots_of is) (range_of from) ≡ 0)
            → (address_of is from ≡ address_of was from) ⊎ (address_of is from ≡ 0)
        at (inl e) = inl (address-range is from (in-range far) ∙ e ∙ sym (address-range was from (in-range far)))
        at (inr e) = inr (address-range is from (in-range far) ∙ e)

    by : (address_of is from ≡ 0) ⊎ (address_of is from ≢ 0) → ChangesRunningPages old new
    by (inl at) = subst (ChangesRunningPages old) (sym (cuts.pages.same at)) (none old)
    by (inr at) =
        let w = cuts.pages.written at in
        subst (ChangesRunningPages old) (sym w.2) (changed old (address_of is from) w.0 (may-be old was from (address_of is from) (range (behind at)) (same at)))
