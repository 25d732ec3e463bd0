-- Once the record is written back, one pointer of one file changed.
use Rattle.std.proofs.Common.{◌≡◌, ◌≢◌, ℕ, ◌+◌, ◌≤◌, ◌<◌, refl, sym, ap, ◌∙◌, subst, Option, Some, None, IfSome, unwrap_or, ◌⊎◌, inl, inr}
use Rattle.std.proofs.lemmas.Bool.{cases_eq, cases_lt}
use Rattle.std.specs.Prelude.{slice_index}
use Rattle.nl_field.specs.declared.inode.InodeRec.{InodeRec}
use Rattle.nl_field.specs.declared.pointer.Pointer.{Pointer}
use Rattle.nl_field.specs.declared.shape.Shape.{Shape}
use Rattle.nl_meta.specs.Committed.{VirtualMap}
use Rattle.nl_meta.specs.Consistent.{AddressAt, IsNode}
use Rattle.nl_meta.specs.Nodes.{slots_of}
use Rattle.nl_meta.specs.Pages.{Pages}
use Rattle.nl_meta.specs.PointerLists.{ChangesPointer, tagged_by}
use Rattle.nl_meta.specs.Running.{running_over}
use Rattle.nl_indirect.specs.FileLaws.{AddressesGood, NodeLaws, OnePointerStored, StoresAt}
use Rattle.nl_indirect.specs.Ranges.{address_of, range_of}
use Rattle.nl_indirect.specs.Storing.{AnswersStored, StoresPointer, or_none}
use Rattle.nl_indirect.specs.declared.answer.Stored.{Stored}
use Rattle.nl_indirect.specs.declared.answer.Stored.TheVariants.{Done, Emptied}
use Rattle.nl_indirect.proofs.LawProofs.{at-slot, file_of_node, stored_file}
use Rattle.nl_indirect.proofs.OtherNodes.{after-same, pointer-same, same-graph}
use Rattle.nl_indirect.proofs.Pointing.{address-node, address-range}
use Rattle.nl_indirect.proofs.Records.{FileParts, file-parts}

module _ (shape : Shape) (device : VirtualMap) (n index : ℕ) (to : Option Pointer) (fresh : Option ℕ) (was is : InodeRec) (old new : Pages) (answer : Stored) (after : VirtualMap)
    (at : StoresAt shape device n index to fresh was is old new answer after) where
  laws : NodeLaws shape (running_over device old) n was
  laws = file_of_node shape (running_over device old) n was at.right at.is_node at.is_file

  good : AddressesGood shape (running_over device new) is
  good = (stored_file shape device index to fresh was is old new answer at.over).good laws.good

  stored : StoresPointer index (or_none to) was is (running_over device old) (running_over device new)
  stored = at.over.stores.pointers device at.over.clean

  in-pool : (r : ℕ) → (slice_index (slots_of is) r ≡ 0) ⊎ (67 + shape.inode_pages ≤ slice_index (slots_of is) r)
  in-pool r = by (cases_eq (slice_index (slots_of is) r) 0)
    where
      by : (slice_index (slots_of is) r ≡ 0) ⊎ (slice_index (slots_of is) r ≡ 0 → ⊥) → (slice_index (slots_of is) r ≡ 0) ⊎ (67 + shape.inode_pages ≤ slice_index (slots_of is) r)
      by (inl e) = inl e
      by (inr far) = inr (good r far).from_pool

  -- the page of the index
  page-in-pool : (address_of is index ≡ 0) ⊎ (67 + shape.inode_pages ≤ address_of is index)
  page-in-pool = by (cases_lt index 8)
    where
      by : (index < 8) ⊎ (8 ≤ index) → (address_of is index ≡ 0) ⊎ (67 + shape.inode_pages ≤ address_of is index)
      by (inl low) = inl (address-node is index low)
      by (inr high) = subst (λ (v : ℕ). (v ≡ 0) ⊎ (67 + shape.inode_pages ≤ v)) (sym (address-range is index high)) (in-pool (range_of index))

  -- no other node has it
  not-its : (k : ℕ) → k ≢ n → (rec : InodeRec) → IsNode shape (running_over device old) k rec → (r : ℕ) → slice_index (slots_of rec) r ≡ address_of is index → slice_index (slots_of rec) r ≡ 0
  not-its k off rec is-node r e = by (cases_eq (slice_index (slots_of rec) r) 0)
    where
      held : slice_index (slots_of rec) r ≢ 0 → (a : ℕ) → slice_index (slots_of rec) r ≡ a → AddressAt shape (running_over device old) k r a
      held far a s = record { rec = rec; is_node = is-node; in_slot = at-slot (slots_of rec) r far ∙ ap (λ (v : ℕ). Some v) s; not_zero = λ z. far (s ∙ z) }

      no : slice_index (slots_of rec) r ≢ 0 → (s : Stored) → AnswersStored index fresh was is s → (f : Option ℕ) → fresh ≡ f → IfSome f (λ a. (m slot : ℕ) → AddressAt shape (running_over device old) m slot a → ⊥)
          → (index < 8) ⊎ (8 ≤ index) → ⊥
      no far (Emptied b) h f g unused at = far (e ∙ h.2)
      no far Done h f g unused (inl low) = far (e ∙ address-node is index low)
      no far Done h (Some b) g unused (inr high) = unused k r (held far b (e ∙ h ∙ ap (λ (o : Option ℕ). unwrap_or o (address_of was index)) g))
      no far Done h None g unused (inr high) =
          let s : slice_index (slots_of rec) r ≡ slice_index (slots_of was) (range_of index) = e ∙ h ∙ ap (λ (o : Option ℕ). unwrap_or o (address_of was index)) g ∙ address-range was index high in
          off
          (at.right.one_use k r n (range_of index) (slice_index (slots_of was) (range_of index)) (held far (slice_index (slots_of was) (range_of index)) s)
          (record { rec = was; is_node = at.is_node; in_slot = at-slot (slots_of was) (range_of index) (λ z. far (s ∙ z)); not_zero = λ z. far (s ∙ z) })).0

      by : (slice_index (slots_of rec) r ≡ 0) ⊎ (slice_index (slots_of rec) r ≡ 0 → ⊥) → slice_index (slots_of rec) r ≡ 0
      by (inl z) = z
      by (inr far) = absurd (no far answer at.over.stores.answered fresh refl at.unused (cases_lt index 8))

  parts-before : FileParts was
  parts-before = file-parts was laws.file

  parts-after : FileParts is
  parts-after = file-parts is at.over.stores.file

  changes : ChangesPointer shape (running_over device old) after n index was is
  changes = record {
    file_before = record { below = at.is_node.below; spelled = at.is_node.spelled; kind = at.is_file; direct = parts-before.direct; slots = parts-before.addresses };
    file_after = record { below = at.is_node.below; spelled = at.node; kind = at.over.stores.file.kind; direct = parts-after.direct; slots = parts-after.addresses };
    generation = at.over.stores.record_kept.generation;
    within = at.within;
    others = λ i off. pointer-same (running_over device new) after is i (λ r. after-same shape n (address_of is index) (running_over device old) (running_over device new) after at.bounds at.right at.is_node.below stored.pages at.others page-in-pool not-its (slice_index (slots_of is) r) (in-pool r)) ∙ stored.others i off;
    other_nodes = λ k off. ap (tagged_by k) (same-graph shape n (address_of is index) (running_over device old) (running_over device new) after at.bounds at.right at.is_node.below stored.pages at.others page-in-pool not-its k off);
  }

pub one_pointer_stored : OnePointerStored
one_pointer_stored shape device n index to fresh was is old new answer after at = changes shape device n index to fresh was is old new answer after at
