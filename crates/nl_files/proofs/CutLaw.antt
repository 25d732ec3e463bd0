-- Once the record is written back, one file is cut.
use Rattle.std.proofs.Common.{◌≡◌, ◌≢◌, ℕ, zero, suc, ◌+◌, ◌/◌, ◌≤◌, ◌<◌, true, false, List, [], ◌∷◌, refl, sym, ap, ◌∙◌, subst, Option, Some, ◌⊎◌, inl, inr}
use Rattle.std.proofs.lemmas.Bool.{both_ways, cases_Bool, cases_eq, cases_lt}
use Rattle.std.specs.Prelude.{slice_get, slice_index}
use Rattle.nl_field.specs.declared.inode.InodeRec.{InodeRec}
use Rattle.nl_field.specs.declared.inode.Kind.{Kind}
use Rattle.nl_field.specs.declared.inode.Kind.TheVariants.{Unused, File, Dir}
use Rattle.nl_field.specs.declared.pointer.Pointer.{Pointer}
use Rattle.nl_field.specs.declared.shape.Shape.{Shape}
use Rattle.nl_meta.specs.Committed.{VirtualMap}
use Rattle.nl_meta.specs.Consistent.{AddressAt, IsNode}
use Rattle.nl_meta.specs.Nodes.{inode_at, slots_of}
use Rattle.nl_meta.specs.Pages.{Pages}
use Rattle.nl_meta.specs.Running.{running_over}
use Rattle.nl_meta.proofs.Lists.{none_some, some_in}
use Rattle.nl_inode.specs.FreeLaws.{PoolIsFree, UsesAddress}
use Rattle.nl_inode.specs.Nodes.{Spaces, is_free_address}
use Rattle.nl_indirect.specs.Ranges.{address_of, range_of}
use Rattle.nl_indirect.proofs.LawProofs.{at-slot, file_of_node}
use Rattle.nl_indirect.proofs.OtherNodes.{after-same, pointer-same, same-graph, same-record}
use Rattle.nl_indirect.proofs.Pointing.{address-node, address-range}
use Rattle.nl_indirect.proofs.Records.{FileParts, file-parts}
use Rattle.nl_files.specs.CutLaws.{CutsAt, FileIsCut, OneFileIsCut}
use Rattle.nl_files.specs.Cutting.{LosesAddress}

in-slot : (xs : List ℕ) (r a : ℕ) → slice_get xs r ≡ Some a → slice_index xs r ≡ a
in-slot [] r a e = absurd (none_some a e)
in-slot (x ∷ xs) zero a e = some_in _ _ e
in-slot (x ∷ xs) (suc r) a e = in-slot xs r a e

is-used : (kind : Kind) → kind ≡ File → kind ≢ Unused
is-used Unused e = cc
is-used File e = λ z. cc
is-used Dir e = cc

module _ (shape : Shape) (device : VirtualMap) (n size : ℕ) (partial : Option Pointer) (was is : InodeRec) (old new : Pages) (s t : Spaces) (after : VirtualMap)
    (at : CutsAt shape device n size partial was is old new s t after) where
  abbrev one : VirtualMap
  one = running_over device old

  abbrev two : VirtualMap
  two = running_over device new

  abbrev last : ℕ
  last = size / 4096

  -- an address that the file has in its record before
  had : (r a : ℕ) → a ≢ 0 → slice_index (slots_of was) r ≡ a → AddressAt shape one n r a
  had r a far e = record { rec = was; is_node = at.is_node; in_slot = at-slot (slots_of was) r (λ z. far (sym e ∙ z)) ∙ ap (λ (v : ℕ). Some v) e; not_zero = far }

  -- or has still
  has : (r a : ℕ) → a ≢ 0 → slice_index (slots_of is) r ≡ a → AddressAt shape one n r a
  has r a far e = by (at.cuts.addresses.either r)
    where
      by : (slice_index (slots_of is) r ≡ slice_index (slots_of was) r) ⊎ (slice_index (slots_of is) r ≡ 0) → AddressAt shape one n r a
      by (inl same) = had r a far (sym same ∙ e)
      by (inr z) = absurd (far (sym e ∙ z))

  in-pool : (r : ℕ) → (slice_index (slots_of is) r ≡ 0) ⊎ (67 + shape.inode_pages ≤ slice_index (slots_of is) r)
  in-pool r = by (cases_eq (slice_index (slots_of is) r) 0)
    where
      by : (slice_index (slots_of is) r ≡ 0) ⊎ (slice_index (slots_of is) r ≡ 0 → ⊥) → (slice_index (slots_of is) r ≡ 0) ⊎ (67 + shape.inode_pages ≤ slice_index (slots_of is) r)
      by (inl e) = inl e
      by (inr far) = inr (at.right.good n r (slice_index (slots_of is) r) (has r (slice_index (slots_of is) r) far refl)).from_pool

  page-in-pool : (address_of is last ≡ 0) ⊎ (67 + shape.inode_pages ≤ address_of is last)
  page-in-pool = by (cases_lt last 8)
    where
      by : (last < 8) ⊎ (8 ≤ last) → (address_of is last ≡ 0) ⊎ (67 + shape.inode_pages ≤ address_of is last)
      by (inl low) = inl (address-node is last low)
      by (inr high) = subst (λ (v : ℕ). (v ≡ 0) ⊎ (67 + shape.inode_pages ≤ v)) (sym (address-range is last high)) (in-pool (range_of last))

  not-its : (k : ℕ) → k ≢ n → (rec : InodeRec) → IsNode shape one k rec → (r : ℕ) → slice_index (slots_of rec) r ≡ address_of is last → slice_index (slots_of rec) r ≡ 0
  not-its k off rec is-node r e = by (cases_eq (slice_index (slots_of rec) r) 0) (cases_lt last 8)
    where
      by : (slice_index (slots_of rec) r ≡ 0) ⊎ (slice_index (slots_of rec) r ≡ 0 → ⊥) → (last < 8) ⊎ (8 ≤ last) → slice_index (slots_of rec) r ≡ 0
      by (inl z) y = z
      by (inr far) (inl low) = e ∙ address-node is last low
      by (inr far) (inr high) =
          absurd
          (off
          (at.right.one_use k r n (range_of last) (slice_index (slots_of rec) r) (record { rec = rec; is_node = is-node; in_slot = at-slot (slots_of rec) r far; not_zero = far })
          (has (range_of last) (slice_index (slots_of rec) r) far (sym (address-range is last high) ∙ sym e))).0)

  same-at : (v : ℕ) → (v ≡ 0) ⊎ (67 + shape.inode_pages ≤ v) → after v ≡ two v
  same-at = after-same shape n (address_of is last) one two after at.bounds at.right at.is_node.below (at.cuts.pointers device at.clean).pages at.others page-in-pool not-its

  same-of : (k : ℕ) → k < shape.nodes → k ≢ n → inode_at after k ≡ inode_at one k
  same-of = same-record shape n (address_of is last) one two after at.bounds at.right at.is_node.below (at.cuts.pointers device at.clean).pages at.others page-in-pool not-its

  -- ---- what is free

  other-was : (k slot a : ℕ) → k ≢ n → AddressAt shape after k slot a → AddressAt shape one k slot a
  other-was k slot a off x = record { rec = x.rec; is_node = record { below = x.is_node.below; spelled = sym (same-of k x.is_node.below off) ∙ x.is_node.spelled; used = x.is_node.used }; in_slot = x.in_slot; not_zero = x.not_zero }

  other-is : (k slot a : ℕ) → k ≢ n → AddressAt shape one k slot a → AddressAt shape after k slot a
  other-is k slot a off x = record { rec = x.rec; is_node = record { below = x.is_node.below; spelled = same-of k x.is_node.below off ∙ x.is_node.spelled; used = x.is_node.used }; in_slot = x.in_slot; not_zero = x.not_zero }

  its-was : (slot a : ℕ) → AddressAt shape one n slot a → slice_index (slots_of was) slot ≡ a
  its-was slot a x = ap (λ (rec : InodeRec). slice_index (slots_of rec) slot) (some_in _ _ (sym at.is_node.spelled ∙ x.is_node.spelled)) ∙ in-slot (slots_of x.rec) slot a x.in_slot

  its-is : (slot a : ℕ) → AddressAt shape after n slot a → slice_index (slots_of is) slot ≡ a
  its-is slot a x = ap (λ (rec : InodeRec). slice_index (slots_of rec) slot) (some_in _ _ (sym at.node ∙ x.is_node.spelled)) ∙ in-slot (slots_of x.rec) slot a x.in_slot

  its-on : (slot a : ℕ) → a ≢ 0 → slice_index (slots_of is) slot ≡ a → AddressAt shape after n slot a
  its-on slot a far e = record {
    rec = is;
    is_node = record { below = at.is_node.below; spelled = at.node; used = is-used is.kind at.cuts.file.kind };
    in_slot = at-slot (slots_of is) slot (λ z. far (sym e ∙ z)) ∙ ap (λ (v : ℕ). Some v) e;
    not_zero = far;
  }

  module _ (are : PoolIsFree shape one s) (a : ℕ) (above : s.first ≤ a) (below : a < shape.vaddrs) where
    abbrev Lost : Type 0
    Lost = LosesAddress (slots_of was) (slots_of is) a

    lost-had : (l : LosesAddress (slots_of was) (slots_of is) a) → AddressAt shape one n l.at a
    lost-had l = had l.at a l.not_zero l.had

    free-unused : is_free_address t a ≡ true → UsesAddress shape after a → ⊥
    free-unused f (k, slot, x) = by (cases_eq k n)
      where
        clash : (AddressAt shape one k slot a) → (Lost → ⊥) → ⊥
        clash u kept = (are.each a above below).0 (sym (at.cuts.given.others a kept) ∙ f) (k, slot, u)

        by : (k ≡ n) ⊎ (k ≡ n → ⊥) → ⊥
        by (inr off) = let u = other-was k slot a off x in clash u (λ l. off (at.right.one_use k slot n l.at a u (lost-had l)).0)
        by (inl e) =
            let y : AddressAt shape after n slot a = subst (λ (m : ℕ). AddressAt shape after m slot a) e x in
            let u : AddressAt shape one n slot a = has slot a x.not_zero (its-is slot a y) in
            clash (subst (λ (m : ℕ). AddressAt shape one m slot a) (sym e) u)
            (λ l. x.not_zero (sym (its-is slot a y) ∙ ap (λ (r : ℕ). slice_index (slots_of is) r) (at.right.one_use n slot n l.at a u (lost-had l)).1 ∙ l.gone))

    unused-free : (UsesAddress shape after a → ⊥) → is_free_address t a ≡ true
    unused-free none = by (cases_Bool (is_free_address t a))
      where
        by : (is_free_address t a ≡ true) ⊎ (is_free_address t a ≡ false) → is_free_address t a ≡ true
        by (inl e) = e
        by (inr taken) = at.cuts.given.others a kept ∙ (are.each a above below).1 unused
          where
            kept : Lost → ⊥
            kept l = both_ways (is_free_address t a) taken (at.cuts.given.given a l)

            unused : UsesAddress shape one a → ⊥
            unused (k, slot, x) = at-node (cases_eq k n)
              where
                in-its : AddressAt shape one n slot a → (slice_index (slots_of is) slot ≡ slice_index (slots_of was) slot) ⊎ (slice_index (slots_of is) slot ≡ 0) → ⊥
                in-its y (inl same) = none (n, slot, its-on slot a x.not_zero (same ∙ its-was slot a y))
                in-its y (inr z) = kept (record { not_zero = x.not_zero; at = slot; had = its-was slot a y; gone = z })

                at-node : (k ≡ n) ⊎ (k ≡ n → ⊥) → ⊥
                at-node (inr off) = none (k, slot, other-is k slot a off x)
                at-node (inl e) = in-its (subst (λ (m : ℕ). AddressAt shape one m slot a) e x) (at.cuts.addresses.either slot)

  parts-before : FileParts was
  parts-before = file-parts was (file_of_node shape one n was at.right at.is_node at.is_file).file

  parts-after : FileParts is
  parts-after = file-parts is at.cuts.file

  file-is-cut : FileIsCut shape n was is one two after s t
  file-is-cut = record {
    file_before = record { below = at.is_node.below; spelled = at.is_node.spelled; kind = at.is_file; direct = parts-before.direct; slots = parts-before.addresses };
    file_after = record { below = at.is_node.below; spelled = at.node; kind = at.cuts.file.kind; direct = parts-after.direct; slots = parts-after.addresses };
    pointers = λ i. pointer-same two after is i (λ r. same-at (slice_index (slots_of is) r) (in-pool r));
    other_nodes = same-graph shape n (address_of is last) one two after at.bounds at.right at.is_node.below (at.cuts.pointers device at.clean).pages at.others page-in-pool not-its;
    free = λ are. record {
      first = at.cuts.given.first ∙ are.first;
      each = λ a above below. let from = subst (λ (f : ℕ). f ≤ a) at.cuts.given.first above in (free-unused are a from below, unused-free are a from below);
    };
  }

pub one_file_is_cut : OneFileIsCut
one_file_is_cut shape device n size partial was is old new s t after at = file-is-cut shape device n size partial was is old new s t after at
