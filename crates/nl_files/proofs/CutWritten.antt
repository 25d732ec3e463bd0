-- A file is cut, and the record is written back.
use Rattle.std.proofs.Common.{◌≡◌, ◌≢◌, ◌⊎◌, inl, inr, ℕ, ◌+◌, ◌*◌, ◌/◌, ◌≤◌, ◌<◌, false, true, Bool, List, length, get_or, Option, Some, None, IfSome, IsSome, is_some, refl, sym, ap, subst, ◌∙◌, arith}
use Rattle.std.proofs.lemmas.Bool.{both_ways, cases_eq, cases_lt}
use Rattle.std.specs.Int.{div_ceil}
use Rattle.std.specs.Prelude.{◌↔◌, IsTrue, slice_index}
use Rattle.nl_field.specs.Pointers.{no_pointer, pointers}
use Rattle.nl_field.specs.declared.inode.InodeRec.{InodeRec}
use Rattle.nl_field.specs.declared.inode.Kind.TheVariants.{File}
use Rattle.nl_field.specs.declared.pointer.Pointer.{Pointer}
use Rattle.nl_field.specs.declared.shape.Shape.{Shape}
use Rattle.nl_inode.specs.FreeLaws.{NodesAreFree}
use Rattle.nl_inode.specs.Nodes.{Spaces, is_free_node, page_of_node}
use Rattle.nl_indirect.specs.FileLaws.{AddressesGood, NodeLaws}
use Rattle.nl_indirect.specs.Ranges.{HasPointers, pointer_in, range_of, slot_of}
use Rattle.nl_indirect.proofs.LawProofs.{at-slot, file_of_node, get-has, has-get, physical-slot, slots-physical}
use Rattle.nl_indirect.proofs.OtherNodes.{pointer-same}
use Rattle.nl_indirect.proofs.Pointing.{at-node, in-range, no-page, on-page}
use Rattle.nl_indirect.proofs.Records.{FileParts, file-parts}
use Rattle.nl_indirect.proofs.Spelled.{indirect-is}
use Rattle.nl_meta.specs.Committed.{VirtualMap}
use Rattle.nl_meta.specs.Consistent.{AddressAt, GoodAddress, IsNode, NamesPhysical}
use Rattle.nl_meta.specs.Nodes.{inode_at, is_physical_name, pointer_at, pointer_in_page, slots_of}
use Rattle.nl_meta.specs.Pages.{Pages, page_of}
use Rattle.nl_meta.specs.Running.{running_over}
use Rattle.nl_meta.specs.Steps.{ChangesRunningPages}
use Rattle.nl_meta.proofs.Lists.{some_in}
use Rattle.nl_meta_running.specs.FileLaws.{StaysRight}
use Rattle.nl_meta_running.proofs.FileChanges.{one_file_changes}
use Rattle.nl_files.specs.CutLaws.{CutsAt, FileIsCut}
use Rattle.nl_files.specs.CutRuns.{CutIsWritten, OneCutIsWritten, WritesCut}
use Rattle.nl_files.specs.Cutting.{CutsPointers}
use Rattle.nl_files.proofs.CutLaw.{one_file_is_cut}
use Rattle.nl_files.proofs.InstallLaw.{put-node, put-slot}
use Rattle.nl_files.proofs.OneFile.{OneFile, file-changes, in-pool, is-used, its, other-was, same-at, same-of}
use Rattle.nl_files.proofs.PageProofs.{cutting_changes_pages}

module _ (shape : Shape) (device : VirtualMap) (n size : ℕ) (partial : Option Pointer) (was is : InodeRec) (old new written : Pages) (s t : Spaces) (at : WritesCut shape device n size partial was is old new written s t) where
  abbrev one : VirtualMap
  one = running_over device old

  abbrev half : VirtualMap
  half = running_over device new

  abbrev two : VirtualMap
  two = running_over device written

  abbrev last : ℕ
  last = size / 4096

  laws : NodeLaws shape one n was
  laws = file_of_node shape one n was at.right.addresses at.is_node at.is_file

  cut : CutsPointers size partial was is one half
  cut = at.cuts.pointers device at.clean

  pub changed : ChangesRunningPages old new
  changed = cutting_changes_pages size partial was is old new s t at.range at.cuts

  pub there-half : IsSome (page_of new (page_of_node n))
  there-half = changed.stays (page_of_node n) at.there

  parts-before : FileParts was
  parts-before = file-parts was laws.file

  parts-after : FileParts is
  parts-after = file-parts is at.cuts.file

  -- ---- each pointer names a page of the physical segment

  abbrev Physical : Pointer → Type 0
  Physical p = IsTrue (is_physical_name shape p)

  were-direct : NamesPhysical shape was.direct
  were-direct = subst (λ (rec : InodeRec). NamesPhysical shape rec.direct) (some_in node.0 was (sym node.1 ∙ at.is_node.spelled)) node.2
    where
      node : (rec : InodeRec) × (inode_at one n ≡ Some rec) × NamesPhysical shape rec.direct
      node = at.right.nodes.spelled n at.is_node.below

  was-physical : (i : ℕ) → Physical (pointer_at one was i)
  was-physical i = by (cases_lt i 8)
    where
      high-physical : 8 ≤ i → (slice_index (slots_of was) (range_of i) ≡ 0) ⊎ (slice_index (slots_of was) (range_of i) ≢ 0) → Physical (pointer_at one was i)
      high-physical high (inl e) = subst Physical (sym (in-range one was i high ∙ no-page one _ (slot_of i) e)) refl
      high-physical high (inr far) =
          let g = laws.good (range_of i) far in
          let p = g.spelled refl in
          subst Physical (sym (in-range one was i high ∙ on-page one _ (slot_of i) g.bytes far g.committed)) (physical-slot shape g.bytes p.0 p.1 p.2 (slot_of i) (omega arith))

      by : (i < 8) ⊎ (8 ≤ i) → Physical (pointer_at one was i)
      by (inl low) = subst Physical (sym (at-node one was i low)) (were-direct (get_or was.direct i no_pointer) (get-has no_pointer was.direct i (let l = parts-before.direct in omega (arith, low, l))))
      by (inr high) = high-physical high (cases_eq (slice_index (slots_of was) (range_of i)) 0)

  now-physical : (i : ℕ) → Physical (pointer_at half is i)
  now-physical i = by (cases_lt i (div_ceil size 4096))
    where
      none-some : (o : Option Pointer) → o ≡ None → IsSome o → ⊥
      none-some o e h = both_ways (is_some o) (ap is_some e) h

      within : i < div_ceil size 4096 → (i ≡ last) ⊎ (i ≢ last) → (o : Option Pointer) → partial ≡ o → IfSome o Physical → IfSome o (λ p. pointer_at half is last ≡ p) → Physical (pointer_at half is i)
      within low (inr off) o e physical replaced = subst Physical (sym (cut.kept i low (λ some. off))) (was-physical i)
      within low (inl same) None e physical replaced = subst Physical (sym (cut.kept i low (λ some. absurd (none-some partial e some)))) (was-physical i)
      within low (inl same) (Some p) e physical replaced = subst Physical (sym (ap (λ (k : ℕ). pointer_at half is k) same ∙ replaced)) physical

      by : (i < div_ceil size 4096) ⊎ (div_ceil size 4096 ≤ i) → Physical (pointer_at half is i)
      by (inl low) = within low (cases_eq i last) partial refl at.physical cut.replaced
      by (inr high) = subst Physical (sym (cut.gone i high)) refl

  direct-physical : NamesPhysical shape is.direct
  direct-physical p m = subst Physical (at-node half is place.0 low ∙ place.2) (now-physical place.0)
    where
      place : (j : ℕ) × (j < length is.direct) × (get_or is.direct j no_pointer ≡ p)
      place = has-get no_pointer is.direct p m

      low : place.0 < 8
      low = let l = parts-after.direct in let h = place.1 in omega (arith, h, l)

  -- ---- addresses

  same-slot : (r : ℕ) → slice_index (slots_of is) r ≢ 0 → slice_index (slots_of is) r ≡ slice_index (slots_of was) r
  same-slot r far = by (at.cuts.addresses.either r)
    where
      by : (slice_index (slots_of is) r ≡ slice_index (slots_of was) r) ⊎ (slice_index (slots_of is) r ≡ 0) → slice_index (slots_of is) r ≡ slice_index (slots_of was) r
      by (inl e) = e
      by (inr z) = absurd (far z)

  had : (r a : ℕ) → a ≢ 0 → slice_index (slots_of was) r ≡ a → AddressAt shape one n r a
  had r a far e = record { rec = was; is_node = at.is_node; in_slot = at-slot (slots_of was) r (λ z. far (sym e ∙ z)) ∙ ap (λ (v : ℕ). Some v) e; not_zero = far }

  good : AddressesGood shape half is
  good r far = record {
    from_pool = subst (λ (v : ℕ). 67 + shape.inode_pages ≤ v) (sym same) g.from_pool;
    in_pool = subst (λ (v : ℕ). v < shape.vaddrs) (sym same) g.in_pool;
    bytes = has.bytes;
    committed = has.there;
    spelled = λ e. (pointers 256 has.bytes, indirect-is has.bytes has.spelled, slots-physical shape has.bytes slot-physical);
  }
    where
      same : slice_index (slots_of is) r ≡ slice_index (slots_of was) r
      same = same-slot r far

      g : GoodAddress shape one File (slice_index (slots_of was) r)
      g = laws.good r (λ z. far (same ∙ z))

      has : HasPointers half (slice_index (slots_of is) r)
      has = cut.spelled r far (subst (HasPointers one) (sym same) (record { bytes = g.bytes; there = g.committed; spelled = ap is_some (g.spelled refl).1 }))

      slot-physical : (j : ℕ) → j < 256 → Physical (pointer_in has.bytes j)
      slot-physical j h = subst Physical there (now-physical (8 + 256 * r + j))
        where
          in-its : range_of (8 + 256 * r + j) ≡ r
          in-its = omega (arith, h)

          slot-its : slot_of (8 + 256 * r + j) ≡ j
          slot-its = omega (arith, h)

          there : pointer_at half is (8 + 256 * r + j) ≡ pointer_in has.bytes j
          there = in-range half is (8 + 256 * r + j) (omega arith) ∙ (λ k. pointer_in_page half (slice_index (slots_of is) (in-its k)) (slot-its k)) ∙ on-page half _ j has.bytes far has.there

  -- ---- the file

  file : OneFile shape n last was is one half two
  file = record {
    bounds = at.bounds;
    right = at.right;
    is_node = at.is_node;
    is_file = at.is_file;
    differs = cut.pages;
    changes = put-slot device n is new written there-half at.puts;
    node = put-node device n is new written there-half at.puts;
    kind = at.cuts.file.kind;
    generation = at.cuts.generation;
    direct = direct-physical;
    good = good;
    differ = at.cuts.file.differ;
    apart = λ r m slot far x. (at.right.addresses.one_use m slot n r (slice_index (slots_of is) r) x (had r (slice_index (slots_of is) r) far (sym (same-slot r far)))).0;
  }

  pointers-half : (i : ℕ) → pointer_at two is i ≡ pointer_at half is i
  pointers-half i = pointer-same half two is i (λ r. same-at shape n last was is one half two file (slice_index (slots_of is) r) (in-pool shape n last was is one half two file r))

  -- an address that a node has, one had
  pub had-before : (k slot a : ℕ) → AddressAt shape two k slot a → AddressAt shape one k slot a
  had-before k slot a x = by (cases_eq k n)
    where
      own : AddressAt shape two n slot a → AddressAt shape one n slot a
      own y =
          let e = its shape n last was is one half two file slot a y in
          had slot a y.not_zero (sym (same-slot slot (λ z. y.not_zero (sym e ∙ z))) ∙ e)

      by : (k ≡ n) ⊎ (k ≢ n) → AddressAt shape one k slot a
      by (inr off) = other-was shape n last was is one half two file k slot a off x
      by (inl e) = subst (λ (m : ℕ). AddressAt shape one m slot a) (sym e) (own (subst (λ (m : ℕ). AddressAt shape two m slot a) e x))

  -- ---- what is free

  used-now : IsNode shape two n is
  used-now = record { below = at.is_node.below; spelled = file.node; used = is-used is.kind file.kind }

  nodes : NodesAreFree shape one s → NodesAreFree shape two t
  nodes are = record { each = λ k below. each k below (cases_eq k n) }
    where
      same : (k : ℕ) → is_free_node t k ≡ is_free_node s k
      same k = ap (λ (xs : List Bool). get_or xs k false) at.cuts.given.nodes

      each : (k : ℕ) → k < shape.nodes → (k ≡ n) ⊎ (k ≢ n) → (is_free_node t k ≡ true) ↔ ((rec : InodeRec) → IsNode shape two k rec → ⊥)
      each k below (inl e) = (
        (λ f. absurd ((are.each k below).0 (sym (same k) ∙ f) was (subst (λ (m : ℕ). IsNode shape one m was) (sym e) at.is_node))),
        (λ none. absurd (none is (subst (λ (m : ℕ). IsNode shape two m is) (sym e) used-now))),
      )
      each k below (inr off) = (
        (λ f rec x. (are.each k below).0 (sym (same k) ∙ f) rec (record { below = x.below; spelled = sym (same-of shape n last was is one half two file k below off) ∙ x.spelled; used = x.used })),
        (λ none. same k ∙ (are.each k below).1 (λ rec x. none rec (record { below = x.below; spelled = same-of shape n last was is one half two file k below off ∙ x.spelled; used = x.used }))),
      )

  cut-at : CutsAt shape device n size partial was is old new s t two
  cut-at = record {
    bounds = at.bounds;
    right = at.right.addresses;
    is_node = at.is_node;
    is_file = at.is_file;
    clean = at.clean;
    cuts = at.cuts;
    node = file.node;
    others = file.changes;
  }

  file-is-cut : FileIsCut shape n was is one half two s t
  file-is-cut = one_file_is_cut shape device n size partial was is old new s t two cut-at

  pub cut-written : CutIsWritten shape n size partial was is one two s t
  cut-written = record {
    changes = file-changes shape n last was is one half two file;
    right = stays.right;
    others = stays.others;
    gone = λ i high. pointers-half i ∙ cut.gone i high;
    replaced = by partial cut.replaced;
    kept = λ i low off. pointers-half i ∙ cut.kept i low off;
    nodes = nodes;
    pool = file-is-cut.free;
  }
    where
      stays : StaysRight shape one two n
      stays = one_file_changes shape one two n was is at.bounds at.right (file-changes shape n last was is one half two file)

      by : (o : Option Pointer) → IfSome o (λ p. pointer_at half is last ≡ p) → IfSome o (λ p. pointer_at two is last ≡ p)
      by None h = tt
      by (Some p) h = pointers-half last ∙ h

pub one_cut_is_written : OneCutIsWritten
one_cut_is_written shape device n size partial was is old new written s t at = cut-written shape device n size partial was is old new written s t at
