-- The pages and the pointers of a file.
use Rattle.std.proofs.Common.{◌≡◌, ℕ, ◌+◌, ◌*◌, ◌<◌, Bool, true, false, not, cond, List, [], ◌∷◌, ◌++◌, filter, map, flat_map, length, get_or, is_some, refl, sym, ap, ◌∙◌, arith}
use Rattle.std.proofs.lemmas.List.{ext_get_or, length-append}
use Rattle.std.proofs.lemmas.List.FromFn.{get_or-map-range_with_len, length-map-range_with_len}
use Rattle.std.specs.List.{enumerate_from, range_with_len}
use Rattle.nl_field.specs.Pointers.{is_none_pointer, no_pointer}
use Rattle.nl_field.specs.declared.inode.InodeRec.{InodeRec}
use Rattle.nl_field.specs.declared.pointer.Pointer.{Pointer}
use Rattle.nl_iface.specs.declared.counts.Counts.{Ghosts}
use Rattle.nl_meta.specs.Committed.{VirtualMap}
use Rattle.nl_meta.specs.Nodes.{pointer_at, pointers_at, pointers_of_inode}
use Rattle.nl_meta.proofs.SlotProofs.{at_index, pointers_length}
use Rattle.nl_indirect.proofs.Records.{file-parts}
use Rattle.nl_files.specs.Laws.{AllAreOfNode, FilesArePreserved, GoodAddressesHavePages}
use Rattle.nl_files.proofs.Keeping.{leads-then, pointer-then, stands-then}
use Rattle.nl_files.specs.Spans.{pointers_of_span}

pub good_addresses_have_pages : GoodAddressesHavePages
good_addresses_have_pages shape pages rec good r far =
    let at = good r far in
    let s = at.spelled refl in
    record { bytes = at.bytes; there = at.committed; spelled = ap is_some s.1 }

-- numbers beside the pointers change nothing
numbered : (a : ℕ) (xs : List Pointer) → filter (λ p. not (is_none_pointer p)) xs ≡ map (λ p. p.1) (filter (λ (p : ℕ × Pointer). not (is_none_pointer p.1)) (enumerate_from a xs))
numbered a [] = refl
numbered a (x ∷ xs) = by (is_none_pointer x) (numbered (a + 1) xs)
  where
    rest : List (ℕ × Pointer)
    rest = filter (λ (p : ℕ × Pointer). not (is_none_pointer p.1)) (enumerate_from (a + 1) xs)

    kept : List Pointer
    kept = filter (λ p. not (is_none_pointer p)) xs

    by : (b : Bool) → kept ≡ map (λ p. p.1) rest → cond (not b) (x ∷ kept) kept ≡ map (λ p. p.1) (cond (not b) ((a, x) ∷ rest) rest)
    by true e = e
    by false e = ap (λ (l : List Pointer). x ∷ l) e

rows : (pages : VirtualMap) (vs : List ℕ) → length (flat_map (pointers_at pages) vs) ≡ 256 * length vs
rows pages [] = omega arith
rows pages (v ∷ vs) = let r = rows pages vs in length-append (pointers_at pages v) (flat_map (pointers_at pages) vs) ∙ (let h = pointers_length pages v in omega (arith, h, r))

by_index : (pages : VirtualMap) (rec : InodeRec) (n : ℕ) → length rec.direct ≡ 8 → length (rec.direct ++ flat_map (pointers_at pages) rec.addresses) ≡ n
    → map (pointer_at pages rec) (range_with_len 0 n) ≡ rec.direct ++ flat_map (pointers_at pages) rec.addresses
by_index pages rec n eight whole = ext_get_or no_pointer _ _ (length-map-range_with_len (pointer_at pages rec) 0 n ∙ sym whole) each
  where
    each : (i : ℕ) → i < length (map (pointer_at pages rec) (range_with_len 0 n)) → get_or (map (pointer_at pages rec) (range_with_len 0 n)) i no_pointer ≡ get_or (rec.direct ++ flat_map (pointers_at pages) rec.addresses) i no_pointer
    each i below =
        let len = length-map-range_with_len (pointer_at pages rec) 0 n in
        let lt : i < n = omega (arith, len, below) in
        get_or-map-range_with_len (pointer_at pages rec) 0 n i i no_pointer lt (let e : 0 + i ≡ i = omega arith in e) ∙ sym (at_index pages rec i eight)

pub all_are_of_node : AllAreOfNode
unfolding pointers_of_span pointers_of_inode
all_are_of_node pages rec file =
    let parts = file-parts rec file in
    let lengths = rows pages rec.addresses in
    let direct = parts.direct in
    let sixteen = parts.addresses in
    let whole : length (rec.direct ++ flat_map (pointers_at pages) rec.addresses) ≡ 4104 = length-append rec.direct (flat_map (pointers_at pages) rec.addresses) ∙ (omega (arith, lengths, direct, sixteen)) in
    ap (filter (λ p. not (is_none_pointer p))) (by_index pages rec 4104 parts.direct whole) ∙ numbered 0 (rec.direct ++ flat_map (pointers_at pages) rec.addresses)

pub files_stand_on : {D : Type 0} (g : Ghosts D) → FilesArePreserved g
files_stand_on g s t rec p q reads keeps stands = record {
  stands = stands-then g s t rec p q reads keeps stands;
  pointers = pointer-then g s t rec p q reads keeps stands;
  leads = leads-then g s t rec p q reads keeps stands;
}
