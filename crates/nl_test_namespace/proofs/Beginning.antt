-- A file without pages, before anything is written.
use Rattle.std.proofs.Common.{◌≡◌, ◌⊎◌, inl, inr, ℕ, zero, suc, ◌+◌, ◌≤◌, ◌<◌, true, List, [], length, get_or, replicate, Option, None, refl, sym, ap, ◌∙◌, subst, arith}
use Rattle.std.specs.Prelude.{slice_index, slice_index_or}
use Rattle.std.proofs.lemmas.Bool.{cases_lt}
use Rattle.std.proofs.lemmas.List.{length-replicate}
use Rattle.nl_field.specs.Bytes.{zeros}
use Rattle.nl_field.specs.Inode.{are_filled, is_inode, is_inode_of_kind}
use Rattle.nl_field.specs.Numbers.{shape_for}
use Rattle.nl_field.specs.Pointers.{is_none_pointer, no_pointer}
use Rattle.nl_field.specs.declared.inode.InodeRec.{InodeRec}
use Rattle.nl_field.specs.declared.inode.Kind.TheVariants.{File}
use Rattle.nl_field.specs.declared.shape.Shape.{Shape}
use Rattle.nl_files.specs.Standing.{PointersLead}
use Rattle.nl_iface.specs.Names.{Names}
use Rattle.nl_iface.specs.declared.counts.Counts.{Ghosts}
use Rattle.nl_indirect.specs.Ranges.{IsFileRecord, range_of, slot_of}
use Rattle.nl_indirect.proofs.Pointing.{at-node, in-range, no-page}
use Rattle.nl_inode.specs.Nodes.{Spaces, taken_as}
use Rattle.nl_meta.specs.Committed.{VirtualMap}
use Rattle.nl_meta.specs.Nodes.{pointer_at, slots_of}
use Rattle.nl_meta.specs.Pages.{Pages, no_pages, page_of}
use Rattle.nl_meta.proofs.Lists.{none_some, true_false}
use Rattle.nl_test_namespace.specs.Files.{HasFile, in_memory}

no-slot : (n r : ℕ) → slice_index (replicate n 0) r ≡ 0
no-slot zero r = refl
no-slot (suc n) zero = refl
no-slot (suc n) (suc r) = no-slot n r

no-page-there : (n u : ℕ) → get_or {A = Option (List ℕ)} (replicate n None) u None ≡ None
no-page-there zero u = refl
no-page-there (suc n) zero = refl
no-page-there (suc n) (suc u) = no-page-there n u

none-direct : (n i : ℕ) → slice_index_or (replicate n no_pointer) i no_pointer ≡ no_pointer
none-direct zero i = refl
none-direct (suc n) zero = refl
none-direct (suc n) (suc i) = none-direct n i

abbrev empty : ℕ → InodeRec
empty generation = taken_as File generation

slots : (n r : ℕ) → slice_index (slots_of (empty n)) r ≡ 0
unfolding zeros
slots n r = no-slot 16 r

spelled : (n : ℕ) → is_inode (empty n) ≡ true
unfolding is_inode_of_kind are_filled zeros
spelled n = refl

no-pointers : (pages : VirtualMap) (n i : ℕ) → pointer_at pages (empty n) i ≡ no_pointer
no-pointers pages n i = by (cases_lt i 8)
  where
    by : (i < 8) ⊎ (8 ≤ i) → pointer_at pages (empty n) i ≡ no_pointer
    by (inl low) = at-node pages (empty n) i low ∙ none-direct 8 i
    by (inr high) = in-range pages (empty n) i high ∙ no-page pages _ (slot_of i) (slots n (range_of i))

empty-file : (n : ℕ) → IsFileRecord (empty n)
empty-file n = record { kind = refl; spelled = spelled n; differ = λ r t far e. absurd (far (slots n r)) }

empty-leads : (names : Names) (pages : VirtualMap) (n : ℕ) → PointersLead names 1 (empty n) pages
empty-leads names pages n i below some = absurd (true_false (sym (ap is_none_pointer (no-pointers pages n i)) ∙ some))

least : (shape : Shape) → shape ≡ shape_for 32 32 → (shape.vaddrs ≡ 103) × (shape.inode_pages ≡ 4)
unfolding shape_for
least shape is = (ap (λ (s : Shape). s.vaddrs) is, ap (λ (s : Shape). s.inode_pages) is)

no-page-of : (n u : ℕ) → page_of (no_pages n) u ≡ None
unfolding no_pages
no-page-of n u = no-page-there n u

count-of : (n : ℕ) → length (no_pages n).running ≡ n
unfolding no_pages
count-of n = length-replicate {A = Option (List ℕ)} n None

pub begins : {D : Type 0} (g : Ghosts D) (s : D) (shape : Shape) (p : Pages) (free : Spaces) (rec : InodeRec) → g.shape s ≡ shape_for 32 32 → (g.names s).pending ≡ [] → shape ≡ shape_for 32 32 → p ≡ no_pages shape.vaddrs
    → free.first ≡ 67 + shape.inode_pages → free.first + length free.pool ≡ shape.vaddrs → rec ≡ taken_as File 0 → HasFile g s p free rec
begins g s shape p free rec numbers idle is pages first pool file =
    subst (λ (z : InodeRec). HasFile g s p free z) (sym file) (subst (λ (z : Pages). HasFile g s z free (empty 0)) (sym pages) (record {
      addresses = (least (g.shape s) numbers).0;
      idle = idle;
      count = count-of shape.vaddrs ∙ (least shape is).0;
      unwritten = record { each = λ u bytes there d f. absurd (none_some bytes (sym (no-page-of shape.vaddrs u) ∙ there)) };
      file = empty-file 0;
      resident = λ r far. absurd (far (slots 0 r));
      taken = λ r far. absurd (far (slots 0 r));
      leads = empty-leads (g.names s) (in_memory (no_pages shape.vaddrs)) 0;
      first = let a = (least shape is).1 in omega (arith, first, a);
      pool = let a = (least shape is).1 in let v = (least shape is).0 in omega (arith, first, pool, a, v);
    }))

-- the next file
pub next : {D : Type 0} (g : Ghosts D) (s : D) (p : Pages) (free : Spaces) (rec : InodeRec) (generation : ℕ) → HasFile g s p free rec → HasFile g s p free (taken_as File generation)
next g s p free rec n h = record {
  addresses = h.addresses;
  idle = h.idle;
  count = h.count;
  unwritten = h.unwritten;
  file = empty-file n;
  resident = λ r far. absurd (far (slots n r));
  taken = λ r far. absurd (far (slots n r));
  leads = empty-leads (g.names s) (in_memory p) n;
  first = h.first;
  pool = h.pool;
}
