-- What a file holds, by its pointers.
use Rattle.std.proofs.Common.{◌≡◌, ◌≢◌, ℕ, zero, suc, ◌+◌, ◌/◌, ◌<◌, Bool, true, false, not, cond, List, [], ◌∷◌, ◌++◌, map, filter, flat_map, get_or, Option, Some, None, IfSome, IsSome, refl, sym, ap, ◌∙◌, arith}
use Rattle.std.proofs.lemmas.Bool.{cond-false, eq-eqb, ne_eqb}
use Rattle.std.specs.Cmp.{unsigned_tied}
use Rattle.std.specs.FinMap.{find}
use Rattle.std.specs.List.{enumerate_from}
use Rattle.std.specs.Ordering.{eq_by_cmp, nat_cmp}
use Rattle.std.specs.Prelude.{IsTrue}
use Rattle.nl_field.specs.Pointers.{is_none_pointer, no_pointer}
use Rattle.nl_field.specs.Spelling.{is_stamp}
use Rattle.nl_field.specs.declared.pointer.Pointer.{Pointer}
use Rattle.nl_indirect.proofs.Cases.{to-some}
use Rattle.nl_indirect.proofs.Records.{file-parts}
use Rattle.nl_meta.specs.Nodes.{pointer_at, pointers_at, pointers_of_inode}
use Rattle.nl_meta.proofs.SlotProofs.{at_index}
use Rattle.nl_files.specs.Contents.{CuttingCuts, InstallingWrites, PagesByPointers, bytes_given, page_by_stamp}

module _ (bytes_of : ℕ → List ℕ) where
  abbrev shown : ℕ × Pointer → ℕ × List ℕ
  shown p = (p.0, bytes_of p.1.stamp)

  -- the pages of those of a list that are pointers, with their indexes from one on
  abbrev pages-from : ℕ → List Pointer → List (ℕ × List ℕ)
  pages-from a xs = map shown (filter (λ p. not (is_none_pointer p.1)) (enumerate_from a xs))

  first : (q a : ℕ) (x : Pointer) (rest : List (ℕ × Pointer))
      → find nat_cmp q (map shown (cond (not (is_none_pointer x)) ((a, x) ∷ rest) rest))
      ≡ cond (is_none_pointer x) (find nat_cmp q (map shown rest)) (cond (eq_by_cmp nat_cmp q a) (Some (bytes_of x.stamp)) (find nat_cmp q (map shown rest)))
  first q a x rest =
      elim (is_none_pointer x) as (λ b. find nat_cmp q (map shown (cond (not b) ((a, x) ∷ rest) rest)) ≡ cond b (find nat_cmp q (map shown rest)) (cond (eq_by_cmp nat_cmp q a) (Some (bytes_of x.stamp)) (find nat_cmp q (map shown rest)))) [
        | true ↦ refl
        | false ↦ refl
      ]

  both-same : {X : Type 0} (b : Bool) (x : X) → cond b x x ≡ x
  both-same true x = refl
  both-same false x = refl

  tied-not : (q a : ℕ) → q ≢ a → eq_by_cmp nat_cmp q a ≡ false
  tied-not q a far = unsigned_tied q a ∙ ne_eqb q a far

  tied-same : (q a : ℕ) → q ≡ a → eq_by_cmp nat_cmp q a ≡ true
  tied-same q a e = unsigned_tied q a ∙ eq-eqb q a e

  below : (q a : ℕ) (xs : List Pointer) → q < a → find nat_cmp q (pages-from a xs) ≡ None
  below q a [] h = refl
  below q a (x ∷ xs) h =
      let rest = below q (a + 1) xs (omega (arith, h)) in
      let off = tied-not q a (λ e. omega (arith, h, e)) in
      first q a x (filter (λ p. not (is_none_pointer p.1)) (enumerate_from (a + 1) xs)) ∙ (λ i. cond (is_none_pointer x) (rest i) (cond (off i) (Some (bytes_of x.stamp)) (rest i))) ∙ both-same (is_none_pointer x) None

  find-at : (a i : ℕ) (xs : List Pointer) → find nat_cmp (a + i) (pages-from a xs) ≡ page_by_stamp bytes_of (get_or xs i no_pointer)
  find-at a i [] = refl
  find-at a zero (x ∷ xs) =
      let rest = below (a + 0) (a + 1) xs (omega arith) in
      let same = tied-same (a + 0) a (omega arith) in
      first (a + 0) a x (filter (λ p. not (is_none_pointer p.1)) (enumerate_from (a + 1) xs)) ∙ (λ i. cond (is_none_pointer x) (rest i) (cond (same i) (Some (bytes_of x.stamp)) (rest i)))
  find-at a (suc i) (x ∷ xs) =
      let next : a + suc i ≡ a + 1 + i = omega arith in
      let off = tied-not (a + suc i) a (λ e. omega (arith, e)) in
      first (a + suc i) a x (filter (λ p. not (is_none_pointer p.1)) (enumerate_from (a + 1) xs))
      ∙ ap (λ b. cond (is_none_pointer x) (find nat_cmp (a + suc i) (pages-from (a + 1) xs)) (cond b (Some (bytes_of x.stamp)) (find nat_cmp (a + suc i) (pages-from (a + 1) xs)))) off
      ∙ both-same (is_none_pointer x) (find nat_cmp (a + suc i) (pages-from (a + 1) xs))
      ∙ ap (λ (q : ℕ). find nat_cmp q (pages-from (a + 1) xs)) next ∙ find-at (a + 1) i xs

pub pages_by_pointers : PagesByPointers
unfolding pointers_of_inode
pages_by_pointers bytes_of pages rec file i =
    ap (λ (q : ℕ). find nat_cmp q (pages-from bytes_of 0 (rec.direct ++ flat_map (pointers_at pages) rec.addresses))) (let e : i ≡ 0 + i = omega arith in e)
    ∙ find-at bytes_of 0 i (rec.direct ++ flat_map (pointers_at pages) rec.addresses) ∙ ap (page_by_stamp bytes_of) (at_index pages rec i (file-parts rec file).direct)

-- the page of a pointer that is one
page-some : (bytes_of : ℕ → List ℕ) (p : Pointer) → IsTrue (is_stamp p.stamp) → page_by_stamp bytes_of p ≡ Some (bytes_of p.stamp)
page-some bytes_of p spelled = cond-false (is_none_pointer p) None (Some (bytes_of p.stamp)) (to-some (Some p) spelled refl)

pub installing_writes : InstallingWrites
installing_writes bytes_of shape n index to was is before after s t file file_after spelled h = record {
  at = pages_by_pointers bytes_of after is file_after index ∙ ap (page_by_stamp bytes_of) h.now ∙ page-some bytes_of to spelled;
  others = λ i off. pages_by_pointers bytes_of after is file_after i ∙ ap (page_by_stamp bytes_of) (h.pointer.others i off) ∙ sym (pages_by_pointers bytes_of before was file i);
}

pub cutting_cuts : CuttingCuts
cutting_cuts bytes_of shape n size partial was is before after s t file file_after spelled h = record {
  gone = λ i high. pages_by_pointers bytes_of after is file_after i ∙ ap (page_by_stamp bytes_of) (h.gone i high);
  replaced = by partial spelled h.replaced;
  kept = λ i low off. pages_by_pointers bytes_of after is file_after i ∙ ap (page_by_stamp bytes_of) (h.kept i low (λ some. off (given partial some))) ∙ sym (pages_by_pointers bytes_of before was file i);
}
  where
    given : (o : Option Pointer) → IsSome o → IsSome (bytes_given bytes_of o)
    given None some = some
    given (Some p) some = refl

    by : (o : Option Pointer) → IfSome o (λ p. IsTrue (is_stamp p.stamp)) → IfSome o (λ p. pointer_at after is (size / 4096) ≡ p)
        → IfSome (bytes_given bytes_of o) (λ bytes. find nat_cmp (size / 4096) (map (λ p. (p.0, bytes_of p.1.stamp)) (pointers_of_inode after is)) ≡ Some bytes)
    by None spelled at = tt
    by (Some p) spelled at = pages_by_pointers bytes_of after is file_after (size / 4096) ∙ ap (page_by_stamp bytes_of) at ∙ page-some bytes_of p spelled
