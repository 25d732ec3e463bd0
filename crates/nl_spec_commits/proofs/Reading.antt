-- Committed pages with the zeros of inode pages that were never written.
use Rattle.std.proofs.Common.{◌≡◌, ◌⊎◌, inl, inr, ℕ, zero, suc, ◌+◌, ◌<◌, ◌≤◌, ◌==◌, nat_le, nat_lt, Bool, true, false, cond, List, length, Option, Some, None, is_some, unwrap_or, option_and_then, refl, sym, ap, subst, ◌∙◌, arith}
use Rattle.std.specs.List.{list_all, range_with_len}
use Rattle.std.specs.Prelude.{if◌then◌else◌}
use Rattle.std.proofs.lemmas.Bool.{and_parts, both_ways, cases_Bool, cond-false, cond-true, leb-true, lt-ltb}
use Rattle.std.proofs.lemmas.List.Quantifiers.{position-Some}
use Rattle.nl_field.specs.Bytes.{zeros}
use Rattle.nl_field.specs.Journal.{header_of}
use Rattle.nl_field.specs.Virtual.{is_inode_address, map_bytes, or_zeros}
use Rattle.nl_field.specs.declared.commit.CommitRec.{CommitRec}
use Rattle.nl_field.specs.declared.header.HeaderRec.{HeaderRec}
use Rattle.nl_field.specs.declared.shape.Shape.{Shape}
use Rattle.nl_iface.specs.Stored.{Value}
use Rattle.nl_journal.specs.Outcomes.{bytes_of}
use Rattle.nl_journal.specs.Transaction.{head, mark}
use Rattle.nl_journal.proofs.Counted.{counting_as}
use Rattle.nl_journal.proofs.BackFacts.{header-parts}
use Rattle.nl_journal.proofs.Openings.{counting_is, counting_same, header_if}
use Rattle.nl_meta.specs.Committed.{VirtualMap, committed, counting, counts, home_or_image, place_in}
use Rattle.nl_meta.proofs.Lists.{none_some, some_in}
use Rattle.nl_meta_running.proofs.Holds.{bounds-of}
use Rattle.nl_spec_commits.specs.Standing.{CommittedReads}

pub reads_some : (shape : Shape) (v : ℕ) (bytes : List ℕ) → or_zeros shape v (Some bytes) ≡ Some bytes
reads_some shape v bytes = by (is_inode_address shape v)
  where
    by : (b : Bool) → cond b (Some (unwrap_or (Some bytes) (zeros 4096))) (Some bytes) ≡ Some bytes
    by true = refl
    by false = refl

pub reads_stored : (shape : Shape) (values : ℕ → Option Value) (v : ℕ) → v < shape.vaddrs → map_bytes shape values v ≡ or_zeros shape v (bytes_of values v)
unfolding map_bytes
reads_stored shape values v below = cond-true (nat_lt v shape.vaddrs) (or_zeros shape v (bytes_of values v)) None (lt-ltb v shape.vaddrs below)

-- no page of the journal is an inode page
journal_reads : (shape : Shape) (v : ℕ) (o : Option (List ℕ)) → v < 67 → or_zeros shape v o ≡ o
journal_reads shape v o low = cond-false (is_inode_address shape v) (Some (unwrap_or o (zeros 4096))) o (by (cases_Bool (is_inode_address shape v)))
  where
    by : (is_inode_address shape v ≡ true) ⊎ (is_inode_address shape v ≡ false) → is_inode_address shape v ≡ false
    by (inr off) = off
    by (inl is) = absurd (let high = leb-true 67 v (and_parts (nat_le 67 v) (nat_lt v (67 + shape.inode_pages)) is).0 in let no : ⊥ = omega (arith, low, high) in no)

-- ---- the images of a transaction that counts are there

range_has : (p : ℕ → Bool) (a n : ℕ) → list_all p (range_with_len a n) ≡ true → (i : ℕ) → i < n → p (a + i) ≡ true
range_has p a zero all i lt = absurd (let no : ⊥ = omega (arith, lt) in no)
range_has p a (suc n) all zero lt = subst (λ k. p k ≡ true) (let e : a ≡ a + 0 = omega arith in e) (and_parts (p a) (list_all p (range_with_len (a + 1) n)) all).0
range_has p a (suc n) all (suc i) lt =
    subst (λ k. p k ≡ true) (let e : a + 1 + i ≡ a + suc i = omega arith in e) (range_has p (a + 1) n (and_parts (p a) (list_all p (range_with_len (a + 1) n)) all).1 i (omega (arith, lt)))

images_by : (f : VirtualMap) (o : Option HeaderRec) (m : Option CommitRec) (h : HeaderRec)
    → option_and_then (λ (x : HeaderRec). option_and_then (λ (commit : CommitRec). if counts f x commit then Some x else None) m) o ≡ Some h → (i : ℕ) → i < length h.addresses → is_some (f (2 + i)) ≡ true
images_by f None m h is i lt = absurd (none_some h is)
images_by f (Some x) None h is i lt = absurd (none_some h is)
images_by f (Some x) (Some k) h is i lt = by (cases_Bool (counts f x k))
  where
    by : (counts f x k ≡ true) ⊎ (counts f x k ≡ false) → is_some (f (2 + i)) ≡ true
    by (inr off) = absurd (none_some h (sym (cond-false (counts f x k) (Some x) None off) ∙ is))
    by (inl so) =
        let same : x ≡ h = some_in x h (sym (cond-true (counts f x k) (Some x) None so) ∙ is) in
        let all = (and_parts (x.number == k.number) (list_all (λ i. is_some (f (2 + i))) (range_with_len 0 (length x.addresses))) so).1 in
        subst (λ k. is_some (f (2 + k)) ≡ true) (let e : 0 + i ≡ i = omega arith in e) (range_has (λ i. is_some (f (2 + i))) 0 (length x.addresses) all i (subst (λ (r : HeaderRec). i < length r.addresses) (sym same) lt))

images_there : (shape : Shape) (f : VirtualMap) (h : HeaderRec) → counting shape f ≡ Some h → (i : ℕ) → i < length h.addresses → is_some (f (2 + i)) ≡ true
images_there shape f h is = images_by f (head shape (f 1)) (mark (f 66)) h (sym (counting_as shape f) ∙ is)

some_reads : (shape : Shape) (v : ℕ) (o : Option (List ℕ)) → is_some o ≡ true → or_zeros shape v o ≡ o
some_reads shape v None is = absurd (both_ways _ refl is)
some_reads shape v (Some bytes) is = reads_some shape v bytes

-- ---- the committed pages

module _ (shape : Shape) (values : ℕ → Option Value) (wide : 67 ≤ shape.vaddrs) where
  low_same : (v : ℕ) → v < 67 → map_bytes shape values v ≡ bytes_of values v
  low_same v low = reads_stored shape values v (omega (arith, low, wide)) ∙ journal_reads shape v (bytes_of values v) low

  at_home : (v : ℕ) → v < shape.vaddrs → (few : (h : HeaderRec) → counting shape (bytes_of values) ≡ Some h → length h.addresses ≤ 64) → (o : Option HeaderRec) → counting shape (bytes_of values) ≡ o
      → (i : Option ℕ) → place_in o v ≡ i → home_or_image (map_bytes shape values) v i ≡ or_zeros shape v (home_or_image (bytes_of values) v i)
  at_home v below few o is None at = reads_stored shape values v below
  at_home v below few None is (Some i) at = absurd (none_some i at)
  at_home v below few (Some h) is (Some i) at =
      let lt = (position-Some (λ a. a == v) h.addresses i 0 at).0 in
      let most = few h is in
      low_same (2 + i) (omega (arith, lt, most)) ∙ sym (some_reads shape v (bytes_of values (2 + i)) (images_there shape (bytes_of values) h is i lt))

pub few_addresses : (shape : Shape) (b : Option (List ℕ)) (h : HeaderRec) → head shape b ≡ Some h → length h.addresses ≤ 64
few_addresses shape None h is = absurd (none_some h is)
few_addresses shape (Some main) h is = (header-parts h (header_if shape main (header_of main) (Some h) (sym is) refl).1.spelled).1

pub committed_reads : CommittedReads
unfolding committed
committed_reads shape values v volume below =
    let all = (bounds-of shape volume).addresses in
    let wide : 67 ≤ shape.vaddrs = omega (arith, all) in
    ap (λ (o : Option HeaderRec). home_or_image (map_bytes shape values) v (place_in o v)) (counting_same shape (map_bytes shape values) (bytes_of values) (low_same shape values wide))
    ∙ at_home shape values wide v below (λ h is. few_addresses shape (bytes_of values 1) h (counting_is shape (bytes_of values) h is).0) (counting shape (bytes_of values)) refl
    (place_in (counting shape (bytes_of values)) v) refl
