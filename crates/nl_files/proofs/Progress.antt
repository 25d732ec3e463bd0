-- How far a walk over a file's indexes has come.
use Rattle.std.proofs.Common.{◌≡◌, ◌≢◌, ℕ, zero, suc, ◌+◌, ◌-◌, ◌/◌, ◌≤◌, ◌<◌, List, Bool, true, false, cond, not, [], ◌∷◌, ◌++◌, filter, map, length, is_some, IsSome, Option, Some, None, ◌⊎◌, inl, inr, refl, sym, ap, ◌∙◌, subst, arith}
use Rattle.std.proofs.lemmas.Bool.{both_ways, cases_Bool, cases_eq, cases_lt, cond-true, cond-false}
use Rattle.nl_meta.proofs.Lists.{none_some, some_in}
use Rattle.std.proofs.lemmas.List.{append_assoc, append-nil, length-append}
use Rattle.std.proofs.lemmas.List.FromFn.{filter_of_map_range_with_len_more}
use Rattle.std.specs.List.{range_with_len}
use Rattle.std.specs.Prelude.{slice_index}
use Rattle.nl_field.specs.Pointers.{is_none_pointer, no_pointer}
use Rattle.nl_field.specs.declared.inode.InodeRec.{InodeRec}
use Rattle.nl_field.specs.declared.pointer.Pointer.{Pointer}
use Rattle.nl_iface.proofs.Stops.{reads_then}
use Rattle.nl_iface.specs.Calls.{OnlyReads}
use Rattle.nl_iface.specs.declared.counts.Counts.{Ghosts}
use Rattle.nl_meta.specs.Committed.{VirtualMap}
use Rattle.nl_meta.specs.Nodes.{pointer_at, slots_of}
use Rattle.nl_meta.specs.Pages.{Pages, page_of}
use Rattle.nl_meta.specs.Running.{CleanIsStored, running_over}
use Rattle.nl_indirect.specs.Ranges.{HasPointers, HasRange, address_of, range_of, slot_of, some_pointer}
use Rattle.nl_indirect.proofs.Pointing.{address-node, address-range, at-node, in-range, no-page, on-page, runs}
use Rattle.nl_files.specs.Answers.{IsPageStamp}
use Rattle.nl_files.specs.declared.answer.CountPages.TheVariants as counted
use Rattle.nl_files.specs.declared.answer.CountPages.{CountPages}
use Rattle.nl_files.specs.Spans.{pointers_of_span, as_list}
use Rattle.nl_files.specs.Standing.{FileIsAtHand, KeepsRunning, device_map, running_map}
use Rattle.nl_files.proofs.Keeping.{keeps-none, keeps-then, pointer-then}

-- nothing was changed, and no read failed
pub record HasRead {D : Type 0} (g : Ghosts D) (s t : D) (p q : Pages) : Type 0 where
  pub formed : g.formed t
  pub reads : OnlyReads g s t
  pub faults : g.read_faults t ≡ g.read_faults s
  pub keeps : KeepsRunning g s p q

pub read-then : {D : Type 0} (g : Ghosts D) (s t u : D) (p q r : Pages) → HasRead g s t p q → g.formed u → OnlyReads g t u → g.read_faults u ≡ g.read_faults t → KeepsRunning g t q r → HasRead g s u p r
read-then g s t u p q r is formed reads faults keeps = record {
  formed = formed;
  reads = reads_then g s t u is.reads reads;
  faults = faults ∙ is.faults;
  keeps = keeps-then g s t p q r is.reads is.keeps keeps;
}

pub read-none : {D : Type 0} (g : Ghosts D) (s : D) (p : Pages) → g.formed s → (g.tells → CleanIsStored (device_map g s) p) → HasRead g s s p p
read-none g s p formed clean = record {
  formed = formed;
  reads = record {
    medium = record {
      virtual = record { same_shape = refl; same_stamps = λ v. refl; same_map = λ t v. refl; no_failed = λ t v x f. f; spare = λ x. x };
      contents = λ t. refl;
      left = λ t m c l. l;
      bytes = λ t i. refl;
      found = refl;
      next_stamp = refl;
      clean = λ x. x;
      clock = refl;
      write_faults = refl;
    };
    names = refl;
  };
  faults = refl;
  keeps = keeps-none g s p clean;
}

pub page-stamp-then : {D : Type 0} (g : Ghosts D) (s t : D) (rec : InodeRec) → OnlyReads g s t → (w : ℕ) → IsPageStamp (g.stamps t) rec w → IsPageStamp (g.stamps s) rec w
page-stamp-then g s t rec reads w x = record { at = x.at; not_zero = x.not_zero; stamp = sym (reads.medium.virtual.same_stamps (slice_index (slots_of rec) x.at)) ∙ x.stamp }

-- ---- spans

pub span-none : (pages : VirtualMap) (rec : InodeRec) (from n : ℕ) → n ≡ 0 → pointers_of_span pages rec from n ≡ []
unfolding pointers_of_span
span-none pages rec from n e = ap (λ (m : ℕ). filter (λ p. not (is_none_pointer p)) (map (pointer_at pages rec) (range_with_len from m))) e

pub span-more : (pages : VirtualMap) (rec : InodeRec) (from n i : ℕ) → from + n ≡ i → pointers_of_span pages rec from (n + 1) ≡ pointers_of_span pages rec from n ++ as_list (pointer_at pages rec i)
unfolding pointers_of_span
span-more pages rec from n i e = filter_of_map_range_with_len_more (λ p. not (is_none_pointer p)) (pointer_at pages rec) from n i e

pub span-grows : (pages : VirtualMap) (rec : InodeRec) (from n k : ℕ) → length (pointers_of_span pages rec from n) ≤ length (pointers_of_span pages rec from (n + k))
span-grows pages rec from n zero = let e : n + 0 ≡ n = omega arith in subst (λ (m : ℕ). length (pointers_of_span pages rec from n) ≤ length (pointers_of_span pages rec from m)) (sym e) (omega arith)
span-grows pages rec from n (suc k) =
    let e : n + suc k ≡ n + k + 1 = omega arith in
    let before = span-grows pages rec from n k in
    let more = ap length (span-more pages rec from (n + k) (from + (n + k)) refl) ∙ length-append (pointers_of_span pages rec from (n + k)) (as_list (pointer_at pages rec (from + (n + k)))) in
    subst (λ (m : ℕ). length (pointers_of_span pages rec from n) ≤ length (pointers_of_span pages rec from m)) (sym e) (omega (arith, before, more))

-- a span to an end leaves room for each of its indexes
pub span-inside : (pages : VirtualMap) (rec : InodeRec) (from end i : ℕ) → from ≤ i → i < end
    → length (pointers_of_span pages rec from (i - from)) + length (as_list (pointer_at pages rec i)) ≤ length (pointers_of_span pages rec from (end - from))
span-inside pages rec from end i low high =
    let e : i - from + 1 + (end - (i + 1)) ≡ end - from = omega (arith, low, high) in
    let at : from + (i - from) ≡ i = omega (arith, low) in
    let more = ap length (span-more pages rec from (i - from) i at) ∙ length-append (pointers_of_span pages rec from (i - from)) (as_list (pointer_at pages rec i)) in
    let grows = span-grows pages rec from (i - from + 1) (end - (i + 1)) in
    let whole = ap (λ (m : ℕ). length (pointers_of_span pages rec from m)) e in
    omega (arith, more, grows, whole)

pub as_list-one : (p : Pointer) → length (as_list p) ≤ 1
as_list-one p = elim (is_none_pointer p) as (λ b. length (cond (not b) (p ∷ []) []) ≤ 1) [ true ↦ omega arith | false ↦ omega arith ]

-- a span has no more pointers than indexes
pub span-most : (pages : VirtualMap) (rec : InodeRec) (from n : ℕ) → length (pointers_of_span pages rec from n) ≤ n
span-most pages rec from zero = let e = ap length (span-none pages rec from 0 refl) in omega (arith, e)
span-most pages rec from (suc n) =
    let e : suc n ≡ n + 1 = omega arith in
    let before = span-most pages rec from n in
    let more = ap length (span-more pages rec from n (from + n) refl) ∙ length-append (pointers_of_span pages rec from n) (as_list (pointer_at pages rec (from + n))) in
    let one = as_list-one (pointer_at pages rec (from + n)) in
    subst (λ (m : ℕ). length (pointers_of_span pages rec from m) ≤ m) (sym e) (omega (arith, before, more, one))

-- a span behind another one
pub span-joins : (pages : VirtualMap) (rec : InodeRec) (from n at k : ℕ) → from + n ≡ at → pointers_of_span pages rec from (n + k) ≡ pointers_of_span pages rec from n ++ pointers_of_span pages rec at k
span-joins pages rec from n at zero e =
    let same : n + 0 ≡ n = omega arith in
    ap (pointers_of_span pages rec from) same ∙ sym (append-nil (pointers_of_span pages rec from n)) ∙ ap (λ (l : List Pointer). pointers_of_span pages rec from n ++ l) (sym (span-none pages rec at 0 refl))
span-joins pages rec from n at (suc k) e =
    let next : n + suc k ≡ n + k + 1 = omega arith in
    let one : suc k ≡ k + 1 = omega arith in
    let here : from + (n + k) ≡ at + k = omega (arith, e) in
    ap (pointers_of_span pages rec from) next
    ∙ span-more pages rec from (n + k) (at + k) here
    ∙ ap (λ (l : List Pointer). l ++ as_list (pointer_at pages rec (at + k))) (span-joins pages rec from n at k e)
    ∙ append_assoc (pointers_of_span pages rec from n) (pointers_of_span pages rec at k) (as_list (pointer_at pages rec (at + k)))
    ∙ ap (λ (l : List Pointer). pointers_of_span pages rec from n ++ l) (sym (span-more pages rec at k (at + k) refl) ∙ ap (pointers_of_span pages rec at) (sym one))

-- spans of the same pointers
pub span-alike : (pages others : VirtualMap) (rec : InodeRec) (from n : ℕ) → ((i : ℕ) → from ≤ i → i < from + n → pointer_at pages rec i ≡ pointer_at others rec i) → pointers_of_span pages rec from n ≡ pointers_of_span others rec from n
span-alike pages others rec from zero same = span-none pages rec from 0 refl ∙ sym (span-none others rec from 0 refl)
span-alike pages others rec from (suc n) same =
    let one : suc n ≡ n + 1 = omega arith in
    ap (pointers_of_span pages rec from) one
    ∙ span-more pages rec from n (from + n) refl
    ∙ (λ i. span-alike pages others rec from n (λ k low high. same k low (omega (arith, high))) i ++ as_list (same (from + n) (omega arith) (omega arith) i))
    ∙ sym (ap (pointers_of_span others rec from) one ∙ span-more others rec from n (from + n) refl)

-- two spans within a longer one, the second behind the first
pub span-part : (pages : VirtualMap) (rec : InodeRec) (from n at k whole : ℕ) → from + n ≡ at → n + k ≤ whole
    → length (pointers_of_span pages rec from n) + length (pointers_of_span pages rec at k) ≤ length (pointers_of_span pages rec from whole)
span-part pages rec from n at k whole e within =
    let rest : n + k + (whole - (n + k)) ≡ whole = omega (arith, within) in
    let both = ap length (span-joins pages rec from n at k e) ∙ length-append (pointers_of_span pages rec from n) (pointers_of_span pages rec at k) in
    let grows = span-grows pages rec from (n + k) (whole - (n + k)) in
    let all = ap (λ (m : ℕ). length (pointers_of_span pages rec from m)) rest in
    omega (arith, both, grows, all)

-- a span of no pointers
pub span-empty : (pages : VirtualMap) (rec : InodeRec) (from n : ℕ) → ((i : ℕ) → from ≤ i → i < from + n → pointer_at pages rec i ≡ no_pointer) → pointers_of_span pages rec from n ≡ []
span-empty pages rec from zero none = span-none pages rec from 0 refl
span-empty pages rec from (suc n) none =
    let one : suc n ≡ n + 1 = omega arith in
    ap (pointers_of_span pages rec from) one
    ∙ span-more pages rec from n (from + n) refl
    ∙ (λ i. span-empty pages rec from n (λ k low high. none k low (omega (arith, high))) i ++ as_list (none (from + n) (omega arith) (omega arith) i))

-- ---- one range

-- the indexes of one range
pub in-range-of : (first end i : ℕ) → (first + 248) / 256 ≡ (end + 247) / 256 → first ≤ i → i < end → ((i < 8) × (first < 8)) ⊎ ((8 ≤ i) × (8 ≤ first) × (range_of i ≡ range_of first))
in-range-of first end i same low high = by (cases_lt first 8)
  where
    by : (first < 8) ⊎ (8 ≤ first) → ((i < 8) × (first < 8)) ⊎ ((8 ≤ i) × (8 ≤ first) × (range_of i ≡ range_of first))
    by (inl under) = inl (omega (arith, same, high, under), under)
    by (inr over) = inr (omega (arith, low, over), over, omega (arith, same, low, high, over))

pub same-address : (rec : InodeRec) (first end i : ℕ) → (first + 248) / 256 ≡ (end + 247) / 256 → first ≤ i → i < end → address_of rec i ≡ address_of rec first
same-address rec first end i same low high = by (in-range-of first end i same low high)
  where
    by : ((i < 8) × (first < 8)) ⊎ ((8 ≤ i) × (8 ≤ first) × (range_of i ≡ range_of first)) → address_of rec i ≡ address_of rec first
    by (inl x) = address-node rec i x.0 ∙ sym (address-node rec first x.1)
    by (inr x) = address-range rec i x.0 ∙ ap (λ n. slice_index (slots_of rec) n) x.2 ∙ sym (address-range rec first x.1)

pub range-ready : (pages : VirtualMap) (rec : InodeRec) (first end i : ℕ) → (first + 248) / 256 ≡ (end + 247) / 256 → first ≤ i → i < end → HasRange pages rec first → HasRange pages rec i
range-ready pages rec first end i same low high has far =
    let e = same-address rec first end i same low high in
    subst (HasPointers pages) (sym e) (has (λ z. far (e ∙ z)))

-- a range without a page has no pointers
pub range-none : (pages : VirtualMap) (rec : InodeRec) (first end : ℕ) → (first + 248) / 256 ≡ (end + 247) / 256 → 8 ≤ first → address_of rec first ≡ 0 → pointers_of_span pages rec first (end - first) ≡ []
range-none pages rec first end same over none = span-empty pages rec first (end - first) each
  where
    each : (i : ℕ) → first ≤ i → i < first + (end - first) → pointer_at pages rec i ≡ no_pointer
    each i low high =
        let lt : i < end = omega (arith, low, high) in
        let hi : 8 ≤ i = omega (arith, low, over) in
        in-range pages rec i hi ∙ no-page pages _ (slot_of i) (sym (address-range rec i hi) ∙ same-address rec first end i same low lt ∙ none)

-- the pointers of a page that is resident
pub range-resident : (device : VirtualMap) (p : Pages) (rec : InodeRec) (i : ℕ) → HasRange (page_of p) rec i → pointer_at (page_of p) rec i ≡ pointer_at (running_over device p) rec i
range-resident device p rec i has = by (cases_lt i 8)
  where
    at : 8 ≤ i → (slice_index (slots_of rec) (range_of i) ≡ 0) ⊎ (slice_index (slots_of rec) (range_of i) ≢ 0) → pointer_at (page_of p) rec i ≡ pointer_at (running_over device p) rec i
    at high (inl none) = in-range (page_of p) rec i high ∙ no-page (page_of p) _ (slot_of i) none ∙ sym (in-range (running_over device p) rec i high ∙ no-page (running_over device p) _ (slot_of i) none)
    at high (inr far) =
        let e = address-range rec i high in
        let page = has (λ z. far (sym e ∙ z)) in
        let there = ap (page_of p) (sym e) ∙ page.there in
        in-range (page_of p) rec i high ∙ on-page (page_of p) _ (slot_of i) page.bytes far there
        ∙ sym (in-range (running_over device p) rec i high ∙ on-page (running_over device p) _ (slot_of i) page.bytes far (runs device p _ page.bytes there))

    by : (i < 8) ⊎ (8 ≤ i) → pointer_at (page_of p) rec i ≡ pointer_at (running_over device p) rec i
    by (inl low) = at-node (page_of p) rec i low ∙ sym (at-node (running_over device p) rec i low)
    by (inr high) = at high (cases_eq (slice_index (slots_of rec) (range_of i)) 0)

-- what the page of a range has once it was made resident is what the volume had
pub range-then : {D : Type 0} (g : Ghosts D) (s t : D) (rec : InodeRec) (p q : Pages) → OnlyReads g s t → KeepsRunning g s p q → FileIsAtHand g s rec p → (first end : ℕ) → (first + 248) / 256 ≡ (end + 247) / 256 → HasRange (page_of q) rec first
    → pointers_of_span (page_of q) rec first (end - first) ≡ pointers_of_span (running_map g s p) rec first (end - first)
range-then g s t rec p q reads keeps stands first end same ready = span-alike (page_of q) (running_map g s p) rec first (end - first) each
  where
    each : (i : ℕ) → first ≤ i → i < first + (end - first) → pointer_at (page_of q) rec i ≡ pointer_at (running_map g s p) rec i
    each i low high =
        range-resident (device_map g t) q rec i (range-ready (page_of q) rec first end i same low (omega (arith, low, high)) ready) ∙ pointer-then g s t rec p q reads keeps stands i

pub span-on : {D : Type 0} (g : Ghosts D) (s t : D) (rec : InodeRec) (p q : Pages) → OnlyReads g s t → KeepsRunning g s p q → FileIsAtHand g s rec p → (from n : ℕ)
    → pointers_of_span (running_map g t q) rec from n ≡ pointers_of_span (running_map g s p) rec from n
span-on g s t rec p q reads keeps stands from n = span-alike (running_map g t q) (running_map g s p) rec from n (λ i low high. pointer-then g s t rec p q reads keeps stands i)

-- what is found of a pointer, by the one that is as_list
pub one-as_list : (p : Pointer) (found : Option Pointer) → found ≡ some_pointer p → cond (is_some found) 1 0 ≡ length (as_list p)
one-as_list p found e = ap (λ (o : Option Pointer). cond (is_some o) 1 0) e ∙ elim (is_none_pointer p) as (λ b. cond (is_some (cond b None (Some p))) 1 0 ≡ length (cond (not b) (p ∷ []) [])) [ true ↦ refl | false ↦ refl ]

pub found-one : (p : Pointer) (found : Option Pointer) → found ≡ some_pointer p → IsSome found → length (as_list p) ≡ 1
found-one p found e some = sym (one-as_list p found e) ∙ cond-true (is_some found) 1 0 some

pub as_list-some : (p at : Pointer) → Some at ≡ some_pointer p → as_list p ≡ at ∷ []
as_list-some p at e = by (cases_Bool (is_none_pointer p))
  where
    by : (is_none_pointer p ≡ true) ⊎ (is_none_pointer p ≡ false) → as_list p ≡ at ∷ []
    by (inl h) = absurd (none_some at (sym (e ∙ cond-true (is_none_pointer p) None (Some p) h)))
    by (inr h) = ap (λ b. cond (not b) (p ∷ []) []) h ∙ ap (λ q. q ∷ []) (sym (some_in _ _ (e ∙ cond-false (is_none_pointer p) None (Some p) h)))

pub as_list-none : (p : Pointer) → None ≡ some_pointer p → as_list p ≡ []
as_list-none p e = by (cases_Bool (is_none_pointer p))
  where
    by : (is_none_pointer p ≡ true) ⊎ (is_none_pointer p ≡ false) → as_list p ≡ []
    by (inl h) = ap (λ b. cond (not b) (p ∷ []) []) h
    by (inr h) = absurd (none_some p (e ∙ cond-false (is_none_pointer p) None (Some p) h))

pub counted-more : (pages : VirtualMap) (rec : InodeRec) (from n index count : ℕ) (found : Option Pointer) → from + n ≡ index → count ≡ length (pointers_of_span pages rec from n) → found ≡ some_pointer (pointer_at pages rec index)
    → count + cond (is_some found) 1 0 ≡ length (pointers_of_span pages rec from (n + 1))
counted-more pages rec from n index count found at e f =
    let one = one-as_list (pointer_at pages rec index) found f in
    let more = ap length (span-more pages rec from n index at) ∙ length-append (pointers_of_span pages rec from n) (as_list (pointer_at pages rec index)) in
    omega (arith, e, one, more)

pub at-most-one : (o : Option Pointer) → cond (is_some o) 1 0 ≤ 1
at-most-one None = omega arith
at-most-one (Some p) = omega arith

is-pages : CountPages → Bool
is-pages (counted.Pages n) = true
is-pages counted.Fault = false
is-pages (counted.Lost w f) = false

pub pages-not-fault : (n : ℕ) → counted.Pages n ≡ counted.Fault → ⊥
unfolding is-pages
pages-not-fault n e = both_ways false refl (sym (ap is-pages e))
