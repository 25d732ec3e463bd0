-- Pages of a file: what a cut, a write and a read make of them.
use Rattle.std.proofs.Common.{◌≡◌, ◌+◌, ◌-◌, ◌*◌, ◌/◌, ◌%◌, ◌<◌, ◌≤◌, ◌==◌, min, nat_lt, nat_le, ℕ, zero, suc, true, false, List, [], ◌∷◌, ◌++◌, length, take, drop, map, filter, fold, replicate, get_or, ap, sym, subst, refl, arith, ◌∙◌, cond, if◌then◌else◌, Option, Some, None, is_some, unwrap_or, add-zero, add-one, zero-add, max}
use Rattle.std.proofs.lemmas.List.FromFn.{length-map-range_with_len}
use Rattle.std.proofs.lemmas.Bool.Decides.{nat_tests}
use Rattle.std.proofs.lemmas.List.{take_all, drop_more, append_assoc, length-take, length-append, length-replicate}
use Rattle.std.specs.List.{range_with_len}
use Rattle.std.specs.Int.{div_ceil}
use Rattle.std.specs.declared.cmp.Ordering.TheVariants.{Less, Equal, Greater}
use Rattle.std.specs.Ordering.{nat_cmp}
use Rattle.std.specs.FinMap.Entries.{find, put, by_order}
use Rattle.nl_field.specs.Bytes.{zeros}
use Rattle.nl_field.specs.FileContent.{FileContent, byte_of, overlaid, page_bytes, touched, written_over}
use Rattle.nl_tree_content.proofs.ContentBytes.{length-cut_page}
use Rattle.nl_tree_content.proofs.ContentProofs.{byte_laws}
use Rattle.nl_tree_content.specs.Pages.{AreWhole, cut_entry}

pub take_most : (n : ℕ) (page : List ℕ) → length page ≡ 4096 → take (min 4096 n) page ≡ take n page
take_most n page whole =
    elim (nat_le n 4096) as (λ b. nat_le n 4096 ≡ b → take (min 4096 n) page ≡ take n page) [
      | true ↦ λ t. ap (λ (k : ℕ). take k page) (grind (arith, nat_tests, t))
      | false ↦ λ t. take_all (min 4096 n) page (grind (arith, nat_tests, t)) ∙ sym (take_all n page (grind (arith, nat_tests, t)))
    ] refl

-- the bytes of a cut page, as they are put together
pub cut_bytes : (len left : ℕ) (page part all : List ℕ) (long : ℕ) → length page ≡ 4096 → left ≡ min 4096 len → part ≡ take left page
    → long ≡ length part → all ≡ take 4096 part ++ replicate (4096 - long) 0 → all ≡ take len page ++ zeros (4096 - min 4096 len)
unfolding zeros
cut_bytes len left page part all long whole is_left is_part is_long is_all =
    let short : length (take (min 4096 len) page) ≡ min 4096 len = length-take (min 4096 len) page ∙ grind (arith, nat_tests, whole) in
    let cut : part ≡ take (min 4096 len) page = is_part ∙ ap (λ (k : ℕ). take k page) is_left in
    let kept : take 4096 part ≡ part = take_all 4096 part (omega (arith, ap length cut, short)) in
    let many : length part ≡ min 4096 len = ap length cut ∙ short in
    is_all ∙ ap (λ (x : List ℕ). x ++ replicate (4096 - long) 0) (kept ∙ cut ∙ take_most len page whole) ∙ ap (λ (k : ℕ). take len page ++ replicate (4096 - k) 0) (is_long ∙ many)

pub whole-append : (a b : List (ℕ × List ℕ)) → AreWhole a → AreWhole b → AreWhole (a ++ b)
whole-append [] b h k = k
whole-append (x ∷ a) b h k = (h.0, whole-append a b h.1 k)

pub whole-put : (index : ℕ) (page : List ℕ) (pages : List (ℕ × List ℕ)) → length page ≡ 4096 → AreWhole pages → AreWhole (put nat_cmp index page pages)
whole-put index page [] whole h = (whole, tt)
whole-put index page (e ∷ pages) whole h =
    elim (nat_cmp index e.0) as (λ r. AreWhole (by_order r ((index, page) ∷ e ∷ pages) ((e.0, page) ∷ pages) (e ∷ put nat_cmp index page pages))) [
      | Less ↦ (whole, h)
      | Equal ↦ (whole, h.1)
      | Greater ↦ (h.0, whole-put index page pages whole h.1)
    ]

-- a step of the loop that cuts
pub cut_step : (size : ℕ) (kept next pages all : List (ℕ × List ℕ)) (i : ℕ) (entry : ℕ × List ℕ) → i < length pages
    → next ≡ kept ++ (if nat_lt entry.0 (div_ceil size 4096) then cut_entry size entry ∷ [] else []) → entry ≡ get_or pages i entry
    → kept ++ map (cut_entry size) (filter (λ page. nat_lt page.0 (div_ceil size 4096)) (drop i pages)) ≡ all
    → next ++ map (cut_entry size) (filter (λ page. nat_lt page.0 (div_ceil size 4096)) (drop (i + 1) pages)) ≡ all
cut_step size kept next pages all i entry lt grown read before =
    let rest : List (ℕ × List ℕ) = map (cut_entry size) (filter (λ page. nat_lt page.0 (div_ceil size 4096)) (drop (i + 1) pages)) in
    ap (λ (x : List (ℕ × List ℕ)). x ++ rest) grown ∙ append_assoc kept _ rest
    ∙ ap (λ (x : List (ℕ × List ℕ)). kept ++ x) (at_head entry (drop (i + 1) pages))
    ∙ ap (λ (e : ℕ × List ℕ). kept ++ map (cut_entry size) (filter (λ page. nat_lt page.0 (div_ceil size 4096)) (e ∷ drop (i + 1) pages))) read
    ∙ ap (λ (x : List (ℕ × List ℕ)). kept ++ map (cut_entry size) (filter (λ page. nat_lt page.0 (div_ceil size 4096)) x)) (sym (drop_more pages i entry lt)) ∙ before
  where
    at_head : (e : ℕ × List ℕ) (es : List (ℕ × List ℕ)) → (if nat_lt e.0 (div_ceil size 4096) then cut_entry size e ∷ [] else []) ++ map (cut_entry size) (filter (λ page. nat_lt page.0 (div_ceil size 4096)) es)
        ≡ map (cut_entry size) (filter (λ page. nat_lt page.0 (div_ceil size 4096)) (e ∷ es))
    at_head e es =
        let f : List (ℕ × List ℕ) = filter (λ page. nat_lt page.0 (div_ceil size 4096)) es in
        elim (nat_lt e.0 (div_ceil size 4096)) as (λ b. (if b then cut_entry size e ∷ [] else []) ++ map (cut_entry size) f ≡ map (cut_entry size) (cond b (e ∷ f) f)) [ true ↦ refl | false ↦ refl ]

pub whole-cut : (size : ℕ) (kept : List (ℕ × List ℕ)) (entry : ℕ × List ℕ) → length entry.1 ≡ 4096 → AreWhole kept
    → AreWhole (kept ++ (if nat_lt entry.0 (div_ceil size 4096) then cut_entry size entry ∷ [] else []))
whole-cut size kept entry whole h =
    elim (nat_lt entry.0 (div_ceil size 4096)) as (λ b. AreWhole (kept ++ (if b then cut_entry size entry ∷ [] else []))) [
      | true ↦ whole-append kept (cut_entry size entry ∷ []) h (length-cut_page size entry.0 entry.1 whole, tt)
      | false ↦ whole-append kept [] h tt
    ]

-- a step of the loop that writes
pub fold_more : {X : Type 0} (f : X → ℕ → X) (x : X) (from n : ℕ) → fold f x (range_with_len from (n + 1)) ≡ f (fold f x (range_with_len from n)) (from + n)
fold_more f x from n = rw add-one (by f x from n)
  where
    by : {X : Type 0} (f : X → ℕ → X) (x : X) (from n : ℕ) → fold f x (range_with_len from (suc n)) ≡ f (fold f x (range_with_len from n)) (from + n)
    by f x from zero = ap (f x) (sym (add-zero from))
    by f x from (suc n) = by f (f x from) (from + 1) n ∙ ap (f (fold f (f x from) (range_with_len (from + 1) n))) (omega arith)

-- a range in two parts
pub map_range : (f : ℕ → ℕ) (from m n : ℕ) → map f (range_with_len from (m + n)) ≡ map f (range_with_len from m) ++ map f (range_with_len (from + m) n)
map_range f from zero n = (λ i. map f (range_with_len from (zero-add n i))) ∙ ap (λ (k : ℕ). map f (range_with_len k n)) (sym (add-zero from))
map_range f from (suc m) n =
    let sum : suc m + n ≡ suc (m + n) = omega arith in
    let on : from + 1 + m ≡ from + suc m = omega arith in
    ap (λ (k : ℕ). map f (range_with_len from k)) sum ∙ ap (λ (x : List ℕ). f from ∷ x) (map_range f (from + 1) m n ∙ ap (λ (k : ℕ). map f (range_with_len (from + 1) m) ++ map f (range_with_len k n)) on)

-- a step of the loop that reads
pub read_step : (f : ℕ → ℕ) (old out next : List ℕ) (from done part index start : ℕ) → index ≡ (from + done) / 4096 → start ≡ (from + done) % 4096
    → next ≡ out ++ map f (range_with_len (4096 * index + start) part) → out ≡ old ++ map f (range_with_len from done) → next ≡ old ++ map f (range_with_len from (done + part))
read_step f old out next from done part index start is_index is_start grown before =
    let at : 4096 * index + start ≡ from + done = omega arith in
    grown ∙ ap (λ (k : ℕ). out ++ map f (range_with_len k part)) at ∙ ap (λ (x : List ℕ). x ++ map f (range_with_len (from + done) part)) before
    ∙ append_assoc old _ _ ∙ ap (λ (x : List ℕ). old ++ x) (sym (map_range f from done part))

pub part_some : (file : FileContent) (index : ℕ) (page shown out next : List ℕ) (count start len : ℕ) → next ≡ out ++ take len (drop start shown) → shown ≡ page → len ≡ count → Some page ≡ find nat_cmp index file.pages
    → start + count ≤ 4096 → length page ≡ 4096 → next ≡ out ++ map (byte_of file) (range_with_len (4096 * index + start) count)
unfolding page_bytes
part_some file index page shown out next count start len grown shows is there fits whole =
    let held : page_bytes file index ≡ page = ap (λ (o : Option (List ℕ)). unwrap_or o (zeros 4096)) (sym there) in
    let bytes = byte_laws.part file index start count (ap length held ∙ whole) fits ∙ ap (λ (x : List ℕ). take count (drop start x)) held in
    grown ∙ ap (λ (x : List ℕ). out ++ take len (drop start x)) shows ∙ ap (λ (k : ℕ). out ++ take k (drop start page)) is ∙ ap (λ (x : List ℕ). out ++ x) (sym bytes)

pub part_none : (file : FileContent) (index : ℕ) (out next : List ℕ) (count start : ℕ) → next ≡ out ++ replicate count 0 → None ≡ find nat_cmp index file.pages
    → start + count ≤ 4096 → next ≡ out ++ map (byte_of file) (range_with_len (4096 * index + start) count)
unfolding zeros
part_none file index out next count start grown none fits = grown ∙ ap (λ (x : List ℕ). out ++ x) (sym (byte_laws.hole file index start count (ap is_some (sym none)) fits))

replicate_more : (n : ℕ) → replicate {A = ℕ} (suc n) 0 ≡ replicate n 0 ++ 0 ∷ []
replicate_more zero = refl
replicate_more (suc n) = ap (λ (x : List ℕ). 0 ∷ x) (replicate_more n)

pub zeros_step : (old out next : List ℕ) (n : ℕ) → next ≡ out ++ 0 ∷ [] → out ≡ old ++ replicate n 0 → next ≡ old ++ replicate (n + 1) 0
zeros_step old out next n grown before =
    grown ∙ ap (λ (x : List ℕ). x ++ 0 ∷ []) before ∙ append_assoc old _ _ ∙ ap (λ (x : List ℕ). old ++ x) (rw add-one (sym (replicate_more n)))

pub zeros_length : (old out : List ℕ) (n : ℕ) → out ≡ old ++ replicate n 0 → length out ≡ length old + n
zeros_length old out n before =
    let tail : List ℕ = replicate n 0 in
    let joined : out ≡ old ++ tail = before in
    ap length joined ∙ length-append old tail ∙ ap (λ k. length old + k) (length-replicate n 0)

pub read_length : (f : ℕ → ℕ) (old out : List ℕ) (from done : ℕ) → out ≡ old ++ map f (range_with_len from done) → length out ≡ length old + done
read_length f old out from done before =
    ap length before ∙ length-append old (map f (range_with_len from done)) ∙ ap (λ k. length old + k) (length-map-range_with_len f from done)

-- ---- a write

pub touched_step : (f : List (ℕ × List ℕ) → ℕ → List (ℕ × List ℕ)) (old now next : List (ℕ × List ℕ)) (first index : ℕ) → first ≤ index
    → now ≡ fold f old (range_with_len first (index - first)) → next ≡ f now index → next ≡ fold f old (range_with_len first (index + 1 - first))
touched_step f old now next first index le before grown =
    let on : index + 1 - first ≡ index - first + 1 = omega arith in
    let at : first + (index - first) ≡ index = omega arith in
    grown ∙ ap (λ (x : List (ℕ × List ℕ)). f x index) before ∙ ap (f (fold f old (range_with_len first (index - first)))) (sym at)
    ∙ sym (fold_more f old first (index - first)) ∙ ap (λ (k : ℕ). fold f old (range_with_len first k)) (sym on)

written_some : (file : FileContent) (from : ℕ) (bytes : List ℕ) (size : ℕ) (pages : List (ℕ × List ℕ)) → 0 < length bytes → size ≡ max file.size (from + length bytes)
    → pages ≡ fold (λ pages index. put nat_cmp index (overlaid (page_bytes file index) index from bytes) pages) file.pages (touched from (length bytes))
    → record { size = size; pages = pages } ≡ written_over file from bytes
unfolding written_over
written_some file from bytes size pages some is_size are_pages =
    elim (length bytes == 0) as (λ b. (length bytes == 0) ≡ b → record { size = size; pages = pages } ≡ cond b file (record {
      size = max file.size (from + length bytes);
      pages = fold (λ pages index. put nat_cmp index (overlaid (page_bytes file index) index from bytes) pages) file.pages (touched from (length bytes));
    })) [
      | true ↦ λ t. absurd (grind (arith, nat_tests, t, some))
      | false ↦ λ t i. record { size = is_size i; pages = are_pages i }
    ] refl

pub written_is : (file : FileContent) (from : ℕ) (bytes : List ℕ) (size : ℕ) (old pages : List (ℕ × List ℕ)) → 0 < length bytes → size ≡ max file.size (from + length bytes) → old ≡ file.pages
    → pages ≡ fold (λ pages index. put nat_cmp index (overlaid (page_bytes file index) index from bytes) pages) old (touched from (length bytes))
    → record { size = size; pages = pages } ≡ written_over file from bytes
written_is file from bytes size old pages some is_size same are_pages =
    written_some file from bytes size pages some is_size (are_pages ∙ ap (λ (x : List (ℕ × List ℕ)). fold (λ pages index. put nat_cmp index (overlaid (page_bytes file index) index from bytes) pages) x (touched from (length bytes))) same)

pub written_none : (file : FileContent) (from : ℕ) (bytes : List ℕ) (size : ℕ) (pages : List (ℕ × List ℕ)) → length bytes ≡ 0 → size ≡ file.size → pages ≡ file.pages
    → record { size = size; pages = pages } ≡ written_over file from bytes
unfolding written_over
written_none file from [] size pages none is_size are_pages = λ i. record { size = is_size i; pages = are_pages i }
written_none file from (b ∷ bytes) size pages none is_size are_pages = absurd (omega arith)

pub blank_is : (file : FileContent) (index : ℕ) (blank : List ℕ) → blank ≡ zeros 4096 → None ≡ find nat_cmp index file.pages → blank ≡ page_bytes file index
unfolding page_bytes
blank_is file index blank is none = is ∙ ap (λ (o : Option (List ℕ)). unwrap_or o (zeros 4096)) none

pub whole-drop : (pages : List (ℕ × List ℕ)) (i : ℕ) (d : ℕ × List ℕ) → i < length pages → AreWhole (drop i pages) → AreWhole (drop (i + 1) pages)
whole-drop pages i d lt h = (subst AreWhole (drop_more pages i d lt) h).1

pub whole-at : (pages : List (ℕ × List ℕ)) (i : ℕ) (entry : ℕ × List ℕ) → i < length pages → entry ≡ get_or pages i entry → AreWhole (drop i pages) → length entry.1 ≡ 4096
whole-at pages i entry lt read h = ap (λ (e : ℕ × List ℕ). length e.1) read ∙ (subst AreWhole (drop_more pages i entry lt) h).0
