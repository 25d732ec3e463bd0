-- Proofs of the laws of one file's content.
use Rattle.std.proofs.Common.{◌≡◌, ◌<◌, ◌≤◌, ℕ, zero, suc, ◌+◌, ◌-◌, ◌*◌, ◌/◌, ◌%◌, ◌==◌, max, nat_lt, nat_le, Bool, true, false, ◌&&◌, ◌||◌, cond, if◌then◌else◌, IsTrue, List, [], ◌∷◌, length, map, take, drop, fold, get_or, refl, sym, ap, subst, ◌∙◌, Option, Some, None, option_map, is_some, unwrap_or, inl, inr, arith}
use Rattle.std.proofs.lemmas.Bool.{and_from, and_parts, cond-true, cond-false, leb-true, leb-false, ltb-true, ltb-false, le-leb, lt-ltb, eqb-true, eq-eqb, ne_eqb, cases_lt, and_cases, or_cases, or_left, or_right, false_from_ne_true, true≢false}
use Rattle.std.specs.Cmp.{both_ways as same_answer}
use Rattle.std.proofs.lemmas.List.{get_or_past, drop_more}
use Rattle.std.specs.List.{list_all, list_any, range_with_len}
use Rattle.std.specs.Int.{div_ceil}
use Rattle.std.specs.Ordering.{nat_cmp}
use Rattle.std.specs.Bool.{passes}
use Rattle.std.specs.Cmp.{nat_cmp_total}
use Rattle.std.specs.FinMap.{find, is_sorted, put, nat_cmp-IsAntisymmetric}
use Rattle.std.specs.FinMap.Entries.{same_entries}
use Rattle.nl_field.specs.Bytes.{zeros, all_zero}
use Rattle.nl_field.specs.FileContent.{FileContent, page_bytes, byte_of, is_content, touched, overlaid, written_over, cut_to}
use Rattle.nl_tree_content.specs.ContentLaws.{has_page, is_touched, cut_page, ByteLaws, WriteLaws, CutLaws}
use Rattle.nl_tree_content.proofs.ContentBytes.{zero_from, zero_at, zeros-at, length-zeros, length-overlaid, overlaid-in, overlaid-before, overlaid-behind, length-cut_page, cut_page-in, cut_page-past}
use Rattle.nl_tree_content.proofs.ContentPages.{all_put, within, find-all_put, sorted-all_put, all-all_put, all-found, all_weaker, find-kept, sorted-kept, all-kept}

-- what each page of a file of this size has
abbrev page_fits : ℕ → ℕ × List ℕ → Bool
page_fits size page = nat_lt page.0 (div_ceil size 4096) && length page.1 == 4096 && all_zero (drop (size - 4096 * page.0) page.1)

record Fits (size index : ℕ) (page : List ℕ) : Type 0 where
  pub below : index < div_ceil size 4096
  pub whole : length page ≡ 4096
  pub rest : all_zero (drop (size - 4096 * index) page) ≡ true

fits_parts : (size index : ℕ) (page : List ℕ) → page_fits size (index, page) ≡ true → Fits size index page
fits_parts size index page h =
    let a = and_parts (nat_lt index (div_ceil size 4096) && length page == 4096) (all_zero (drop (size - 4096 * index) page)) h in
    let b = and_parts (nat_lt index (div_ceil size 4096)) (length page == 4096) a.0 in
    record { below = ltb-true index (div_ceil size 4096) b.0; whole = eqb-true (length page) 4096 b.1; rest = a.1 }

from_parts : (size index : ℕ) (page : List ℕ) → Fits size index page → page_fits size (index, page) ≡ true
from_parts size index page f = and_from _ _ (and_from _ _ (lt-ltb index (div_ceil size 4096) f.below) (eq-eqb (length page) 4096 f.whole)) f.rest

record Content (file : FileContent) : Type 0 where
  pub sorted : is_sorted nat_cmp file.pages ≡ true
  pub all : list_all (page_fits file.size) file.pages ≡ true

content : (file : FileContent) → IsTrue (is_content file) → Content file
unfolding is_content
content file h = let parts = and_parts (is_sorted nat_cmp file.pages) (list_all (page_fits file.size) file.pages) h in record { sorted = parts.0; all = parts.1 }

from_content : (file : FileContent) → Content file → IsTrue (is_content file)
unfolding is_content
from_content file h = and_from _ _ h.sorted h.all

found_fits : (file : FileContent) → IsTrue (is_content file) → (index : ℕ) (page : List ℕ) → find nat_cmp index file.pages ≡ Some page → Fits file.size index page
found_fits file h index page there = fits_parts file.size index page (all-found (page_fits file.size) file.pages index page (content file h).all there)

-- ---- where bytes lie

whole_page : (file : FileContent) (index : ℕ) → IsTrue (is_content file) → length (page_bytes file index) ≡ 4096
unfolding page_bytes
whole_page file index h =
    elim (find nat_cmp index file.pages) as (λ o. find nat_cmp index file.pages ≡ o → length (unwrap_or o (zeros 4096)) ≡ 4096) [
      | None ↦ λ _. length-zeros 4096
      | Some page ↦ λ there. (found_fits file h index page there).whole
    ] refl

byte_at : (file : FileContent) (index i : ℕ) → i < 4096 → byte_of file (4096 * index + i) ≡ get_or (unwrap_or (find nat_cmp index file.pages) []) i 0
unfolding byte_of
byte_at file index i lt =
    let at : (4096 * index + i) / 4096 ≡ index = omega (arith, lt) in
    let rest : (4096 * index + i) % 4096 ≡ i = omega (arith, lt) in
    λ j. get_or (unwrap_or (find nat_cmp (at j) file.pages) []) (rest j) 0

in_page : (file : FileContent) (index i : ℕ) → i < 4096 → get_or (page_bytes file index) i 0 ≡ byte_of file (4096 * index + i)
unfolding page_bytes
in_page file index i lt =
    elim (find nat_cmp index file.pages) as (λ o. get_or (unwrap_or o (zeros 4096)) i 0 ≡ get_or (unwrap_or o []) i 0) [ None ↦ zeros-at 4096 i | Some page ↦ refl ]
    ∙ sym (byte_at file index i lt)

part_from : (file : FileContent) (index count start : ℕ) → length (page_bytes file index) ≡ 4096 → start + count ≤ 4096
    → map (byte_of file) (range_with_len (4096 * index + start) count) ≡ take count (drop start (page_bytes file index))
part_from file index zero start whole fits = refl
part_from file index (suc count) start whole fits =
    let lt : start < 4096 = omega (arith, fits) in
    let on : 4096 * index + start + 1 ≡ 4096 * index + (start + 1) = omega arith in
    (λ i. sym (in_page file index start lt) i ∷ map (byte_of file) (range_with_len (on i) count))
    ∙ ap (λ (x : List ℕ). get_or (page_bytes file index) start 0 ∷ x) (part_from file index count (start + 1) whole (omega (arith, fits)))
    ∙ ap (take (suc count)) (sym (drop_more (page_bytes file index) start 0 (omega (arith, whole, lt))))

part : (file : FileContent) (index start count : ℕ) → length (page_bytes file index) ≡ 4096 → start + count ≤ 4096
    → map (byte_of file) (range_with_len (4096 * index + start) count) ≡ take count (drop start (page_bytes file index))
part file index start count whole fits = part_from file index count start whole fits

hole_from : (file : FileContent) (index count start : ℕ) → find nat_cmp index file.pages ≡ None → start + count ≤ 4096
    → map (byte_of file) (range_with_len (4096 * index + start) count) ≡ zeros count
unfolding zeros
hole_from file index zero start none fits = refl
hole_from file index (suc count) start none fits =
    let on : 4096 * index + start + 1 ≡ 4096 * index + (start + 1) = omega arith in
    let here : byte_of file (4096 * index + start) ≡ 0 = byte_at file index start (omega (arith, fits)) ∙ ap (λ (o : Option (List ℕ)). get_or (unwrap_or o []) start 0) none in
    (λ i. here i ∷ map (byte_of file) (range_with_len (on i) count))
    ∙ ap (λ (x : List ℕ). 0 ∷ x) (hole_from file index count (start + 1) none (omega (arith, fits)))

hole : (file : FileContent) (index start count : ℕ) → has_page file index ≡ false → start + count ≤ 4096
    → map (byte_of file) (range_with_len (4096 * index + start) count) ≡ zeros count
hole file index start count none fits = hole_from file index count start (no_page (find nat_cmp index file.pages) none) fits
  where
    no_page : (o : Option (List ℕ)) → is_some o ≡ false → o ≡ None
    no_page None h = refl
    no_page (Some x) h = absurd (true≢false h)

-- an offset as that of a page and one in it
split : (i : ℕ) → 4096 * (i / 4096) + i % 4096 ≡ i
split i = omega arith

in_page_of : (i : ℕ) → i % 4096 < 4096
in_page_of i = omega arith

zero_past : (size index r : ℕ) (page : List ℕ) → Fits size index page → size ≤ 4096 * index + r → get_or page r 0 ≡ 0
zero_past size index r page f le = zero_at page (size - 4096 * index) r f.rest (omega (arith, le))

past_size : (file : FileContent) (i : ℕ) → IsTrue (is_content file) → file.size ≤ i → byte_of file i ≡ 0
unfolding byte_of
past_size file i h le =
    elim (find nat_cmp (i / 4096) file.pages) as (λ o. find nat_cmp (i / 4096) file.pages ≡ o → get_or (unwrap_or o []) (i % 4096) 0 ≡ 0) [
      | None ↦ λ _. refl
      | Some page ↦ λ there. zero_past file.size (i / 4096) (i % 4096) page (found_fits file h (i / 4096) page there) (omega (arith, le))
    ] refl

same : (file other : FileContent) → IsTrue (is_content file) → IsTrue (is_content other) → file.size ≡ other.size
    → ((index : ℕ) → find nat_cmp index file.pages ≡ find nat_cmp index other.pages) → file ≡ other
same file other h k sizes each =
    let pages = same_entries nat_cmp nat_cmp_total nat_cmp-IsAntisymmetric file.pages other.pages (passes _ (content file h).sorted) (passes _ (content other k).sorted) each in
    λ i. record { size = sizes i; pages = pages i }

pub byte_laws : ByteLaws
byte_laws = record { past_size = past_size; in_page = in_page; whole_page = whole_page; part = part; hole = hole; same = same }

-- ---- a write

pub touched_some : (from len : ℕ) → 0 < len → touched from len ≡ range_with_len (from / 4096) ((from + len - 1) / 4096 + 1 - from / 4096)
unfolding touched
touched_some from len some = cond-false (len == 0) _ _ (ne_eqb len 0 (λ e. omega (arith, e, some)))

touched_none : (from : ℕ) → touched from 0 ≡ []
unfolding touched
touched_none from = refl

-- the indexes touched, as a range
abbrev first : ℕ → ℕ
first from = from / 4096

abbrev count : ℕ → ℕ → ℕ
count from len = (from + len - 1) / 4096 + 1 - from / 4096

within_is : (g : ℕ → List ℕ) (from len index : ℕ) → 0 < len → within g (first from) (count from len) index ≡ is_touched from len index
within_is g from len index some =
    same_answer _ _
    (λ h.
    let p = and_parts (nat_le (first from) index) (nat_lt index (first from + count from len)) h in
    let low = leb-true (first from) index p.0 in
    let high = ltb-true index (first from + count from len) p.1 in
    and_from _ _ (and_from _ _ (lt-ltb 0 len some) (lt-ltb (4096 * index) (from + len) (omega (arith, high, low, some)))) (lt-ltb from (4096 * index + 4096) (omega (arith, low))))
    (λ h.
    let p = and_parts (nat_lt 0 len && nat_lt (4096 * index) (from + len)) (nat_lt from (4096 * index + 4096)) h in
    let q = and_parts (nat_lt 0 len) (nat_lt (4096 * index) (from + len)) p.0 in
    let low = ltb-true from (4096 * index + 4096) p.1 in
    let high = ltb-true (4096 * index) (from + len) q.1 in
    and_from _ _ (le-leb (first from) index (omega (arith, low))) (lt-ltb index (first from + count from len) (omega (arith, high, low, some))))

untouched : (from index : ℕ) → is_touched from 0 index ≡ false
untouched from index = refl

any-range : (n a q : ℕ) → list_any (λ i. i == q) (range_with_len a n) ≡ within (λ _. []) a n q
any-range n a q = by n a
  where
    by : (n a : ℕ) → list_any (λ i. i == q) (range_with_len a n) ≡ within (λ _. []) a n q
    by zero a = sym (false_from_ne_true _ (λ h. let p = and_parts (nat_le a q) (nat_lt q (a + 0)) h in omega (arith, leb-true a q p.0, ltb-true q (a + 0) p.1)))
    by (suc n) a =
        ap (λ b. (a == q) || b) (by n (a + 1))
        ∙ same_answer _ _
        (λ h. elim (or_cases (a == q) (within (λ _. []) (a + 1) n q) h) as (λ _. within (λ _. []) a (suc n) q ≡ true) [
          | inl e ↦ let is = eqb-true a q e in and_from _ _ (le-leb a q (omega (arith, is))) (lt-ltb q (a + suc n) (omega (arith, is)))
          | inr w ↦ let p = and_parts (nat_le (a + 1) q) (nat_lt q (a + 1 + n)) w in and_from _ _ (le-leb a q (omega (arith, leb-true (a + 1) q p.0))) (lt-ltb q (a + suc n) (omega (arith, ltb-true q (a + 1 + n) p.1)))
        ])
        (λ h.
        let p = and_parts (nat_le a q) (nat_lt q (a + suc n)) h in
        let low = leb-true a q p.0 in
        let high = ltb-true q (a + suc n) p.1 in
        elim (cases_lt a q) as (λ _. ((a == q) || within (λ _. []) (a + 1) n q) ≡ true) [
          | inl lt ↦ or_right (a == q) _ (and_from _ _ (le-leb (a + 1) q (omega (arith, lt))) (lt-ltb q (a + 1 + n) (omega (arith, high))))
          | inr le ↦ or_left (a == q) _ (eq-eqb a q (omega (arith, le, low)))
        ])

touched_indexes : (from len index : ℕ) → list_any (λ i. i == index) (touched from len) ≡ is_touched from len index
touched_indexes from zero index = ap (list_any (λ i. i == index)) (touched_none from)
touched_indexes from (suc n) index =
    ap (list_any (λ i. i == index)) (touched_some from (suc n) (omega arith))
    ∙ any-range (count from (suc n)) (first from) index ∙ within_is (λ _. []) from (suc n) index (omega arith)

module _ (file : FileContent) (from : ℕ) (bytes : List ℕ) where
  abbrev laid : ℕ → List ℕ
  laid index = overlaid (page_bytes file index) index from bytes

  abbrev after : FileContent
  after = record { size = max file.size (from + length bytes); pages = all_put laid file.pages (first from) (count from (length bytes)) }

  written_is : 0 < length bytes → written_over file from bytes ≡ after
  unfolding written_over
  written_is some =
      cond-false (length bytes == 0) file _ (ne_eqb (length bytes) 0 (λ e. omega (arith, e, some)))
      ∙ ap (λ (indexes : List ℕ). record { size = max file.size (from + length bytes); pages = fold (λ pages index. put nat_cmp index (laid index) pages) file.pages indexes }) (touched_some from (length bytes) some)

  laid_fits : IsTrue (is_content file) → (index : ℕ) → first from ≤ index → index < first from + count from (length bytes) → 0 < length bytes → Fits (max file.size (from + length bytes)) index (laid index)
  laid_fits h index low high some =
      let whole = whole_page file index h in
      let size : ℕ = max file.size (from + length bytes) in
      let over : 4096 * index < from + length bytes = omega (arith, low, high, some) in
      record {
        below = omega (arith, over);
        whole = length-overlaid (page_bytes file index) index from bytes whole;
        rest = zero_from (laid index) (size - 4096 * index) (λ r le.
            elim (cases_lt r 4096) as (λ _. get_or (laid index) r 0 ≡ 0) [
              | inl lt ↦ overlaid-behind (page_bytes file index) index from bytes whole r lt (omega (arith, le))
                  ∙ in_page file index r lt ∙ past_size file (4096 * index + r) h (omega (arith, le))
              | inr more ↦ get_or_past (laid index) r 0 (omega (arith, length-overlaid (page_bytes file index) index from bytes whole, more))
            ]);
      }

  larger : (size : ℕ) → file.size ≤ size → (e : ℕ × List ℕ) → page_fits file.size e ≡ true → page_fits size e ≡ true
  larger size le e h =
      let f = fits_parts file.size e.0 e.1 h in
      from_parts size e.0 e.1 (record { below = omega (arith, f.below, le); whole = f.whole; rest = zero_from e.1 (size - 4096 * e.0) (λ r past. zero_at e.1 (file.size - 4096 * e.0) r f.rest (omega (arith, past, le))) })

  after_content : IsTrue (is_content file) → 0 < length bytes → IsTrue (is_content after)
  after_content h some =
      let size : ℕ = max file.size (from + length bytes) in
      from_content after (record {
        sorted = sorted-all_put laid file.pages (first from) (count from (length bytes)) (content file h).sorted;
        all = all-all_put (page_fits size) laid file.pages (first from) (count from (length bytes)) (λ index low high. from_parts size index (laid index) (laid_fits h index low high some))
            (all_weaker (page_fits file.size) (page_fits size) (larger size (omega arith)) file.pages (content file h).all);
      })

  after_page : (index : ℕ) → 0 < length bytes → find nat_cmp index after.pages ≡ cond (is_touched from (length bytes) index) (Some (laid index)) (find nat_cmp index file.pages)
  after_page index some =
      find-all_put laid file.pages (first from) (count from (length bytes)) index
      ∙ ap (λ b. cond b (Some (laid index)) (find nat_cmp index file.pages)) (within_is laid from (length bytes) index some)

unwritten : (file : FileContent) (from : ℕ) → written_over file from [] ≡ file
unfolding written_over
unwritten file from = refl

written_content : (file : FileContent) (from : ℕ) (bytes : List ℕ) → IsTrue (is_content file) → IsTrue (is_content (written_over file from bytes))
written_content file from [] h = subst (λ (f : FileContent). IsTrue (is_content f)) (sym (unwritten file from)) h
written_content file from (b ∷ bytes) h = subst (λ (f : FileContent). IsTrue (is_content f)) (sym (written_is file from (b ∷ bytes) (omega arith))) (after_content file from (b ∷ bytes) h (omega arith))

written_size : (file : FileContent) (from : ℕ) (bytes : List ℕ) → (written_over file from bytes).size ≡ (if nat_lt 0 (length bytes) then max file.size (from + length bytes) else file.size)
written_size file from [] = ap (λ (f : FileContent). f.size) (unwritten file from)
written_size file from (b ∷ bytes) =
    let some : 0 < length (b ∷ bytes) = omega arith in
    ap (λ (f : FileContent). f.size) (written_is file from (b ∷ bytes) some) ∙ sym (cond-true (nat_lt 0 (length (b ∷ bytes))) _ _ (lt-ltb 0 (length (b ∷ bytes)) some))

written_page : (file : FileContent) (from : ℕ) (bytes : List ℕ) (index : ℕ) → find nat_cmp index (written_over file from bytes).pages
    ≡ (if is_touched from (length bytes) index then Some (overlaid (page_bytes file index) index from bytes) else find nat_cmp index file.pages)
written_page file from [] index = ap (λ (f : FileContent). find nat_cmp index f.pages) (unwritten file from)
written_page file from (b ∷ bytes) index = ap (λ (f : FileContent). find nat_cmp index f.pages) (written_is file from (b ∷ bytes) (omega arith)) ∙ after_page file from (b ∷ bytes) index (omega arith)

written_indexes : (file : FileContent) (from : ℕ) (bytes : List ℕ) (index : ℕ) → has_page (written_over file from bytes) index ≡ (is_touched from (length bytes) index || has_page file index)
written_indexes file from bytes index =
    ap is_some (written_page file from bytes index)
    ∙ elim (is_touched from (length bytes) index) as (λ b. is_some (cond b (Some (overlaid (page_bytes file index) index from bytes)) (find nat_cmp index file.pages)) ≡ (b || has_page file index)) [ true ↦ refl | false ↦ refl ]

-- the byte of an offset, in the page of that offset
written_in : (file : FileContent) (from : ℕ) (bytes : List ℕ) (index r : ℕ) → IsTrue (is_content file) → r < 4096 → is_touched from (length bytes) index ≡ true
    → byte_of (written_over file from bytes) (4096 * index + r) ≡ get_or (overlaid (page_bytes file index) index from bytes) r 0
written_in file from bytes index r h lt touches =
    byte_at (written_over file from bytes) index r lt
    ∙ ap (λ (o : Option (List ℕ)). get_or (unwrap_or o []) r 0) (written_page file from bytes index ∙ cond-true (is_touched from (length bytes) index) _ _ touches)

written_out : (file : FileContent) (from : ℕ) (bytes : List ℕ) (index r : ℕ) → r < 4096 → is_touched from (length bytes) index ≡ false
    → byte_of (written_over file from bytes) (4096 * index + r) ≡ byte_of file (4096 * index + r)
written_out file from bytes index r lt untouched =
    byte_at (written_over file from bytes) index r lt
    ∙ ap (λ (o : Option (List ℕ)). get_or (unwrap_or o []) r 0) (written_page file from bytes index ∙ cond-false (is_touched from (length bytes) index) _ _ untouched)
    ∙ sym (byte_at file index r lt)

touches_in : (from len index r : ℕ) → r < 4096 → from ≤ 4096 * index + r → 4096 * index + r < from + len → is_touched from len index ≡ true
touches_in from len index r lt low high =
    and_from _ _ (and_from _ _ (lt-ltb 0 len (omega (arith, low, high))) (lt-ltb (4096 * index) (from + len) (omega (arith, high)))) (lt-ltb from (4096 * index + 4096) (omega (arith, low, lt)))

written_at : (file : FileContent) (from : ℕ) (bytes : List ℕ) (index r : ℕ) → IsTrue (is_content file) → r < 4096
    → byte_of (written_over file from bytes) (4096 * index + r)
    ≡ cond (nat_le from (4096 * index + r) && nat_lt (4096 * index + r) (from + length bytes)) (get_or bytes (4096 * index + r - from) 0) (byte_of file (4096 * index + r))
written_at file from bytes index r h lt =
    let i : ℕ = 4096 * index + r in
    let page : List ℕ = page_bytes file index in
    let whole = whole_page file index h in
    elim (nat_le from i && nat_lt i (from + length bytes)) as (λ b. (nat_le from i && nat_lt i (from + length bytes)) ≡ b → byte_of (written_over file from bytes) i ≡ cond b (get_or bytes (i - from) 0) (byte_of file i)) [
      | true ↦ λ t.
          let p = and_parts (nat_le from i) (nat_lt i (from + length bytes)) t in
          let low = leb-true from i p.0 in
          let high = ltb-true i (from + length bytes) p.1 in
          written_in file from bytes index r h lt (touches_in from (length bytes) index r lt low high) ∙ overlaid-in page index from bytes whole r lt low high
      | false ↦ λ t.
          elim (is_touched from (length bytes) index) as (λ b. is_touched from (length bytes) index ≡ b → byte_of (written_over file from bytes) i ≡ byte_of file i) [
            | true ↦ λ s. written_in file from bytes index r h lt s ∙ elim (and_cases (nat_le from i) (nat_lt i (from + length bytes)) t) as (λ _. get_or (overlaid page index from bytes) r 0 ≡ byte_of file i) [
              | inl below ↦ overlaid-before page index from bytes whole r lt (leb-false from i below) ∙ in_page file index r lt
              | inr past ↦ overlaid-behind page index from bytes whole r lt (ltb-false i (from + length bytes) past) ∙ in_page file index r lt
            ]
            | false ↦ λ s. written_out file from bytes index r lt s
          ] refl
    ] refl

written_byte : (file : FileContent) (from : ℕ) (bytes : List ℕ) (i : ℕ) → IsTrue (is_content file)
    → byte_of (written_over file from bytes) i ≡ (if nat_le from i && nat_lt i (from + length bytes) then get_or bytes (i - from) 0 else byte_of file i)
written_byte file from bytes i h =
    subst (λ (k : ℕ). byte_of (written_over file from bytes) k ≡ cond (nat_le from k && nat_lt k (from + length bytes)) (get_or bytes (k - from) 0) (byte_of file k)) (split i)
    (written_at file from bytes (i / 4096) (i % 4096) h (in_page_of i))

pub write_laws : WriteLaws
write_laws = record { is_content_still = written_content; size = written_size; byte = written_byte; page = written_page; indexes = written_indexes; touched_indexes = touched_indexes }

-- ---- a cut

cut_at : (file : FileContent) (size index : ℕ) → find nat_cmp index (cut_to file size).pages ≡ (if nat_lt index (div_ceil size 4096) then option_map (cut_page size index) (find nat_cmp index file.pages) else None)
unfolding cut_to
cut_at file size index = find-kept (cut_page size) (λ i. nat_lt i (div_ceil size 4096)) file.pages index

cut_fits : (before size index : ℕ) (page : List ℕ) → nat_lt index (div_ceil size 4096) ≡ true → page_fits before (index, page) ≡ true → page_fits size (index, cut_page size index page) ≡ true
cut_fits before size index page below h =
    from_parts size index (cut_page size index page) (record {
      below = ltb-true index (div_ceil size 4096) below;
      whole = length-cut_page size index page (fits_parts before index page h).whole;
      rest = zero_from (cut_page size index page) (size - 4096 * index) (cut_page-past size index page);
    })

cut_content : (file : FileContent) (size : ℕ) → IsTrue (is_content file) → IsTrue (is_content (cut_to file size))
unfolding cut_to
cut_content file size h =
    from_content (cut_to file size) (record {
      sorted = sorted-kept (cut_page size) (λ i. nat_lt i (div_ceil size 4096)) file.pages (content file h).sorted;
      all = all-kept (cut_page size) (λ i. nat_lt i (div_ceil size 4096)) (page_fits file.size) (page_fits size) (cut_fits file.size size) file.pages (content file h).all;
    })

cut_indexes : (file : FileContent) (size index : ℕ) → has_page (cut_to file size) index ≡ (has_page file index && nat_lt index (div_ceil size 4096))
cut_indexes file size index =
    ap is_some (cut_at file size index) ∙ by (nat_lt index (div_ceil size 4096)) (find nat_cmp index file.pages)
  where
    by : (b : Bool) (o : Option (List ℕ)) → is_some (cond b (option_map (cut_page size index) o) None) ≡ (is_some o && b)
    by true None = refl
    by true (Some x) = refl
    by false None = refl
    by false (Some x) = refl

cut_byte_at : (file : FileContent) (size index r : ℕ) → r < 4096 → byte_of (cut_to file size) (4096 * index + r) ≡ cond (nat_lt (4096 * index + r) size) (byte_of file (4096 * index + r)) 0
cut_byte_at file size index r lt =
    byte_at (cut_to file size) index r lt ∙ ap (λ (o : Option (List ℕ)). get_or (unwrap_or o []) r 0) (cut_at file size index)
    ∙ by (find nat_cmp index file.pages) ∙ ap (λ k. cond (nat_lt (4096 * index + r) size) k 0) (sym (byte_at file index r lt))
  where
    by : (o : Option (List ℕ)) → get_or (unwrap_or (cond (nat_lt index (div_ceil size 4096)) (option_map (cut_page size index) o) None) []) r 0 ≡ cond (nat_lt (4096 * index + r) size) (get_or (unwrap_or o []) r 0) 0
    by o =
        elim (nat_lt (4096 * index + r) size) as (λ b. nat_lt (4096 * index + r) size ≡ b → get_or (unwrap_or (cond (nat_lt index (div_ceil size 4096)) (option_map (cut_page size index) o) None) []) r 0 ≡ cond b (get_or (unwrap_or o []) r 0) 0) [
          | true ↦ λ t. let less = ltb-true (4096 * index + r) size t in
              ap (λ b. get_or (unwrap_or (cond b (option_map (cut_page size index) o) None) []) r 0) (lt-ltb index (div_ceil size 4096) (omega (arith, less)))
              ∙ stays o less
          | false ↦ λ t. gone o (nat_lt index (div_ceil size 4096)) (ltb-false (4096 * index + r) size t)
        ] refl
      where
        stays : (o : Option (List ℕ)) → 4096 * index + r < size → get_or (unwrap_or (option_map (cut_page size index) o) []) r 0 ≡ get_or (unwrap_or o []) r 0
        stays None less = refl
        stays (Some page) less = cut_page-in size index page r (omega (arith, less))

        gone : (o : Option (List ℕ)) (b : Bool) → size ≤ 4096 * index + r → get_or (unwrap_or (cond b (option_map (cut_page size index) o) None) []) r 0 ≡ 0
        gone None true past = refl
        gone None false past = refl
        gone (Some page) true past = cut_page-past size index page r (omega (arith, past))
        gone (Some page) false past = refl

cut_byte : (file : FileContent) (size i : ℕ) → byte_of (cut_to file size) i ≡ (if nat_lt i size then byte_of file i else 0)
cut_byte file size i = subst (λ (k : ℕ). byte_of (cut_to file size) k ≡ cond (nat_lt k size) (byte_of file k) 0) (split i) (cut_byte_at file size (i / 4096) (i % 4096) (in_page_of i))

cut_size : (file : FileContent) (size : ℕ) → (cut_to file size).size ≡ size
unfolding cut_to
cut_size file size = refl

pub cut_laws : CutLaws
cut_laws = record { is_content_still = cut_content; size = cut_size; byte = cut_byte; page = cut_at; indexes = cut_indexes }
