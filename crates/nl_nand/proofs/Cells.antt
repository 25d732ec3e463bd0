-- The image after a program or an erase, and before it.
use Rattle.std.proofs.Common.{◌≡◌, ◌⊎◌, inl, inr, ℕ, zero, suc, ◌+◌, ◌-◌, ◌<◌, ◌≤◌, List, [], ◌∷◌, ◌++◌, length, get_or, take, drop, replicate, set, refl, sym, ◌∙◌, ap, arith, append_assoc, length-append, length-drop, take-append-drop}
use Rattle.std.proofs.lemmas.List.{get_or_append_left, get_or-append_right, get_or-take, get_or-drop, length-take-le, take_at, drop_at, map-append, map-set, take-map, drop-map, drop-drop, length-map, length-set, get_or-set_same, get_or-set_other, set-get_or, get_or-replicate, length-replicate}
use Rattle.nl_field.specs.Page.{Page, erased, page_at}
use Rattle.nl_nand.specs.Nand.{SameImageShape, Filled}
use Rattle.nl_nand.specs.declared.geometry.Geometry.{Geometry}
use Rattle.nl_nand.specs.declared.cell.Cell.{Cell}
use Rattle.nl_nand.specs.declared.cell.Cell.TheVariants as cell
use Rattle.nl_nand.specs.declared.record.Entry.TheVariants as entry
use Rattle.nl_nand.specs.Record.{page_of, pages_of, image_of, undone}

pub at_map : (cells : List Cell) (p : ℕ) → get_or (pages_of cells) p erased ≡ page_of (get_or cells p cell.Erased)
at_map [] p = refl
at_map (x ∷ xs) zero = refl
at_map (x ∷ xs) (suc p) = at_map xs p

-- one cell has another value
module _ (g : Geometry) (cells : List Cell) (page : ℕ) (x : Cell) (within : page < length cells) where
  abbrev next : List Cell
  next = set cells page x

  mapped : pages_of next ≡ set (pages_of cells) page (page_of x)
  mapped = map-set page_of cells page x

  size : page < length (pages_of cells)
  size = omega (arith, within, length-map cells page_of)

  pub set_here : page_at (image_of g next) page ≡ page_of x
  set_here = ap (λ l. get_or l page erased) mapped ∙ get_or-set_same (pages_of cells) page (page_of x) erased size

  set_other : (p : ℕ) → (p < page) ⊎ (page + 1 ≤ p) → page_at (image_of g next) p ≡ page_at (image_of g cells) p
  set_other p (inl below) = ap (λ l. get_or l p erased) mapped ∙ get_or-set_other (pages_of cells) page p (page_of x) erased (λ e. absurd (omega (arith, below, e)))
  set_other p (inr above) = ap (λ l. get_or l p erased) mapped ∙ get_or-set_other (pages_of cells) page p (page_of x) erased (λ e. absurd (omega (arith, above, e)))

  set_shape : SameImageShape (image_of g cells) (image_of g next)
  set_shape = record { same_blocks = refl; same_pages = refl; same_length = length-map next page_of ∙ length-set cells page x ∙ sym (length-map cells page_of) }

  set_inside : (p : ℕ) → page ≤ p → p < page + 1 → page_at (image_of g next) p ≡ page_of x
  set_inside p from below = let same : p ≡ page = omega (arith, from, below) in ap (page_at (image_of g next)) same ∙ set_here

  pub set_filled : Filled page (page + 1) (page_of x) (image_of g cells) (image_of g next)
  set_filled = record { shape = set_shape; inside = set_inside; outside = set_other }

  pub set_undone : (moment : ℕ) → page_at (image_of g cells) page ≡ erased → undone (entry.Programmed page moment) (image_of g next) ≡ image_of g cells
  set_undone moment was i = record { blocks = g.blocks; pages = g.pages; contents = back i }
    where
      back : set (pages_of next) page erased ≡ pages_of cells
      back = ap (λ l. set l page erased) mapped ∙ again (pages_of cells) page ∙ ap (λ v. set (pages_of cells) page v) (sym was) ∙ set-get_or (pages_of cells) page erased
        where
          again : (l : List Page) (p : ℕ) → set (set l p (page_of x)) p erased ≡ set l p erased
          again [] p = refl
          again (y ∷ ys) zero = refl
          again (y ∷ ys) (suc p) = ap (λ l. y ∷ l) (again ys p)

-- a row of cells is erased
module _ (g : Geometry) (cells row : List Cell) (low count : ℕ) (within : low + count ≤ length cells) (blank : row ≡ replicate count cell.Erased) where
  abbrev news : List Cell
  news = take low cells ++ row ++ drop (low + length row) cells

  pub row_length : length row ≡ count
  row_length = ap length blank ∙ length-replicate count cell.Erased

  length_front : length (take low cells) ≡ low
  length_front = length-take-le low cells (omega (arith, within))

  length_both : length (take low cells ++ row) ≡ low + count
  length_both = omega (arith, length-append (take low cells) row, length_front, row_length)

  news_size : length news ≡ length cells
  news_size = omega (arith, length-append (take low cells ++ row) (drop (low + length row) cells), length-drop (low + length row) cells, length_both, row_length, within)

  below_row : (p : ℕ) → p < low → get_or news p cell.Erased ≡ get_or cells p cell.Erased
  below_row p lt = get_or_append_left (take low cells ++ row) (drop (low + length row) cells) cell.Erased p (omega (arith, length_both))
      ∙ get_or_append_left (take low cells) row cell.Erased p (omega (arith, length_front)) ∙ get_or-take low cells p cell.Erased lt

  in_row : (p : ℕ) → low ≤ p → p < low + count → get_or news p cell.Erased ≡ cell.Erased
  in_row p from lt =
      let less : p - low < count = omega (arith, from, lt) in
      get_or_append_left (take low cells ++ row) (drop (low + length row) cells) cell.Erased p (omega (arith, length_both))
      ∙ get_or-append_right (take low cells) row low p cell.Erased length_front from
      ∙ ap (λ l. get_or l (p - low) cell.Erased) blank ∙ get_or-replicate count (p - low) cell.Erased cell.Erased less

  above_row : (p : ℕ) → low + count ≤ p → get_or news p cell.Erased ≡ get_or cells p cell.Erased
  above_row p from =
      let same : (low + length row) + (p - (low + count)) ≡ p = omega (arith, from, row_length) in
      get_or-append_right (take low cells ++ row) (drop (low + length row) cells) (low + count) p cell.Erased length_both from
      ∙ get_or-drop (low + length row) cells (p - (low + count)) cell.Erased ∙ ap (λ n. get_or cells n cell.Erased) same

  row_outside : (p : ℕ) → (p < low) ⊎ (low + count ≤ p) → page_at (image_of g news) p ≡ page_at (image_of g cells) p
  row_outside p (inl lt) = at_map news p ∙ ap page_of (below_row p lt) ∙ sym (at_map cells p)
  row_outside p (inr from) = at_map news p ∙ ap page_of (above_row p from) ∙ sym (at_map cells p)

  pub row_filled : Filled low (low + count) erased (image_of g cells) (image_of g news)
  row_filled = record {
    shape = record { same_blocks = refl; same_pages = refl; same_length = length-map news page_of ∙ news_size ∙ sym (length-map cells page_of) };
    inside = λ p from lt. at_map news p ∙ ap page_of (in_row p from lt);
    outside = row_outside;
  }

  abbrev part : List Cell
  part = take (length row) (drop low cells)

  parts : take low cells ++ part ++ drop (low + length row) cells ≡ cells
  parts = append_assoc (take low cells) part (drop (low + length row) cells)
      ∙ ap (λ l. take low cells ++ (part ++ l)) (sym (drop-drop (length row) low cells))
      ∙ ap (λ l. take low cells ++ l) (take-append-drop (length row) (drop low cells))
      ∙ take-append-drop low cells

  front_new : take low news ≡ take low cells
  front_new = ap (λ l. take low l) (append_assoc (take low cells) row (drop (low + length row) cells)) ∙ take_at (take low cells) (row ++ drop (low + length row) cells) low length_front

  back_new : drop (low + length row) news ≡ drop (low + length row) cells
  back_new = drop_at (take low cells ++ row) (drop (low + length row) cells) (low + length row) (omega (arith, length_both, row_length))

  pub part_length : length part ≡ length row
  part_length = length-take-le (length row) (drop low cells) (omega (arith, length-drop low cells, within, row_length))

  -- undoing gives the pages from before
  pub contents_back : (before : List Cell) → before ≡ part → take low (pages_of news) ++ pages_of before ++ drop (low + length before) (pages_of news) ≡ pages_of cells
  contents_back before is =
      let size : low + length before ≡ low + length row = ap (λ n. low + n) (ap length is ∙ part_length) in
      (λ i. take low (pages_of news) ++ pages_of (is i) ++ drop (size i) (pages_of news))
      ∙ (λ i. take-map page_of low news i ++ pages_of part ++ drop-map page_of (low + length row) news i)
      ∙ (λ i. pages_of (front_new i) ++ pages_of part ++ pages_of (back_new i))
      ∙ ap (λ l. l ++ pages_of (drop (low + length row) cells)) (sym (map-append page_of (take low cells) part))
      ∙ sym (map-append page_of (take low cells ++ part) (drop (low + length row) cells))
      ∙ ap pages_of parts
