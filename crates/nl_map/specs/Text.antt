-- The text of a map: as what the medium opens, two lines for each block, and how many pages there are of each kind.
use Rattle.std.specs.Prelude.{ℕ, ◌*◌, ◌==◌, nat_lt, Bool, true, false, max, if◌then◌else◌, List, [], ◌∷◌, ◌++◌, codes, count_by, drop, flat_map, fold, map, take, Option, Some, None}
use Rattle.std.specs.List.{list_all, list_any, range_with_len}
use Rattle.nl_field.specs.Medium.{shape_of_image}
use Rattle.nl_field.specs.Page.{Image}
use Rattle.nl_field.specs.declared.shape.Shape.{Shape}
use Rattle.nl_field.specs.declared.super_page.SuperRec.{SuperRec}
use Rattle.nl_meta.specs.Committed.{committed_of}
use Rattle.nl_meta.specs.Nodes.{super_of_pages}
use Rattle.nl_meta.specs.Walk.{OpeningAnswer, answers_blank, answers_damaged, opening_answer, opens}
use Rattle.nl_print.specs.Texts.{damaged_text, field, number_text, opened_line}
use Rattle.nl_map_pages.specs.Marks.{looks_of}
use Rattle.nl_map_pages.specs.declared.look.Look.{Look}
use Rattle.nl_map_pages.specs.declared.look.Mark.{Mark}
use Rattle.nl_map_pages.specs.declared.look.Mark.TheVariants.{Erased, Dead, Live, OldCopy, Uncorrectable, Unjudged}

-- ---- a page

-- `.` `-` `#` `o` `x` `?`
abbrev pub mark_code : Mark → ℕ
mark_code Erased = 46
mark_code Dead = 45
mark_code Live = 35
mark_code OldCopy = 111
mark_code Uncorrectable = 120
mark_code Unjudged = 63

abbrev pub is_erased : Mark → Bool
is_erased Erased = true
is_erased _ = false

abbrev pub is_live : Mark → Bool
is_live Live = true
is_live _ = false

abbrev pub is_unjudged : Mark → Bool
is_unjudged Unjudged = true
is_unjudged _ = false

-- ---- a block

-- All its pages are erased; or one is live; or one is written and not judged; or else an opening finds the block free, and erases it before
-- use.
abbrev pub state_text : List Look → List ℕ
state_text looks =
    if list_all (λ l. is_erased l.mark) looks then codes "erased"
    else if list_any (λ l. is_live l.mark) looks then codes "used"
    else if list_any (λ l. is_unjudged l.mark) looks then codes "written"
    else codes "free"

abbrev pub segment_text : Bool → List ℕ
segment_text true = codes " virtual "
segment_text false = codes " physical "

-- the greatest wear of its pages
abbrev pub block_wear : List Look → ℕ
block_wear looks = fold (λ best l. max best l.wear) 0 looks

abbrev pub pages_text : List Look → List ℕ
pages_text looks = map (λ l. mark_code l.mark) looks

-- its number, its segment, its state and its wear
abbrev pub block_words : ℕ → Bool → List Look → List ℕ
block_words block is_virtual looks =
    field (codes "block") block ++ segment_text is_virtual ++ state_text looks ++ field (codes " wear") (block_wear looks)

-- these words, and a character a page
abbrev pub block_text : ℕ → Bool → List Look → List ℕ
block_text block is_virtual looks = block_words block is_virtual looks ++ 10 ∷ pages_text looks ++ 10 ∷ []

-- the pages of a block
abbrev pub own_looks : Shape → List Look → ℕ → List Look
own_looks shape looks block = take shape.pages (drop (block * shape.pages) looks)

unfoldable pub blocks_text : Shape → List Look → List ℕ
blocks_text shape looks =
    flat_map (λ block. block_text block (nat_lt block shape.vblocks) (own_looks shape looks block)) (range_with_len 0 shape.blocks)

-- ---- all pages

-- pages that are found so have the same character
abbrev pub is_alike : Mark → Mark → Bool
is_alike mark other = mark_code mark == mark_code other

abbrev pub kind_text : List ℕ → Mark → List Look → List ℕ
kind_text words mark looks = number_text words (count_by (λ l. is_alike mark l.mark) looks)

abbrev pub first_text : List Look → List ℕ
first_text looks = kind_text (codes ". erased") Erased looks ++ kind_text (codes "- dead") Dead looks ++ kind_text (codes "# live") Live looks

abbrev pub last_text : List Look → List ℕ
last_text looks =
    kind_text (codes "o old copy") OldCopy looks ++ kind_text (codes "x uncorrectable") Uncorrectable looks
    ++ kind_text (codes "? not judged") Unjudged looks

-- what each character says, and how many pages have it
unfoldable pub totals_text : List Look → List ℕ
totals_text looks = first_text looks ++ last_text looks

abbrev pub body_text : Shape → List Look → List ℕ
body_text shape looks = blocks_text shape looks ++ totals_text looks

-- ---- an image

abbrev pub count_told : Option SuperRec → ℕ
count_told None = 0
count_told (Some rec) = rec.count

-- the count of calls that the super page tells
abbrev pub count_of : Image → ℕ
count_of image = count_told (super_of_pages (committed_of image))

abbrev pub heading_of : Image → OpeningAnswer → List ℕ
heading_of image answers_blank = codes "blank\n"
heading_of image (answers_damaged place) = damaged_text place
heading_of image opens = opened_line (count_of image)

-- The map of an image.
abbrev pub map_text : Image → List ℕ
map_text image = heading_of image (opening_answer image) ++ body_text (shape_of_image image) (looks_of image)
