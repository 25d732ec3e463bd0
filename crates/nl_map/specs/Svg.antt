-- The picture of a map: a document in the language SVG, with a row for each block, in which pages that are found alike stand as one bar, of 6
-- points for each page; above them what each colour says, with how many pages have it. The box before a row is the darker the more its block
-- is worn.
use Rattle.std.specs.Prelude.{ℕ, ◌+◌, ◌-◌, ◌*◌, ◌/◌, max, nat_lt, Bool, true, false, List, [], ◌∷◌, ◌++◌, codes, decimal, flat_map}
use Rattle.std.specs.List.{range_with_len}
use Rattle.nl_field.specs.Medium.{shape_of_image}
use Rattle.nl_field.specs.Page.{Image}
use Rattle.nl_field.specs.declared.shape.Shape.{Shape}
use Rattle.nl_meta.specs.Walk.{opening_answer}
use Rattle.nl_print.specs.Texts.{field}
use Rattle.nl_map_pages.specs.Marks.{looks_of}
use Rattle.nl_map_pages.specs.declared.look.Look.{Look}
use Rattle.nl_map_pages.specs.declared.look.Mark.{Mark}
use Rattle.nl_map_pages.specs.declared.look.Mark.TheVariants.{Erased, Dead, Live, OldCopy, Uncorrectable, Unjudged}
use Rattle.nl_map.specs.Runs.{Run, runs}
use Rattle.nl_map.specs.Text.{block_wear, block_words, heading_of, kind_text, own_looks}

-- a number between two pieces of text
unfoldable pub around : List ℕ → ℕ → List ℕ → List ℕ
around before n after = before ++ decimal n ++ after

-- ---- the head

unfoldable pub geometry_text : Shape → List ℕ
geometry_text shape = field (codes "blocks") shape.blocks ++ field (codes " pages") shape.pages

-- the size of the picture
unfoldable pub size_text : Shape → List ℕ
size_text shape =
    around (codes "<svg xmlns='http://www.w3.org/2000/svg' width='") (6 * shape.pages + 240) (codes "' height='")
    ++ around [] (8 * shape.blocks + 148) (codes "'>\n")

-- the colours, which can be told apart without red and green
unfoldable pub colours_text : List ℕ
colours_text =
    codes "<style>text{font:10px monospace}.n{font-size:7px;text-anchor:end}.w{stroke:#888;stroke-width:.5}\n"
    ++ codes ".e{fill:#e8e8e8}.d{fill:#e69f00}.l{fill:#0072b2}.o{fill:#56b4e9}.x{fill:#000}.u{fill:#cc79a7}</style>\n"

-- the title, which a browser shows as the name of the page, and once more on a white ground
unfoldable pub title_text : Shape → List ℕ
title_text shape =
    codes "<title>" ++ geometry_text shape ++ codes "</title>\n<rect width='100%' height='100%' fill='#fff'/>\n<text x='8' y='16'>"
    ++ geometry_text shape ++ codes "</text>\n<text x='8' y='30'>"

-- what stands before the first line of the map
unfoldable pub head_text : Shape → List ℕ
head_text shape = size_text shape ++ colours_text ++ title_text shape

-- ---- what each colour says

-- the class of a page
abbrev pub class_text : Mark → List ℕ
class_text Erased = codes "e"
class_text Dead = codes "d"
class_text Live = codes "l"
class_text OldCopy = codes "o"
class_text Uncorrectable = codes "x"
class_text Unjudged = codes "u"

-- so many points from the top a colour, with the words for it, and how many pages have it
unfoldable pub entry_text : ℕ → List ℕ → Mark → List Look → List ℕ
entry_text y words mark looks =
    around (codes "<g transform='translate(8,") y (codes ")'><rect class='") ++ class_text mark
    ++ codes "' width='10' height='10'/><text x='16' y='9'>" ++ kind_text words mark looks ++ codes "</text></g>\n"

abbrev pub first_entries : List Look → List ℕ
first_entries looks =
    entry_text 38 (codes "erased") Erased looks ++ entry_text 52 (codes "dead") Dead looks ++ entry_text 66 (codes "live") Live looks

abbrev pub last_entries : List Look → List ℕ
last_entries looks =
    entry_text 80 (codes "old copy") OldCopy looks ++ entry_text 94 (codes "uncorrectable") Uncorrectable looks
    ++ entry_text 108 (codes "not judged") Unjudged looks

-- what the boxes say, with the greatest wear of all pages
unfoldable pub boxes_text : ℕ → List ℕ
boxes_text most =
    around (codes "<text x='8' y='132'>wear of a block: white 0, black ") (max most 1) (codes "; v virtual, p physical</text>\n")

unfoldable pub legend_text : List Look → List ℕ
legend_text looks = first_entries looks ++ last_entries looks ++ boxes_text (block_wear looks)

-- ---- a block

-- how bright the box is: 255, which is white, for no wear, and 0 for the greatest of all pages
abbrev pub brightness : ℕ → ℕ → ℕ
brightness wear most = 255 - wear * 255 / max most 1

unfoldable pub box_text : ℕ → List ℕ
box_text bright =
    around (codes "<rect class='w' x='-10' width='8' height='6' fill='rgb(") bright (codes ",") ++ around [] bright (codes ",")
    ++ around [] bright (codes ")'/>")

abbrev pub label_end : Bool → List ℕ
label_end true = codes " v</text>"
label_end false = codes " p</text>"

-- its number and the letter of its segment
unfoldable pub label_text : ℕ → Bool → List ℕ
label_text block is_virtual = around (codes "</title><text class='n' x='-12' y='6'>") block (label_end is_virtual)

-- pages that are found alike
unfoldable pub bar_text : Run → List ℕ
bar_text r =
    codes "<rect class='" ++ class_text r.mark ++ around (codes "' x='") (6 * r.from) (codes "' width='")
    ++ around [] (6 * r.count) (codes "' height='6'/>")

abbrev pub bars_text : List Look → List ℕ
bars_text looks = flat_map bar_text (runs looks)

-- a row; a browser shows the words of the block where one points at it
unfoldable pub row_text : ℕ → Bool → List Look → ℕ → List ℕ
row_text block is_virtual looks most =
    around (codes "<g transform='translate(44,") (8 * block + 140) (codes ")'><title>") ++ block_words block is_virtual looks
    ++ label_text block is_virtual ++ box_text (brightness (block_wear looks) most) ++ bars_text looks ++ codes "</g>\n"

unfoldable pub rows_text : Shape → List Look → List ℕ
rows_text shape looks =
    flat_map (λ block. row_text block (nat_lt block shape.vblocks) (own_looks shape looks block) (block_wear looks))
    (range_with_len 0 shape.blocks)

-- ---- the document

-- with this first line of the map
abbrev pub svg_text : List ℕ → Shape → List Look → List ℕ
svg_text line shape looks =
    head_text shape ++ line ++ codes "</text>\n" ++ legend_text looks ++ rows_text shape looks ++ codes "</svg>\n"

-- The picture of the map of an image.
abbrev pub map_svg : Image → List ℕ
map_svg image = svg_text (heading_of image (opening_answer image)) (shape_of_image image) (looks_of image)
