-- What an opening tells of an image in numbers: the pointers whose pages are not at their names, and the wear of its readable pages.
use Rattle.std.specs.Prelude.{◌≡◌, ◌==◌, ℕ, ⊤, Bool, not, max, min, List, [], ◌∷◌, count_by, fold, map, unwrap_or}
use Rattle.nl_field.specs.Page.{Image}
use Rattle.nl_field.specs.Scan.{greatest_wear, least_wear}
use Rattle.nl_field.specs.Space.{physical_spare, place_outside}
use Rattle.nl_field.specs.SpareRecord.{wear_of}
use Rattle.nl_field.specs.declared.pointer.Pointer.{Pointer}
use Rattle.nl_field.specs.declared.seen.Seen.{Seen}
use Rattle.nl_meta.specs.Nodes.{committed_pointers}
use Rattle.nl_core_open.specs.declared.opening.Opened.{Opened}
use Rattle.nl_core_open.specs.declared.opening.Opened.TheVariants.{Ready, Blank, Damaged, Fault, Memory}

-- ---- pairs

-- the page at which an opening finds a pointer is not the one that it names
abbrev pub is_moved : Image → Pointer → Bool
is_moved image p =
    not (unwrap_or (place_outside image (physical_spare image (map (λ h. h.pointer.stamp) (committed_pointers image))) p) p.name == p.name)

-- how many pairs there are right after an opening
unfoldable pub pairs_of : Image → ℕ
pairs_of image = count_by (λ h. is_moved image h.pointer) (committed_pointers image)

-- ---- wear

-- the greatest wear of pages that a scan saw, 0 where it saw none
unfoldable pub greatest_seen : List Seen → ℕ
greatest_seen seen = fold (λ best s. max best (wear_of s.rec)) 0 seen

-- the least wear that a scan saw, 0 where it saw no page
unfoldable pub least_seen : List Seen → ℕ
least_seen [] = 0
least_seen (s ∷ rest) = fold (λ best q. min best (wear_of q.rec)) (wear_of s.rec) rest

-- An opening tells the least and the greatest wear of the readable pages.
abbrev pub ReportsWear : {M : Type 0} → Image → Opened M → Type 0
ReportsWear image (Ready v figures) = (figures.least ≡ least_wear image) × (figures.greatest ≡ greatest_wear image)
ReportsWear image (Blank m) = ⊤
ReportsWear image (Damaged place m) = ⊤
ReportsWear image (Fault m) = ⊤
ReportsWear image (Memory m) = ⊤
