-- What a scan of all pages tells.
use Rattle.std.specs.Prelude.{ℕ, ◌+◌, ◌==◌, nat_lt, max, min, Bool, false, not, ◌&&◌, if◌then◌else◌, List, [], ◌∷◌, filter, find, fold, bytes_eq, option_map, option_and_then, unwrap_or}
use Rattle.std.specs.List.{list_any}
use Rattle.nl_field.specs.Page.{Image}
use Rattle.nl_field.specs.SpareRecord.{spare_bytes, wear_of}
use Rattle.nl_field.specs.SuperPage.{super_of}
use Rattle.nl_field.specs.Medium.{Readable, stamp_on, readable_pages, virtual_pages, physical_pages}
use Rattle.nl_field.specs.declared.spare.SpareRec.{SpareRec}
use Rattle.nl_field.specs.declared.spare.SpareRec.TheVariants.{Virtual, Physical}

abbrev pub without_wear : SpareRec → SpareRec
without_wear (Virtual vaddr stamp wear) = Virtual vaddr stamp 0
without_wear (Physical tag stamp wear) = Physical tag stamp 0

-- two pages have the same main bytes, and apart from wear the same record
abbrev pub agree : Readable → Readable → Bool
agree r q = bytes_eq r.main q.main && bytes_eq (spare_bytes (without_wear r.rec)) (spare_bytes (without_wear q.rec))

-- a lower one of these pages has its stamp and differs
unfoldable pub differs_from_lower : List Readable → Readable → Bool
differs_from_lower pages r = list_any (λ q. nat_lt q.page r.page && stamp_on q == stamp_on r && not (agree q r)) pages

-- The page does not differ from a lower one of these pages of its segment. A page that is none of these differs from none.
abbrev pub agrees_among : List Readable → List Readable → Readable → Bool
agrees_among virtuals physicals r =
    not (list_any (λ q. q.page == r.page && differs_from_lower virtuals q) virtuals)
    && not (list_any (λ q. q.page == r.page && differs_from_lower physicals q) physicals)

-- The page does not differ from a lower one of its segment. A page whose record is not of its segment differs from none.
unfoldable pub agrees_below : Image → Readable → Bool
agrees_below image r = agrees_among (virtual_pages image) (physical_pages image) r

-- one more than the greatest stamp of a readable page in either segment, or 1
unfoldable pub next_stamp_of : Image → ℕ
next_stamp_of image = 1 + fold (λ best r. max best (stamp_on r)) 0 (readable_pages image)

abbrev pub least_on : List Readable → ℕ
least_on [] = 0
least_on (r ∷ rest) = fold (λ best q. min best (wear_of q.rec)) (wear_of r.rec) rest

-- the least wear on a readable page in either segment, 0 where there is none
unfoldable pub least_wear : Image → ℕ
least_wear image = least_on (readable_pages image)

-- the greatest one, 0 where there is none
unfoldable pub greatest_wear : Image → ℕ
greatest_wear image = fold (λ best r. max best (wear_of r.rec)) 0 (readable_pages image)

abbrev pub is_super_rec : SpareRec → Bool
is_super_rec (Virtual vaddr stamp wear) = vaddr == 0
is_super_rec (Physical tag stamp wear) = false

-- The version that the super page of the scan spells, 0 where it spells none: of the readable pages with a virtual record
-- of address 0, in either segment, the least of greatest stamp. A journal image is none of them.
unfoldable pub super_version : Image → ℕ
super_version image =
    let supers = filter (λ r. is_super_rec r.rec) (readable_pages image) in
    unwrap_or (option_map (λ rec. rec.version) (option_and_then (λ r. super_of r.main)
    (find (λ r. not (list_any (λ q. nat_lt (stamp_on r) (stamp_on q)) supers)) supers))) 0

-- the least offset from which the bytes are zero
unfoldable pub zeros_from : List ℕ → ℕ
zeros_from [] = 0
zeros_from (b ∷ rest) = let later = zeros_from rest in if later == 0 && b == 0 then 0 else later + 1
