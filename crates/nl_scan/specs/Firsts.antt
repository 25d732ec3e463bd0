-- The first page of each stamp in a segment, with its record, and whether a page of that stamp differs from it.
use Rattle.std.specs.Prelude.{ℕ, ◌==◌, Bool, false, not, ◌&&◌, ◌||◌, List, find, Option, Some, None, option_map, bytes_eq}
use Rattle.std.specs.List.{list_any}
use Rattle.nl_field.specs.Page.{Page, Image, page_at}
use Rattle.nl_field.specs.Medium.{Readable, readable, stamp_on}
use Rattle.nl_field.specs.Scan.{agree, without_wear}
use Rattle.nl_field.specs.SpareRecord.{spare_bytes}
use Rattle.nl_field.specs.declared.spare.SpareRec.{SpareRec}
use Rattle.nl_scan.specs.declared.firsts.First.{First}

-- two spare records are the same apart from wear
abbrev pub same_record : SpareRec → SpareRec → Bool
same_record a b = bytes_eq (spare_bytes (without_wear a)) (spare_bytes (without_wear b))

abbrev pub agrees_with : SpareRec → List ℕ → Option Readable → Bool
agrees_with rec main None = false
agrees_with rec main (Some q) = agree q (record { page = 0; rec = rec; main = main })

-- the page of that number is readable, and agrees with a page of this record and these main bytes
abbrev pub is_alike : SpareRec → List ℕ → ℕ × Page → Bool
is_alike rec main page = agrees_with rec main (readable page)

-- The first page of a stamp, once one more of that stamp was seen. That one agrees with it where the first page is alike, and
-- the record that was noted of it is the same apart from wear.
abbrev pub noted : Image → Readable → Option First → First
noted image r None = record { page = r.page; rec = r.rec; mixed = false }
noted image r (Some f) =
    record {
      page = f.page;
      rec = f.rec;
      mixed = f.mixed || not (is_alike r.rec r.main (f.page, page_at image f.page) && same_record f.rec r.rec);
    }

-- the first of these pages with this stamp, and whether one of them with that stamp differs from it
unfoldable pub first_seen : List Readable → ℕ → Option First
first_seen pages stamp =
    option_map (λ f. record { page = f.page; rec = f.rec; mixed = list_any (λ q. stamp_on q == stamp && not (agree f q)) pages })
    (find (λ r. stamp_on r == stamp) pages)
