-- The super page, page by page.
use Rattle.std.specs.Prelude.{ℕ, nat_lt, Bool, ◌&&◌, if◌then◌else◌, option_map, unwrap_or}
use Rattle.nl_field.specs.SuperPage.{super_of}
use Rattle.nl_field.specs.Medium.{Readable, stamp_on}
use Rattle.nl_field.specs.Scan.{is_super_rec}
use Rattle.nl_scan.specs.declared.super_seen.SuperSeen.{SuperSeen}

abbrev pub no_super : SuperSeen
no_super = record { stamp = 0; version = 0 }

-- the version that a page spells, 0 where it spells none
abbrev pub version_on : Readable → ℕ
version_on r = unwrap_or (option_map (λ rec. rec.version) (super_of r.main)) 0

-- the page is the super page among the pages so far
abbrev pub is_newer : SuperSeen → Readable → Bool
is_newer newest r = is_super_rec r.rec && nat_lt newest.stamp (stamp_on r)

abbrev pub super_after : SuperSeen → Readable → SuperSeen
super_after newest r = if is_newer newest r then record { stamp = stamp_on r; version = version_on r } else newest
