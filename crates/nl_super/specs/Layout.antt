-- Whether a super record fits the medium that has it.
use Rattle.std.specs.Prelude.{◌==◌, Bool, ◌&&◌}
use Rattle.nl_field.specs.Numbers.{is_legal}
use Rattle.nl_field.specs.declared.super_page.SuperRec.{SuperRec}
use Rattle.nl_nand.specs.declared.geometry.Geometry.{Geometry}

-- the numbers of a super page are the medium's, and legal
abbrev pub is_layout_of : Geometry → SuperRec → Bool
is_layout_of geometry rec = rec.blocks == geometry.blocks && rec.pages == geometry.pages && is_legal rec.blocks rec.pages
