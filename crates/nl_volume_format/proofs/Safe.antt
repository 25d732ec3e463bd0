-- What a stop leaves while a volume is made opens as blank, as damaged at its super page, or as the empty volume.
use Rattle.std.proofs.Common.{◌≡◌, ◌⊎◌, inl, inr}
use Rattle.nl_field.specs.Page.{erased, page_at, uncorrectable, written}
use Rattle.nl_spec_image.specs.Formatted.{formatted_root, formatted_super}
use Rattle.nl_spec_image.proofs.FormattedProofs.{formatted_is_consistent}
use Rattle.nl_volume_format.specs.Making.{MakingsAreSafe, OpensAsNew}
use Rattle.nl_volume_format.proofs.Damaged.{damaged_at_super}
use Rattle.nl_volume_format.proofs.ReadableOnes.{none_readable, root_alone}

pub makings_are_safe : MakingsAreSafe
makings_are_safe blocks pages image legal begun = by begun.root begun.numbers
  where
    alone : page_at image 0 ≡ written formatted_root → (page_at image 1 ≡ erased) ⊎ (page_at image 1 ≡ uncorrectable) → OpensAsNew image
    alone root none = inr (inl (damaged_at_super image (root_alone blocks pages image begun root none)))

    by : (page_at image 0 ≡ erased) ⊎ ((page_at image 0 ≡ uncorrectable) ⊎ (page_at image 0 ≡ written formatted_root))
        → (page_at image 1 ≡ erased) ⊎ ((page_at image 0 ≡ written formatted_root) × ((page_at image 1 ≡ uncorrectable) ⊎ (page_at image 1 ≡ written (formatted_super blocks pages)))) → OpensAsNew image
    by root (inr (written_root, inl cut)) = alone written_root (inr cut)
    by root (inr (written_root, inr numbers)) =
        inr (inr (formatted_is_consistent blocks pages image begun.whole begun.same_blocks begun.same_pages legal (record { root = written_root; numbers = numbers; others = begun.others })))
    by (inl none) (inl e) = inl (none_readable blocks pages image begun (inl none) (inl e))
    by (inr (inl cut)) (inl e) = inl (none_readable blocks pages image begun (inr cut) (inl e))
    by (inr (inr root)) (inl e) = alone root (inl e)
