-- What a stop leaves of a call of the store, by its ending.
use Rattle.std.specs.Prelude.{◌⊎◌, ℕ}
use Rattle.nl_field.specs.Page.{Image}
use Rattle.nl_spec_headline.specs.Streams.{stops_within}
use Rattle.nl_volume_format.specs.Making.{OpensAsNew}
use Rattle.nl_nand.specs.declared.nand.Nand.{Ghosts}
use Rattle.nl_spec_image.specs.Crash.{Run}

-- Nothing that was not left before; or besides what opens as new; or besides what opens as the tree after a prefix of a run.
pub data Leaving : Type 0 where
  nothing_new : Leaving
  new_volume : Leaving
  prefixes_of : Run → Leaving

-- What a call leaves that took the medium from the first of these to the second. Of a medium that does not tell its contents nothing is
-- said.
abbrev pub leaves_within : {M : Type 0} → Ghosts M → M → M → Leaving → Type 0
leaves_within g old new nothing_new = g.tells → (moment : ℕ) (image : Image) → g.left new moment image → g.left old moment image
leaves_within g old new new_volume =
    g.tells → (moment : ℕ) (image : Image) → g.left new moment image → g.left old moment image ⊎ OpensAsNew image
leaves_within g old new (prefixes_of run) = stops_within g old new run
