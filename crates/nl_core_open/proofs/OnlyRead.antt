-- A medium that was only read, by one call after the other.
use Rattle.std.proofs.Common.{◌≡◌, ℕ, ◌∙◌}
use Rattle.nl_field.specs.Page.{Image}
use Rattle.nl_nand.specs.Nand.{MediumOnlyRead}
use Rattle.nl_nand.specs.declared.nand.Nand.{Ghosts}
use Rattle.nl_core_open.specs.Opening.{OnlyReadsMedium}

module _ {M : Type 0} (g : Ghosts M) where
  abbrev pub Reads : M → M → Type 0
  Reads m n = OnlyReadsMedium g.tells g.contents g.clock g.write_faults g.left m n

  pub was_read : (m n : M) → MediumOnlyRead g.geometry g.contents g.clock g.write_faults g.left m n → Reads m n
  was_read m n r = record { same_contents = λ t. r.same_contents; no_more_left = λ t k c l. r.same_left.no_more k c l; same_clock = r.same_clock; same_write_faults = r.same_write_faults }

  pub then_read : (m n o : M) → Reads m n → Reads n o → Reads m o
  then_read m n o a b = record {
    same_contents = λ t. b.same_contents t ∙ a.same_contents t;
    no_more_left = λ t k c l. a.no_more_left t k c (b.no_more_left t k c l);
    same_clock = b.same_clock ∙ a.same_clock;
    same_write_faults = b.same_write_faults ∙ a.same_write_faults;
  }

  -- it was read for the tables of a device, and then by the device
  pub device_read : (m s d : M) → MediumOnlyRead g.geometry g.contents g.clock g.write_faults g.left m s
      → (g.tells → g.contents d ≡ g.contents s) → (g.tells → (k : ℕ) (c : Image) → g.left d k c → g.left s k c) → g.clock d ≡ g.clock s → g.write_faults d ≡ g.write_faults s → Reads m d
  device_read m s d r contents left clock faults = then_read m s d (was_read m s r) (record { same_contents = contents; no_more_left = left; same_clock = clock; same_write_faults = faults })
