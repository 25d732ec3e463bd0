-- A volume between two commits.
use Rattle.std.specs.Prelude.{◌≡◌, ◌<◌, [], length}
use Rattle.nl_field.specs.Numbers.{shape_for}
use Rattle.nl_iface.specs.declared.counts.Counts.{Ghosts}
use Rattle.nl_meta.specs.Pages.{Pages}
use Rattle.nl_journal.specs.Progress.{Progress}
use Rattle.nl_journal.specs.Standing.{JournalInOrder}

-- A device of the least numbers that keeps a spare block; nothing is dirty or frozen, and the journal is in order.
pub record IsLeastDevice {D : Type 0} (g : Ghosts D) (s : D) (p : Progress) (pages : Pages) : Type 0 where
  pub formed : g.formed s
  pub numbers : g.shape s ≡ shape_for 32 32
  pub spare : g.keeps_spare s
  pub order : JournalInOrder g s p pages.frozen
  pub count : length pages.running ≡ 103
  pub clean : pages.dirty ≡ []
  pub thawed : pages.frozen.addresses ≡ []
