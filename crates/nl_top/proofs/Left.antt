-- A medium that came back as it was leaves nothing new.
use Rattle.std.proofs.Common.{◌≡◌, subst}
use Rattle.nl_nand.specs.declared.nand.Nand.{Ghosts}
use Rattle.nl_top.specs.Leaving.{leaves_within, nothing_new}

pub same_leaves : {M : Type 0} (g : Ghosts M) (old new : M) → new ≡ old → leaves_within g old new nothing_new
same_leaves {M = M} g old new same told moment image was = subst (λ (m : M). g.left m moment image) same was
