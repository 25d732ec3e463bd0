use Rattle.std.proofs.Common.{◌≡◌, ℕ, ◌<◌, ◌≤◌, Some, length}
use Rattle.nl_field.specs.declared.answers.VirtualWrite.TheVariants.{Done}
use Rattle.nl_vseg.specs.Places.{place_of, stamp_in_place}
use Rattle.nl_vseg.specs.Copies.{ChangesIn, CopiesTo, HasCopiedPlace, UsesMore}
use Rattle.nl_vseg.specs.Copying.{target_at, AreTargets, HasHole, IsAt, IsMovedPlace}
use Rattle.nl_vseg.specs.Used.{used_of}
use Rattle.nl_vseg.proofs.copy.copy_block.Given as goal

abbrev pub invariant-loop-v : goal.invariant-loop-v
invariant-loop-v g l = record {
  used : UsesMore l.fn.pages l.fn.target l.initial.blocks l.blocks;
  copied : HasCopiedPlace g.M.Nand l.fn.pages l.fn.victim l.fn.target l.initial.copies.items l.copies.items l.blocks l.initial.media l.media;
  count : length l.copies.items ≡ length l.initial.copies.items;
  stamps : (u : ℕ) → stamp_in_place (place_of l.copies.items u) ≡ stamp_in_place (place_of l.initial.copies.items u);
  behind : (u : ℕ) → l.v ≤ u → place_of l.copies.items u ≡ place_of l.initial.copies.items u;
  moved : (u : ℕ) → u < l.v → IsMovedPlace l.fn.pages l.fn.victim l.fn.target (used_of l.blocks l.fn.target) (place_of l.initial.copies.items u) (place_of l.copies.items u);
  targets : AreTargets l.fn.pages l.fn.target (used_of l.blocks l.fn.target) l.targets.items;
  sources : (at page : ℕ) → target_at l.targets.items at ≡ Some page → (u : ℕ) × (u < l.v) × IsAt l.fn.pages l.fn.victim at (place_of l.initial.copies.items u);
  hole : HasHole l.fn.pages l.fn.victim l.initial.copies.items;
  changed : g.M.Nand.tells → ChangesIn g.M.Nand l.fn.pages l.fn.target l.initial.copies.items (g.M.Nand.contents l.initial.media) l.initial.media l.media;
  medium : CopiesTo g.M.Nand l.fn.pages l.fn.target l.fn.wear Done l.initial.media l.media;
}
