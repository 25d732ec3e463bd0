use Rattle.std.proofs.Common.{◌≡◌, ℕ, ◌<◌, IfSome, Option, Some, length, true, refl, sym, ◌∙◌, subst, arith}
use Rattle.nl_blocks.specs.declared.states.BlockState.{BlockState}
use Rattle.nl_blocks.specs.declared.states.BlockState.TheVariants.{Active, Target}
use Rattle.nl_blocks.specs.Table.{Table, IsLeastWornFree, block_at, taken, with_block}
use Rattle.nl_vseg.specs.Used.{IsUnusedBlock, is_open_state}
use Rattle.nl_vseg.proofs.Using.{opened_with}
use Rattle.nl_vseg.proofs.room.take.Goals.{then-free-lt2, else-free-lt2}
use Rattle.nl_vseg.proofs.room.take.Goals as goal

-- the block that a call gave out
given : (old new : Table) (x : Option ℕ) (block : ℕ) (state : BlockState) → old.first ≡ 0 → is_open_state state ≡ true → x ≡ Some block → IfSome x (λ b. IsLeastWornFree old b)
    → IfSome x (λ b. new ≡ with_block old b (taken (block_at old b) state)) → IsUnusedBlock block old new
given old new x block state first is named chosen made =
    let has = (subst (λ y. IfSome y (λ b. IsLeastWornFree old b)) named chosen).has in
    let within : block < length old.blocks = (let below = has.below in omega (arith, below, first)) in
    subst (IsUnusedBlock block old) (sym (subst (λ y. IfSome y (λ b. new ≡ with_block old b (taken (block_at old b) state))) named made)) (opened_with old block state first within is)

pub returns-clause-used : goal.returns-clause-used
returns-clause-used c = elim c.if-free-lt2.branch [
  | then-free-lt2 w ↦ subst (IsUnusedBlock c.in-Some.block c.args.blocks.now) (sym w.blocks-is)
      (given c.args.blocks.now w.take_reserve-taken.new.self w.take_reserve-taken.result c.in-Some.block Target c.requires.first refl (sym w.taken-is ∙ c.in-Some.is) w.take_reserve-taken.ensures.chosen w.take_reserve-taken.ensures.taken)
  | else-free-lt2 w ↦ subst (IsUnusedBlock c.in-Some.block c.args.blocks.now) (sym w.blocks-is)
      (given c.args.blocks.now w.take_free-taken.new.self w.take_free-taken.result c.in-Some.block Active c.requires.first refl (sym w.taken-is ∙ c.in-Some.is) w.take_free-taken.ensures.chosen w.take_free-taken.ensures.taken)
]
