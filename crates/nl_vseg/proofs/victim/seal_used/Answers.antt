use Rattle.std.proofs.Common.{refl, sym, ◌∙◌, ap, subst}
use Rattle.std.proofs.lemmas.Bool.{false≢true}
use Rattle.nl_blocks.specs.declared.states.BlockState.TheVariants.{Sealed}
use Rattle.nl_blocks.specs.Table.{block_at, in_state}
use Rattle.nl_vseg.specs.Layout.{wears_of}
use Rattle.nl_vseg.proofs.Wears.{wears_kept}
use Rattle.nl_vseg.specs.Used.{IsClosed, is_open_state}
use Rattle.nl_vseg.proofs.Using.{closed_still, closed_with}
use Rattle.nl_vseg.proofs.victim.seal_used.Goals.{in-Free, in_default}
use Rattle.nl_vseg.proofs.victim.seal_used.Goals as goal

pub returns-clause-wears : goal.returns-clause-wears
returns-clause-wears c = ap wears_of c.seal.ensures ∙ wears_kept c.args.blocks.now c.args.block (in_state (block_at c.args.blocks.now c.args.block) Sealed) refl

pub returns-then-matches-clause-used : goal.returns-then-matches-clause-used
returns-then-matches-clause-used c = closed_still c.args.blocks.now c.args.block (elim c.match-matches.branch [
  | in-Free w ↦ ap is_open_state (sym c.state.ensures ∙ w.in-Free.is)
  | in_default w ↦ absurd (false≢true (sym w.matches-is ∙ c.if-matches.true))
])

pub returns-clause-used : goal.returns-clause-used
returns-clause-used c =
    let old = c.args.blocks.now in
    subst (IsClosed c.args.block old) (sym c.seal.ensures) (closed_with old c.args.block (in_state (block_at old c.args.block) Sealed) c.requires.first c.requires.within refl)
