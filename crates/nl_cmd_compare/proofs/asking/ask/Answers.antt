use Rattle.std.proofs.Common.{◌≡◌, ◌++◌, ◌∷◌, [], ◌+◌, List, length, refl, arith}
use Rattle.nl_tree.specs.declared.call.Line.{Line}
use Rattle.nl_turns.specs.History.{with_lines}
use Rattle.nl_turns.specs.Served.{IsLineOf}
use Rattle.nl_volume.specs.contracts.volume.VolumeKept.TheImpl.{ghosts}
use Rattle.nl_cmd_course.specs.Asking.{entries_from, line_of, lines_from}
use Rattle.nl_cmd_course.proofs.Asked.{answers_here, found, has_more, more_lines}
use Rattle.nl_cmd_compare.proofs.asking.ask.Goals as goal

pub effect-requires : goal.effect-requires
effect-requires g c =
    let may = c.requires.may in
    let asked = may.2 in
    let has = may.3 in
    let n = c.args.number in
    let call = c.args.call.now in
    let at : n ≡ 1 + length asked = (let e = may.4 in omega (arith, e)) in (
      may.0,
      with_lines may.1 (lines_from 1 asked ++ line_of n call ∷ []),
      entries_from 1 asked,
      has.follows (line_of n call ∷ []) (more_lines asked n call (omega (arith, at)) has.bounded c.requires.call),
      record { numbered = omega (arith, at); bounded = c.requires.call; found = (line_of n call, found n 1 asked call [] at, refl, refl) },
    )

pub returns-clause-answers : goal.returns-clause-answers
returns-clause-answers g c told origin o asked has next =
    let n = c.args.number in
    let call = c.args.call.now in
    let at : n ≡ 1 + length asked = omega (arith, next) in
    answers_here o asked (line_of n call ∷ []) call c.effect.result.reply c.effect.new.out
    (c.effect.ensures.answer told origin (with_lines o (lines_from 1 asked ++ line_of n call ∷ [])) (entries_from 1 asked)
    (has.follows (line_of n call ∷ []) (more_lines asked n call (omega (arith, at)) has.bounded c.requires.call))
    (record { numbered = omega (arith, at); bounded = c.requires.call; found = (line_of n call, found n 1 asked call [] at, refl, refl) }))

pub returns-clause-asked : goal.returns-clause-asked
returns-clause-asked g c origin o asked has next =
    let n = c.args.number in
    let call = c.args.call.now in
    let reply = c.effect.result.reply in
    let at : n ≡ 1 + length asked = omega (arith, next) in
    let of : (later : List Line) → IsLineOf (with_lines o (lines_from 1 asked ++ line_of n call ∷ later)) 0 n call =
    λ later. record { numbered = omega (arith, at); bounded = c.requires.call; found = (line_of n call, found n 1 asked call later at, refl, refl) } in
    has_more (ghosts g.row.M g.M.Nand g.M.Nand-dict).stands g.M.Nand.tells origin o asked c.args.volume.now c.effect.new.self n call reply at c.requires.call has
    (λ later each. c.effect.ensures.stands origin (with_lines o (lines_from 1 asked ++ line_of n call ∷ later)) (entries_from 1 asked) (has.follows (line_of n call ∷ later) each) (of later))
    (λ told. (answers_here o asked (line_of n call ∷ []) call reply c.effect.new.out
    (c.effect.ensures.answer told origin (with_lines o (lines_from 1 asked ++ line_of n call ∷ [])) (entries_from 1 asked) (has.follows (line_of n call ∷ []) (more_lines asked n call (omega (arith, at)) has.bounded c.requires.call)) (of []))).0)
