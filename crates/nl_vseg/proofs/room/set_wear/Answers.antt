use Rattle.std.proofs.Common.{◌<◌, true, false, refl, sym, ◌∙◌, ap, subst}
use Rattle.nl_blocks.specs.declared.states.BlockState.TheVariants.{Free, Sealed}
use Rattle.nl_blocks.specs.Table.{BlockRow, Table, block_at, in_state}
use Rattle.nl_blocks.proofs.TableLaws.{block_at-with_block_same}
use Rattle.nl_vseg.specs.Copying.{SetsFree}
use Rattle.nl_vseg.specs.Used.{IsClosed}
use Rattle.nl_vseg.proofs.Using.{closed_then, closed_with}
use Rattle.nl_vseg.proofs.Blocks.{has_block, other_row, restated, restated_again, restated_same}
use Rattle.nl_vseg.proofs.room.set_wear.Goals as goal

pub returns-clause-states : goal.returns-clause-states
returns-clause-states c =
    let old = c.args.blocks.now in
    let one = subst (SetsFree c.args.block true old) (sym c.freed.ensures) (restated old c.args.block (in_state (block_at old c.args.block) Free) c.requires.first c.requires.within) in
    let first_1 = one.numbers.same_first ∙ c.requires.first in
    let within_1 = subst (λ n. c.args.block < n) (sym one.numbers.same_count) c.requires.within in
    let two = subst (SetsFree c.args.block true c.freed.new.self) (sym c.found-2.ensures)
    (restated c.freed.new.self c.args.block (record { state = Free; wear = c.args.wear; pages = (block_at c.freed.new.self c.args.block).pages }) first_1 within_1) in
    let first_2 = two.numbers.same_first ∙ first_1 in
    let within_2 = subst (λ n. c.args.block < n) (sym two.numbers.same_count) within_1 in
    let three = subst (SetsFree c.args.block false c.found-2.new.self) (sym c.seal.ensures)
    (restated c.found-2.new.self c.args.block (in_state (block_at c.found-2.new.self c.args.block) Sealed) first_2 within_2) in
    restated_same (sym c.is_free.ensures ∙ c.if-is_free.false) (restated_again (restated_again one two) three)

pub returns-clause-wear : goal.returns-clause-wear
returns-clause-wear c =
    let old = c.args.blocks.now in
    let one = subst (SetsFree c.args.block true old) (sym c.freed.ensures) (restated old c.args.block (in_state (block_at old c.args.block) Free) c.requires.first c.requires.within) in
    let first_1 = one.numbers.same_first ∙ c.requires.first in
    let within_1 = subst (λ n. c.args.block < n) (sym one.numbers.same_count) c.requires.within in
    let two = subst (SetsFree c.args.block true c.freed.new.self) (sym c.found-2.ensures)
    (restated c.freed.new.self c.args.block (record { state = Free; wear = c.args.wear; pages = (block_at c.freed.new.self c.args.block).pages }) first_1 within_1) in
    let first_2 = two.numbers.same_first ∙ first_1 in
    let within_2 = subst (λ n. c.args.block < n) (sym two.numbers.same_count) within_1 in
    let found = ap (λ (t : Table). block_at t c.args.block) c.found-2.ensures
    ∙ block_at-with_block_same c.freed.new.self c.args.block (record { state = Free; wear = c.args.wear; pages = (block_at c.freed.new.self c.args.block).pages }) (has_block c.freed.new.self c.args.block first_1 within_1) in
    let sealed = ap (λ (t : Table). block_at t c.args.block) c.seal.ensures
    ∙ block_at-with_block_same c.found-2.new.self c.args.block (in_state (block_at c.found-2.new.self c.args.block) Sealed) (has_block c.found-2.new.self c.args.block first_2 within_2) in
    ap (λ (r : BlockRow). r.wear) sealed ∙ ap (λ (r : BlockRow). r.wear) found

pub returns-clause-others : goal.returns-clause-others
returns-clause-others c other ne =
    let old = c.args.blocks.now in
    let block = c.args.block in
    let one = subst (SetsFree block true old) (sym c.freed.ensures) (restated old block (in_state (block_at old block) Free) c.requires.first c.requires.within) in
    let first_1 = one.numbers.same_first ∙ c.requires.first in
    let row_2 : BlockRow = record { state = Free; wear = c.args.wear; pages = (block_at c.freed.new.self block).pages } in
    let first_2 = ap (λ (t : Table). t.first) c.found-2.ensures ∙ first_1 in
    ap (λ (r : BlockRow). r.wear)
    (ap (λ (t : Table). block_at t other) c.seal.ensures ∙ (other_row c.found-2.new.self block other (in_state (block_at c.found-2.new.self block) Sealed) first_2 ne
    ∙ (ap (λ (t : Table). block_at t other) c.found-2.ensures ∙ (other_row c.freed.new.self block other row_2 first_1 ne
    ∙ (ap (λ (t : Table). block_at t other) c.freed.ensures ∙ other_row old block other (in_state (block_at old block) Free) c.requires.first ne)))))

pub returns-then-is_free-clause-used : goal.returns-then-is_free-clause-used
returns-then-is_free-clause-used c =
    let old = c.args.blocks.now in
    subst (IsClosed c.args.block old) (sym c.found.ensures)
    (closed_with old c.args.block (record { state = Free; wear = c.args.wear; pages = (block_at old c.args.block).pages }) c.requires.first c.requires.within refl)

pub returns-clause-used : goal.returns-clause-used
returns-clause-used c =
    let old = c.args.blocks.now in
    let block = c.args.block in
    let row_1 : BlockRow = in_state (block_at old block) Free in
    let one = subst (SetsFree block true old) (sym c.freed.ensures) (restated old block row_1 c.requires.first c.requires.within) in
    let first_1 = one.numbers.same_first ∙ c.requires.first in
    let within_1 = subst (λ n. block < n) (sym one.numbers.same_count) c.requires.within in
    let row_2 : BlockRow = record { state = Free; wear = c.args.wear; pages = (block_at c.freed.new.self block).pages } in
    let two = subst (SetsFree block true c.freed.new.self) (sym c.found-2.ensures) (restated c.freed.new.self block row_2 first_1 within_1) in
    let first_2 = two.numbers.same_first ∙ first_1 in
    let within_2 = subst (λ n. block < n) (sym two.numbers.same_count) within_1 in
    let row_3 : BlockRow = in_state (block_at c.found-2.new.self block) Sealed in
    closed_then one.numbers.same_count
    (subst (IsClosed block old) (sym c.freed.ensures) (closed_with old block row_1 c.requires.first c.requires.within refl))
    (closed_then two.numbers.same_count
    (subst (IsClosed block c.freed.new.self) (sym c.found-2.ensures) (closed_with c.freed.new.self block row_2 first_1 within_1 refl))
    (subst (IsClosed block c.found-2.new.self) (sym c.seal.ensures) (closed_with c.found-2.new.self block row_3 first_2 within_2 refl)))
