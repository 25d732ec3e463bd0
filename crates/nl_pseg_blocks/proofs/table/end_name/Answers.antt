use Rattle.std.proofs.Common.{◌≡◌, ⊎_elim, ℕ, zero, suc, ◌-◌, true, refl, sym, ◌∙◌, ap, subst, length-set}
use Rattle.std.proofs.lemmas.Bool.{cases_eq}
use Rattle.nl_blocks.specs.declared.states.BlockState.{BlockState}
use Rattle.nl_blocks.specs.declared.states.BlockState.TheVariants as the
use Rattle.nl_blocks.specs.Table.{BlockRow, Table, HasBlock, after_erase, block_at, in_state, is_retired_state, names_of, with_block}
use Rattle.nl_blocks.proofs.TableLaws.{block_at-with_block_other}
use Rattle.nl_pseg_blocks.specs.Uses.{Use, is_kept_state, use_in, use_of, SameFill, SameMarks, SameNumbers}
use Rattle.nl_pseg_blocks.proofs.Tables.{fill_shut, row_here, same_marks, shut_after, shut_retired, shut_risen, use_here, use_other, with_has}
use Rattle.nl_pseg_blocks.proofs.table.end_name.Goals as goal

kept_after : (n : ℕ) → is_kept_state (after_erase n) ≡ true
kept_after zero = refl
kept_after (suc n) = refl

kept_retired : (s : BlockState) → is_retired_state s ≡ true → is_kept_state s ≡ true
kept_retired the.Free is = refl
kept_retired the.Active is = is
kept_retired the.Target is = is
kept_retired the.Sealed is = is
kept_retired the.Victim is = is
kept_retired (the.Retired names) is = refl

abbrev row_of : BlockRow → BlockRow
row_of row = in_state row (after_erase (names_of row.state - 1))

module _ (t : Table) (block : ℕ) (has : HasBlock t block) (retired : is_retired_state (block_at t block).state ≡ true) where
  abbrev new : Table
  new = with_block t block (row_of (block_at t block))

  here_use : use_in new block ≡ use_of (row_of (block_at t block))
  here_use = use_here new block (with_has t block block (row_of (block_at t block)) has) ∙ ap use_of (row_here t block (row_of (block_at t block)) has)

  pub kept_all : (other : ℕ) → (use_in new other).is_kept ≡ (use_in t other).is_kept
  kept_all other = ⊎_elim
      (λ e. ap (λ n. (use_in new n).is_kept) e ∙ (ap (λ (u : Use). u.is_kept) here_use ∙ (kept_after (names_of (block_at t block).state - 1)
      ∙ sym (ap (λ n. (use_in t n).is_kept) e ∙ (ap (λ (u : Use). u.is_kept) (use_here t block has) ∙ kept_retired (block_at t block).state retired)))))
      (λ ne. ap (λ (u : Use). u.is_kept) (use_other t block other (row_of (block_at t block)) has ne))
      (cases_eq other block)

  pub wear_all : (other : ℕ) → (use_in new other).wear ≡ (use_in t other).wear
  wear_all other = ⊎_elim
      (λ e. ap (λ n. (use_in new n).wear) e ∙ (ap (λ (u : Use). u.wear) here_use ∙ sym (ap (λ n. (use_in t n).wear) e ∙ ap (λ (u : Use). u.wear) (use_here t block has))))
      (λ ne. ap (λ (u : Use). u.wear) (use_other t block other (row_of (block_at t block)) has ne))
      (cases_eq other block)

pub returns-clause-numbers : goal.returns-clause-numbers
returns-clause-numbers c =
    let t = c.args.blocks.now in
    subst (SameNumbers t) (sym c.name_gone.ensures) (record { same_first = refl; same_size = refl; same_count = length-set t.blocks (c.args.block - t.first) (row_of (block_at t c.args.block)) })

pub returns-clause-kept : goal.returns-clause-kept
returns-clause-kept c =
    let t = c.args.blocks.now in
    subst (λ (x : Table). (other : ℕ) → (use_in x other).is_kept ≡ (use_in t other).is_kept) (sym c.name_gone.ensures) (kept_all t c.args.block c.requires.has c.requires.retired)

pub returns-clause-wears : goal.returns-clause-wears
returns-clause-wears c =
    let t = c.args.blocks.now in
    subst (λ (x : Table). (other : ℕ) → (use_in x other).wear ≡ (use_in t other).wear) (sym c.name_gone.ensures) (wear_all t c.args.block c.requires.has c.requires.retired)

pub returns-clause-uses : goal.returns-clause-uses
returns-clause-uses c other ne =
    let t = c.args.blocks.now in
    subst (λ (x : Table). use_in x other ≡ use_in t other) (sym c.name_gone.ensures) (use_other t c.args.block other (row_of (block_at t c.args.block)) c.requires.has ne)

pub returns-clause-here : goal.returns-clause-here
returns-clause-here c =
    let t = c.args.blocks.now in
    subst (λ (x : Table). (block_at x c.args.block).state ≡ after_erase (names_of (block_at t c.args.block).state - 1)) (sym c.name_gone.ensures)
    (ap (λ (r : BlockRow). r.state) (row_here t c.args.block (row_of (block_at t c.args.block)) c.requires.has))

pub returns-clause-others : goal.returns-clause-others
returns-clause-others c other has ne =
    let t = c.args.blocks.now in
    subst (λ (x : Table). (block_at x other).state ≡ (block_at t other).state) (sym c.name_gone.ensures)
    (ap (λ (r : BlockRow). r.state) (block_at-with_block_other t c.args.block other (row_of (block_at t c.args.block)) c.requires.has has ne))

pub returns-clause-marks : goal.returns-clause-marks
returns-clause-marks c =
    let t = c.args.blocks.now in
    subst (SameMarks t) (sym c.name_gone.ensures) (same_marks t c.args.block (row_of (block_at t c.args.block)) c.requires.has (λ k. refl) (λ rising. shut_risen (row_of (block_at t c.args.block)) (shut_after (names_of (block_at t c.args.block).state - 1))))

pub returns-clause-fill : goal.returns-clause-fill
returns-clause-fill c =
    let t = c.args.blocks.now in
    subst (SameFill t) (sym c.name_gone.ensures)
    (fill_shut t c.args.block (row_of (block_at t c.args.block)) c.requires.has (shut_retired (block_at t c.args.block).state c.requires.retired) (shut_after (names_of (block_at t c.args.block).state - 1)))
