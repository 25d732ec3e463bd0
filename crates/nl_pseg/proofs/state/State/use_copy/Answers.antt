use Rattle.std.specs.Vec.{with_item}
use Rattle.nl_blocks.specs.Used.{is_active_state, is_target_state, used_in}
use Rattle.nl_pseg.proofs.Nexts.{copy_fill, copy_keeps, copy_up, copy_used}
use Rattle.nl_pseg.proofs.Closed.{as_counted}
use Rattle.nl_pseg.specs.declared.state.State.{State}
use Rattle.nl_blocks.specs.declared.states.BlockState.TheVariants.{Sealed, Target}
use Rattle.std.proofs.Common.{◌≡◌, ⊎_elim, ℕ, ◌+◌, ◌/◌, ◌<◌, length, refl, sym, ◌∙◌, ap, subst, arith, cond, is_some, Option, Some, None}
use Rattle.std.proofs.lemmas.Bool.{cases_lt}
use Rattle.nl_blocks.specs.declared.states.PageState.TheVariants.{Dead, Live}
use Rattle.nl_pseg.specs.Seen.{state_for, IsPhysicalFormed, IsTied, seen}
use Rattle.nl_blocks.specs.Table.{Table, HasBlock, HasPage, block_at}
use Rattle.nl_pseg.specs.Steps.{IsCopyUsed}
use Rattle.nl_pseg_blocks.specs.Uses.{MarksPage, SameNumbers, SameFill, SameUse, CountsUsedPage}
use Rattle.nl_pseg.specs.declared.held.Held.{Held}
use Rattle.nl_pseg.proofs.CopyUsed.{copied, copied_formed, copied_tied, copy_within, copy_block}
use Rattle.nl_pseg.proofs.Forms.{marked_are}
use Rattle.nl_pseg_blocks.proofs.Tables.{has_same, page_back, same_then}
use Rattle.nl_pseg.specs.Kept.{kept, Kept}
use Rattle.nl_pseg.proofs.state.State.use_copy.Goals as goal

-- a page that the table had before
page_on : {a b : Table} (page : ℕ) → SameNumbers a b → HasPage a page → HasPage b page
page_on {a} {b} page n has = subst (λ k. HasBlock b (page / k)) (sym n.same_size) (has_same (page / a.size) n has)

state_is : (x : Option Held) → cond (is_some x) Live Dead ≡ state_for x
state_is None = refl
state_is (Some h) = refl

end_is : (n size : ℕ) → n < size → (n + 1 < size → ⊥) → n + 1 ≡ size
end_is n size lt ge = ⊎_elim (λ less. absurd (ge less)) (λ not_less. omega (arith, lt, not_less)) (cases_lt (n + 1) size)

pub mark-requires-clause-rising : goal.mark-requires-clause-rising
mark-requires-clause-rising c = c.requires.formed.marked.rising

pub mark-requires-clause-used : goal.mark-requires-clause-used
mark-requires-clause-used c = let less = copy_used c.args.self.now c.requires.formed c.requires.tied c.args.page c.requires.room c.requires.next in omega (arith, less)

pub mark-requires-clause-filled : goal.mark-requires-clause-filled
mark-requires-clause-filled c = copy_up c.args.self.now c.requires.formed c.requires.tied c.args.page c.requires.room c.requires.next

-- what using the next page for a copy does, by the tables after the mark and after the seal
module _ (s : State) (is : IsPhysicalFormed (kept s)) (tied : IsTied (kept s)) (room : (kept s).filled < s.blocks.size) (page : ℕ) (next : page ≡ (seen (kept s)).copy_next) (x : Option Held) (mid t : Table)
    (uses : CountsUsedPage is_active_state page s.blocks mid) (fills : CountsUsedPage is_target_state page s.blocks mid) (same_mid : SameUse s.blocks mid) (same_t : SameUse mid t) (fill : SameFill mid t)
    (left : used_in is_target_state mid s.target < mid.size → (block_at t s.target).state ≡ Target) (full : used_in is_target_state mid s.target ≡ mid.size → (block_at t s.target).state ≡ Sealed) where
  abbrev new : Kept
  new = record (kept s) { held = with_item s.held page x; blocks = t; filled = (kept s).filled + 1 }

  mid_filled : used_in is_target_state mid s.target ≡ (kept s).filled + 1
  mid_filled = copy_fill s is tied page room next mid uses fills

  -- it is what the marks say
  counted : new ≡ record new { used = used_in is_active_state t s.active; filled = used_in is_target_state t s.target }
  counted = as_counted new _ _
      (fill.used s.active (has_same s.active same_mid.numbers is.active_in) ∙ copy_keeps s is tied page room next mid uses fills)
      (fill.filled s.target (has_same s.target same_mid.numbers tied.phases.target_in) ∙ mid_filled)

  more : (kept s).filled + 1 < s.blocks.size → (block_at t s.target).state ≡ Target
  more lt = let e = mid_filled in let size = same_mid.numbers.same_size in left (omega (arith, lt, e, size))

  done : ((kept s).filled + 1 < s.blocks.size → ⊥) → (block_at t s.target).state ≡ Sealed
  done ge = let e = mid_filled in let size = same_mid.numbers.same_size in let last = end_is (kept s).filled s.blocks.size room ge in full (omega (arith, last, e, size))

pub returns-clause-formed : goal.returns-clause-formed
returns-clause-formed c =
    let s = c.args.self.now in
    let is = c.requires.formed in
    let tied = c.requires.tied in
    let room = c.requires.room in
    let m = c.mark.ensures in
    let f = c.seal_filled.ensures in
    let mid = c.mark.new.blocks in
    let t = c.seal_filled.new.blocks in
    let same = same_then m.same f.same in
    let others = λ (b : ℕ) (has : HasBlock s.blocks b) (ne : b ≡ s.target → ⊥). f.others b (has_same b m.same.numbers has) ne ∙ m.states b in
    let within : c.args.page < length s.held.items = subst (λ k. k < length s.held.items) (sym c.requires.next) (copy_within (kept s) is tied room) in
    let made = marked_are (kept s) is mid m.same c.args.page c.args.held (subst (λ y. MarksPage c.args.page y s.blocks mid) (ap (λ b. cond b Live Dead) c.is_some.ensures ∙ state_is c.args.held) m.marked) within in
    subst IsPhysicalFormed (counted s is tied room c.args.page c.requires.next c.args.held mid t m.uses m.fills m.same f.same f.fill f.more f.sealed)
    (copied_formed (kept s) is tied room t same c.args.page c.requires.next c.args.held
    (more s is tied room c.args.page c.requires.next c.args.held mid t m.uses m.fills m.same f.same f.fill f.more f.sealed)
    (done s is tied room c.args.page c.requires.next c.args.held mid t m.uses m.fills m.same f.same f.fill f.more f.sealed)
    others c.requires.spelled
    (record { rising = f.marks.rises made.rising; each = λ q has. let back = page_back q f.same.numbers has in f.marks.same q back ∙ made.each q back })
    is.taken)

pub returns-clause-tied : goal.returns-clause-tied
returns-clause-tied c =
    let s = c.args.self.now in
    let is = c.requires.formed in
    let tied = c.requires.tied in
    let room = c.requires.room in
    let m = c.mark.ensures in
    let f = c.seal_filled.ensures in
    let mid = c.mark.new.blocks in
    let t = c.seal_filled.new.blocks in
    subst IsTied (counted s is tied room c.args.page c.requires.next c.args.held mid t m.uses m.fills m.same f.same f.fill f.more f.sealed)
    (copied_tied (kept s) is tied room t (same_then m.same f.same) c.args.page c.requires.next c.args.held
    (more s is tied room c.args.page c.requires.next c.args.held mid t m.uses m.fills m.same f.same f.fill f.more f.sealed)
    (done s is tied room c.args.page c.requires.next c.args.held mid t m.uses m.fills m.same f.same f.fill f.more f.sealed)
    (λ b has ne. f.others b (has_same b m.same.numbers has) ne ∙ m.states b))

pub returns-clause-used : goal.returns-clause-used
returns-clause-used c =
    let s = c.args.self.now in
    let is = c.requires.formed in
    let tied = c.requires.tied in
    let room = c.requires.room in
    let m = c.mark.ensures in
    let f = c.seal_filled.ensures in
    let mid = c.mark.new.blocks in
    let t = c.seal_filled.new.blocks in
    subst (λ (k : Kept). IsCopyUsed c.args.held (seen (kept s)) (seen k)) (counted s is tied room c.args.page c.requires.next c.args.held mid t m.uses m.fills m.same f.same f.fill f.more f.sealed)
    (copied (kept s) is tied room t (same_then m.same f.same) c.args.page c.requires.next c.args.held
    (more s is tied room c.args.page c.requires.next c.args.held mid t m.uses m.fills m.same f.same f.fill f.more f.sealed)
    (done s is tied room c.args.page c.requires.next c.args.held mid t m.uses m.fills m.same f.same f.fill f.more f.sealed)
    (λ b has ne. f.others b (has_same b m.same.numbers has) ne ∙ m.states b) c.count.ensures.table c.count-2.ensures.table
    (λ q has ne. f.marks.same q (page_on q m.same.numbers has) ∙ m.marked.others q has ne))

pub mark-requires-clause-has : goal.mark-requires-clause-has
mark-requires-clause-has c = subst (HasBlock c.args.self.now.blocks) (sym (ap (λ n. n / c.args.self.now.blocks.size) c.requires.next ∙ copy_block (kept c.args.self.now) c.requires.formed c.requires.tied c.requires.room)) c.requires.tied.phases.target_in

pub seal_filled-requires-clause-has : goal.seal_filled-requires-clause-has
seal_filled-requires-clause-has c = has_same c.args.self.now.target c.mark.ensures.same.numbers c.requires.tied.phases.target_in

pub seal_filled-requires-clause-target : goal.seal_filled-requires-clause-target
seal_filled-requires-clause-target c = c.mark.ensures.states c.args.self.now.target ∙ c.requires.tied.phases.filling c.requires.room

pub index_mut-requires : goal.index_mut-requires
index_mut-requires c =
    let within = subst (λ n. n < length c.args.self.now.held.items) (sym c.requires.next) (copy_within (kept c.args.self.now) c.requires.formed c.requires.tied c.requires.room) in
    omega (arith, within, c.args.self.now.held.ok.0)
