use Rattle.nl_field.specs.Spelling.{is_stamp}
use Rattle.nl_blocks.specs.Used.{is_active_state, is_target_state, used_in}
use Rattle.nl_blocks.specs.Table.{Table, block_at, HasBlock}
use Rattle.nl_pseg.specs.declared.state.State.{State}
use Rattle.nl_blocks.specs.declared.states.BlockState.TheVariants.{Active}
use Rattle.std.proofs.Common.{◌≡◌, inl, inr, ⊎_elim, ◌+◌, ◌-◌, ◌*◌, ◌<◌, ◌^◌, length, set, refl, sym, ◌∙◌, ap, subst, arith, length-set, cond, is_some, Option, Some, None, IfSome, IsTrue, ℕ, ◌/◌}
use Rattle.std.specs.Vec.{with_item}
use Rattle.nl_pseg.specs.Segment.{soiled, wear_with}
use Rattle.nl_pseg.specs.Seen.{seen, state_for, AreMarked, IsTied, IsPhysicalFormed}
use Rattle.nl_pseg.specs.Steps.{UsesNextPage}
use Rattle.nl_pseg_blocks.specs.Uses.{Use, MarksPage, SameFill, SameUse, CountsUsedPage}
use Rattle.nl_blocks.specs.declared.states.PageState.TheVariants.{Dead, Live}
use Rattle.nl_pseg.specs.declared.held.Held.{Held}
use Rattle.nl_pseg.proofs.Closed.{as_counted}
use Rattle.nl_pseg.proofs.Forms.{marked_are}
use Rattle.nl_pseg.proofs.Nexts.{next_fill, next_filled, next_up, next_used}
use Rattle.nl_pseg.proofs.Segments.{used_places}
use Rattle.nl_pseg.proofs.States.{within_length, next_segment, is_next, next_in_use, next_block}
use Rattle.nl_pseg_blocks.proofs.Tables.{has_same, page_back, same_then}
use Rattle.nl_pseg.proofs.Used.{used_tied}
use Rattle.std.proofs.lemmas.Bool.{cases_eq}
use Rattle.nl_pseg.specs.Kept.{kept, Kept}
use Rattle.nl_pseg.proofs.state.State.use_next.Goals as goal

state_is : (x : Option Held) → cond (is_some x) Live Dead ≡ state_for x
state_is None = refl
state_is (Some h) = refl

pub mark-requires-clause-rising : goal.mark-requires-clause-rising
mark-requires-clause-rising c = c.requires.formed.marked.rising

pub mark-requires-clause-used : goal.mark-requires-clause-used
mark-requires-clause-used c = next_up c.args.self.now c.requires.formed c.requires.tied c.args.page c.requires.room c.requires.next

pub mark-requires-clause-filled : goal.mark-requires-clause-filled
mark-requires-clause-filled c = let less = next_filled c.args.self.now c.requires.formed c.requires.tied c.args.page c.requires.room c.requires.next in omega (arith, less)

-- what using the next page does, by the tables after the mark and after the seal
module _ (s : State) (is : IsPhysicalFormed (kept s)) (tied : IsTied (kept s)) (room : (kept s).used < s.blocks.size) (page : ℕ) (next : page ≡ (seen (kept s)).next) (x : Option Held) (mid t : Table)
    (uses : CountsUsedPage is_active_state page s.blocks mid) (fills : CountsUsedPage is_target_state page s.blocks mid) (same_mid : SameUse s.blocks mid) (same_t : SameUse mid t) (fill : SameFill mid t) where
  abbrev new : Kept
  new = record (kept s) { held = with_item s.held page x; blocks = t; used = (kept s).used + 1 }

  same : SameUse s.blocks t
  same = same_then same_mid same_t

  mid_used : used_in is_active_state mid s.active ≡ (kept s).used + 1
  mid_used = next_used s is tied page room next mid uses fills

  -- it is what the marks say
  counted : new ≡ record new { used = used_in is_active_state t s.active; filled = used_in is_target_state t s.target }
  counted = as_counted new _ _
      (fill.used s.active (has_same s.active same_mid.numbers is.active_in) ∙ mid_used)
      (fill.filled s.target (has_same s.target same_mid.numbers tied.phases.target_in) ∙ next_fill s is tied page room next mid uses fills)

  within : page < length s.held.items
  within = subst (λ k. k < length s.held.items) (sym next) (within_length (kept s) is (s.active * s.blocks.size + (kept s).used) (next_segment (kept s) is room (s.active * s.blocks.size + (kept s).used) (is_next (kept s) is room)))

  used : UsesNextPage x (seen (kept s)) (seen new)
  used =
      let n = same.numbers in
      record {
        pages = record {
          same_first = n.same_first;
          same_blocks = λ i. n.same_first i + n.same_count i;
          same_size = n.same_size;
          same_wear = λ b. ap (λ (u : Use). wear_with u (soiled (seen (kept s)) b)) (same.uses b);
        };
        held = ap (λ k. set s.held.items k x) next;
        next = ap (λ k. s.active * k + ((kept s).used + 1)) n.same_size ∙ omega arith;
        left = let e = n.same_size in omega (arith, e, room);
        free = same.total;
        uses = same.uses;
        soiled = refl;
        names = record { same_pairs = refl; same_pair_room = refl; same_victim = refl; copies = (λ i. s.target * n.same_size i + (kept s).filled, λ i. n.same_size i - (kept s).filled) };
      }

  formed : IfSome x (λ h. IsTrue (is_stamp h.stamp)) → AreMarked t (set s.held.items page x) → ((kept s).used + 1 < t.size → (block_at t s.active).state ≡ Active) → IsPhysicalFormed new
  formed spelled marked taken =
      let n = same.numbers in
      let bound : (t.first + length t.blocks) * t.size ≡ (s.blocks.first + length s.blocks.blocks) * s.blocks.size = (λ i. (n.same_first i + n.same_count i) * n.same_size i) in
      let page_is = s.active * s.blocks.size + (kept s).used in
      let is_it = is_next (kept s) is room in
      let segment = next_segment (kept s) is room page_is is_it in
      record {
        marked = marked;
        some = subst (λ k. 0 < k) (sym n.same_size) is.some;
        numbers = subst (λ k. k < 2 ^ 32) (sym bound) is.numbers;
        pages = length-set s.held.items page x ∙ (is.pages ∙ sym bound);
        marks = is.marks ∙ (λ i. sym n.same_first i + sym n.same_count i);
        active_in = has_same s.active n is.active_in;
        used_fits = let e = n.same_size in omega (arith, e, room);
        taken = taken;
        places = used_places used is.some (within_length (kept s) is page_is segment) segment (next_in_use (kept s) is room page_is is_it) spelled is.places;
      }

pub returns-clause-formed : goal.returns-clause-formed
returns-clause-formed c =
    let s = c.args.self.now in
    let is = c.requires.formed in
    let m = c.mark.ensures in
    let f = c.seal_full.ensures in
    let mid = c.mark.new.blocks in
    let t = c.seal_full.new.blocks in
    let n = c.requires.next in
    let made = marked_are (kept s) is mid m.same c.args.page c.args.held (subst (λ y. MarksPage c.args.page y s.blocks mid) (ap (λ b. cond b Live Dead) c.is_some.ensures ∙ state_is c.args.held) m.marked)
    (within s is c.requires.tied c.requires.room c.args.page n c.args.held mid t m.uses m.fills m.same f.same f.fill) in
    let marked : AreMarked t (set s.held.items c.args.page c.args.held) = record {
      rising = f.marks.rises made.rising;
      each = λ p has. let back = page_back p f.same.numbers has in f.marks.same p back ∙ made.each p back;
    } in
    let mid_is = mid_used s is c.requires.tied c.requires.room c.args.page n c.args.held mid t m.uses m.fills m.same f.same f.fill in
    let size = f.same.numbers.same_size in
    subst IsPhysicalFormed (counted s is c.requires.tied c.requires.room c.args.page n c.args.held mid t m.uses m.fills m.same f.same f.fill)
    (formed s is c.requires.tied c.requires.room c.args.page n c.args.held mid t m.uses m.fills m.same f.same f.fill c.requires.spelled marked (λ lt. f.more (omega (arith, lt, mid_is, size))))

pub returns-clause-used : goal.returns-clause-used
returns-clause-used c =
    let s = c.args.self.now in
    let m = c.mark.ensures in
    let f = c.seal_full.ensures in
    subst (λ (k : Kept). UsesNextPage c.args.held (seen (kept s)) (seen k))
    (counted s c.requires.formed c.requires.tied c.requires.room c.args.page c.requires.next c.args.held c.mark.new.blocks c.seal_full.new.blocks m.uses m.fills m.same f.same f.fill)
    (used s c.requires.formed c.requires.tied c.requires.room c.args.page c.requires.next c.args.held c.mark.new.blocks c.seal_full.new.blocks m.uses m.fills m.same f.same f.fill)

pub returns-clause-sealed : goal.returns-clause-sealed
returns-clause-sealed c full =
    let s = c.args.self.now in
    let f = c.seal_full.ensures in
    let same = f.fill.used s.active (has_same s.active c.mark.ensures.same.numbers c.requires.formed.active_in) in
    let size = f.same.numbers.same_size in
    f.sealed (omega (arith, full, same, size))

pub returns-clause-tied : goal.returns-clause-tied
returns-clause-tied c =
    let s = c.args.self.now in
    let is = c.requires.formed in
    let m = c.mark.ensures in
    let f = c.seal_full.ensures in
    let mid = c.mark.new.blocks in
    let t = c.seal_full.new.blocks in
    let n = c.requires.next in
    let room = c.requires.room in
    let mid_is = mid_used s is c.requires.tied room c.args.page n c.args.held mid t m.uses m.fills m.same f.same f.fill in
    let size = m.same.numbers.same_size in
    subst IsTied (counted s is c.requires.tied room c.args.page n c.args.held mid t m.uses m.fills m.same f.same f.fill)
    (used_tied (kept s) is c.requires.tied room t (same_then m.same f.same) c.args.page n c.args.held
    (⊎_elim
    (λ full. inr (f.sealed (omega (arith, mid_is, size, full))))
    (λ ne. let more : (kept s).used + 1 < s.blocks.size = omega (arith, room, ne) in inl (f.more (omega (arith, mid_is, size, more)), more))
    (cases_eq ((kept s).used + 1) s.blocks.size))
    (λ b has ne. f.others b (has_same b m.same.numbers has) ne ∙ m.states b)
    (within s is c.requires.tied room c.args.page n c.args.held mid t m.uses m.fills m.same f.same f.fill))

pub mark-requires-clause-has : goal.mark-requires-clause-has
mark-requires-clause-has c =
    let s = kept c.args.self.now in
    subst (HasBlock s.blocks) (sym (ap (λ n. n / s.blocks.size) c.requires.next ∙ next_block s c.requires.formed c.requires.room (seen s).next (is_next s c.requires.formed c.requires.room))) c.requires.formed.active_in

pub seal_full-requires-clause-has : goal.seal_full-requires-clause-has
seal_full-requires-clause-has c = has_same c.args.self.now.active c.mark.ensures.same.numbers c.requires.formed.active_in

pub seal_full-requires-clause-active : goal.seal_full-requires-clause-active
seal_full-requires-clause-active c = c.mark.ensures.states c.args.self.now.active ∙ c.requires.formed.taken c.requires.room

pub index_mut-requires : goal.index_mut-requires
index_mut-requires c =
    let s = kept c.args.self.now in
    let within = subst (λ n. n < length s.held.items) (sym c.requires.next) (within_length s c.requires.formed (seen s).next (next_segment s c.requires.formed c.requires.room (seen s).next (is_next s c.requires.formed c.requires.room))) in
    omega (arith, within, c.args.self.now.held.ok.0)
