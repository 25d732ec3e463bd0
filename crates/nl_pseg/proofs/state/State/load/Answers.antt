use Rattle.nl_pseg.proofs.Small.{fewer_with}
use Rattle.std.proofs.Common.{◌≡◌, inl, inr, ⊎_elim, ◌+◌, ◌*◌, ◌/◌, ◌<◌, ◌≤◌, false, List, Option, Some, None, length, set, get_or, refl, sym, ◌∙◌, ap, subst, arith, cond}
use Rattle.std.specs.Vec.{with_item}
use Rattle.std.proofs.lemmas.List.{get_or-set_other}
use Rattle.std.proofs.lemmas.Nat.{div_below, le-div}
use Rattle.std.proofs.lemmas.Option.{none-some}
use Rattle.std.proofs.lemmas.Bool.{cases_eq, true≢false}
use Rattle.nl_blocks.specs.Table.{block_at, free_count}
use Rattle.nl_blocks.specs.Used.{is_active_state, is_target_state}
use Rattle.nl_remap.specs.Table.{IsOld}
use Rattle.nl_pseg.specs.Segment.{InSegment, held_at, is_kept}
use Rattle.nl_pseg.specs.Seen.{IsLivePlace, seen}
use Rattle.nl_pseg.specs.Steps.{ClosesBlock}
use Rattle.nl_pseg_blocks.specs.Uses.{Use, use_in, SameNumbers}
use Rattle.nl_pseg.specs.declared.held.Held.{Held}
use Rattle.nl_pseg.specs.Kept.{Kept, kept}
use Rattle.nl_pseg.proofs.Forms.{formed_page, formed_restated, use_places, next_is, left_is}
use Rattle.nl_pseg.proofs.Numbers.{block_of}
use Rattle.nl_pseg.proofs.Closed.{closed_by, marked_closing, shut_used}
use Rattle.nl_pseg.proofs.Gone.{old_told}
use Rattle.nl_pseg.proofs.Segments.{IsApart, apart_still, apart_taken, held_places, set_held}
use Rattle.nl_pseg.proofs.Served.{idle_copy, idle_next, sealed_set, served_tied}
use Rattle.nl_pseg.proofs.States.{next_block}
use Rattle.nl_pseg_blocks.proofs.Tables.{numbers_then}
use Rattle.nl_pseg.proofs.state.State.load.Goals as goal

pub returns-clause-formed : goal.returns-clause-formed
returns-clause-formed c =
    let s = closed_by c.args.self.now c.mark.new.blocks in
    let e = marked_closing c.args.self.now c.requires.formed c.requires.tied (c.args.page / c.pages.result) c.args.page _ c.shut.new.blocks c.mark.new.blocks c.shut.ensures.restated c.shut.ensures.state
    (ap (λ k. c.args.page / k) (c.shut.ensures.restated.numbers.same_size ∙ sym c.pages.ensures)) c.mark.ensures.same c.mark.ensures.states c.mark.ensures.uses c.mark.ensures.fills in
    let is = e.formed in
    let block = c.args.page / c.pages.result in
    let t = c.mark.new.blocks in
    let first = formed_restated s c.shut.new.blocks block _ false is c.shut.ensures.restated e.idle (λ yes. absurd (true≢false (sym yes))) in
    let mid : Kept = record s { blocks = c.shut.new.blocks } in
    let same = c.mark.ensures.same in
    let active = λ (room : s.used < c.shut.new.blocks.size). c.mark.ensures.states s.active ∙ first.taken room in
    let x : Kept = record s { blocks = t } in
    let h : Held = record { tag = c.args.tag; stamp = c.args.stamp } in
    let n = numbers_then c.shut.ensures.restated.numbers c.mark.ensures.same.numbers in
    let same_block : c.args.page / t.size ≡ block = ap (λ k. c.args.page / k) (n.same_size ∙ sym c.pages.ensures) in
    let free : is_kept (seen x) block ≡ false = ap (λ (u : Use). u.is_kept) (c.mark.ensures.same.uses block ∙ c.shut.ensures.restated.here) in
    let within : InSegment (seen x) c.args.page =
    (let low : t.first * t.size ≡ c.args.self.now.blocks.first * c.args.self.now.blocks.size = (λ i. n.same_first i * n.same_size i) in
    let count : length t.blocks ≡ length c.args.self.now.blocks.blocks = n.same_count in
    let high : (t.first + length t.blocks) * t.size ≡ (c.args.self.now.blocks.first + length c.args.self.now.blocks.blocks) * c.args.self.now.blocks.size = (λ i. (n.same_first i + count i) * n.same_size i) in
    (omega (arith, low, c.requires.dead.within.0), omega (arith, high, c.requires.dead.within.1))) in
    let place : IsLivePlace (record (seen x) { held = set s.held.items c.args.page (Some h) }) c.args.page h = record {
      within = within;
      in_use = ap (λ b. (use_in t b).is_kept) same_block ∙ free;
      behind = λ next.
          let room : s.used < t.size = omega (arith, next.0, next.1) in
          e.idle (subst (λ k. s.used < k) n.same_size room) (sym same_block ∙ block_of c.args.page t.size s.active (omega (arith, next.0)) (omega (arith, next.1, room)));
      spelled = c.requires.stamp;
    } in
    let pages = is.pages in
    let bound : (s.blocks.first + length s.blocks.blocks) * s.blocks.size ≡ (c.args.self.now.blocks.first + length c.args.self.now.blocks.blocks) * c.args.self.now.blocks.size = refl in
    let below : c.args.page < length s.held.items = omega (arith, pages, bound, c.requires.dead.within.1) in
    formed_page mid first t same c.args.page (Some h) c.mark.ensures.marked below active
    (held_places c.args.page h (record { range_first = refl; range_blocks = refl; range_size = refl }) refl below place (λ b was. was) (λ p next. next) (use_places mid t first same))

pub mark-requires-clause-rising : goal.mark-requires-clause-rising
mark-requires-clause-rising c = c.shut.ensures.restated.marks.rises c.requires.formed.marked.rising

pub mark-requires-clause-used : goal.mark-requires-clause-used
mark-requires-clause-used c =
    let n = c.shut.ensures.restated.numbers in
    let at : c.args.page / c.shut.new.blocks.size ≡ c.args.page / c.pages.result = ap (λ k. c.args.page / k) (n.same_size ∙ sym c.pages.ensures) in
    let less = shut_used is_active_state c.shut.new.blocks c.args.page (subst (λ k. 0 < k) (sym n.same_size) c.requires.formed.some) (ap (λ b. is_active_state (block_at c.shut.new.blocks b).state) at ∙ ap is_active_state c.shut.ensures.state) in
    omega (arith, less)

pub mark-requires-clause-filled : goal.mark-requires-clause-filled
mark-requires-clause-filled c =
    let n = c.shut.ensures.restated.numbers in
    let at : c.args.page / c.shut.new.blocks.size ≡ c.args.page / c.pages.result = ap (λ k. c.args.page / k) (n.same_size ∙ sym c.pages.ensures) in
    let less = shut_used is_target_state c.shut.new.blocks c.args.page (subst (λ k. 0 < k) (sym n.same_size) c.requires.formed.some) (ap (λ b. is_target_state (block_at c.shut.new.blocks b).state) at ∙ ap is_target_state c.shut.ensures.state) in
    omega (arith, less)

pub returns-clause-tied : goal.returns-clause-tied
returns-clause-tied c =
    let s = kept c.args.self.now in
    let m = closed_by c.args.self.now c.mark.new.blocks in
    let e = marked_closing c.args.self.now c.requires.formed c.requires.tied (c.args.page / c.pages.result) c.args.page _ c.shut.new.blocks c.mark.new.blocks c.shut.ensures.restated c.shut.ensures.state
    (ap (λ k. c.args.page / k) (c.shut.ensures.restated.numbers.same_size ∙ sym c.pages.ensures)) c.mark.ensures.same c.mark.ensures.states c.mark.ensures.uses c.mark.ensures.fills in
    let r = c.shut.ensures.restated in
    let t = c.mark.new.blocks in
    let block = c.args.page / c.pages.result in
    let h : Held = record { tag = c.args.tag; stamp = c.args.stamp } in
    let x : Kept = record m { held = with_item m.held c.args.page (Some h); blocks = t } in
    let n : SameNumbers s.blocks t = numbers_then r.numbers c.mark.ensures.same.numbers in
    let i : ClosesBlock block s x = record { active = refl; target = refl; used = e.shut.used; filled = e.shut.filled } in
    let state = c.mark.ensures.states block ∙ c.shut.ensures.state in
    let at : c.args.page / s.blocks.size ≡ block = ap (λ k. c.args.page / k) (sym c.pages.ensures) in
    let count = c.requires.formed.pages in
    let below : c.args.page < length s.held.items = omega (arith, count, c.requires.dead.within.1) in
    let held : x.held.items ≡ set s.held.items c.args.page (Some h) = refl in
    let dead : held_at (seen s) c.args.page ≡ None = c.requires.dead.dead in
    served_tied s x c.requires.tied block i n c.requires.none refl (sealed_set _ state)
    (λ b has_b ne. c.mark.ensures.states b ∙ r.states b has_b ne)
    refl
    (λ k old. ap (λ (u : Use). u.is_free) (c.mark.ensures.same.uses (k / s.blocks.size)) ∙ ⊎_elim
    (λ q. ap (λ b. (use_in c.shut.new.blocks b).is_free) q ∙ ap (λ (u : Use). u.is_free) r.here)
    (λ ne. ap (λ (u : Use). u.is_free) (r.others (k / s.blocks.size) ne) ∙ (c.requires.tied.named.standing k old).in_use)
    (cases_eq (k / s.blocks.size) block))
    (λ k is. absurd (cc (sym state ∙ is)))
    (λ p g live. ⊎_elim
    (λ here. inr (ap (λ q. q / s.blocks.size) here.0 ∙ at, (λ old. c.requires.dead.own (old_told s.names.pairs c.args.page (subst (IsOld s.names.pairs) here.0 old)))))
    (λ there. inl there.1)
    (set_held s.held.items c.args.page (Some h) below p g (ap (λ (l : List (Option Held)). get_or l p None) (sym held) ∙ live)))
    (λ p g live. (g, ap (λ (l : List (Option Held)). get_or l p None) held ∙ (get_or-set_other s.held.items c.args.page p (Some h) None (λ q. none-some g (sym dead ∙ (ap (held_at (seen s)) (sym q) ∙ live))) ∙ live)))

pub returns-clause-names : goal.returns-clause-names
returns-clause-names c = refl

pub returns-clause-loads : goal.returns-clause-loads
returns-clause-loads c =
    let s = kept c.args.self.now in
    let m = closed_by c.args.self.now c.mark.new.blocks in
    let e = marked_closing c.args.self.now c.requires.formed c.requires.tied (c.args.page / c.pages.result) c.args.page _ c.shut.new.blocks c.mark.new.blocks c.shut.ensures.restated c.shut.ensures.state
    (ap (λ k. c.args.page / k) (c.shut.ensures.restated.numbers.same_size ∙ sym c.pages.ensures)) c.mark.ensures.same c.mark.ensures.states c.mark.ensures.uses c.mark.ensures.fills in
    let r = c.shut.ensures.restated in
    let same = c.mark.ensures.same in
    let t = c.mark.new.blocks in
    let was = c.args.self.now.blocks in
    let block = c.args.page / c.pages.result in
    let h : Held = record { tag = c.args.tag; stamp = c.args.stamp } in
    let x : Kept = record m { held = with_item m.held c.args.page (Some h); blocks = t } in
    let n : SameNumbers s.blocks t = numbers_then r.numbers same.numbers in
    let i : ClosesBlock block s x = record { active = refl; target = refl; used = e.shut.used; filled = e.shut.filled } in
    let apart : IsApart block (seen m) (seen x) = record {
      range = record { range_first = n.same_first; range_blocks = λ k. n.same_first k + n.same_count k; range_size = n.same_size };
      next = next_is m e.formed t n;
      left = left_is m e.formed t n;
      idle = λ q next at. let room : m.used < m.blocks.size = omega (arith, next.0, next.1) in e.idle room (sym at ∙ next_block m e.formed room q next);
      others_kept = λ b ne. ap (λ (u : Use). u.is_kept) (same.uses b ∙ r.others b ne);
      others_soiled = λ b ne. refl;
      gone = λ free clean. true≢false (sym free ∙ ap (λ (u : Use). u.is_kept) (same.uses block ∙ r.here));
    } in
    record {
      range = record { range_first = n.same_first; range_blocks = λ k. n.same_first k + n.same_count k; range_size = n.same_size };
      held = refl;
      victim = refl;
      here = ap (λ k. (use_in t (c.args.page / k)).is_free) (sym c.pages.ensures) ∙ ap (λ (u : Use). u.is_free) (same.uses block ∙ r.here);
      free =
          let fewer : free_count c.shut.new.blocks + cond (use_in was block).is_free 1 0 ≡ free_count was + 0 = r.total in
          let at : cond (use_in was (c.args.page / was.size)).is_free 1 0 ≡ cond (use_in was block).is_free 1 0 = ap (λ k. cond (use_in was (c.args.page / k)).is_free 1 0) (sym c.pages.ensures) in
          fewer_with {was = cond (use_in was (c.args.page / was.size)).is_free 1 0} same.total fewer at;
      others = λ b ne. let u = same.uses b ∙ r.others b (λ at. ne (at ∙ ap (λ k. c.args.page / k) c.pages.ensures)) in (ap (λ (w : Use). w.is_free) u, ap (λ (w : Use). w.is_kept) u);
      left = let size = n.same_size in let less = e.left in omega (arith, size, less);
      same_soiled = refl;
      wears = λ b. ap (λ (u : Use). u.wear) (same.uses b) ∙ (⊎_elim
          (λ at. ap (λ k. (use_in c.shut.new.blocks k).wear) at ∙ (ap (λ (u : Use). u.wear) r.here ∙ ap (λ k. (use_in was k).wear) (sym at)))
          (λ ne. ap (λ (u : Use). u.wear) (r.others b ne))
          (cases_eq b block));
      next = λ p next. (idle_next s x block i n p next).0;
      copies = λ p next. (idle_copy s x block i n p next).0;
      erased = λ p taken. let out = apart_taken apart p taken in (e.erased p out.0, λ at. out.1 (at ∙ ap (λ k. c.args.page / k) (sym c.pages.ensures)));
      still = λ p taken ne. let away : p / s.blocks.size ≡ block → ⊥ = (λ at. ne (at ∙ ap (λ k. c.args.page / k) c.pages.ensures)) in apart_still apart p (e.still p taken away) away;
    }

pub nonzero_div-block : goal.nonzero_div-block
nonzero_div-block c =
    let some = c.requires.formed.some in
    let size = c.pages.ensures in
    omega arith

pub shut-requires : goal.shut-requires
shut-requires c =
    let t = c.args.self.now.blocks in
    let some = c.requires.formed.some in
    let within = c.requires.dead.within in
    let at : c.args.page / t.size ≡ c.args.page / c.pages.result = ap (λ k. c.args.page / k) (sym c.pages.ensures) in
    record {
      from = subst (λ b. t.first ≤ b) at (le-div t.first c.args.page t.size some within.0);
      below = subst (λ b. b < t.first + length t.blocks) at (div_below c.args.page t.size (t.first + length t.blocks) some within.1);
    }

pub mark-requires-clause-has : goal.mark-requires-clause-has
mark-requires-clause-has c =
    let t = c.args.self.now.blocks in
    let n = c.shut.ensures.restated.numbers in
    let some = c.requires.formed.some in
    let within = c.requires.dead.within in
    let at : c.args.page / c.shut.new.blocks.size ≡ c.args.page / t.size = ap (λ k. c.args.page / k) n.same_size in
    let from = le-div t.first c.args.page t.size some within.0 in
    let below = div_below c.args.page t.size (t.first + length t.blocks) some within.1 in
    let first = n.same_first in
    let count = n.same_count in
    record { from = omega (arith, at, from, first); below = omega (arith, at, below, first, count) }

pub index_mut-requires : goal.index_mut-requires
index_mut-requires c =
    let count = c.requires.formed.pages in
    let below = c.requires.dead.within.1 in
    omega (arith, count, below)
