use Rattle.std.proofs.Common.{◌≡◌, inl, ◌+◌, ◌<◌, Some, None, length, is_some, refl, sym, ◌∙◌, ap, subst, arith, true}
use Rattle.std.specs.Vec.{with_item}
use Rattle.std.proofs.lemmas.Bool.{true≢false}
use Rattle.std.proofs.lemmas.List.{get_or-set_same, get_or-set_other}
use Rattle.std.proofs.lemmas.Option.{none-some}
use Rattle.nl_blocks.specs.declared.states.BlockState.TheVariants.{Free}
use Rattle.nl_blocks.specs.Table.{block_at}
use Rattle.nl_remap.specs.Links.{link_at}
use Rattle.nl_pseg.specs.Seen.{seen}
use Rattle.nl_pseg.specs.Steps.{ClosesBlock}
use Rattle.nl_pseg_blocks.specs.Uses.{Use, SameNumbers}
use Rattle.nl_pseg.specs.Kept.{Kept, kept}
use Rattle.nl_pseg.proofs.Closed.{closed_by, closing}
use Rattle.nl_pseg.proofs.Forms.{next_is, left_is, formed_marks, formed_restated}
use Rattle.nl_pseg.proofs.Segments.{IsApart, apart_taken}
use Rattle.nl_pseg.proofs.Served.{free_set, served_tied}
use Rattle.nl_pseg.proofs.States.{next_block}
use Rattle.nl_pseg_blocks.proofs.Tables.{free_state_is, has_same, shut_free, use_here}
use Rattle.nl_pseg.proofs.state.State.give_back.Goals as goal

pub returns-clause-formed : goal.returns-clause-formed
returns-clause-formed c =
    let t = c.give_back.new.blocks in
    let m = closed_by c.args.self.now t in
    let e = closing c.args.self.now c.requires.formed c.requires.tied c.give_back.new.blocks c.give_back.ensures.numbers c.args.block c.give_back.ensures.fill
    (shut_free _ (sym (ap (λ (u : Use). u.is_free) (use_here c.give_back.new.blocks c.args.block (has_same c.args.block c.give_back.ensures.numbers c.requires.within))) ∙ ap (λ (u : Use). u.is_free) c.give_back.ensures.here)) in
    formed_marks (record m { blocks = t }) c.args.block (Some c.wear-wear.result)
    (formed_restated m t c.args.block _ true e.formed c.give_back.ensures e.idle (λ yes p h held at. none-some h (sym (c.requires.none p) ∙ held)))

pub returns-clause-tied : goal.returns-clause-tied
returns-clause-tied c =
    let s = kept c.args.self.now in
    let m = closed_by c.args.self.now c.give_back.new.blocks in
    let e = closing c.args.self.now c.requires.formed c.requires.tied c.give_back.new.blocks c.give_back.ensures.numbers c.args.block c.give_back.ensures.fill
    (shut_free _ (sym (ap (λ (u : Use). u.is_free) (use_here c.give_back.new.blocks c.args.block (has_same c.args.block c.give_back.ensures.numbers c.requires.within))) ∙ ap (λ (u : Use). u.is_free) c.give_back.ensures.here)) in
    let g = c.give_back.ensures in
    let x : Kept = record m { blocks = c.give_back.new.blocks; soiled = with_item m.soiled c.args.block (Some c.wear-wear.result) } in
    let n : SameNumbers s.blocks x.blocks = g.numbers in
    let i : ClosesBlock c.args.block s x = record { active = refl; target = refl; used = e.shut.used; filled = e.shut.filled } in
    let state : (block_at x.blocks c.args.block).state ≡ Free = free_state_is c.give_back.new.blocks c.args.block (has_same c.args.block n c.requires.within) (ap (λ (u : Use). u.is_free) g.here) in
    served_tied s x c.requires.tied c.args.block i n c.requires.no_victim refl (free_set _ state)
    g.states
    refl
    (λ k old. let live = c.requires.tied.named.to_live (link_at s.names.pairs old.0) (old.0, old.1, refl) in absurd (none-some live.0 (sym (c.requires.none (link_at s.names.pairs old.0).to) ∙ live.1)))
    (λ k is. absurd (cc (sym state ∙ is)))
    (λ p h held. inl held)
    (λ p h held. (h, held))

pub returns-clause-given : goal.returns-clause-given
returns-clause-given c =
    let s = kept c.args.self.now in
    let m = closed_by c.args.self.now c.give_back.new.blocks in
    let e = closing c.args.self.now c.requires.formed c.requires.tied c.give_back.new.blocks c.give_back.ensures.numbers c.args.block c.give_back.ensures.fill
    (shut_free _ (sym (ap (λ (u : Use). u.is_free) (use_here c.give_back.new.blocks c.args.block (has_same c.args.block c.give_back.ensures.numbers c.requires.within))) ∙ ap (λ (u : Use). u.is_free) c.give_back.ensures.here)) in
    let g = c.give_back.ensures in
    let is = e.formed in
    let t = c.give_back.new.blocks in
    let n = g.numbers in
    let x : Kept = record m { blocks = t; soiled = with_item m.soiled c.args.block (Some c.wear-wear.result) } in
    let now : SameNumbers s.blocks x.blocks = n in
    let within : c.args.block < length m.soiled.items = subst (λ k. c.args.block < k) (sym is.marks) c.requires.within.below in
    let apart : IsApart c.args.block (seen m) (seen x) = record {
      range = record { range_first = n.same_first; range_blocks = λ i. n.same_first i + n.same_count i; range_size = n.same_size };
      next = next_is m is t n;
      left = left_is m is t n;
      idle = λ q next at. let room : m.used < m.blocks.size = omega (arith, next.0, next.1) in e.idle room (sym at ∙ next_block m is room q next);
      others_kept = λ b ne. ap (λ (u : Use). u.is_kept) (g.others b ne);
      others_soiled = λ b ne. get_or-set_other m.soiled.items c.args.block b (Some c.wear-wear.result) None ne;
      gone = λ free clean. true≢false (sym (ap is_some (get_or-set_same m.soiled.items c.args.block (Some c.wear-wear.result) None within)) ∙ clean);
    } in
    record {
      range = record { range_first = now.same_first; range_blocks = λ i. now.same_first i + now.same_count i; range_size = now.same_size };
      held = refl;
      names = (refl, refl);
      victim = refl;
      left = let l = e.left in let z = n.same_size in omega (arith, l, z);
      here = ap (λ (u : Use). u.is_free) g.here;
      told = λ used. get_or-set_same m.soiled.items c.args.block (Some c.wear-wear.result) None within ∙ ap (λ w. Some w) (c.wear-wear.ensures ∙ sym (ap (λ (u : Use). u.wear) (use_here s.blocks c.args.block c.requires.within)));
      wear = ap (λ (u : Use). u.wear) g.here;
      others = g.others;
      others_soiled = λ b ne. get_or-set_other m.soiled.items c.args.block b (Some c.wear-wear.result) None ne;
      erased = λ p taken. e.erased p (apart_taken apart p taken).0;
      same = λ free. absurd (true≢false (sym free ∙ (sym c.is_free.ensures ∙ c.if-is_free.false)));
    }
