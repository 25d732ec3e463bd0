use Rattle.std.proofs.Common.{◌≡◌, inl, ◌+◌, ◌/◌, ◌<◌, Some, None, length, sym, ◌∙◌, ap, subst, arith, is_some, refl}
use Rattle.std.specs.Vec.{with_item}
use Rattle.std.proofs.lemmas.Bool.{true≢false}
use Rattle.std.proofs.lemmas.List.{get_or-set_same, get_or-set_other}
use Rattle.nl_blocks.specs.Table.{block_at}
use Rattle.nl_pseg.specs.Seen.{seen}
use Rattle.nl_pseg_blocks.specs.Uses.{Use, SameNumbers, told_state}
use Rattle.nl_pseg.proofs.Forms.{formed_marks, formed_table, next_is, left_is}
use Rattle.nl_pseg.proofs.Segments.{IsApart, apart_still, apart_taken}
use Rattle.nl_pseg.proofs.Closed.{closed_by, closing}
use Rattle.nl_pseg.proofs.States.{next_block}
use Rattle.nl_pseg_blocks.proofs.Tables.{IsShut, shut_told}
use Rattle.nl_pseg.specs.Kept.{Kept, kept}
use Rattle.nl_pseg.proofs.Served.{idle_copy, idle_next, served_tied, told_free, told_kept, told_set, told_waits}
use Rattle.nl_pseg.specs.Steps.{ClosesBlock}
use Rattle.nl_pseg.proofs.Waits.{wait_by}
use Rattle.nl_pseg.proofs.state.State.soil.Goals as goal

pub returns-clause-formed : goal.returns-clause-formed
returns-clause-formed c =
    let s = closed_by c.args.self.now c.tell.new.blocks in
    let e = closing c.args.self.now c.requires.formed c.requires.tied c.tell.new.blocks c.tell.ensures.told.numbers c.args.block c.tell.ensures.told.fill
    (subst IsShut (sym c.tell.ensures.state) (shut_told (block_at c.args.self.now.blocks c.args.block).state)) in
    let is = e.formed in
    let t = c.tell.ensures.told in
    formed_marks (record s { blocks = c.tell.new.blocks }) c.args.block (Some c.args.wear)
    (formed_table s is c.tell.new.blocks t.numbers
    (λ room. t.states s.active is.active_in (λ same. e.idle room (sym same)) ∙ is.taken room)
    (λ p h named. told_kept s c.tell.new.blocks c.args.block _ t (p / s.blocks.size) ∙ (is.places.each p h named).in_use)
    t.marks)

pub returns-clause-tied : goal.returns-clause-tied
returns-clause-tied c =
    let s = kept c.args.self.now in
    let m = closed_by c.args.self.now c.tell.new.blocks in
    let e = closing c.args.self.now c.requires.formed c.requires.tied c.tell.new.blocks c.tell.ensures.told.numbers c.args.block c.tell.ensures.told.fill
    (subst IsShut (sym c.tell.ensures.state) (shut_told (block_at c.args.self.now.blocks c.args.block).state)) in
    let t = c.tell.ensures.told in
    let x : Kept = record m { blocks = c.tell.new.blocks; soiled = with_item m.soiled c.args.block (Some c.args.wear) } in
    let n : SameNumbers s.blocks x.blocks = t.numbers in
    let i : ClosesBlock c.args.block s x = record { active = refl; target = refl; used = e.shut.used; filled = e.shut.filled } in
    let state : (block_at x.blocks c.args.block).state ≡ told_state (block_at s.blocks c.args.block).state = c.tell.ensures.state in
    served_tied s x c.requires.tied c.args.block i n c.requires.none refl (told_set (block_at s.blocks c.args.block).state _ state)
    (λ b has_b ne. t.states b has_b ne)
    refl
    (λ k old. told_free m c.tell.new.blocks c.args.block _ t (k / s.blocks.size) ∙ (c.requires.tied.named.standing k old).in_use)
    (λ k is. told_waits (block_at s.blocks c.args.block).state k (sym state ∙ is))
    (λ p h held. inl held)
    (λ p h held. (h, held))

pub returns-clause-soils : goal.returns-clause-soils
returns-clause-soils c =
    let s = kept c.args.self.now in
    let m = closed_by c.args.self.now c.tell.new.blocks in
    let e = closing c.args.self.now c.requires.formed c.requires.tied c.tell.new.blocks c.tell.ensures.told.numbers c.args.block c.tell.ensures.told.fill
    (subst IsShut (sym c.tell.ensures.state) (shut_told (block_at c.args.self.now.blocks c.args.block).state)) in
    let t = c.tell.ensures.told in
    let n = t.numbers in
    let x : Kept = record m { blocks = c.tell.new.blocks; soiled = with_item m.soiled c.args.block (Some c.args.wear) } in
    let i : ClosesBlock c.args.block s x = record { active = refl; target = refl; used = e.shut.used; filled = e.shut.filled } in
    let within : c.args.block < length m.soiled.items = subst (λ k. c.args.block < k) (sym e.formed.marks) c.requires.within.below in
    let apart : IsApart c.args.block (seen m) (seen x) = record {
      range = record { range_first = n.same_first; range_blocks = λ k. n.same_first k + n.same_count k; range_size = n.same_size };
      next = next_is m e.formed c.tell.new.blocks n;
      left = left_is m e.formed c.tell.new.blocks n;
      idle = λ q next at. let room : m.used < m.blocks.size = omega (arith, next.0, next.1) in e.idle room (sym at ∙ next_block m e.formed room q next);
      others_kept = λ b ne. ap (λ (u : Use). u.is_kept) (t.others b ne);
      others_soiled = λ b ne. get_or-set_other m.soiled.items c.args.block b (Some c.args.wear) None ne;
      gone = λ free clean. true≢false (sym (ap is_some (get_or-set_same m.soiled.items c.args.block (Some c.args.wear) None within)) ∙ clean);
    } in
    record {
      range = record { range_first = n.same_first; range_blocks = λ k. n.same_first k + n.same_count k; range_size = n.same_size };
      held = refl;
      pairs = (refl, refl);
      victim = refl;
      free = t.total;
      same = λ b. (told_free m c.tell.new.blocks c.args.block _ t b, told_kept m c.tell.new.blocks c.args.block _ t b);
      waits = λ b. wait_by (seen s) (seen x) b (told_free m c.tell.new.blocks c.args.block _ t b) (told_kept m c.tell.new.blocks c.args.block _ t b);
      left = let size = n.same_size in let less = e.left in omega (arith, size, less);
      told = get_or-set_same m.soiled.items c.args.block (Some c.args.wear) None within;
      others_told = λ b ne. get_or-set_other m.soiled.items c.args.block b (Some c.args.wear) None ne;
      worn = ap (λ (u : Use). u.wear) t.here;
      others_worn = λ b ne. ap (λ (u : Use). u.wear) (t.others b ne);
      next = λ p next. (idle_next s x c.args.block i n p next).0;
      copies = λ p next. idle_copy s x c.args.block i n p next;
      erased = λ p taken. let out = apart_taken apart p taken in (e.erased p out.0, out.1);
      still = λ p taken ne. apart_still apart p (e.still p taken ne) ne;
    }

pub returns-clause-names : goal.returns-clause-names
returns-clause-names c = refl
