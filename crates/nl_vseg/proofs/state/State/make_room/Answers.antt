use Rattle.std.proofs.Common.{◌≡◌, ◌+◌, ◌<◌, ◌≤◌, inl, inr, Bool, true, cond, refl, sym, ◌∙◌, ap, subst, arith}
use Rattle.nl_blocks.specs.Table.{free_count}
use Rattle.nl_field.specs.Page.{Image}
use Rattle.nl_nand.specs.declared.answers.WriteAnswer.TheVariants.{Failed}
use Rattle.nl_vseg.specs.Copying.{StaysOrErased}
use Rattle.nl_vseg.specs.Layout.{Layout, block_is_free, is_soiled, room}
use Rattle.nl_vseg.specs.Seen.{seen}
use Rattle.nl_vseg.specs.Used.{used_of}
use Rattle.nl_vseg.proofs.Cleaning.{loses_as, stands_closed, stands_spare, values_as, values_from, values_still, values_then, with_table}
use Rattle.nl_vseg.proofs.Copies.{full_room, opened_room, room_free}
use Rattle.nl_vseg.proofs.Small.{done_fault, fault_done, le_least, one_left, page_done_failed, page_failed_done}
use Rattle.nl_vseg.proofs.Tries.{closed_takes, still_takes, takes_then}
use Rattle.nl_vseg.specs.Tries.{TakesNoOther}
use Rattle.nl_vseg.proofs.Using.{numbered_room, spare_used}
use Rattle.nl_vseg.proofs.state.State.make_room.Goals.{else-has_room-via-then-has_room+else-free-gt0, else-has_room-via-else-has_room}
use Rattle.nl_vseg.proofs.state.State.make_room.Goals as goal

pub returns-then-free-gt0 : goal.returns-then-free-gt0
returns-then-free-gt0 g c =
    let s = c.args.self.now in
    record {
      keeps = values_still g.M.Nand s s c.requires.spare c.requires.stands c.requires.stands refl (record { same_first = refl; same_size = refl; same_count = refl }) refl done_fault;
      spare = c.requires.spare;
      room = λ done. (c.has_room.ensures.room c.if-has_room.true, subst (λ n. 1 ≤ n) c.free.ensures (le_least c.if-free-gt0.true));
      direct = λ some done. (refl, refl);
      opens = λ some. record { done = λ done. inl (c.has_room.ensures.room c.if-has_room.true, refl); failed = λ not. absurd (not refl); others = still_takes (seen s); same_size = refl };
      others = λ t some done p. inl refl;
      lost = record { lost = tt; kept = λ t is. is };
    }

pub seal_used-requires : goal.seal_used-requires
seal_used-requires g c = record { first = c.requires.stands.formed.segment.first; within = c.requires.stands.formed.segment.active_is }

pub free_one-requires : goal.free_one-requires
free_one-requires g c =
    let s = c.args.self.now in
    let u = c.seal_used.ensures in
    record {
      stands = stands_closed g.M.Nand c.seal_used.new.blocks u.states u.used c.requires.stands;
      closed = u.used.full;
      spare = spare_used (seen s) c.seal_used.new.blocks (used_of c.seal_used.new.blocks s.active) u.states c.requires.spare;
    }

pub returns-in-Failed : goal.returns-in-Failed
returns-in-Failed g c =
    let s = c.args.self.now in
    let u = c.seal_used.ensures in
    let f = c.free_one.ensures in
    let freed = values_from g.M.Nand s (with_table s c.seal_used.new.blocks) refl u.states.numbers u.wears f.keeps in
    record {
      keeps = values_as g.M.Nand (λ failed. refl) (λ failed. c.in-Failed.is) freed;
      spare = stands_spare g.M.Nand f.keeps.stands f.free;
      room = λ done. absurd (fault_done done);
      direct = λ some done. absurd (fault_done done);
      opens = λ some. absurd (page_failed_done (sym c.in-Failed.is ∙ f.ready (subst (λ n. 1 ≤ n) (sym u.states.total) (room_free (seen s) some))));
      others = λ t some done. absurd (fault_done done);
      lost = record { lost = tt; kept = λ t is. is };
    }

pub clean-requires : goal.clean-requires
clean-requires g c =
    let f = c.free_one.ensures in
    record { stands = f.keeps.stands; closed = f.closed; free = one_left c.free-2.ensures c.if-free-lt2.true f.free }

pub returns-then-free-lt2 : goal.returns-then-free-lt2
returns-then-free-lt2 g c =
    let s = c.args.self.now in
    let u = c.seal_used.ensures in
    let f = c.free_one.ensures in
    let freed = values_from g.M.Nand s (with_table s c.seal_used.new.blocks) refl u.states.numbers u.wears f.keeps in
    let one : c.free_one.result ≡ Failed → ⊥ = λ failed. page_done_failed (sym c.in-Done.is ∙ failed) in
    let full : 0 < room (seen s) → used_of s.blocks s.active ≡ s.blocks.size = elim c.else-has_room.branch [
      | else-has_room-via-then-has_room+else-free-gt0 w ↦ λ some. let free = w.free.ensures in let none = w.if-free-gt0.false in let least = room_free (seen s) some in absurd (omega (arith, free, none, least))
      | else-has_room-via-else-has_room w ↦ λ some. c.has_room.ensures.full w.if-has_room.false
    ] in
    let two : 0 < room (seen s) → 2 ≤ free_count c.free_one.new.self.blocks = λ some.
    let both = full_room (seen s) (full some) some in
    let sealed = u.states.total in
    let same : free_count c.free_one.new.self.blocks ≡ free_count c.seal_used.new.blocks = ap (λ (l : Layout). free_count l.table) (f.same (omega (arith, both, sealed))) in
    omega (arith, both, sealed, same) in
    let few : 0 < room (seen s) → ⊥ = λ some. let least = two some in let is = c.free-2.ensures in let below = c.if-free-lt2.true in omega (arith, least, is, below) in
    let k = c.clean.ensures in
    record {
      keeps = values_then g.M.Nand one freed k.keeps;
      spare = stands_spare g.M.Nand k.keeps.stands k.spare;
      room = λ done. (k.room done, k.spare);
      direct = λ some. absurd (few some);
      opens = λ some. absurd (few some);
      others = λ t some. absurd (few some);
      lost = loses_as f.places k.lost;
    }

pub start-requires : goal.start-requires
start-requires g c =
    let f = c.free_one.ensures in
    record { stands = f.keeps.stands; closed = f.closed; free = f.free }

pub returns-in-Done-start : goal.returns-in-Done-start
returns-in-Done-start g c =
    let s = c.args.self.now in
    let u = c.seal_used.ensures in
    let f = c.free_one.ensures in
    let freed = values_from g.M.Nand s (with_table s c.seal_used.new.blocks) refl u.states.numbers u.wears f.keeps in
    let one : c.free_one.result ≡ Failed → ⊥ = λ failed. page_done_failed (sym c.in-Done.is ∙ failed) in
    let e = c.start.ensures in
    let opened = e.opened c.in-Done-start.is in
    let total = opened.taken.total in
    let was : free_count c.start.new.self.blocks + cond (block_is_free c.free_one.new.self.blocks c.start.new.self.active) 1 0 ≡ free_count c.start.new.self.blocks + 1 = ap (λ (b : Bool). free_count c.start.new.self.blocks + cond b 1 0) opened.was_free in
    let is = c.free-2.ensures in
    let below = c.if-free-lt2.false in
    let least : 1 ≤ free_count c.start.new.self.blocks = omega (arith, total, was, is, below) in
    let full : 0 < room (seen s) → used_of s.blocks s.active ≡ s.blocks.size = elim c.else-has_room.branch [
      | else-has_room-via-then-has_room+else-free-gt0 w ↦ λ some. let free = w.free.ensures in let none = w.if-free-gt0.false in let least = room_free (seen s) some in absurd (omega (arith, free, none, least))
      | else-has_room-via-else-has_room w ↦ λ some. c.has_room.ensures.full w.if-has_room.false
    ] in
    let two : 0 < room (seen s) → 2 ≤ free_count c.free_one.new.self.blocks = λ some.
    let both = full_room (seen s) (full some) some in
    let sealed = u.states.total in
    let same : free_count c.free_one.new.self.blocks ≡ free_count c.seal_used.new.blocks = ap (λ (l : Layout). free_count l.table) (f.same (omega (arith, both, sealed))) in
    omega (arith, both, sealed, same) in
    record {
      keeps = values_as g.M.Nand (λ failed. absurd (page_done_failed (sym c.in-Done-start.is ∙ failed))) (λ failed. absurd (done_fault failed)) (values_then g.M.Nand one freed e.keeps);
      spare = stands_spare g.M.Nand e.keeps.stands least;
      room = λ done. let begins = opened.begins in let some = e.keeps.stands.formed.segment.some in (omega (arith, begins, some), least);
      direct = λ some done. (
        opened_room (seen c.free_one.new.self) (seen c.start.new.self) f.closed (two some) opened.begins opened.taken.numbers.same_size (omega (arith, total, was))
            ∙ (let sealed = u.states.total in
            let both = full_room (seen s) (full some) some in
            ap room (f.same (omega (arith, both, sealed))) ∙ (numbered_room (seen s) c.seal_used.new.blocks u.states (u.used.full ∙ (u.states.numbers.same_size ∙ sym (full some))))),
        e.places ∙ f.places,
      );
      opens = λ some.
          let same = f.same (subst (λ n. 1 ≤ n) (sym u.states.total) (room_free (seen s) some)) in
          let begin = e.takes in
          let sealed = seen (with_table s c.seal_used.new.blocks) in
          let takes : TakesNoOther sealed (seen c.start.new.self) = subst (λ (l : Layout). TakesNoOther l (seen c.start.new.self)) same begin in
          record {
            done = λ done. inr (full some, let begins = opened.begins in let size = e.keeps.stands.formed.segment.some in omega (arith, begins, size));
            failed = λ not. absurd (not refl);
            others = takes_then (seen s) sealed (seen c.start.new.self) u.states.numbers.same_size refl (λ p taken. closed_takes (seen s) sealed u.states u.used.full (λ b clean. clean) p taken) takes;
            same_size = e.keeps.shape.pages ∙ (f.keeps.shape.pages ∙ u.states.numbers.same_size);
          };
      others = λ t some done.
          let shape = f.keeps.shape in
          let still = f.still (subst (λ n. 1 ≤ n) (sym u.states.total) (room_free (seen s) some)) in
          subst (λ (img : Image). StaysOrErased s.blocks.size c.start.new.self.active img (g.M.Nand.contents c.start.new.media)) still
          (subst (λ n. StaysOrErased n c.start.new.self.active (g.M.Nand.contents c.free_one.new.media) (g.M.Nand.contents c.start.new.media)) (shape.pages ∙ u.states.numbers.same_size) (e.others t c.in-Done-start.is));
      lost = record { lost = tt; kept = λ t is. is };
    }

pub returns-in-Failed-start : goal.returns-in-Failed-start
returns-in-Failed-start g c =
    let s = c.args.self.now in
    let u = c.seal_used.ensures in
    let f = c.free_one.ensures in
    let freed = values_from g.M.Nand s (with_table s c.seal_used.new.blocks) refl u.states.numbers u.wears f.keeps in
    let one : c.free_one.result ≡ Failed → ⊥ = λ failed. page_done_failed (sym c.in-Done.is ∙ failed) in
    let e = c.start.ensures in
    let full : 0 < room (seen s) → used_of s.blocks s.active ≡ s.blocks.size = elim c.else-has_room.branch [
      | else-has_room-via-then-has_room+else-free-gt0 w ↦ λ some. let free = w.free.ensures in let none = w.if-free-gt0.false in let least = room_free (seen s) some in absurd (omega (arith, free, none, least))
      | else-has_room-via-else-has_room w ↦ λ some. c.has_room.ensures.full w.if-has_room.false
    ] in
    record {
      keeps = values_as g.M.Nand (λ failed. refl) (λ failed. c.in-Failed-start.is) (values_then g.M.Nand one freed e.keeps);
      spare = stands_spare g.M.Nand e.keeps.stands (subst (λ n. 1 ≤ n) (sym (e.same c.in-Failed-start.is).total) f.free);
      room = λ done. absurd (fault_done done);
      direct = λ some done. absurd (fault_done done);
      opens = λ some.
          let same = f.same (subst (λ n. 1 ≤ n) (sym u.states.total) (room_free (seen s) some)) in
          let begin = e.takes in
          let sealed = seen (with_table s c.seal_used.new.blocks) in
          let takes : TakesNoOther sealed (seen c.start.new.self) = subst (λ (l : Layout). TakesNoOther l (seen c.start.new.self)) same begin in
          record {
            done = λ done. absurd (fault_done done);
            failed = λ not. (full some, let w = e.failed c.in-Failed-start.is in (w.0, subst (λ (l : Layout). is_soiled l w.0 ≡ true) same w.1));
            others = takes_then (seen s) sealed (seen c.start.new.self) u.states.numbers.same_size refl (λ p taken. closed_takes (seen s) sealed u.states u.used.full (λ b clean. clean) p taken) takes;
            same_size = e.keeps.shape.pages ∙ (f.keeps.shape.pages ∙ u.states.numbers.same_size);
          };
      others = λ t some done. absurd (fault_done done);
      lost = record { lost = tt; kept = λ t is. is };
    }
