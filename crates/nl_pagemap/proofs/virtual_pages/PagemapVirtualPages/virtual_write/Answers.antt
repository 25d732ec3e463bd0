use Rattle.std.proofs.Common.{◌≡◌, inl, inr, ⊎_elim, ℕ, ◌+◌, ◌≤◌, Option, refl, sym, ◌∙◌, ap, subst, arith}
use Rattle.nl_field.specs.CrashStates.{Rose, saturated}
use Rattle.nl_field.specs.Page.{page_at}
use Rattle.nl_field.specs.declared.answers.VirtualWrite.TheVariants as write
use Rattle.nl_iface.specs.Stored.{Value, failed_beside, with_value}
use Rattle.nl_nand.specs.declared.geometry.Geometry.{Geometry}
use Rattle.nl_pagemap.specs.Mapped.{seen, stored_in}
use Rattle.nl_pagemap.specs.Stands.{IsMapped}
use Rattle.nl_pagemap.proofs.Failures.{more_in_all, rose_in_all}
use Rattle.nl_pagemap.proofs.Programmed.{spelled}
use Rattle.nl_pagemap.proofs.Written.{addressed, addressed_mapped, beyond_of, bytes_still, done_or, fits, left_mapped, next_rises, next_taken, none_new, none_old, stamp_lost, stamps_done, write_rises}
use Rattle.nl_vseg.specs.Places.{map_of, stamp_for}
use Rattle.nl_pagemap.proofs.virtual_pages.PagemapVirtualPages.virtual_write.Goals as goal

pub virtual_write-answer-requires-clause-fits : goal.virtual_write-answer-requires-clause-fits
virtual_write-answer-requires-clause-fits g c = fits (seen g.M.Nand.contents c.args.self.now) c.requires.formed

pub virtual_write-answer-requires-clause-stamp : goal.virtual_write-answer-requires-clause-stamp
virtual_write-answer-requires-clause-stamp g c = spelled c.args.self.now.next c.requires.formed.some c.requires.stamp

pub returns-clause-formed : goal.returns-clause-formed
returns-clause-formed g c =
    let d = c.args.self.now in
    let s = seen g.M.Nand.contents d in
    let f = c.requires.formed in
    let e = c.virtual_write-answer.ensures in
    let seg = c.virtual_write-answer.new.self in
    let image = g.M.Nand.contents c.virtual_write-answer.new.media in
    let next = c.stamp_after-self.result in
    let taken = c.takes_stamp-taken.result in
    let rises = next_rises taken next d.next c.stamp_after-self.ensures in
    let others : g.M.Nand.tells → (p : ℕ) → d.vseg.bound ≤ p → page_at image p ≡ page_at (g.M.Nand.contents d.media) p = λ t p le. beyond_of ((e.writes.value t).either) p le in
    subst (λ (x : Geometry). IsMapped g.M.Nand.tells x (addressed seg next image s)) (sym e.writes.geometry)
    (addressed_mapped s f seg next image others e.serves.numbers e.serves.below e.serves.within e.serves.segment rises c.requires.stamp
    (λ v t has. ⊎_elim
    (λ done. stamps_done c.args.vaddr d.next next (λ u. stamp_for d.vseg.places u) (λ u. stamp_for seg.places u) (e.writes.stamps.taken done) f.addresses (next_taken taken next d.next c.stamp_after-self.ensures (c.takes_stamp-taken.ensures.1 (inl done))) v t has)
    (λ undone. let lt = f.addresses v t (sym (e.writes.stamps.same undone v) ∙ has) in let up = rises.0 in omega (arith, lt, up))
    (done_or c.virtual_write-answer.result)))

pub returns-clause-lost : goal.returns-clause-lost
returns-clause-lost g c = stamp_lost g.M.Nand.tells c.args.self.now.vseg.places c.virtual_write-answer.result c.virtual_write-answer.ensures.lost

pub returns-clause-written : goal.returns-clause-written
returns-clause-written g c =
    let e = c.virtual_write-answer.ensures in
    record {
      stamps = e.writes.stamps.taken;
      same_stamps = e.writes.stamps.same;
      map = λ t done u. (e.writes.value t).map done u;
      same_map = λ t undone u. (e.writes.value t).same undone u;
      failed = λ t v x no. absurd no;
      superseded = λ t done x no. no;
    }

pub returns-clause-left : goal.returns-clause-left
returns-clause-left g c t =
    let d = c.args.self.now in
    let s = seen g.M.Nand.contents d in
    let f = c.requires.formed in
    let e = c.virtual_write-answer.ensures in
    let seg = c.virtual_write-answer.new.self in
    let image = g.M.Nand.contents c.virtual_write-answer.new.media in
    let next = c.stamp_after-self.result in
    let main = c.args.from.now.main in
    let others : g.M.Nand.tells → (p : ℕ) → d.vseg.bound ≤ p → page_at image p ≡ page_at (g.M.Nand.contents d.media) p = λ t p le. beyond_of ((e.writes.value t).either) p le in
    let old : ℕ → Option Value = λ u. map_of d.vseg.places (g.M.Nand.contents d.media) u in
    let later = e.writes.counts.later in
    ⊎_elim
    (λ done.
    let all = left_mapped s f seg next image others t (with_value old c.args.vaddr (d.next, main)) (failed_beside c.args.vaddr (λ v x. ⊥)) (λ u. (e.writes.value t).map done u) (none_new s f c.args.vaddr d.next main c.requires.within) in
    record {
      stops = record { later = later; each = λ m x left. let now = left.0 in inr (omega (arith, later, now), omega (arith, now), inr (all x left.1)) };
      now = inr (all (stored_in (addressed seg next image s)) refl);
    })
    (λ undone.
    let all = left_mapped s f seg next image others t old (λ v x. ⊥) (λ u. (e.writes.value t).same undone u) (none_old s f) in
    record {
      stops = record { later = later; each = λ m x left. let now = left.0 in inr (omega (arith, later, now), omega (arith, now), inl ((λ done. absurd (undone done)), all x left.1)) };
      now = inl (undone, all (stored_in (addressed seg next image s)) refl);
    })
    (done_or c.virtual_write-answer.result)

pub returns-clause-kept : goal.returns-clause-kept
returns-clause-kept g c =
    let d = c.args.self.now in
    let s = seen g.M.Nand.contents d in
    let e = c.virtual_write-answer.ensures in
    record {
      same_shape = refl;
      tables = record { live = λ q. refl; pairs = refl; pending = refl; handled = λ n. refl; posted = refl };
      space = record {
        same = record { block = refl; all = refl; bad = omega arith; kept = refl };
        blocks = (refl, refl, refl);
        pages = (refl, refl, refl);
        cleaning = (refl, refl, refl);
        room = omega arith;
      };
      names = λ none. refl;
      bytes = λ t p. bytes_still s c.requires.formed c.virtual_write-answer.new.self c.stamp_after-self.result (g.M.Nand.contents c.virtual_write-answer.new.media) (λ u q le. beyond_of ((e.writes.value u).either) q le) t p;
      found = refl;
      clean = λ k. k;
    }

pub returns-clause-spare : goal.returns-clause-spare
returns-clause-spare g c = record { cleaned = λ done. c.virtual_write-answer.ensures.serves.spare; sound = λ none. c.virtual_write-answer.ensures.serves.spare }

pub returns-clause-next_stamp : goal.returns-clause-next_stamp
returns-clause-next_stamp g c =
    let d = c.args.self.now in
    let e = c.virtual_write-answer.ensures in
    let before = saturated (g.M.Nand.write_faults d.media + d.refused) in
    let after = saturated (g.M.Nand.write_faults c.virtual_write-answer.new.media + d.refused) in
    let means = c.takes_stamp-taken.ensures in
    let to_rose : Rose c.failures-before.result c.failures.result → Rose before after = λ rose. subst (λ n. Rose n after) c.failures-before.ensures (subst (λ n. Rose c.failures-before.result n) c.failures.ensures rose) in
    let from_rose : Rose before after → Rose c.failures-before.result c.failures.result = λ rose. subst (λ n. Rose n c.failures.result) (sym c.failures-before.ensures) (subst (λ n. Rose before n) (sym c.failures.ensures) rose) in
    write_rises (c.virtual_write-answer.result ≡ write.Done) c.takes_stamp-taken.result c.stamp_after-self.result d.next (g.M.Nand.clock d.media) (g.M.Nand.clock c.virtual_write-answer.new.media) before after c.stamp_after-self.ensures
    ((λ taken. ⊎_elim (λ done. inl done) (λ rose. inr (to_rose rose)) (means.0 taken)), (λ tried. means.1 (⊎_elim (λ done. inl done) (λ rose. inr (from_rose rose)) tried)))
    e.writes.counts.later (more_in_all (g.M.Nand.write_faults d.media) (g.M.Nand.write_faults c.virtual_write-answer.new.media) d.refused e.writes.counts.more_writes) e.writes.ticks

pub returns-clause-clock : goal.returns-clause-clock
returns-clause-clock g c = record { clock = c.virtual_write-answer.ensures.writes.counts.later; later = c.virtual_write-answer.ensures.writes.ticks }

pub returns-clause-faults : goal.returns-clause-faults
returns-clause-faults g c =
    let d = c.args.self.now in
    let k = c.virtual_write-answer.ensures.writes.counts in
    let old = g.M.Nand.write_faults d.media in
    let new = g.M.Nand.write_faults c.virtual_write-answer.new.media in
    record {
      reads_never_fall = k.more_reads;
      writes_never_fall = more_in_all old new d.refused k.more_writes;
      cause = λ failed. ⊎_elim (λ r. inl r) (λ w. inr (rose_in_all old new d.refused w)) (k.cause failed);
      stays = λ exact un. ((k.stays un).0, ap (λ n. saturated (n + d.refused)) (k.stays un).1);
    }
