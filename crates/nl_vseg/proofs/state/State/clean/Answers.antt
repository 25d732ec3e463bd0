use Rattle.std.proofs.Common.{◌≡◌, ◌<◌, false, refl, sym, ◌∙◌, ap, subst, arith}
use Rattle.std.proofs.lemmas.Bool.{true≢false}
use Rattle.nl_field.specs.declared.answers.VirtualWrite.TheVariants.{Fault}
use Rattle.nl_nand.specs.declared.answers.WriteAnswer.TheVariants.{Failed}
use Rattle.nl_vseg.specs.Cleaning.{LosesUntold}
use Rattle.nl_vseg.specs.Layout.{block_is_free}
use Rattle.nl_vseg.specs.Places.{IsUnmapped}
use Rattle.nl_vseg.specs.Seen.{seen}
use Rattle.nl_vseg.specs.Used.{used_of}
use Rattle.nl_vseg.proofs.Cleaning.{loses_as, settled_used, stands_settled, values_as, values_from, values_then, with_table}
use Rattle.nl_vseg.proofs.Segments.{below_of, free_unmapped}
use Rattle.nl_vseg.proofs.Small.{done_fault, fault_done, given_free, hole_then, le_is, le_one, lost_done, numbers_then, page_done_failed}
use Rattle.nl_vseg.proofs.state.State.clean.Goals as goal

pub choose-victim-requires : goal.choose-victim-requires
choose-victim-requires g c =
    let is = c.requires.stands.formed.segment in
    record { some = is.some; first = is.first; below = below_of (seen c.args.self.now) is; few = is.few; free = le_is _ c.requires.free }

pub start-requires : goal.start-requires
start-requires g c =
    let s = c.args.self.now in
    let e = c.choose-victim.ensures in
    record {
      stands = stands_settled g.M.Nand c.choose-victim.new.blocks c.requires.closed e.states e.settled c.requires.stands;
      closed = settled_used s c.choose-victim.new.blocks c.requires.stands.formed e.states e.settled;
      free = le_one _ (e.states.total ∙ c.requires.free);
    }

pub returns-in-Failed : goal.returns-in-Failed
returns-in-Failed g c =
    let s = c.args.self.now in
    let chosen = c.choose-victim.ensures in
    let e = c.start.ensures in
    let begun = values_from g.M.Nand s (with_table s c.choose-victim.new.blocks) refl chosen.states.numbers chosen.wears e.keeps in
    record {
      keeps = values_as g.M.Nand (λ failed. refl) (λ failed. c.in-Failed.is) begun;
      spare = le_one _ ((e.same c.in-Failed.is).total ∙ (chosen.states.total ∙ c.requires.free));
      room = λ done. absurd (fault_done done);
      lost = record { lost = tt; kept = λ t is. is };
    }

pub move_pages-requires : goal.move_pages-requires
move_pages-requires g c =
    let s = c.args.self.now in
    let chosen = c.choose-victim.ensures in
    let e = c.start.ensures in
    let opened = e.opened c.in-Done.is in
    let size = (numbers_then chosen.states.numbers opened.taken.numbers).same_size in
    record {
      stands = e.keeps.stands;
      begins = opened.begins;
      unmapped = subst (λ n. IsUnmapped n c.start.new.self.places.items c.start.new.self.active) (sym size)
          (subst (λ l. IsUnmapped s.blocks.size l c.start.new.self.active) (sym e.places)
          (free_unmapped (seen s) c.requires.stands.formed.segment c.start.new.self.active (sym (chosen.states.free c.start.new.self.active) ∙ opened.was_free)));
      other = λ same.
          true≢false (sym opened.was_free ∙ (ap (block_is_free c.choose-victim.new.blocks) same ∙ (chosen.states.free c.choose-victim.result ∙ chosen.in_use)));
      hole = hole_then _ _ _ _ _ size e.places chosen.hole;
    }

pub returns-in-Lost : goal.returns-in-Lost
returns-in-Lost g c =
    let s = c.args.self.now in
    let chosen = c.choose-victim.ensures in
    let e = c.start.ensures in
    let begun = values_from g.M.Nand s (with_table s c.choose-victim.new.blocks) refl chosen.states.numbers chosen.wears e.keeps in
    let opened = e.opened c.in-Done.is in
    let started : c.start.result ≡ Failed → ⊥ = λ failed. page_done_failed (sym c.in-Done.is ∙ failed) in
    let m = c.move_pages.ensures in
    let moves = values_then g.M.Nand started begun m.keeps in
    record {
      keeps = values_as g.M.Nand (λ failed. sym c.in-Lost.is ∙ failed) (λ failed. c.in-Lost.is ∙ failed) moves;
      spare = given_free opened.taken.here (m.given (λ done. lost_done _ _ (sym c.in-Lost.is ∙ done))).states;
      room = λ done. absurd (lost_done _ _ done);
      lost = subst (LosesUntold g.M.Nand.tells s.places.items) c.in-Lost.is (loses_as e.places m.lost);
    }

pub returns-in-Fault : goal.returns-in-Fault
returns-in-Fault g c =
    let s = c.args.self.now in
    let chosen = c.choose-victim.ensures in
    let e = c.start.ensures in
    let begun = values_from g.M.Nand s (with_table s c.choose-victim.new.blocks) refl chosen.states.numbers chosen.wears e.keeps in
    let opened = e.opened c.in-Done.is in
    let started : c.start.result ≡ Failed → ⊥ = λ failed. page_done_failed (sym c.in-Done.is ∙ failed) in
    let m = c.move_pages.ensures in
    let moves = values_then g.M.Nand started begun m.keeps in
    record {
      keeps = values_as g.M.Nand (λ failed. sym c.in-Fault.is ∙ failed) (λ failed. c.in-Fault.is ∙ failed) moves;
      spare = given_free opened.taken.here (m.given (λ done. fault_done (sym c.in-Fault.is ∙ done))).states;
      room = λ done. absurd (fault_done done);
      lost = record { lost = tt; kept = λ t is. is };
    }

pub erase-requires : goal.erase-requires
erase-requires g c =
    let chosen = c.choose-victim.ensures in
    let opened = c.start.ensures.opened c.in-Done.is in
    let vacated = c.move_pages.ensures.moved c.in-Done-move_pages.is in
    record {
      stands = c.move_pages.ensures.keeps.stands;
      within = subst (λ n. c.choose-victim.result < n) (sym (numbers_then chosen.states.numbers (numbers_then opened.taken.numbers vacated.states.numbers)).same_count) chosen.within;
      unmapped = vacated.unmapped;
    }

pub returns-in-Done-erase : goal.returns-in-Done-erase
returns-in-Done-erase g c =
    let s = c.args.self.now in
    let chosen = c.choose-victim.ensures in
    let e = c.start.ensures in
    let begun = values_from g.M.Nand s (with_table s c.choose-victim.new.blocks) refl chosen.states.numbers chosen.wears e.keeps in
    let opened = e.opened c.in-Done.is in
    let started : c.start.result ≡ Failed → ⊥ = λ failed. page_done_failed (sym c.in-Done.is ∙ failed) in
    let m = c.move_pages.ensures in
    let moves = values_then g.M.Nand started begun m.keeps in
    let vacated = m.moved c.in-Done-move_pages.is in
    let er = c.erase.ensures in
    let not_fault : c.move_pages.result ≡ Fault → ⊥ = λ failed. done_fault (sym c.in-Done-move_pages.is ∙ failed) in
    let erases = values_then g.M.Nand not_fault moves er.keeps in
    let apart : c.start.new.self.active ≡ c.choose-victim.result → ⊥ = λ same.
    true≢false (sym opened.was_free ∙ (ap (block_is_free c.choose-victim.new.blocks) same ∙ (chosen.states.free c.choose-victim.result ∙ chosen.in_use))) in
    let in_use : block_is_free c.move_pages.new.self.blocks c.choose-victim.result ≡ false =
    vacated.states.free c.choose-victim.result ∙ (opened.taken.others c.choose-victim.result (λ is. apart (sym is)) ∙ (chosen.states.free c.choose-victim.result ∙ chosen.in_use)) in
    record {
      keeps = values_as g.M.Nand (λ failed. absurd (page_done_failed (sym c.in-Done-erase.is ∙ failed))) (λ failed. absurd (done_fault failed)) erases;
      spare = given_free in_use er.free.states;
      room = λ done.
          let mid = c.move_pages.new.self in
          let other : mid.active ≡ c.choose-victim.result → ⊥ = λ same. apart (sym vacated.same_active ∙ same) in
          let same : used_of c.erase.new.self.blocks c.erase.new.self.active ≡ used_of mid.blocks mid.active =
          ap (used_of c.erase.new.self.blocks) er.free.same_active ∙ er.free.used.others mid.active m.keeps.stands.formed.segment.active_is other in
          let left = vacated.left in
          let size = er.free.states.numbers.same_size in
          omega (arith, same, left, size);
      lost = record { lost = tt; kept = λ t is. is };
    }

pub returns-in-Failed-erase : goal.returns-in-Failed-erase
returns-in-Failed-erase g c =
    let s = c.args.self.now in
    let chosen = c.choose-victim.ensures in
    let e = c.start.ensures in
    let begun = values_from g.M.Nand s (with_table s c.choose-victim.new.blocks) refl chosen.states.numbers chosen.wears e.keeps in
    let opened = e.opened c.in-Done.is in
    let started : c.start.result ≡ Failed → ⊥ = λ failed. page_done_failed (sym c.in-Done.is ∙ failed) in
    let m = c.move_pages.ensures in
    let moves = values_then g.M.Nand started begun m.keeps in
    let vacated = m.moved c.in-Done-move_pages.is in
    let er = c.erase.ensures in
    let not_fault : c.move_pages.result ≡ Fault → ⊥ = λ failed. done_fault (sym c.in-Done-move_pages.is ∙ failed) in
    let erases = values_then g.M.Nand not_fault moves er.keeps in
    let apart : c.start.new.self.active ≡ c.choose-victim.result → ⊥ = λ same.
    true≢false (sym opened.was_free ∙ (ap (block_is_free c.choose-victim.new.blocks) same ∙ (chosen.states.free c.choose-victim.result ∙ chosen.in_use))) in
    let in_use : block_is_free c.move_pages.new.self.blocks c.choose-victim.result ≡ false =
    vacated.states.free c.choose-victim.result ∙ (opened.taken.others c.choose-victim.result (λ is. apart (sym is)) ∙ (chosen.states.free c.choose-victim.result ∙ chosen.in_use)) in
    record {
      keeps = values_as g.M.Nand (λ failed. refl) (λ failed. c.in-Failed-erase.is) erases;
      spare = given_free in_use er.free.states;
      room = λ done. absurd (fault_done done);
      lost = record { lost = tt; kept = λ t is. is };
    }
