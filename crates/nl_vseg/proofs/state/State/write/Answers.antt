use Rattle.std.proofs.Common.{◌≡◌, ◌<◌, refl, sym, ◌∙◌, subst}
use Rattle.nl_field.specs.declared.answers.VirtualWrite.TheVariants.{Fault}
use Rattle.nl_vseg.specs.Cleaning.{LosesUntold}
use Rattle.nl_vseg.proofs.Cleaning.{values_as}
use Rattle.nl_vseg.proofs.Small.{done_fault, fault_done, lost_done, page_done_failed, page_failed_done, shape_then}
use Rattle.nl_vseg.proofs.Places.{block_below}
use Rattle.nl_vseg.proofs.Tries.{failed_spends, opened_spends}
use Rattle.nl_vseg.specs.Seen.{seen}
use Rattle.nl_vseg.specs.Tries.{OpensNext}
use Rattle.nl_vseg.proofs.Views.{fits_of, layout_of, spare_of}
use Rattle.nl_vseg.proofs.Written.{programmed_then, still_serves, writes_as, writes_none, writes_then}
use Rattle.nl_vseg.proofs.state.State.write.Goals as goal

pub make_room-requires : goal.make_room-requires
make_room-requires g c =
    let some = c.requires.formed.segment.some in
    record {
      stands = record { formed = c.requires.formed; fits = fits_of some c.requires.fits; segment = λ t. layout_of (c.requires.segment t) };
      spare = spare_of some c.requires.spare;
    }

pub put-requires : goal.put-requires
put-requires g c =
    let m = c.make_room.ensures in
    let room = m.room c.in-Done.is in
    record { stands = m.keeps.stands; vaddr = subst (λ n. c.args.vaddr < n) (sym m.keeps.shape.addresses) c.requires.vaddr; stamp = c.requires.stamp; room = room.0; free = room.1 }

pub returns-in-Lost : goal.returns-in-Lost
returns-in-Lost g c =
    let m = c.make_room.ensures in
    record {
      formed = m.keeps.stands.formed;
      serves = still_serves g.M.Nand c.args.self.now m.keeps.stands m.spare m.keeps.shape;
      writes = writes_none g.M.Nand (λ done. lost_done _ _ done) (values_as g.M.Nand (λ failed. sym c.in-Lost.is ∙ failed) (λ failed. c.in-Lost.is ∙ failed) m.keeps);
      direct = λ some done. absurd (lost_done _ _ done);
      spends = λ some. failed_spends c.make_room.result _ (seen c.args.self.now) (seen c.make_room.new.self) (λ done. lost_done _ _ (sym c.in-Lost.is ∙ done)) (λ done. lost_done _ _ done) (m.opens some);
      lost = subst (LosesUntold g.M.Nand.tells c.args.self.now.places.items) c.in-Lost.is m.lost;
    }

pub returns-in-Fault : goal.returns-in-Fault
returns-in-Fault g c =
    let m = c.make_room.ensures in
    record {
      formed = m.keeps.stands.formed;
      serves = still_serves g.M.Nand c.args.self.now m.keeps.stands m.spare m.keeps.shape;
      writes = writes_none g.M.Nand fault_done (values_as g.M.Nand (λ failed. sym c.in-Fault.is ∙ failed) (λ failed. c.in-Fault.is ∙ failed) m.keeps);
      direct = λ some done. absurd (fault_done done);
      spends = λ some. failed_spends c.make_room.result _ (seen c.args.self.now) (seen c.make_room.new.self) (λ done. fault_done (sym c.in-Fault.is ∙ done)) (λ done. fault_done done) (m.opens some);
      lost = record { lost = tt; kept = λ t is. is };
    }

pub returns-in-Done-put : goal.returns-in-Done-put
returns-in-Done-put g c =
    let m = c.make_room.ensures in
    let p = c.put.ensures.puts in
    let made : c.make_room.result ≡ Fault → ⊥ = λ failed. done_fault (sym c.in-Done.is ∙ failed) in
    let writes = writes_then g.M.Nand c.put.new.self made m.keeps p.writes in
    record {
      formed = p.stands.formed;
      serves = still_serves g.M.Nand c.args.self.now p.stands p.spare (shape_then m.keeps.shape p.rest.shape);
      writes = writes_as g.M.Nand (λ done. refl) (λ done. c.in-Done-put.is) (λ failed. absurd (page_done_failed (sym c.in-Done-put.is ∙ failed))) (λ failed. absurd (done_fault failed)) writes;
      direct = λ some done.
          let direct = m.direct some c.in-Done.is in
          record {
            less = p.less ∙ direct.0;
            programmed = λ t. programmed_then g.M.Nand c.args.self.now c.make_room.new.self c.put.new.self m.keeps.shape p.stands.formed.segment.first (m.others t some c.in-Done.is) (p.programmed t c.in-Done-put.is);
          };
      spends = λ some. opened_spends (seen c.args.self.now) (seen c.make_room.new.self) (seen c.put.new.self) (subst (λ x. OpensNext x (seen c.args.self.now) (seen c.make_room.new.self)) c.in-Done.is (m.opens some)) (block_below c.make_room.new.self.active _ _ m.keeps.stands.formed.segment.active_is) p.tried _;
      lost = record { lost = tt; kept = λ t is. is };
    }

pub returns-in-Failed : goal.returns-in-Failed
returns-in-Failed g c =
    let m = c.make_room.ensures in
    let p = c.put.ensures.puts in
    let made : c.make_room.result ≡ Fault → ⊥ = λ failed. done_fault (sym c.in-Done.is ∙ failed) in
    let writes = writes_then g.M.Nand c.put.new.self made m.keeps p.writes in
    record {
      formed = p.stands.formed;
      serves = still_serves g.M.Nand c.args.self.now p.stands p.spare (shape_then m.keeps.shape p.rest.shape);
      writes = writes_as g.M.Nand (λ done. absurd (page_failed_done (sym c.in-Failed.is ∙ done))) (λ done. absurd (fault_done done)) (λ failed. refl) (λ failed. c.in-Failed.is) writes;
      direct = λ some done. absurd (fault_done done);
      spends = λ some. opened_spends (seen c.args.self.now) (seen c.make_room.new.self) (seen c.put.new.self) (subst (λ x. OpensNext x (seen c.args.self.now) (seen c.make_room.new.self)) c.in-Done.is (m.opens some)) (block_below c.make_room.new.self.active _ _ m.keeps.stands.formed.segment.active_is) p.tried _;
      lost = record { lost = tt; kept = λ t is. is };
    }
