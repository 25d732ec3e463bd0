use Rattle.std.proofs.Common.{subst, sym}
use Rattle.nl_imgfile.specs.DiskImage.{SameOrBlank, image_of_store}
use Rattle.nl_imgfile.specs.DiskMedium.{contents_of}
use Rattle.nl_imgfile.proofs.DiskOperations.{image_or_blank, left_or_blank, told_or_erased}
use Rattle.nl_imgfile.proofs.forming_nand.FormingNand.into_store.Goals as goal

pub returns-clause-contents : goal.returns-clause-contents
returns-clause-contents g c t =
    let s = g.S.Store in
    let d = c.args.self.disk in
    subst (λ x. SameOrBlank (image_of_store (s.bytes x)) (contents_of s.tells s.bytes d)) (sym c.into_store.ensures)
    (image_or_blank s.tells s.bytes s.moment s.left d t (told_or_erased s.tells s.bytes s.moment s.left d (s.moment d.store) (s.bytes d.store) (c.args.self.erased t) (g.met.S.Store.now_left d.store)))

pub returns-clause-left : goal.returns-clause-left
returns-clause-left g c t m b l =
    let s = g.S.Store in
    let d = c.args.self.disk in
    let was = subst (λ x. s.left x m b) c.into_store.ensures l in
    left_or_blank s.tells s.bytes s.moment s.left d m b t (told_or_erased s.tells s.bytes s.moment s.left d m b (c.args.self.erased t) was) was
