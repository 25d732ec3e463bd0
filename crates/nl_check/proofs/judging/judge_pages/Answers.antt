use Rattle.nl_meta.specs.Pages.{page_of}
use Rattle.nl_meta.specs.Walk.{fault_in}
use Rattle.nl_check.proofs.Told.{two-phases}
use Rattle.nl_check.proofs.judging.judge_pages.Goals as goal

pub returns : goal.returns
unfolding fault_in
returns c =
    two-phases (fault_in c.args.shape.now (page_of c.args.meta.now) c.args.scan.now.seen) c.args.bits c.note-bits.result c.note.result c.in_ok-pages_fault.field-0 c.in_ok-names_fault.field-0
    c.in_ok-pages_fault.ensures c.in_ok-names_fault.ensures c.note-bits.ensures.each c.note-bits.ensures.none c.note.ensures.each c.note.ensures.none
