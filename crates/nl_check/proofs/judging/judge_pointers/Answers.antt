use Rattle.std.proofs.Common.{◌∙◌, ap, List, length, nat_lt}
use Rattle.nl_field.specs.ScanList.{physical_seen}
use Rattle.nl_meta.specs.Nodes.{Held}
use Rattle.nl_meta.specs.Pages.{page_of}
use Rattle.nl_meta.specs.Walk.{crowded_fault, fault_in, name_fault, pointer_fault, zero_where}
use Rattle.nl_check.proofs.Told.{four-phases}
use Rattle.nl_check.proofs.judging.judge_pointers.Goals as goal

pub returns : goal.returns
unfolding fault_in
returns c =
    let shape = c.args.shape.now in
    let seen = c.args.scan.now.seen in
    let all = c.requires.all in
    four-phases (fault_in shape (page_of c.args.meta.now) seen) c.args.bits c.note-bits.result c.note-bits-2.result c.note-bits-3.result c.note.result
    c.in_ok-pointer_fault.field-0 c.in_ok-name_fault.field-0 c.charge_fault.result c.in_ok-crowded_fault.field-0
    (c.in_ok-pointer_fault.ensures ∙ ap (pointer_fault (physical_seen shape seen)) all)
    (c.in_ok-name_fault.ensures ∙ ap (name_fault shape seen) all)
    (c.charge_fault.ensures ∙ ap (λ (h : List Held). zero_where (nat_lt shape.cap (length h))) all)
    (c.in_ok-crowded_fault.ensures ∙ ap (crowded_fault shape seen) all)
    c.note-bits.ensures.each c.note-bits.ensures.none c.note-bits-2.ensures.each c.note-bits-2.ensures.none
    c.note-bits-3.ensures.each c.note-bits-3.ensures.none c.note.ensures.each c.note.ensures.none
