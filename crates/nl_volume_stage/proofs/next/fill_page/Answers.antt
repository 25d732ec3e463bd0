use Rattle.std.proofs.Common.{◌-◌, ◌*◌, ◌∙◌, Some, length, sym, ap, subst, replicate, take, drop}
use Rattle.std.specs.Prelude.{IsSome, IsTrue}
use Rattle.std.proofs.lemmas.List.{length-replicate}
use Rattle.nl_tree.specs.Event.{is_whole, page_given}
use Rattle.nl_volume_stage.proofs.Given.{fill_given, full_head, fill_whole, none_given, write_given, write_whole}
use Rattle.nl_volume_stage.proofs.next.fill_page.Goals as goal

pub copy_part-requires : goal.copy_part-requires
copy_part-requires c =
    let w = c.in-Write in
    record { whole = subst (λ bytes. IsTrue (is_whole w.from (length bytes) c.args.index)) (sym c.bytes.ensures) (write_whole w.field-0 w.from w.bytes c.args.index (subst (λ call. IsSome (page_given call c.args.index)) w.is c.requires.whole)) }

pub unreachable-requires : goal.unreachable-requires
unreachable-requires c = none_given c.args.call.now c.args.index c.in_default.not-Write c.in_default.not-Fill c.requires.whole

pub returns-in-Write : goal.returns-in-Write
returns-in-Write c =
    let w = c.in-Write in
    ap (λ call. page_given call c.args.index) w.is
    ∙ (write_given w.field-0 w.from w.bytes c.args.index (write_whole w.field-0 w.from w.bytes c.args.index (subst (λ call. IsSome (page_given call c.args.index)) w.is c.requires.whole))
    ∙ ap Some (ap (λ bytes. take 4096 (drop (4096 * c.args.index - w.from) bytes)) (sym c.bytes.ensures) ∙ sym c.copy_part.ensures))

pub returns-in-Fill : goal.returns-in-Fill
returns-in-Fill c =
    let w = c.in-Fill in
    ap (λ call. page_given call c.args.index) w.is
    ∙ (fill_given w.field-0 w.field-1 w.field-2 w.byte c.args.index (fill_whole w.field-0 w.field-1 w.field-2 w.byte c.args.index (subst (λ call. IsSome (page_given call c.args.index)) w.is c.requires.whole))
    ∙ ap Some (sym (c.set_head.ensures.main ∙ full_head (replicate 4096 w.byte) (length-replicate 4096 w.byte))))
