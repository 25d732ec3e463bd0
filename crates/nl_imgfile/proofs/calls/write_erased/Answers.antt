use Rattle.std.proofs.Common.{◌∙◌, ◌+◌}
use Rattle.nl_field.specs.Page.{erased}
use Rattle.nl_imgfile.specs.DiskImage.{PagesCut}
use Rattle.nl_imgfile.proofs.DiskPages.{erase_front, erase_leaves, erase_record, weaker}
use Rattle.nl_imgfile.proofs.calls.write_erased.Goals as goal

pub returns-clause-told : goal.returns-clause-told
returns-clause-told g c t = erase_leaves c.args._page c.args.at _ _ _ c.put.result c.requires.place (c.bytes.ensures.bytes ∙ c.requires.bytes) (c.put.ensures.told t)

pub returns-clause-zeros : goal.returns-clause-zeros
returns-clause-zeros g c t done = erase_record c.args._page c.args.at _ _ _ c.put.result c.requires.place (c.bytes.ensures.bytes ∙ c.requires.bytes) done (c.put.ensures.told t)

pub returns-clause-crash : goal.returns-clause-crash
returns-clause-crash g c t =
    weaker (PagesCut c.args._page (c.args._page + 1) erased (g.S.Store.bytes c.args.store.now)) (λ b cut. erase_front c.args._page c.args.at _ _ b c.requires.place (c.bytes.ensures.bytes ∙ c.requires.bytes) cut) c.put.ensures.crash
