use Rattle.std.proofs.Common.{◌≡◌, ◌+◌, IsTrue}
use Rattle.nl_field.specs.Page.{erased}
use Rattle.nl_store.specs.Store.{KillLeaves}
use Rattle.nl_imgfile.specs.PageRecord.{erased_record}
use Rattle.nl_imgfile.specs.DiskImage.{PagesFilled, PagesCut, RecordsFilled}
use Rattle.nl_imgfile.proofs.calls.erase_pages.Given as goal

abbrev pub invariant-loop-page : goal.invariant-loop-page
invariant-loop-page g l = record {
  buffer : l.buffer ≡ erased_record;
  moment : g.S.Store.moment l.store ≡ g.S.Store.moment l.fn.store;
  read_faults : g.S.Store.read_faults l.store ≡ g.S.Store.read_faults l.fn.store;
  write_faults : g.S.Store.write_faults l.store ≡ g.S.Store.write_faults l.fn.store;
  told : IsTrue g.S.Store.tells → PagesFilled l.first l.page erased (g.S.Store.bytes l.fn.store) (g.S.Store.bytes l.store);
  zeros : IsTrue g.S.Store.tells → RecordsFilled l.first l.page erased_record (g.S.Store.bytes l.fn.store) (g.S.Store.bytes l.store);
  crash : IsTrue g.S.Store.tells → KillLeaves g.S.Store.moment g.S.Store.left (PagesCut l.first (l.first + l.count) erased (g.S.Store.bytes l.fn.store)) l.fn.store l.store;
}
