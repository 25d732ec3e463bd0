use Rattle.std.proofs.Common.{sym, ap, is_some, subst, Option, ℕ}
use Rattle.std.proofs.lemmas.Bool.{both_ways}
use Rattle.nl_field.specs.declared.inode.InodeRec.{InodeRec}
use Rattle.nl_meta.specs.Pages.{page_of}
use Rattle.nl_dir.specs.Changes.{RemovesDirectoryEntry}
use Rattle.nl_dir.specs.Directory.{HasPlaces, given_up}
use Rattle.nl_dir.specs.Slots.{DropsLast}
use Rattle.nl_dir.proofs.LookProofs.{finds-none}
use Rattle.nl_dir.proofs.RemoveProofs.{removes}
use Rattle.nl_dir.proofs.change.remove.Goals as goal

pub unreachable-requires : goal.unreachable-requires
unreachable-requires c = both_ways _ (ap is_some (finds-none (page_of c.args.meta.now) c.args.rec.now c.args.name.now c.in-None.ensures)) c.requires.there

pub returns : goal.returns
returns c =
    let p = c.args.meta.now in
    let m = c.fill.new.meta in
    let q = c.drop_last.new.meta in
    let rec = c.args.rec.now in
    let name = c.args.name.now in
    let is = c.drop_last.ensures.dropped.record_after in
    subst (λ (gone : Option ℕ). RemovesDirectoryEntry name gone rec c.drop_last.new.rec p q) (sym c.drop_last.ensures.given)
    (subst (λ (r : InodeRec). RemovesDirectoryEntry name (given_up rec) rec r p q) (sym is)
    (removes p m q rec name c.in-Some.place c.requires.directory c.in-Some.ensures c.fill.ensures.filled
    (subst (λ (r : InodeRec). DropsLast rec r m q) is c.drop_last.ensures.dropped) (subst (λ (r : InodeRec). HasPlaces (page_of q) r) is c.drop_last.ensures.places)))
