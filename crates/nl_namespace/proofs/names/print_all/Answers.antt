use Rattle.std.proofs.Common.{◌≡◌, ◌<◌, ◌++◌, ℕ, List, [], ◌∷◌, length, take, refl, sym, ap, subst, ◌∙◌, Some, arith}
use Rattle.std.specs.Prelude.{slice_get, slice_index_or}
use Rattle.nl_field.specs.Graph.{Graph}
use Rattle.nl_field.specs.declared.entry.EntryRec.{EntryRec}
use Rattle.nl_meta.proofs.AddressProofs.{inode_spelled}
use Rattle.nl_meta.specs.Nodes.{entries_of_inode}
use Rattle.nl_dir.proofs.LawProofs.{entries_in_order}
use Rattle.nl_dir.proofs.Records.{spelled-dir}
use Rattle.nl_namespace.specs.Listing.{IsListing, text_of}
use Rattle.nl_namespace.specs.Sorting.{IsOrder, entries_at}
use Rattle.nl_meta_running.specs.Running.{running_on}
use Rattle.nl_namespace.proofs.Entries.{held-on}
use Rattle.nl_namespace.proofs.Graphs.{graph}
use Rattle.nl_meta_running.proofs.Holds.{bounds-of, none-runs}
use Rattle.nl_meta_running.proofs.Kept.{kept-then, runs-then, used-on}
use Rattle.nl_namespace.proofs.Placing.{all-listed, none-printed, place-at-position, place-has, printed-more}
use Rattle.nl_namespace.proofs.Texts.{directory-of, entries-on, graph-on}
use Rattle.nl_namespace.proofs.names.print_all.Goals as goal

pub in_order-order-requires-clause-few : goal.in_order-order-requires-clause-few
in_order-order-requires-clause-few g c =
    let d = c.requires.directory in (spelled-dir c.args.rec.now d.2 (inode_spelled _ _ d.0 c.args.rec.now d.1)).few

pub loop-i-init : goal.loop-i-init
loop-i-init g c =
    let n = ap length c.requires.nothing in
    record {
      formed = c.in-Ok.ensures.formed;
      kept = none-runs g.D.Counts c.hold_entries.new.device c.hold_entries.new.meta (runs-then g.D.Counts c.args.device.now c.args.meta.now c.hold_entries.new.device c.hold_entries.new.meta (bounds-of (g.D.Counts.shape c.args.device.now) (g.met.D.VirtualPages.numbers c.args.device.now c.requires.formed)) c.in-Ok.ensures.kept c.requires.runs);
      faults = refl;
      short = omega (arith, n);
      printed = c.requires.nothing ∙ none-printed (graph g.D.Counts c.hold_entries.new.device c.hold_entries.new.meta) (entries_of_inode (running_on g.D.Counts c.hold_entries.new.device c.hold_entries.new.meta) c.args.rec.now) c.in_order-order.result.items;
    }

pub print_place-requires-clause-runs : goal.print_place-requires-clause-runs
print_place-requires-clause-runs g c =
    runs-then g.D.Counts c.hold_entries.new.device c.hold_entries.new.meta c.loop-i.device c.loop-i.meta (bounds-of (g.D.Counts.shape c.hold_entries.new.device) (g.met.D.VirtualPages.numbers c.hold_entries.new.device c.in-Ok.ensures.formed)) c.loop-i.invariant.kept (runs-then g.D.Counts c.args.device.now c.args.meta.now c.hold_entries.new.device c.hold_entries.new.meta (bounds-of (g.D.Counts.shape c.args.device.now) (g.met.D.VirtualPages.numbers c.args.device.now c.requires.formed)) c.in-Ok.ensures.kept c.requires.runs)

pub print_place-requires-clause-directory : goal.print_place-requires-clause-directory
print_place-requires-clause-directory g c =
    let d = c.requires.directory in
    (d.0, used-on g.D.Counts c.hold_entries.new.device c.hold_entries.new.meta c.loop-i.device c.loop-i.meta (bounds-of (g.D.Counts.shape c.hold_entries.new.device) (g.met.D.VirtualPages.numbers c.hold_entries.new.device c.in-Ok.ensures.formed)) c.loop-i.invariant.kept d.0 c.args.rec.now (used-on g.D.Counts c.args.device.now c.args.meta.now c.hold_entries.new.device c.hold_entries.new.meta (bounds-of (g.D.Counts.shape c.args.device.now) (g.met.D.VirtualPages.numbers c.args.device.now c.requires.formed)) c.in-Ok.ensures.kept d.0 c.args.rec.now d.1), d.2)

pub print_place-requires-clause-held : goal.print_place-requires-clause-held
print_place-requires-clause-held g c =
    let d = c.requires.directory in
    let b = bounds-of (g.D.Counts.shape c.args.device.now) (g.met.D.VirtualPages.numbers c.args.device.now c.requires.formed) in
    let held = c.in-Ok.ensures.there in
    held-on g.D.Counts c.hold_entries.new.device c.hold_entries.new.meta c.loop-i.device c.loop-i.meta (bounds-of (g.D.Counts.shape c.hold_entries.new.device) (g.met.D.VirtualPages.numbers c.hold_entries.new.device c.in-Ok.ensures.formed)) c.loop-i.invariant.kept d.0 c.args.rec.now
    (used-on g.D.Counts c.args.device.now c.args.meta.now c.hold_entries.new.device c.hold_entries.new.meta b c.in-Ok.ensures.kept d.0 c.args.rec.now d.1) d.2
    (runs-then g.D.Counts c.args.device.now c.args.meta.now c.hold_entries.new.device c.hold_entries.new.meta b c.in-Ok.ensures.kept c.requires.runs)
    (record { directory = held.directory; entries = held.entries ∙ sym (entries-on g.D.Counts c.args.device.now c.args.meta.now c.hold_entries.new.device c.hold_entries.new.meta b c.in-Ok.ensures.kept d.0 c.args.rec.now d.1 d.2) })

pub print_place-requires-clause-below : goal.print_place-requires-clause-below
print_place-requires-clause-below g c =
    let order = (subst (λ (es : List EntryRec). IsOrder es c.args.rec.now.size c.in_order-order.result.items) (c.in-Ok.ensures.there.entries ∙ sym (entries-on g.D.Counts c.args.device.now c.args.meta.now c.hold_entries.new.device c.hold_entries.new.meta (bounds-of (g.D.Counts.shape c.args.device.now) (g.met.D.VirtualPages.numbers c.args.device.now c.requires.formed)) c.in-Ok.ensures.kept c.requires.directory.0 c.args.rec.now c.requires.directory.1 c.requires.directory.2)) c.in_order-order.ensures) in
    let e = c.size_of-count.ensures in
    let t = c.loop-i-test.true in
    let n = order.counted in
    let s = ap length c.as_slice.ensures.value in
    let inside : c.loop-i.i < length c.as_slice.result.now = omega (arith, e, t, n, s) in
    let at = place-at-position c.as_slice.result.now c.loop-i.i inside in
    let h = subst (λ (ps : List ℕ). slice_get ps c.loop-i.i ≡ Some (slice_index_or c.as_slice.result.now c.loop-i.i 0)) c.as_slice.ensures.value at in
    order.below (slice_index_or c.as_slice.result.now c.loop-i.i 0) (place-has c.in_order-order.result.items c.loop-i.i (slice_index_or c.as_slice.result.now c.loop-i.i 0) h)

pub print_place-requires-clause-room : goal.print_place-requires-clause-room
print_place-requires-clause-room g c =
    let d = c.requires.directory in
    let few = (spelled-dir c.args.rec.now d.2 (inode_spelled _ _ d.0 c.args.rec.now d.1)).few in
    let e = c.size_of-count.ensures in
    let t = c.loop-i-test.true in
    let s = c.loop-i.invariant.short in
    omega (arith, few, e, t, s)

pub loop-i-preserved : goal.loop-i-preserved
loop-i-preserved g c =
    let order = (subst (λ (es : List EntryRec). IsOrder es c.args.rec.now.size c.in_order-order.result.items) (c.in-Ok.ensures.there.entries ∙ sym (entries-on g.D.Counts c.args.device.now c.args.meta.now c.hold_entries.new.device c.hold_entries.new.meta (bounds-of (g.D.Counts.shape c.args.device.now) (g.met.D.VirtualPages.numbers c.args.device.now c.requires.formed)) c.in-Ok.ensures.kept c.requires.directory.0 c.args.rec.now c.requires.directory.1 c.requires.directory.2)) c.in_order-order.ensures) in
    let e = c.size_of-count.ensures in
    let t = c.loop-i-test.true in
    let n = order.counted in
    let s = ap length c.as_slice.ensures.value in
    let inside : c.loop-i.i < length c.as_slice.result.now = omega (arith, e, t, n, s) in
    let at = place-at-position c.as_slice.result.now c.loop-i.i inside in
    let h = subst (λ (ps : List ℕ). slice_get ps c.loop-i.i ≡ Some (slice_index_or c.as_slice.result.now c.loop-i.i 0)) c.as_slice.ensures.value at in
    let d = c.requires.directory in
    let ok = c.in-Ok-print_place.ensures in
    let p = ok.printed in
    let short = c.loop-i.invariant.short in
    let longer = ok.short in
    let there = subst (λ (es : List EntryRec). slice_get es (slice_index_or c.as_slice.result.now c.loop-i.i 0) ≡ Some p.entry) (entries-on g.D.Counts c.hold_entries.new.device c.hold_entries.new.meta c.loop-i.device c.loop-i.meta (bounds-of (g.D.Counts.shape c.hold_entries.new.device) (g.met.D.VirtualPages.numbers c.hold_entries.new.device c.in-Ok.ensures.formed)) c.loop-i.invariant.kept d.0 c.args.rec.now (used-on g.D.Counts c.args.device.now c.args.meta.now c.hold_entries.new.device c.hold_entries.new.meta (bounds-of (g.D.Counts.shape c.args.device.now) (g.met.D.VirtualPages.numbers c.args.device.now c.requires.formed)) c.in-Ok.ensures.kept d.0 c.args.rec.now d.1) d.2) p.at in
    let text : c.print_place.new.out ≡ c.loop-i.out ++ text_of (graph g.D.Counts c.hold_entries.new.device c.hold_entries.new.meta) (p.entry ∷ []) = p.printed ∙ ap (λ (n : Graph). c.loop-i.out ++ text_of n (p.entry ∷ [])) (graph-on g.D.Counts c.hold_entries.new.device c.hold_entries.new.meta c.loop-i.device c.loop-i.meta (bounds-of (g.D.Counts.shape c.hold_entries.new.device) (g.met.D.VirtualPages.numbers c.hold_entries.new.device c.in-Ok.ensures.formed)) c.loop-i.invariant.kept) in
    record {
      formed = ok.formed;
      kept = kept-then g.D.Counts c.hold_entries.new.device c.hold_entries.new.meta c.loop-i.device c.loop-i.meta (bounds-of (g.D.Counts.shape c.hold_entries.new.device) (g.met.D.VirtualPages.numbers c.hold_entries.new.device c.in-Ok.ensures.formed)) c.loop-i.invariant.kept c.print_place.new.device c.print_place.new.meta ok.kept;
      faults = ok.reads ∙ c.loop-i.invariant.faults;
      short = omega (arith, short, longer);
      printed = text ∙ printed-more (graph g.D.Counts c.hold_entries.new.device c.hold_entries.new.meta) (entries_of_inode (running_on g.D.Counts c.hold_entries.new.device c.hold_entries.new.meta) c.args.rec.now) c.in_order-order.result.items c.loop-i.i (slice_index_or c.as_slice.result.now c.loop-i.i 0) p.entry c.loop-i.out h there c.loop-i.invariant.printed;
    }

pub returns-clause-listed : goal.returns-clause-listed
returns-clause-listed g c =
    let order = (subst (λ (es : List EntryRec). IsOrder es c.args.rec.now.size c.in_order-order.result.items) (c.in-Ok.ensures.there.entries ∙ sym (entries-on g.D.Counts c.args.device.now c.args.meta.now c.hold_entries.new.device c.hold_entries.new.meta (bounds-of (g.D.Counts.shape c.args.device.now) (g.met.D.VirtualPages.numbers c.args.device.now c.requires.formed)) c.in-Ok.ensures.kept c.requires.directory.0 c.args.rec.now c.requires.directory.1 c.requires.directory.2)) c.in_order-order.ensures) in
    let d = c.requires.directory in
    let e = c.size_of-count.ensures in
    let t = c.loop-i-test.false in
    let most = c.loop-i.auto.i-end in
    let same : c.loop-i.i ≡ c.size_of-count.result = omega (arith, t, most) in
    let n = ap length (entries-on g.D.Counts c.args.device.now c.args.meta.now c.hold_entries.new.device c.hold_entries.new.meta (bounds-of (g.D.Counts.shape c.args.device.now) (g.met.D.VirtualPages.numbers c.args.device.now c.requires.formed)) c.in-Ok.ensures.kept c.requires.directory.0 c.args.rec.now c.requires.directory.1 c.requires.directory.2) ∙ (entries_in_order (running_on g.D.Counts c.args.device.now c.args.meta.now) c.args.rec.now (directory-of g.D.Counts c.args.device.now c.args.meta.now c.requires.runs d.0 c.args.rec.now d.1 d.2)).count in
    subst (λ (z : Graph). IsListing z (entries_of_inode (running_on g.D.Counts c.args.device.now c.args.meta.now) c.args.rec.now) c.size_of-count.result c.loop-i.out) (graph-on g.D.Counts c.args.device.now c.args.meta.now c.hold_entries.new.device c.hold_entries.new.meta (bounds-of (g.D.Counts.shape c.args.device.now) (g.met.D.VirtualPages.numbers c.args.device.now c.requires.formed)) c.in-Ok.ensures.kept)
    (subst (λ (xs : List EntryRec). IsListing (graph g.D.Counts c.hold_entries.new.device c.hold_entries.new.meta) xs c.size_of-count.result c.loop-i.out) (entries-on g.D.Counts c.args.device.now c.args.meta.now c.hold_entries.new.device c.hold_entries.new.meta (bounds-of (g.D.Counts.shape c.args.device.now) (g.met.D.VirtualPages.numbers c.args.device.now c.requires.formed)) c.in-Ok.ensures.kept c.requires.directory.0 c.args.rec.now c.requires.directory.1 c.requires.directory.2)
    (all-listed (graph g.D.Counts c.hold_entries.new.device c.hold_entries.new.meta) (entries_of_inode (running_on g.D.Counts c.hold_entries.new.device c.hold_entries.new.meta) c.args.rec.now) c.in_order-order.result.items c.size_of-count.result c.loop-i.out (subst (λ (k : ℕ). IsOrder (entries_of_inode (running_on g.D.Counts c.hold_entries.new.device c.hold_entries.new.meta) c.args.rec.now) k c.in_order-order.result.items) (sym e) order) (n ∙ sym e)
    (subst (λ (k : ℕ). c.loop-i.out ≡ text_of (graph g.D.Counts c.hold_entries.new.device c.hold_entries.new.meta) (entries_at (entries_of_inode (running_on g.D.Counts c.hold_entries.new.device c.hold_entries.new.meta) c.args.rec.now) (take k c.in_order-order.result.items))) same c.loop-i.invariant.printed)))

pub returns-clause-kept : goal.returns-clause-kept
returns-clause-kept g c =
    kept-then g.D.Counts c.args.device.now c.args.meta.now c.hold_entries.new.device c.hold_entries.new.meta (bounds-of (g.D.Counts.shape c.args.device.now) (g.met.D.VirtualPages.numbers c.args.device.now c.requires.formed)) c.in-Ok.ensures.kept c.loop-i.device c.loop-i.meta c.loop-i.invariant.kept

pub returns-in-Err-print_place-clause-kept : goal.returns-in-Err-print_place-clause-kept
returns-in-Err-print_place-clause-kept g c =
    kept-then g.D.Counts c.args.device.now c.args.meta.now c.hold_entries.new.device c.hold_entries.new.meta (bounds-of (g.D.Counts.shape c.args.device.now) (g.met.D.VirtualPages.numbers c.args.device.now c.requires.formed)) c.in-Ok.ensures.kept c.print_place.new.device c.print_place.new.meta
    (kept-then g.D.Counts c.hold_entries.new.device c.hold_entries.new.meta c.loop-i.device c.loop-i.meta (bounds-of (g.D.Counts.shape c.hold_entries.new.device) (g.met.D.VirtualPages.numbers c.hold_entries.new.device c.in-Ok.ensures.formed)) c.loop-i.invariant.kept c.print_place.new.device c.print_place.new.meta c.in-Err-print_place.ensures.kept)

pub returns-clause-reads : goal.returns-clause-reads
returns-clause-reads g c =
    c.loop-i.invariant.faults ∙ c.in-Ok.ensures.reads
