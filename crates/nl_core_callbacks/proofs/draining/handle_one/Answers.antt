use Rattle.std.proofs.Common.{ap}
use Rattle.nl_field.specs.PointerItems.{PointerItems}
use Rattle.nl_handler.specs.declared.answer.Handled.TheVariants as handled
use Rattle.nl_meta_running.proofs.Holds.{bounds-of}
use Rattle.nl_core_callbacks.proofs.Handled.{Call, HolderLaws, Mark, altered, as-after, blocked-after, fault-other, handled-few, handled-not-full, handled-runs, handled-some, left-as, left-blocked, left-same, left-some, lost-other, marks-by, no-room-other}
use Rattle.nl_core_callbacks.proofs.draining.handle_one.Goals as goal

pub returns-in-NoRoom-clause-no_room : goal.returns-in-NoRoom-clause-no_room
returns-in-NoRoom-clause-no_room g c is =
    let G = g.D.Counts in
    let e = c.handle.ensures in
    let call : Call G c.args.device.now c.args.meta.now c.handle.new.device c.handle.new.meta c.args.flight.now c.args.freeing.now.items c.args.callback.now c.handle.result = record {
      bounds = bounds-of (G.shape c.args.device.now) (g.met.D.VirtualPages.numbers c.args.device.now c.requires.formed);
      runs = c.requires.runs;
      pending = c.requires.pending;
      does = record { elsewhere = e.elsewhere; stored = e.stored };
      changes = c.handler_changes_pages.ensures;
    } in
    let left = left-as call handled.NoRoom no-room-other c.in-NoRoom.is in
    blocked-after G c.args.callback.now c.handle.new.device c.handle.new.meta _ c.handle.new.flight _ c.handle.new.freeing.items e.flight (ap (λ (x : PointerItems). x.items) e.freeing)
    (left-blocked call left.0 left.1.1 left.1.0)

pub returns-in-NoRoom-clause-handles : goal.returns-in-NoRoom-clause-handles
returns-in-NoRoom-clause-handles g c =
    let G = g.D.Counts in
    let e = c.handle.ensures in
    let call : Call G c.args.device.now c.args.meta.now c.handle.new.device c.handle.new.meta c.args.flight.now c.args.freeing.now.items c.args.callback.now c.handle.result = record {
      bounds = bounds-of (G.shape c.args.device.now) (g.met.D.VirtualPages.numbers c.args.device.now c.requires.formed);
      runs = c.requires.runs;
      pending = c.requires.pending;
      does = record { elsewhere = e.elsewhere; stored = e.stored };
      changes = c.handler_changes_pages.ensures;
    } in
    let left = left-as call handled.NoRoom no-room-other c.in-NoRoom.is in
    as-after G c.args.transaction _ c.handle.new.device c.handle.new.meta _ c.handle.new.flight _ c.handle.new.freeing.items e.flight (ap (λ (x : PointerItems). x.items) e.freeing)
    (left-some call left.0 left.1.1 c.args.transaction)

pub returns-in-NoRoom-clause-few : goal.returns-in-NoRoom-clause-few
returns-in-NoRoom-clause-few g c =
    let G = g.D.Counts in
    let e = c.handle.ensures in
    let call : Call G c.args.device.now c.args.meta.now c.handle.new.device c.handle.new.meta c.args.flight.now c.args.freeing.now.items c.args.callback.now c.handle.result = record {
      bounds = bounds-of (G.shape c.args.device.now) (g.met.D.VirtualPages.numbers c.args.device.now c.requires.formed);
      runs = c.requires.runs;
      pending = c.requires.pending;
      does = record { elsewhere = e.elsewhere; stored = e.stored };
      changes = c.handler_changes_pages.ensures;
    } in
    handled-few call

pub returns-in-NoRoom-clause-same : goal.returns-in-NoRoom-clause-same
returns-in-NoRoom-clause-same g c off =
    let G = g.D.Counts in
    let e = c.handle.ensures in
    let call : Call G c.args.device.now c.args.meta.now c.handle.new.device c.handle.new.meta c.args.flight.now c.args.freeing.now.items c.args.callback.now c.handle.result = record {
      bounds = bounds-of (G.shape c.args.device.now) (g.met.D.VirtualPages.numbers c.args.device.now c.requires.formed);
      runs = c.requires.runs;
      pending = c.requires.pending;
      does = record { elsewhere = e.elsewhere; stored = e.stored };
      changes = c.handler_changes_pages.ensures;
    } in
    let left = left-as call handled.NoRoom no-room-other c.in-NoRoom.is in
    left-same call left.0 left.1.1

pub returns-in-Fault-clause-handles : goal.returns-in-Fault-clause-handles
returns-in-Fault-clause-handles g c =
    let G = g.D.Counts in
    let e = c.handle.ensures in
    let call : Call G c.args.device.now c.args.meta.now c.handle.new.device c.handle.new.meta c.args.flight.now c.args.freeing.now.items c.args.callback.now c.handle.result = record {
      bounds = bounds-of (G.shape c.args.device.now) (g.met.D.VirtualPages.numbers c.args.device.now c.requires.formed);
      runs = c.requires.runs;
      pending = c.requires.pending;
      does = record { elsewhere = e.elsewhere; stored = e.stored };
      changes = c.handler_changes_pages.ensures;
    } in
    let left = left-as call handled.Fault fault-other c.in-Fault.is in
    as-after G c.args.transaction _ c.handle.new.device c.handle.new.meta _ c.handle.new.flight _ c.handle.new.freeing.items e.flight (ap (λ (x : PointerItems). x.items) e.freeing)
    (left-some call left.0 left.1 c.args.transaction)

pub returns-in-Fault-clause-few : goal.returns-in-Fault-clause-few
returns-in-Fault-clause-few g c =
    let G = g.D.Counts in
    let e = c.handle.ensures in
    let call : Call G c.args.device.now c.args.meta.now c.handle.new.device c.handle.new.meta c.args.flight.now c.args.freeing.now.items c.args.callback.now c.handle.result = record {
      bounds = bounds-of (G.shape c.args.device.now) (g.met.D.VirtualPages.numbers c.args.device.now c.requires.formed);
      runs = c.requires.runs;
      pending = c.requires.pending;
      does = record { elsewhere = e.elsewhere; stored = e.stored };
      changes = c.handler_changes_pages.ensures;
    } in
    handled-few call

pub returns-in-Fault-clause-same : goal.returns-in-Fault-clause-same
returns-in-Fault-clause-same g c off =
    let G = g.D.Counts in
    let e = c.handle.ensures in
    let call : Call G c.args.device.now c.args.meta.now c.handle.new.device c.handle.new.meta c.args.flight.now c.args.freeing.now.items c.args.callback.now c.handle.result = record {
      bounds = bounds-of (G.shape c.args.device.now) (g.met.D.VirtualPages.numbers c.args.device.now c.requires.formed);
      runs = c.requires.runs;
      pending = c.requires.pending;
      does = record { elsewhere = e.elsewhere; stored = e.stored };
      changes = c.handler_changes_pages.ensures;
    } in
    let left = left-as call handled.Fault fault-other c.in-Fault.is in
    left-same call left.0 left.1

pub returns-in-Lost-clause-handles : goal.returns-in-Lost-clause-handles
returns-in-Lost-clause-handles g c =
    let G = g.D.Counts in
    let e = c.handle.ensures in
    let call : Call G c.args.device.now c.args.meta.now c.handle.new.device c.handle.new.meta c.args.flight.now c.args.freeing.now.items c.args.callback.now c.handle.result = record {
      bounds = bounds-of (G.shape c.args.device.now) (g.met.D.VirtualPages.numbers c.args.device.now c.requires.formed);
      runs = c.requires.runs;
      pending = c.requires.pending;
      does = record { elsewhere = e.elsewhere; stored = e.stored };
      changes = c.handler_changes_pages.ensures;
    } in
    let left = left-as call (handled.Lost c.in-Lost.wanted c.in-Lost.found) (lost-other c.in-Lost.wanted c.in-Lost.found) c.in-Lost.is in
    as-after G c.args.transaction _ c.handle.new.device c.handle.new.meta _ c.handle.new.flight _ c.handle.new.freeing.items e.flight (ap (λ (x : PointerItems). x.items) e.freeing)
    (left-some call left.0 left.1 c.args.transaction)

pub returns-in-Lost-clause-few : goal.returns-in-Lost-clause-few
returns-in-Lost-clause-few g c =
    let G = g.D.Counts in
    let e = c.handle.ensures in
    let call : Call G c.args.device.now c.args.meta.now c.handle.new.device c.handle.new.meta c.args.flight.now c.args.freeing.now.items c.args.callback.now c.handle.result = record {
      bounds = bounds-of (G.shape c.args.device.now) (g.met.D.VirtualPages.numbers c.args.device.now c.requires.formed);
      runs = c.requires.runs;
      pending = c.requires.pending;
      does = record { elsewhere = e.elsewhere; stored = e.stored };
      changes = c.handler_changes_pages.ensures;
    } in
    handled-few call

pub returns-in-Lost-clause-same : goal.returns-in-Lost-clause-same
returns-in-Lost-clause-same g c off =
    let G = g.D.Counts in
    let e = c.handle.ensures in
    let call : Call G c.args.device.now c.args.meta.now c.handle.new.device c.handle.new.meta c.args.flight.now c.args.freeing.now.items c.args.callback.now c.handle.result = record {
      bounds = bounds-of (G.shape c.args.device.now) (g.met.D.VirtualPages.numbers c.args.device.now c.requires.formed);
      runs = c.requires.runs;
      pending = c.requires.pending;
      does = record { elsewhere = e.elsewhere; stored = e.stored };
      changes = c.handler_changes_pages.ensures;
    } in
    let left = left-as call (handled.Lost c.in-Lost.wanted c.in-Lost.found) (lost-other c.in-Lost.wanted c.in-Lost.found) c.in-Lost.is in
    left-same call left.0 left.1

pub returns-in-Renamed-clause-runs : goal.returns-in-Renamed-clause-runs
returns-in-Renamed-clause-runs g c =
    let G = g.D.Counts in
    let e = c.handle.ensures in
    let call : Call G c.args.device.now c.args.meta.now c.handle.new.device c.handle.new.meta c.args.flight.now c.args.freeing.now.items c.args.callback.now c.handle.result = record {
      bounds = bounds-of (G.shape c.args.device.now) (g.met.D.VirtualPages.numbers c.args.device.now c.requires.formed);
      runs = c.requires.runs;
      pending = c.requires.pending;
      does = record { elsewhere = e.elsewhere; stored = e.stored };
      changes = c.handler_changes_pages.ensures;
    } in
    let m = c.handled.ensures in
    let mark : Mark G c.args.device.now c.handle.new.device c.handled.new.self c.handle.new.meta c.args.callback.now c.handle.result c.args.transaction = record {
      is = c.in-Renamed.is;
      runs = e.runs;
      marks = marks-by c.args.callback.now c.args.transaction (G.names c.args.device.now) (G.names c.handle.new.device) (G.names c.handled.new.self) c.handled.result (altered call).reads.names c.requires.pending m.marked m.none;
      kept = m.kept;
    } in
    handled-runs call mark

pub returns-in-Renamed-clause-done : goal.returns-in-Renamed-clause-done
returns-in-Renamed-clause-done g c is =
    let G = g.D.Counts in
    let e = c.handle.ensures in
    let call : Call G c.args.device.now c.args.meta.now c.handle.new.device c.handle.new.meta c.args.flight.now c.args.freeing.now.items c.args.callback.now c.handle.result = record {
      bounds = bounds-of (G.shape c.args.device.now) (g.met.D.VirtualPages.numbers c.args.device.now c.requires.formed);
      runs = c.requires.runs;
      pending = c.requires.pending;
      does = record { elsewhere = e.elsewhere; stored = e.stored };
      changes = c.handler_changes_pages.ensures;
    } in
    let m = c.handled.ensures in
    let mark : Mark G c.args.device.now c.handle.new.device c.handled.new.self c.handle.new.meta c.args.callback.now c.handle.result c.args.transaction = record {
      is = c.in-Renamed.is;
      runs = e.runs;
      marks = marks-by c.args.callback.now c.args.transaction (G.names c.args.device.now) (G.names c.handle.new.device) (G.names c.handled.new.self) c.handled.result (altered call).reads.names c.requires.pending m.marked m.none;
      kept = m.kept;
    } in
    mark.marks

pub returns-in-Renamed-clause-room_made : goal.returns-in-Renamed-clause-room_made
returns-in-Renamed-clause-room_made g c is blocked =
    let G = g.D.Counts in
    let e = c.handle.ensures in
    let call : Call G c.args.device.now c.args.meta.now c.handle.new.device c.handle.new.meta c.args.flight.now c.args.freeing.now.items c.args.callback.now c.handle.result = record {
      bounds = bounds-of (G.shape c.args.device.now) (g.met.D.VirtualPages.numbers c.args.device.now c.requires.formed);
      runs = c.requires.runs;
      pending = c.requires.pending;
      does = record { elsewhere = e.elsewhere; stored = e.stored };
      changes = c.handler_changes_pages.ensures;
    } in
    let m = c.handled.ensures in
    let mark : Mark G c.args.device.now c.handle.new.device c.handled.new.self c.handle.new.meta c.args.callback.now c.handle.result c.args.transaction = record {
      is = c.in-Renamed.is;
      runs = e.runs;
      marks = marks-by c.args.callback.now c.args.transaction (G.names c.args.device.now) (G.names c.handle.new.device) (G.names c.handled.new.self) c.handled.result (altered call).reads.names c.requires.pending m.marked m.none;
      kept = m.kept;
    } in
    handled-not-full call mark blocked

pub returns-in-Renamed-clause-few : goal.returns-in-Renamed-clause-few
returns-in-Renamed-clause-few g c =
    let G = g.D.Counts in
    let e = c.handle.ensures in
    let call : Call G c.args.device.now c.args.meta.now c.handle.new.device c.handle.new.meta c.args.flight.now c.args.freeing.now.items c.args.callback.now c.handle.result = record {
      bounds = bounds-of (G.shape c.args.device.now) (g.met.D.VirtualPages.numbers c.args.device.now c.requires.formed);
      runs = c.requires.runs;
      pending = c.requires.pending;
      does = record { elsewhere = e.elsewhere; stored = e.stored };
      changes = c.handler_changes_pages.ensures;
    } in
    handled-few call

pub returns-in-Renamed-clause-handles : goal.returns-in-Renamed-clause-handles
returns-in-Renamed-clause-handles g c =
    let G = g.D.Counts in
    let e = c.handle.ensures in
    let call : Call G c.args.device.now c.args.meta.now c.handle.new.device c.handle.new.meta c.args.flight.now c.args.freeing.now.items c.args.callback.now c.handle.result = record {
      bounds = bounds-of (G.shape c.args.device.now) (g.met.D.VirtualPages.numbers c.args.device.now c.requires.formed);
      runs = c.requires.runs;
      pending = c.requires.pending;
      does = record { elsewhere = e.elsewhere; stored = e.stored };
      changes = c.handler_changes_pages.ensures;
    } in
    let m = c.handled.ensures in
    let mark : Mark G c.args.device.now c.handle.new.device c.handled.new.self c.handle.new.meta c.args.callback.now c.handle.result c.args.transaction = record {
      is = c.in-Renamed.is;
      runs = e.runs;
      marks = marks-by c.args.callback.now c.args.transaction (G.names c.args.device.now) (G.names c.handle.new.device) (G.names c.handled.new.self) c.handled.result (altered call).reads.names c.requires.pending m.marked m.none;
      kept = m.kept;
    } in
    let laws : HolderLaws G = record { keeps = c.handler_keeps.ensures; flies = c.holders_renamed.ensures.flight; awaits = c.holders_renamed.ensures.freeing } in
    as-after G c.args.transaction _ c.handled.new.self c.handle.new.meta _ c.handle.new.flight _ c.handle.new.freeing.items e.flight (ap (λ (x : PointerItems). x.items) e.freeing)
    (handled-some call mark laws)
