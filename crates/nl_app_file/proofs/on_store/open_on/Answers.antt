use Rattle.std.proofs.Common.{sym, subst, Bool}
use Rattle.nl_imgfile.specs.DiskImage.{image_of_store}
use Rattle.nl_spec_headline.specs.Streams.{medium_seen, stream}
use Rattle.nl_app_file.specs.OnStore.{SeenInStore}
use Rattle.nl_app_file.proofs.Endings.{ends_by}
use Rattle.nl_app_file.proofs.Stops.{stops_in_store}
use Rattle.nl_imgfile.specs.contracts.opened_nand.OpenedNandNand.TheImpl.{ghosts}
use Rattle.nl_app_file.proofs.on_store.open_on.Goals as goal

pub returns-in-Ok-clause-ended : goal.returns-in-Ok-clause-ended
returns-in-Ok-clause-ended g c =
    let s = g.S.Source in
    let k = g.K.Sink in
    let b = g.B.Store in
    let n = c.nameless-status in
    let o = ghosts g.row.B g.B.Store g.B.Store-dict in
    record {
      before = medium_seen o c.in-Ok.media;
      after = medium_seen o n.result.media;
      order = n.result.order.items;
      syncs = n.result.syncs.items;
      starts = λ t. c.in-Ok.ensures.contents t;
      holds = λ t. subst (λ (x : Bool). SeenInStore x (image_of_store (b.bytes c.into_store.result)) (o.contents n.result.media)) (sym c.requires) (c.into_store.ensures.contents t);
      counts = record {
        clock_first = c.in-Ok.ensures.clock;
        clock_last = sym c.into_store.ensures.clock;
        reads_first = c.in-Ok.ensures.read_faults;
        reads_last = sym c.into_store.ensures.read_faults;
        writes_first = c.in-Ok.ensures.write_faults;
        writes_last = sym c.into_store.ensures.write_faults;
      };
      ends = ends_by (stops_in_store o b c.in-Ok.media n.result.media c.args.store c.into_store.result (λ t. t) ((g.met.B.Store g.world.𝓛 g.world.𝓜 g.world.𝓡 ((λ s x. x), (λ x. x), (λ x. x), λ x. x)).now_left c.args.store)
          (λ t. c.in-Ok.ensures.left t) c.in-Ok.ensures.clock (sym c.into_store.ensures.clock) (λ t. c.into_store.ensures.left t))
          (stream (s.left c.args.src.now) (s.faults c.args.src.now)) (stream (s.left n.new.src) (s.faults n.new.src))
          (stream (k.taken c.args.sink.now) (k.faults c.args.sink.now)) (stream (k.taken n.new.sink) (k.faults n.new.sink))
          (medium_seen o c.in-Ok.media) (medium_seen o n.result.media) n.result.order.items n.result.syncs.items n.result.refused n.result.status c.args.words.now n.ensures.ended;
      refused_only = n.ensures.refused;
      carries_out = n.ensures.completes;
    }
