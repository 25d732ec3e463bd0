use Rattle.std.proofs.Common.{◌∙◌, ap, subst}
use Rattle.nl_spec_headline.specs.Streams.{Prints, sink_seen}
use Rattle.nl_cmd_put.specs.Putting.{all_read, not_opened}
use Rattle.nl_top.proofs.on_path.put_at.Goals as goal

-- no volume was opened
pub returns-in-Err : goal.returns-in-Err
returns-in-Err g c = record {
  ended =
      let m = g.M.Nand in
      let end = c.refused in
      let left = c.in-Err.ensures.left in
      let told = end.ensures.ended c.args.media c.in-Err.ensures.why in
      let read = c.in-Err.ensures.read in
      all_read read.0 read.1
      (not_opened told.0 told.1 end.ensures.refused (λ t moment image was. left.no_more_left t moment image (subst (λ (x : g.row.M.Denot). m.left x moment image) end.ensures.media was))
      (record {
        prints = subst (λ (k : g.row.K.Denot). Prints (sink_seen g.K.Sink k) (sink_seen g.K.Sink end.new.sink) told.0) c.in-Err.ensures.quiet told.2;
        untouched = record {
          same_contents = λ t. ap m.contents end.ensures.media ∙ left.same_contents t;
          same_clock = ap m.clock end.ensures.media ∙ left.same_clock;
          same_write_faults = ap m.write_faults end.ensures.media ∙ left.same_write_faults;
        };
        no_lines = end.ensures.order;
        no_syncs = end.ensures.syncs;
      }));
}
