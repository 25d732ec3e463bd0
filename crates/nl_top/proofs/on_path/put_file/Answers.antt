use Rattle.std.proofs.Common.{◌≡◌, ℕ, List, Option, None, Some, ap, subst, sym}
use Rattle.std.specs.Prelude.{IfSome}
use Rattle.nl_cmd_put.specs.Putting.{no_memory_to_read}
use Rattle.nl_cmd_words.specs.Paths.{path_word}
use Rattle.nl_top.proofs.Left.{same_leaves}
use Rattle.nl_top.proofs.on_path.put_file.Goals as goal

at_path : (o : Option (List (List ℕ))) (path : List (List ℕ)) (P : List (List ℕ) → Type 0) → o ≡ Some path → P path → IfSome o P
at_path o path P is holds = subst (λ (x : Option (List (List ℕ))). IfSome x P) (sym is) holds

pub returns-in-Ok : goal.returns-in-Ok
returns-in-Ok g c = record { ended = at_path (path_word c.args.words.now) c.in-Ok.path _ c.in-Ok.ensures.path c.put_at.ensures.ended }

each : (o : Option (List (List ℕ))) (P : List (List ℕ) → Type 0) → ((path : List (List ℕ)) → P path) → IfSome o P
each None P all = tt
each (Some path) P all = all path

-- no memory for the path
pub returns-in-Err : goal.returns-in-Err
returns-in-Err g c = record {
  ended =
      let m = g.M.Nand in
      let end = c.ended in
      each (path_word c.args.words.now) _ (λ path.
      no_memory_to_read end.ensures.status end.ensures.refused (same_leaves m c.args.media end.result.media end.ensures.media)
      (record {
        prints = end.ensures.prints;
        untouched = record {
          same_contents = λ told. ap m.contents end.ensures.media;
          same_clock = ap m.clock end.ensures.media;
          same_write_faults = ap m.write_faults end.ensures.media;
        };
        no_lines = end.ensures.order;
        no_syncs = end.ensures.syncs;
      }));
}
