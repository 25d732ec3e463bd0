use Rattle.std.proofs.Common.{◌≡◌, ℕ, List, Option, None, Some, ap, codes, refl, subst, sym}
use Rattle.std.specs.Prelude.{IfSome}
use Rattle.nl_cmd_view.specs.Getting.{not_cut}
use Rattle.nl_cmd_view.specs.Looking.{not_seen}
use Rattle.nl_cmd_words.specs.Ends.{no_memory}
use Rattle.nl_cmd_words.specs.Paths.{path_word}
use Rattle.nl_top.proofs.Left.{same_leaves}
use Rattle.nl_top.proofs.on_path.get_file.Goals as goal

at_path : (o : Option (List (List ℕ))) (path : List (List ℕ)) (P : List (List ℕ) → Type 0) → o ≡ Some path → P path → IfSome o P
at_path o path P is holds = subst (λ (x : Option (List (List ℕ))). IfSome x P) (sym is) holds

pub returns-in-Ok-clause-ended : goal.returns-in-Ok-clause-ended
returns-in-Ok-clause-ended g c = at_path (path_word c.args.words.now) c.in-Ok.path _ c.in-Ok.ensures.path c.get.ensures.ended

each : (o : Option (List (List ℕ))) (P : List (List ℕ) → Type 0) → ((path : List (List ℕ)) → P path) → IfSome o P
each None P all = tt
each (Some path) P all = all path

-- no memory for the path
pub returns-in-Err-clause-ended : goal.returns-in-Err-clause-ended
returns-in-Err-clause-ended g c =
    let m = g.M.Nand in
    let end = c.ended in
    each (path_word c.args.words.now) _ (λ path.
    not_cut end.ensures.refused
    (not_seen (codes "memory\n") (no_memory end.ensures.status refl)
    (record {
      prints = end.ensures.prints;
      untouched = record {
        same_contents = λ told. ap m.contents end.ensures.media;
        same_clock = ap m.clock end.ensures.media;
        same_write_faults = ap m.write_faults end.ensures.media;
      };
      no_lines = end.ensures.order;
      no_syncs = end.ensures.syncs;
    })))

pub returns-in-Err-clause-left : goal.returns-in-Err-clause-left
returns-in-Err-clause-left g c = same_leaves g.M.Nand c.args.media c.ended.result.media c.ended.ensures.media
