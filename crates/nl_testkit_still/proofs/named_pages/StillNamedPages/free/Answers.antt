use Rattle.std.proofs.Common.{refl, arith, ◌∙◌, ap, sym, Some}
use Rattle.nl_testkit_still.proofs.Dropped.{dropped_count, dropped_live}
use Rattle.nl_testkit_still.proofs.named_pages.StillNamedPages.free.Goals as goal

pub returns-in-Some-clause-freed : goal.returns-in-Some-clause-freed
returns-in-Some-clause-freed c is =
    let s = c.args.self.now in
    let live = sym c.live_page.ensures ∙ c.in-Some.is in
    record {
      names = record {
        live = dropped_live s c.requires.formed c.args.at.name c.in-Some.label live;
        pairs = refl;
        pending = refl;
        handled = λ d has. refl;
        posted = refl;
      };
      space = record {
        same = record { block = refl; all = refl; bad = omega arith; kept = refl };
        bad = refl;
        lessened = record { victim = refl; waiting = omega arith; pairs = omega arith; left = omega arith; left_most = omega arith; lands = λ none can. can };
        blocks = refl;
        live = dropped_count s c.requires.formed c.args.at.name c.in-Some.label live;
        reach = omega arith;
        room = omega arith;
        exact = λ none. (refl, refl);
      };
    }
