use Rattle.std.proofs.Common.{◌≡◌, ℕ, Option, Some, None, length, ap, subst, refl, arith}
use Rattle.std.proofs.lemmas.Option.{slice_get_within}
use Rattle.std.specs.Prelude.{IsNone}
use Rattle.nl_core.specs.Core.{IsCore}
use Rattle.nl_calls_steps.specs.Installing.{with_landed}
use Rattle.nl_calls_steps.specs.Lines.{worker_pages}
use Rattle.nl_calls_files.proofs.LinePages.{few_pages}
use Rattle.nl_calls_steps.proofs.LineGoes.{core_at, goes_on, hand_at, line_begins, lines_at, page_at, room_at, same_line}
use Rattle.nl_calls_steps.proofs.LineWritten.{line_done}
use Rattle.nl_calls_steps.proofs.lines.install_line.Goals as goal

-- no page is there
no_page : {X : Type 0} (o : Option X) → ((x : X) → o ≡ Some x → ⊥) → IsNone o
no_page None none = refl
no_page (Some x) none = absurd (none x refl)

pub pages-init : goal.pages-init
pages-init g c =
    let G = g.D.Counts in
    let v = c.args.core.now in
    record {
      formed = c.requires.core.formed;
      goes = record {
        others = refl;
        line = c.requires.line;
        at = line_begins G v c.args.worker c.args.ino c.args.size c.args.rec.now c.requires.core c.device_stands.ensures.volume c.device_stands.ensures.pages c.requires.known c.requires.line c.requires.room c.requires.longer;
      };
    }

pub install_page-requires : goal.install_page-requires
install_page-requires g c =
    let G = g.D.Counts in
    let v = c.args.core.now in
    let w = c.pages.core in
    let goes = c.pages.invariant.goes in
    let below = slice_get_within (worker_pages w c.args.worker) c.pages.place _ c.in-Some.ensures.some in
    record {
      core = core_at G v c.args.worker c.args.ino c.args.size c.args.rec.now w c.pages.rec c.pages.place goes;
      lines = lines_at G v c.args.worker c.args.ino c.args.size c.args.rec.now w c.pages.rec c.pages.place goes c.requires.core.flight;
      known = c.requires.known;
      some = below;
      hand = hand_at G v c.args.worker c.args.ino c.args.size c.args.rec.now w c.pages.rec c.pages.place goes below;
      page = page_at G v c.args.worker c.args.ino c.args.size c.args.rec.now w c.pages.rec c.pages.place goes below;
      room = room_at G v c.args.worker c.args.ino c.args.size c.args.rec.now w c.pages.rec c.pages.place goes below;
      size = c.requires.size;
    }

pub pages-preserved : goal.pages-preserved
pages-preserved g c =
    let G = g.D.Counts in
    let v = c.args.core.now in
    let w = c.pages.core in
    let goes = c.pages.invariant.goes in
    let below = slice_get_within (worker_pages w c.args.worker) c.pages.place _ c.in-Some.ensures.some in
    record {
      formed = c.install_page.ensures.core.formed;
      goes = goes_on G v c.args.worker c.args.ino c.args.size c.args.rec.now w c.pages.rec c.pages.place goes below c.install_page.new.core c.install_page.new.rec c.install_page.ensures.installs c.install_page.ensures.core;
    }

pub pages-smaller : goal.pages-smaller
pages-smaller g c =
    let G = g.D.Counts in
    let v = c.args.core.now in
    let w = c.pages.core in
    let below = slice_get_within (worker_pages w c.args.worker) c.pages.place _ c.in-Some.ensures.some in
    let same = ap length (same_line G v c.args.worker c.args.ino c.args.size c.args.rec.now w c.pages.rec c.pages.place c.pages.invariant.goes) in
    omega (arith, below, same)

pub overflow_add-place : goal.overflow_add-place
overflow_add-place g c =
    let G = g.D.Counts in
    let v = c.args.core.now in
    let w = c.pages.core in
    let below = slice_get_within (worker_pages w c.args.worker) c.pages.place _ c.in-Some.ensures.some in
    let few = few_pages w.flight c.args.worker (lines_at G v c.args.worker c.args.ino c.args.size c.args.rec.now w c.pages.rec c.pages.place c.pages.invariant.goes c.requires.core.flight) c.requires.known in
    omega (arith, below, few)

pub end_line-requires : goal.end_line-requires
end_line-requires g c =
    let G = g.D.Counts in
    let v = c.args.core.now in
    let w = c.pages.core in
    let goes = c.pages.invariant.goes in
    let all = c.get.ensures.none.0 (no_page c.get.result c.in_default.not-Some) in
    let same = ap length (same_line G v c.args.worker c.args.ino c.args.size c.args.rec.now w c.pages.rec c.pages.place goes) in
    let within = goes.at.within in
    record {
      core = subst (λ (k : ℕ). IsCore G (with_landed w c.args.worker k)) (omega (arith, all, same, within)) (core_at G v c.args.worker c.args.ino c.args.size c.args.rec.now w c.pages.rec c.pages.place goes);
      lines = lines_at G v c.args.worker c.args.ino c.args.size c.args.rec.now w c.pages.rec c.pages.place goes c.requires.core.flight;
      known = c.requires.known;
    }

pub returns : goal.returns
returns g c =
    let G = g.D.Counts in
    let v = c.args.core.now in
    let w = c.pages.core in
    record {
      core = c.end_line.ensures.core;
      installs = line_done G v c.args.worker c.args.ino c.args.size c.args.rec.now c.pages.rec w c.end_line.new.core c.pages.place c.requires.core c.requires.some (c.get.ensures.none.0 (no_page c.get.result c.in_default.not-Some)) c.pages.invariant.goes c.end_line.ensures.ended;
    }
