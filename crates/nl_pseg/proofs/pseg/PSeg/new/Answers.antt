use Rattle.std.proofs.Common.{◌≡◌, ℕ, ◌+◌, ◌*◌, ◌<◌, ◌≤◌, true, sym, ap, subst, arith}
use Rattle.nl_pseg.specs.Segment.{Physical, InSegment, IsClean, KeepsBlock, TakenAsErased, is_free, room, erasures}
use Rattle.nl_pseg_blocks.specs.Uses.{Use}
use Rattle.nl_pseg.proofs.News.{new_clean, new_kept, new_room, new_taken, new_use, new_wear}
use Rattle.nl_pseg.proofs.Shapes.{legal_bounds, two_blocks}
use Rattle.nl_pseg.proofs.Wrote.{free_spare}
use Rattle.nl_pseg.specs.Kept.{kept}
use Rattle.nl_pseg.proofs.pseg.PSeg.new.Goals as goal

pub returns : goal.returns
returns c =
    let shape = c.args.shape.now in
    let roomy = legal_bounds shape c.requires.legal c.requires.numbers in
    let e = c.in_ok-state.ensures.seen in
    record {
      first = ap (λ (s : Physical). s.first) e;
      blocks = ap (λ (s : Physical). s.blocks) e;
      pages = ap (λ (s : Physical). s.size) e;
      live = ap (λ (s : Physical). s.held) e;
      pairs = ap (λ (s : Physical). s.pairs) e;
      pair_room = ap (λ (s : Physical). s.pair_room) e;
      free = ap (λ (s : Physical). s.free) e;
      each = subst (λ (s : Physical). (block : ℕ) → s.first ≤ block → block < s.blocks → is_free s block ≡ true) (sym e) (λ block from below. ap (λ (u : Use). u.is_free) (new_use shape roomy block from below));
      left = ap (λ (s : Physical). s.left) e;
      copies = ap (λ (s : Physical). s.copy_left) e;
      room = subst (λ (s : Physical). room s + shape.pages ≡ shape.pblocks * shape.pages) (sym e) (new_room shape roomy);
      victim = ap (λ (s : Physical). s.victim) e;
      wears = subst (λ (s : Physical). (block : ℕ) → erasures s block ≡ 0) (sym e) (new_wear shape roomy);
      erased = subst (λ (s : Physical). (page : ℕ) → InSegment s page → TakenAsErased s page) (sym e) (new_taken shape roomy);
      clean = subst IsClean (sym e) (λ block free. new_clean shape roomy block);
      kept = subst KeepsBlock (sym e) (new_kept shape roomy);
      whole = c.whole.ensures.whole;
      spare =
          let free = ap (λ (s : Physical). s.free) e in
          let two = two_blocks roomy in
          free_spare (kept c.in_ok-state.state) c.in_ok-state.ensures.formed (omega (arith, free, two));
    }
