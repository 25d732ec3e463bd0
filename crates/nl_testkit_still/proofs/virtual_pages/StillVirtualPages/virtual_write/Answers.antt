use Rattle.std.proofs.Common.{◌≡◌, ℕ, ◌+◌, ◌≤◌, Some, inr, refl, ◌∙◌, ap, arith}
use Rattle.std.proofs.lemmas.List.{length-set}
use Rattle.nl_field.specs.Page.{PageBytes}
use Rattle.nl_testkit_still.proofs.Written.{left_written, stamps_below}
use Rattle.nl_testkit_still.proofs.virtual_pages.StillVirtualPages.virtual_write.Goals as goal

pub returns-clause-formed : goal.returns-clause-formed
returns-clause-formed c =
    let s = c.args.self.now in
    let f = c.requires.formed in
    record {
      volume = f.volume;
      bounds = f.bounds;
      labels = f.labels;
      live = f.live;
      pages = f.pages;
      stamps = length-set s.stamps.items c.args.vaddr (Some s.next) ∙ f.stamps;
      values = length-set s.values.items c.args.vaddr c.copy_from.new.self ∙ f.values;
      written = λ p l is. let w = f.written p l is in let low = w.stamp in record { from = w.from; below = w.below; some = w.some; stamp = omega (arith, low) };
      differ = f.differ;
      holds = f.holds;
      from = f.from;
      room = f.room;
      free = f.free;
      some = omega arith;
      addresses = stamps_below s f c.args.vaddr c.requires.within c.copy_from.new.self;
    }

pub returns-clause-left : goal.returns-clause-left
returns-clause-left c told =
    let s = c.args.self.now in
    let f = c.requires.formed in
    let main = ap (λ (x : PageBytes). x.main) c.copy_from.ensures in
    let later = c.later-self.ensures.never_falls in
    record {
      stops = record {
        later = c.later-self.ensures.never_falls;
        each = λ m x left. let now = left.0 in inr (omega (arith, later, now), omega (arith, now), inr (left_written s f c.args.vaddr c.requires.within c.copy_from.new.self c.args.from.now.main main x left.1));
      };
      now = inr (left_written s f c.args.vaddr c.requires.within c.copy_from.new.self c.args.from.now.main main _ refl);
    }
