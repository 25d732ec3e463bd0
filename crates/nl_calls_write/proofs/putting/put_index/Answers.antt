use Rattle.std.proofs.Common.{refl, sym, ◌∙◌, ◌^◌}
use Rattle.nl_calls_steps.specs.Lines.{worker_pages}
use Rattle.nl_calls_bytes.proofs.Places.{has_place}
use Rattle.nl_calls_write.proofs.OnePage.{has_index, index_here, on_ok, puts_none}
use Rattle.nl_core.proofs.LastCommits.{room_none}
use Rattle.nl_calls_write.proofs.putting.put_index.Goals as goal

pub returns-then-has_index-clause-puts : goal.returns-then-has_index-clause-puts
returns-then-has_index-clause-puts g c =
    let G = g.D.Counts in
    puts_none G (2 ^ 30) c.args.worker c.args.call.now c.args.core.now c.requires.core

pub returns-then-has_index-clause-has : goal.returns-then-has_index-clause-has
returns-then-has_index-clause-has g c =
    index_here c.args.tag.ino c.args.tag.generation c.args.worker c.args.line c.args.call.now c.args.tag.index c.args.core.now c.requires.pages (sym c.has_index.ensures ∙ c.if-has_index.true) c.requires.can.has_line

pub put_page-requires-clause-place : goal.put_page-requires-clause-place
put_page-requires-clause-place g c =
    has_place c.args.tag.ino c.args.tag.generation c.args.call.now (worker_pages c.args.core.now c.args.worker) c.requires.pages c.args.core.now.flight c.args.worker c.args.tag.index refl (sym c.has_index.ensures ∙ c.if-has_index.false)
    c.requires.written c.requires.few c.requires.others

pub returns-clause-has : goal.returns-clause-has
returns-clause-has g c =
    let G = g.D.Counts in
    on_ok c.put_page.result
    (λ a. has_index G c.args.worker c.args.line c.args.tag c.args.call.now c.args.core.now c.put_page.new.core c.requires.core c.requires.can.known a c.requires.pages (sym c.has_index.ensures ∙ c.if-has_index.false) c.requires.written c.requires.can.has_line)
    c.put_page.ensures.added

pub returns-then-has_index-clause-at_once : goal.returns-then-has_index-clause-at_once
returns-then-has_index-clause-at_once g c has = room_none g.D.Counts 1 c.args.core.now

pub returns-clause-at_once : goal.returns-clause-at_once
returns-clause-at_once g c = c.put_page.ensures.at_once
