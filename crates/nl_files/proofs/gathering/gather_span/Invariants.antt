use Rattle.std.proofs.Common.{◌≡◌, ◌≤◌, ◌+◌, ◌-◌, ◌++◌, length}
use Rattle.nl_meta.specs.Pages.{page_of}
use Rattle.nl_files.specs.Spans.{pointers_of_span}
use Rattle.nl_files.proofs.gathering.gather_span.Given as goal

abbrev pub invariant-loop-index : goal.invariant-loop-index
invariant-loop-index l =
    (l.freeing.items ≡ l.initial.freeing.items ++ pointers_of_span (page_of l.meta) l.rec l.first (l.index - l.first))
    × (length l.initial.freeing.items + l.initial.freeing.room ≤ length l.freeing.items + l.freeing.room)
