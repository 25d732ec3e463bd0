use Rattle.std.proofs.Common.{◌≡◌, ◌≤◌, ◌-◌, length}
use Rattle.nl_meta.specs.Pages.{page_of}
use Rattle.nl_files.specs.Spans.{pointers_of_span}
use Rattle.nl_files.proofs.gathering.count_span.Given as goal

abbrev pub invariant-loop-index : goal.invariant-loop-index
invariant-loop-index l = (l.count ≡ length (pointers_of_span (page_of l.meta) l.rec l.first (l.index - l.first))) × (l.count ≤ l.index - l.first)
