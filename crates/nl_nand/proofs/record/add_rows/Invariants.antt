use Rattle.std.proofs.Common.{◌≡◌, ◌≤◌, vec_len, replicate, All}
use Rattle.nl_nand.specs.declared.cell.Cell.TheVariants as cell
use Rattle.nl_nand.proofs.record.add_rows.Given as goal

abbrev pub invariant-loop : goal.invariant-loop
invariant-loop l = record {
  erased : All (λ r. r.items ≡ replicate l.pages cell.Erased) l.rows.items;
  more : vec_len l.initial.rows ≤ vec_len l.rows;
  count : l.counter ≤ vec_len l.rows;
}
