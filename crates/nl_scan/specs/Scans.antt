-- What a scan answers.
use Rattle.std.specs.Prelude.{⊤}
use Rattle.nl_scan.specs.Tables.{ScanTable}
use Rattle.nl_scan.specs.declared.Scanned.{Scanned}
use Rattle.nl_scan.specs.declared.Scanned.TheVariants.{Tables, Fault, Memory}

-- the tables have P, where there are tables
abbrev pub IfTables : Scanned → (ScanTable → Type 0) → Type 0
IfTables (Tables t) P = P t
IfTables Fault P = ⊤
IfTables Memory P = ⊤
