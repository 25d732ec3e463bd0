-- How far a journal is: the numbers of its transactions, and what comes next of the frozen one.
use Rattle.std.specs.Prelude.{⊤, ℕ, ◌+◌, ◌-◌, ◌*◌, ◌^◌, ◌<◌, ◌≤◌, ◌==◌, nat_lt, min, if◌then◌else◌}
use Rattle.nl_journal.specs.declared.answers.Phase.{Phase}
use Rattle.nl_journal.specs.declared.answers.Phase.TheVariants.{Header, Image, Commit, Home}

-- The number of the last transaction whose commit page was written, or that an opening found; and which page is due.
pub record Progress : Type 0 where
  pub number : ℕ
  pub phase : Phase

-- the number that the next transaction is written under: one more, up to the greatest that is spelled
abbrev pub next_after : ℕ → ℕ
next_after number = min (number + 1) (2 ^ 63 - 1)

-- the number after a commit page: it stands still behind the greatest that is spelled
abbrev pub raised : ℕ → ℕ
raised number = min (number + 1) (2 ^ 63)

-- what comes next, in a transaction of so many pages
abbrev pub next_phase : Phase → ℕ → Phase
next_phase Header pages = Image 0
next_phase (Image i) pages = if nat_lt (i + 1) pages then Image (i + 1) else Commit
next_phase Commit pages = Home 0
next_phase (Home i) pages = if nat_lt (i + 1) pages then Home (i + 1) else Header

abbrev pub next_number_in : Phase → ℕ → ℕ
next_number_in Header number = number
next_number_in (Image i) number = number
next_number_in Commit number = raised number
next_number_in (Home i) number = number

-- the commit page raises the number
abbrev pub next : Progress → ℕ → Progress
next p pages = record { number = next_number_in p.phase p.number; phase = next_phase p.phase pages }

-- how many writes are left of so many frozen pages
abbrev pub units_left : Phase → ℕ → ℕ
units_left Header pages = if pages == 0 then 0 else 2 * pages + 2
units_left (Image i) pages = 2 * pages + 1 - i
units_left Commit pages = pages + 1
units_left (Home i) pages = pages - i

-- which page can be due of so many
abbrev pub IsPhase : Phase → ℕ → Type 0
IsPhase Header pages = ⊤
IsPhase (Image i) pages = i < pages
IsPhase Commit pages = 1 ≤ pages
IsPhase (Home i) pages = i < pages

-- the number of the transaction that the pages of the journal are written for
abbrev pub number_in : Phase → ℕ → ℕ
number_in Header number = number + 1
number_in (Image i) number = number + 1
number_in Commit number = number + 1
number_in (Home i) number = number

abbrev pub transaction : Progress → ℕ
transaction p = number_in p.phase p.number

abbrev pub begun_in : Phase → ℕ → ℕ → ℕ
begun_in Header number pages = if pages == 0 then number else raised number
begun_in (Image i) number pages = raised number
begun_in Commit number pages = raised number
begun_in (Home i) number pages = number

-- the number of the last transaction that was begun: pages that are frozen are one, until it is decided the next
abbrev pub begun : Progress → ℕ → ℕ
begun p pages = begun_in p.phase p.number pages

-- each number so far has a spelling
abbrev pub HasNumber : Progress → ℕ → Type 0
HasNumber p pages = begun p pages < 2 ^ 63
