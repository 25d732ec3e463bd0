use Rattle.std.proofs.Common.{◌≢◌, ℕ, ◌+◌, ◌≤◌, refl, arith}
use Rattle.std.proofs.lemmas.Option.{none-some}
use Rattle.nl_iface.specs.Examples.{other_tag, programmed_page}
use Rattle.nl_iface.specs.Names.{LivePage}
use Rattle.nl_iface.proofs.rows.an_own_map.Goals as goal

differ : (a b : ℕ) → a + 1 ≤ b → b ≢ a
differ a b less is = omega (arith, less, is)

abbrev second_page : LivePage
second_page = record { tag = other_tag; stamp = 9 }

pub returns-clause-invented : goal.returns-clause-invented
returns-clause-invented c = record {
  page = 260;
  holds = programmed_page;
  programs = record { holds = refl; did_not = λ is. none-some programmed_page is };
  invented = differ 5 260 (omega arith);
}

pub returns-clause-silent : goal.returns-clause-silent
returns-clause-silent c = record { before = 270; page = second_page; was = refl; left = λ is. none-some second_page is; silent = λ x has. has }

pub returns-clause-away : goal.returns-clause-away
returns-clause-away c = record { name = 270; away = differ 270 301 (omega arith) }
