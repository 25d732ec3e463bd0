use Rattle.std.proofs.Common.{◌≡◌, ◌∷◌, [], codes, refl, Some}
use Rattle.nl_tree.specs.Tree.{file, node_at, empty_tree}
use Rattle.nl_field.specs.FileContent.{empty_file}
use Rattle.nl_tree.proofs.OnLiterals.{tree_on_literals}
use Rattle.nl_tree.specs.Step.{prefix_refusal}
use Rattle.nl_tree.specs.declared.reply.Refusal.TheVariants.{Enoent}
use Rattle.nl_put_tree.specs.Examples.{own, with_empty}
use Rattle.nl_put_tree.proofs.rows.names.Goals as goal

pub returns-clause-beside : goal.returns-clause-beside
returns-clause-beside c = record {
  above = [];
  last = codes "a";
  name = codes ".put-0";
  path_is = refl;
  own_is = refl;
  other = λ e. cc e;
  mark = codes "0";
  begins = refl;
}

pub returns-clause-free : goal.returns-clause-free
unfolding tree_on_literals
returns-clause-free c = record { none = refl; short = refl; not_root = refl; leads = refl }

there : node_at (with_empty own) own ≡ Some (file empty_file)
unfolding tree_on_literals
there = refl

pub returns-clause-taken : goal.returns-clause-taken
returns-clause-taken c is = let no = is.none in cc (there, no)

not_there : prefix_refusal empty_tree (codes "d" ∷ codes ".put-0" ∷ []) ≡ Some Enoent
unfolding tree_on_literals
not_there = refl

pub returns-clause-no_directory : goal.returns-clause-no_directory
returns-clause-no_directory c is = let no = is.leads in cc (not_there, no)
