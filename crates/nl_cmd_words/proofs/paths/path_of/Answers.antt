use Rattle.std.proofs.Common.{◌≡◌, ◌<◌, ◌∙◌, List, ◌∷◌, ℕ, Option, Some, Result, Ok, Err, sym, ap, subst, length, arith}
use Rattle.std.specs.Prelude.{IfOk, IsSome}
use Rattle.nl_script.specs.Spellings.{names_of}
use Rattle.nl_script.specs.Words.{parts}
use Rattle.nl_tree.specs.Calls.{AreNames}
use Rattle.nl_cmd_words.specs.Paths.{spelled_path, with_names}
use Rattle.nl_cmd_words.proofs.Spelled.{names_spelled, path_spelled, root_spelled, spelled_are_names}
use Rattle.nl_cmd_words.proofs.paths.path_of.Goals as goal

each : {X E : Type 0} (r : Result X E) (P Q : X → Type 0) → ((x : X) → P x → Q x) → IfOk r P → IfOk r Q
each (Ok x) P Q by is = by x is
each (Err e) P Q by is = tt

pub returns-in-Some-empty-clause-path : goal.returns-in-Some-empty-clause-path
returns-in-Some-empty-clause-path c =
    let none : length c.in-Some-empty.field-0.now ≡ 0 = let low = c.in-Some-empty.len_below in omega (arith, low) in
    root_spelled c.args.word.now c.in-Some-empty.field-0.now c.in-Some-empty.ensures none ∙ ap (λ (path : List (List ℕ)). Some path) (sym c.new.ensures)

-- the names behind the slash spell the path
module _ (word names : List ℕ) (is : word ≡ 47 ∷ names) (some : 0 < length names) (spelled : IsSome (spelled_path word)) where
  behind : spelled_path word ≡ with_names (names_of (parts 47 names))
  behind = names_spelled word names is some

  here : IsSome (with_names (names_of (parts 47 names)))
  here = subst (λ (o : Option (List (List ℕ))). IsSome o) behind spelled

  path_is : (path : List (List ℕ)) → path ≡ parts 47 names → spelled_path word ≡ Some path
  path_is path same = behind ∙ path_spelled (parts 47 names) here ∙ ap (λ (p : List (List ℕ)). Some p) (sym same)

  names_are : (path : List (List ℕ)) → path ≡ parts 47 names → AreNames path
  names_are path same = subst AreNames (sym same) (spelled_are_names (parts 47 names) here)

pub returns-in-Some-clause-path : goal.returns-in-Some-clause-path
returns-in-Some-clause-path c =
    each c.names_of.result _ _ (path_is c.args.word.now c.in-Some.names.now c.in-Some.ensures (let low = c.in-Some.len_at_least in omega (arith, low)) c.requires) c.names_of.ensures

pub returns-in-Some-clause-names : goal.returns-in-Some-clause-names
returns-in-Some-clause-names c =
    each c.names_of.result _ _ (names_are c.args.word.now c.in-Some.names.now c.in-Some.ensures (let low = c.in-Some.len_at_least in omega (arith, low)) c.requires) c.names_of.ensures
