use Rattle.std.proofs.Common.{◌≡◌, ℕ, zero, suc, true, ◌==◌, List, [], ◌∷◌, get_or, refl, sym, subst, Option, None, length}
use Rattle.std.proofs.lemmas.Bool.{and_parts, eqb-true}
use Rattle.std.proofs.lemmas.List.{length-replicate}
use Rattle.std.proofs.lemmas.Result.{IfOk-weaker}
use Rattle.std.specs.List.{list_all}
use Rattle.nl_field.specs.Inode.{is_inode, is_inode_of_kind}
use Rattle.nl_meta.specs.Pages.{Pages, has_room, no_pages}
use Rattle.nl_test_metadata.specs.Tested.{IsTested}
use Rattle.nl_test_metadata.specs.declared.indirect.TheConstants.{EMPTY}
use Rattle.nl_test_metadata.proofs.indirect.blank.Goals as goal

all-zero : (xs : List ℕ) → list_all (λ b. b == 0) xs ≡ true → (r : ℕ) → get_or xs r 0 ≡ 0
all-zero [] e r = refl
all-zero (x ∷ xs) e zero = eqb-true x 0 (and_parts (x == 0) (list_all (λ b. b == 0) xs) e).0
all-zero (x ∷ xs) e (suc r) = all-zero xs (and_parts (x == 0) (list_all (λ b. b == 0) xs) e).1 r

nowhere : (r : ℕ) → get_or EMPTY.addresses r 0 ≡ 0
nowhere r = all-zero EMPTY.addresses refl r

spelled : is_inode EMPTY ≡ true
unfolding is_inode_of_kind
spelled = refl

room : has_room (no_pages 103) 71 ≡ true
unfolding no_pages
room = refl

count : length (no_pages 103).running ≡ 103
unfolding no_pages
count = length-replicate {A = Option (List ℕ)} 103 None

empty : (range : ℕ) → IsTested range EMPTY (no_pages 103)
empty range = record {
  file = record { kind = refl; spelled = spelled; differ = λ r s far e. absurd (far (nowhere r)) };
  others = λ r off. nowhere r;
  page = λ far. absurd (far (nowhere range));
  room = room;
  count = count;
}

pub returns : goal.returns
returns c = IfOk-weaker c.new.result _ _ (λ m e. subst (λ (p : Pages). IsTested c.args.range EMPTY p) (sym e) (empty c.args.range)) c.new.ensures
