-- What a tree that the volume has room for keeps within the bounds of a reply.
use Rattle.std.proofs.Common.{◌≡◌, ◌<◌, ◌≤◌, ◌+◌, ◌*◌, ◌^◌, ℕ, Bool, true, false, ◌||◌, List, [], ◌∷◌, length, nat_lt, sum_by, ap, refl, arith, ◌∙◌, Some, is_none, cond}
use Rattle.std.specs.List.{list_any}
use Rattle.std.proofs.lemmas.List.Sums.{sum_by-cons}
use Rattle.std.proofs.lemmas.Bool.Decides.{nat_tests}
use Rattle.std.specs.Ordering.{eq_by_cmp}
use Rattle.std.specs.FinMap.Entries.{find}
use Rattle.nl_field.specs.Numbers.{max_entries}
use Rattle.nl_field.specs.FileContent.{FileContent}
use Rattle.nl_field.specs.declared.shape.Shape.{Shape}
use Rattle.nl_tree.specs.Step.{listing}
use Rattle.nl_tree.specs.Charges.{data_charge, data_of_node}
use Rattle.nl_tree.specs.Tree.{Tree, file, path_cmp, node_at, entries_of}
use Rattle.nl_tree_model.specs.PlainTree.{IsRoomy, IsPlainTree}
use Rattle.nl_tree.specs.KeptSums.{data_of_entry}
use Rattle.nl_tree.proofs.TreeProofs.{eq_path}
use Rattle.nl_tree.proofs.SpaceProofs.{data-is, few_entries, few_pages}
use Rattle.nl_tree_entries.proofs.ListingProofs.{listing_short, short-where}

left_not : (a b : Bool) → (a || b) ≡ false → a ≡ false
left_not true b h = h
left_not false b h = refl

right_not : (a b : Bool) → (a || b) ≡ false → b ≡ false
right_not true b h = absurd (grind (arith, h))
right_not false b h = h

-- what fails at each entry fails at a path that is there
at_path : (P : List (List ℕ) → Bool) (tree : Tree) (path : List (List ℕ)) → list_any (λ e. P e.0) tree ≡ false → is_none (find path_cmp path tree) ≡ false → P path ≡ false
at_path P [] path h there = absurd (cc)
at_path P (e ∷ tree) path h there =
    elim (eq_by_cmp path_cmp path e.0) as (λ b. eq_by_cmp path_cmp path e.0 ≡ b → is_none (cond b (Some e.1) (find path_cmp path tree)) ≡ false → P path ≡ false) [
      | true ↦ λ t k. ap P (eq_path path e.0 t) ∙ left_not (P e.0) (list_any (λ x. P x.0) tree) h
      | false ↦ λ t k. at_path P tree path (right_not (P e.0) (list_any (λ x. P x.0) tree) h) k
    ] refl there

pages_at : (tree : Tree) (path : List (List ℕ)) (content : FileContent) → find path_cmp path tree ≡ Some (file content) → length content.pages ≤ sum_by data_of_entry tree
pages_at [] path content there = absurd (cc)
pages_at (e ∷ tree) path content there =
    let sum : sum_by data_of_entry (e ∷ tree) ≡ data_of_entry e + sum_by data_of_entry tree = sum_by-cons data_of_entry e tree in
    elim (eq_by_cmp path_cmp path e.0) as (λ b. cond b (Some e.1) (find path_cmp path tree) ≡ Some (file content) → length content.pages ≤ sum_by data_of_entry (e ∷ tree)) [
      | true ↦ λ k. let same : e.1 ≡ file content = cc in omega (arith, sum, ap data_of_node same)
      | false ↦ λ k. omega (arith, sum, pages_at tree path content k)
    ] there

pub roomy : (shape : Shape) (tree : Tree) → shape.cap < 2 ^ 32 → IsPlainTree shape tree → IsRoomy tree
unfolding node_at
roomy shape tree small plain = record {
  short = plain.short;
  few = λ path there. let not : nat_lt max_entries (length (entries_of tree path)) ≡ false = at_path (λ p. nat_lt max_entries (length (entries_of tree p))) tree path (few_entries shape tree plain.room) there in grind (arith, nat_tests, not);
  pages = λ path content there. let not : nat_lt shape.cap (data_charge tree) ≡ false = few_pages shape tree plain.room in
      let le : length content.pages ≤ sum_by data_of_entry tree = pages_at tree path content there in
      let is : sum_by data_of_entry tree ≡ data_charge tree = data-is tree in
      grind (arith, nat_tests, not, le, is);
}

pub listing_fits : (tree : Tree) (path : List (List ℕ)) → IsRoomy tree → is_none (node_at tree path) ≡ false → length (listing (entries_of tree path)) ≤ 65536
unfolding entries_of
listing_fits tree path room there =
    let few : length (entries_of tree path) ≤ 1024 = room.few path there in
    let all : length (listing (entries_of tree path)) ≤ 57 * length (entries_of tree path) = listing_short (entries_of tree path) (short-where _ tree room.short) in
    omega (arith, few, all)
