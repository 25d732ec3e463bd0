use Rattle.std.proofs.Common.{◌≡◌, ◌⊎◌, ap, [], codes, inl, inr, refl, sym, subst, ◌∙◌, None, Some}
use Rattle.nl_field.specs.FileContent.{FileContent}
use Rattle.nl_tree.specs.Tree.{empty_tree, file, node_at}
use Rattle.nl_tree.specs.declared.call.Call.TheVariants.{Create, Rename}
use Rattle.nl_tree.specs.declared.reply.Reply.TheVariants.{Done}
use Rattle.nl_tree.proofs.OnLiterals.{tree_on_literals}
use Rattle.nl_put_tree.specs.Examples.{a, own, small, two_zeros, with_empty, with_two}
use Rattle.nl_put_tree.specs.Putting.{FitsVolume, HoldsBytes, IsBeside, IsDue, IsPut, IsWriting, after}
use Rattle.nl_spec_image.proofs.EmptyTree.{empty_is_tree}
use Rattle.nl_put_tree.proofs.Renaming.{renamed}
use Rattle.nl_put_tree.proofs.Steps.{created}
use Rattle.nl_cmd_put.proofs.rows.trees.Goals as goal

fits : FitsVolume small empty_tree
unfolding tree_on_literals
fits = record { is_tree = empty_is_tree; room = refl }

pub returns-clause-fits : goal.returns-clause-fits
returns-clause-fits c = fits

made_due : IsDue small empty_tree (Create own) Done
unfolding tree_on_literals
made_due = refl

made_is : after small empty_tree (Create own) Done ≡ with_empty own
unfolding tree_on_literals
made_is = refl

writing : IsWriting empty_tree own [] (with_empty own)
writing = subst (IsWriting empty_tree own []) made_is (created small empty_tree own fits made_due)

pub returns-clause-writing : goal.returns-clause-writing
returns-clause-writing c = writing

nothing_there : node_at empty_tree own ≡ None
unfolding tree_on_literals
nothing_there = refl

pub returns-clause-not_begun : goal.returns-clause-not_begun
returns-clause-not_begun c w = let no = w.holds.is_file in cc (nothing_there, no)

beside : IsBeside a own
beside = record { above = []; last = codes "a"; name = codes ".put-0"; path_is = refl; own_is = refl; other = λ e. cc e; mark = codes "0"; begins = refl }

renamed_due : IsDue small (with_empty own) (Rename own a) Done
unfolding tree_on_literals
renamed_due = refl

renamed_is : after small (with_empty own) (Rename own a) Done ≡ with_empty a
unfolding tree_on_literals
renamed_is = refl

pub returns-clause-put : goal.returns-clause-put
returns-clause-put c = subst (IsPut empty_tree a []) renamed_is (renamed empty_tree (with_empty own) own a [] empty_is_tree beside writing small renamed_due).0

not_at_path : node_at (with_empty own) a ≡ None
unfolding tree_on_literals
not_at_path = refl

pub returns-clause-not_renamed : goal.returns-clause-not_renamed
returns-clause-not_renamed c p = let no = p.holds.is_file in cc (not_at_path, no)

pub returns-clause-under_way : goal.returns-clause-under_way
returns-clause-under_way c = record { at_path = inl (writing.others a (λ e. cc e)); others = λ q other ne. writing.others q other }

two_there : node_at with_two a ≡ Some (file two_zeros)
unfolding tree_on_literals
two_there = refl

none_before : node_at empty_tree a ≡ None
unfolding tree_on_literals
none_before = refl

two_bytes : (node_at with_two a ≡ node_at empty_tree a) ⊎ HoldsBytes (node_at with_two a) [] → ⊥
two_bytes (inl same) = cc (two_there, none_before, same)
two_bytes (inr holds) =
    let content : two_zeros ≡ holds.content = (let e : Some (file two_zeros) ≡ Some (file holds.content) = sym two_there ∙ holds.is_file in cc e) in
    let size : 2 ≡ 0 = ap (λ (c : FileContent). c.size) content ∙ holds.holds.size in
    cc size

pub returns-clause-other_bytes : goal.returns-clause-other_bytes
returns-clause-other_bytes c u = two_bytes u.at_path
