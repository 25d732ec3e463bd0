use Rattle.std.proofs.Common.{◌≡◌, ◌∙◌, inl, inr, List, length, Some, None, option_map, refl, sym, ap, arith}
use Rattle.nl_field.specs.Medium.{Readable, readable_pages}
use Rattle.nl_field.specs.declared.super_page.SuperRec.{SuperRec}
use Rattle.nl_meta.specs.Committed.{committed_of}
use Rattle.nl_test_volume_format.specs.Examples.{hello_page, image_of_a}
use Rattle.nl_meta.specs.Nodes.{super_of_pages}
use Rattle.nl_meta.specs.Walk.{walk}
use Rattle.nl_meta.proofs.Lists.{none_some, some_in}
use Rattle.nl_meta.proofs.OnLiterals.{meta_on_literals}
use Rattle.nl_spec_image.proofs.FreshImage.{fresh_stands}
use Rattle.nl_test_volume_format.proofs.rows.new_images.Goals as goal

pub returns-clause-blank : goal.returns-clause-blank
unfolding meta_on_literals
returns-clause-blank c = inl refl

pub returns-clause-fresh : goal.returns-clause-fresh
returns-clause-fresh c = inr (inr fresh_stands)

readable : length (readable_pages (image_of_a hello_page)) ≡ 4
unfolding meta_on_literals
readable = refl

no_fault : walk (image_of_a hello_page) ≡ None
unfolding meta_on_literals
no_fault = refl

two_calls : option_map (λ (rec : SuperRec). rec.count) (super_of_pages (committed_of (image_of_a hello_page))) ≡ Some 2
unfolding meta_on_literals
two_calls = refl

pub returns-clause-used : goal.returns-clause-used
returns-clause-used c (inl none) = let some = readable in let no_page = ap (λ (rs : List Readable). length rs) none in let no : ⊥ = omega (arith, some, no_page) in no
returns-clause-used c (inr (inl fault)) = none_some _ (sym no_fault ∙ fault)
returns-clause-used c (inr (inr sound)) =
    let m = sound.stands.metadata in
    let two = some_in 2 m.super_rec.count (sym two_calls ∙ ap (option_map (λ (rec : SuperRec). rec.count)) m.numbers.spelled) in
    let zero = sound.stands.count_of_calls in
    let no : ⊥ = omega (arith, two, zero) in no
