use Rattle.std.proofs.Common.{◌≡◌, ℕ, List, ◌++◌, take, drop, ap, refl, ◌∙◌}
use Rattle.std.proofs.lemmas.List.{drop-replicate}
use Rattle.nl_field.specs.Bytes.{zeros}
use Rattle.nl_field.specs.Examples.{root_inode}
use Rattle.nl_field.specs.Inode.{inode_bytes, is_inode_of_kind, are_filled}
use Rattle.nl_spec_image.specs.Formatted.{formatted_root}
use Rattle.nl_volume_format.proofs.pages.put_root.Goals as goal

pub into_page-requires-clause-spelled : goal.into_page-requires-clause-spelled
unfolding is_inode_of_kind are_filled
into_page-requires-clause-spelled c = refl

behind : drop 256 (zeros 4096) ≡ zeros 3840
unfolding zeros
behind = drop-replicate 256 4096 0

pub returns : goal.returns
unfolding formatted_root
returns c = λ i. record { main = main i; spare = c.put_spare.ensures.spare i }
  where
    main : c.put_spare.new.page.main ≡ inode_bytes root_inode ++ zeros 3840
    main = c.put_spare.ensures.main ∙ c.into_page.ensures.main ∙ ap (λ (old : List ℕ). take 0 old ++ inode_bytes root_inode ++ drop 256 old) c.clear.ensures.main
        ∙ ap (λ (rest : List ℕ). inode_bytes root_inode ++ rest) behind
