-- The page in which a file ends, made without the bytes from a size on.
use Rattle.std.proofs.Common.{◌≡◌, ℕ, ◌-◌, ◌*◌, ◌/◌, ◌%◌, min, List, ◌++◌, length, length-take, take, ap, ◌∙◌, arith}
use Rattle.nl_field.specs.Bytes.{zeros}
use Rattle.nl_tree_content.specs.ContentLaws.{cut_page}
use Rattle.nl_iface.specs.declared.counts.Counts.{Ghosts}
use Rattle.nl_core.specs.declared.state.Core.{Core}
use Rattle.nl_calls_steps.specs.Paging.{ArePageBytes}
use Rattle.nl_calls_truncate.specs.Truncating.{HasCutPage}

is_cut : (size : ℕ) (page first : List ℕ) → length page ≡ 4096 → first ≡ take (size % 4096) page → first ++ zeros (4096 - length first) ≡ cut_page size (size / 4096) page
is_cut size page first whole is =
    let stays : size % 4096 ≡ size - 4096 * (size / 4096) = omega arith in
    let len = ap length is ∙ length-take (size % 4096) page in
    let most : length first ≡ min 4096 (size - 4096 * (size / 4096)) = omega (arith, len, whole, stays) in
    (λ i. is i ++ zeros (4096 - most i)) ∙ ap (λ (k : ℕ). take k page ++ zeros (4096 - min 4096 (size - 4096 * (size / 4096)))) stays

pub cut_made : {D : Type 0} (g : Ghosts D) (v : Core D) (n size : ℕ) (page first main : List ℕ) → ArePageBytes g v n (size / 4096) page → length page ≡ 4096 → first ≡ take (size % 4096) page → main ≡ first ++ zeros (4096 - length first)
    → HasCutPage g v n size main
cut_made g v n size page first main has whole is made = λ tells page_of_stamp tree path at leads.
    made ∙ is_cut size page first whole is ∙ ap (cut_page size (size / 4096)) (has tells page_of_stamp tree path at leads)
