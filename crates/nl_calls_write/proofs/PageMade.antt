-- The page of a file as a call makes it.
use Rattle.std.proofs.Common.{◌≡◌, ℕ, ◌-◌, List, ◌++◌, length, refl, ap, ◌∙◌}
use Rattle.std.proofs.lemmas.List.{append-nil}
use Rattle.nl_field.specs.Bytes.{zeros}
use Rattle.nl_field.specs.FileContent.{overlaid}
use Rattle.nl_tree_content.proofs.ContentBytes.{length-overlaid}
use Rattle.nl_tree.specs.declared.call.Call.{Call}
use Rattle.nl_iface.specs.declared.counts.Counts.{Ghosts}
use Rattle.nl_core.specs.declared.state.Core.{Core}
use Rattle.nl_calls_steps.specs.Paging.{ArePageBytes}
use Rattle.nl_calls_write.specs.Making.{MakesPage}
use Rattle.nl_calls_bytes.specs.Ranges.{data_of, from_of, path_of}

-- a whole page has no zeros behind it
padded : (bytes : List ℕ) → length bytes ≡ 4096 → bytes ++ zeros (4096 - length bytes) ≡ bytes
unfolding zeros
padded bytes whole = rw (whole, append-nil) refl

pub makes-page : {D : Type 0} (g : Ghosts D) (v : Core D) (n index : ℕ) (call : Call) (page new main : List ℕ) → ArePageBytes g v n index page → length page ≡ 4096
    → new ≡ overlaid page index (from_of call) (data_of call) → main ≡ new ++ zeros (4096 - length new) → MakesPage g v n call index main
makes-page g v n index call page new main has whole laid made = λ tells page_of_stamp tree runs reached.
    made ∙ padded new (ap length laid ∙ length-overlaid page index (from_of call) (data_of call) whole) ∙ laid
    ∙ ap (λ (bytes : List ℕ). overlaid bytes index (from_of call) (data_of call)) (has tells page_of_stamp tree (path_of call) runs reached)
