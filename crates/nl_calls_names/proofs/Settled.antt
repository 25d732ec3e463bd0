-- What a core is once the names were changed, or were not, and the call was settled.
use Rattle.std.proofs.Common.{◌≡◌, ℕ, ◌+◌, ◌≤◌, List, ◌++◌, length, take, ap, ◌∙◌, arith}
use Rattle.std.proofs.lemmas.List.{length-append}
use Rattle.std.proofs.Math.Seq.{take-append_seam}
use Rattle.nl_field.specs.PointerItems.{PointerItems}
use Rattle.nl_field.specs.declared.pointer.Pointer.{Pointer}
use Rattle.nl_core.specs.declared.state.Core.{Core}
use Rattle.nl_core.specs.Lines.{Withdraws}

-- the list holds its first pointers again, with more room
module _ {D : Type 0} (v x : Core D) (before : PointerItems) (xs : List Pointer) (first : ℕ) (is_first : first ≡ length before.items) (had : v.freeing.items ≡ before.items ++ xs)
    (room : length before.items + before.room ≤ length v.freeing.items + v.freeing.room) (s : Withdraws first v x) where
  pub short_items : x.freeing.items ≡ before.items
  short_items = s.items ∙ ap (λ (k : ℕ). take k v.freeing.items) is_first ∙ ap (λ (l : List Pointer). take (length before.items) l) had ∙ take-append_seam before.items xs

  pub short_room : length before.items + before.room ≤ length x.freeing.items + x.freeing.room
  short_room =
      let a = ap length short_items in
      let b = s.room in
      let c = ap length had ∙ length-append before.items xs in
      omega (arith, a, b, c, is_first, room)
