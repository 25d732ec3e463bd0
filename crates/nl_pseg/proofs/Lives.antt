-- A live page is one of those that are used.
use Rattle.std.proofs.Common.{◌≡◌, ⊎_elim, ℕ, ◌+◌, ◌*◌, ◌/◌, ◌%◌, ◌<◌, ◌≤◌, true, Option, Some, None, IsSome, refl, sym, ap, arith}
use Rattle.std.proofs.lemmas.Bool.{cases_lt, true≢false}
use Rattle.std.proofs.lemmas.Nat.{div-add-mod'}
use Rattle.nl_blocks.specs.declared.states.BlockState.{BlockState}
use Rattle.nl_blocks.specs.declared.states.BlockState.TheVariants as the
use Rattle.nl_blocks.specs.Table.{Table}
use Rattle.nl_blocks.specs.Used.{is_active_state, is_target_state, used_in}
use Rattle.nl_blocks.proofs.UsedLaws.{used-kind}
use Rattle.nl_pseg.specs.Kept.{kept}
use Rattle.nl_pseg.specs.Segment.{held_at}
use Rattle.nl_pseg.specs.Seen.{IsPhysicalFormed, IsTied, seen}
use Rattle.nl_pseg_blocks.specs.Uses.{CountsUsedPage}
use Rattle.nl_pseg.specs.declared.held.Held.{Held}
use Rattle.nl_pseg.specs.declared.state.State.{State}
use Rattle.nl_pseg.proofs.Closed.{as_counted, closed_by}
use Rattle.nl_pseg.proofs.States.{segment_block}

some_is : (x : Option Held) → IsSome x → (h : Held) × (x ≡ Some h)
some_is None some = absurd (true≢false (sym some))
some_is (Some h) some = (h, refl)

active_is : (state : BlockState) → is_active_state state ≡ true → state ≡ the.Active
active_is the.Free is = absurd (true≢false (sym is))
active_is the.Active is = refl
active_is the.Target is = absurd (true≢false (sym is))
active_is the.Sealed is = absurd (true≢false (sym is))
active_is the.Victim is = absurd (true≢false (sym is))
active_is (the.Retired names) is = absurd (true≢false (sym is))

target_is : (state : BlockState) → is_target_state state ≡ true → state ≡ the.Target
target_is the.Free is = absurd (true≢false (sym is))
target_is the.Active is = absurd (true≢false (sym is))
target_is the.Target is = refl
target_is the.Sealed is = absurd (true≢false (sym is))
target_is the.Victim is = absurd (true≢false (sym is))
target_is (the.Retired names) is = absurd (true≢false (sym is))

module _ (s : State) (is : IsPhysicalFormed (kept s)) (tied : IsTied (kept s)) (page : ℕ) (live : IsSome (held_at (seen (kept s)) page)) where
  abbrev block : ℕ
  block = page / s.blocks.size

  held : (h : Held) × (held_at (seen (kept s)) page ≡ Some h)
  held = some_is (held_at (seen (kept s)) page) live

  parts : page ≡ block * s.blocks.size + page % s.blocks.size
  parts = sym (div-add-mod' page s.blocks.size)

  room : (n : ℕ) → n ≤ page % s.blocks.size → n < s.blocks.size
  room n below = let some = is.some in omega (arith, below, some)

  pub live_used : page % s.blocks.size < used_in is_active_state s.blocks block
  live_used = ⊎_elim (λ less. less) (λ not_less. absurd (by not_less)) (cases_lt (page % s.blocks.size) (used_in is_active_state s.blocks block))
    where
      by : used_in is_active_state s.blocks block ≤ page % s.blocks.size → ⊥
      by behind =
          let place = is.places.each page held.0 held.1 in
          let has = segment_block (kept s) page is.some place.within in
          let less = room (used_in is_active_state s.blocks block) behind in
          let one = tied.phases.one_active block has (active_is _ (used-kind is_active_state s.blocks block less)) in
          let here : block * s.blocks.size ≡ s.active * s.blocks.size = ap (λ b. b * s.blocks.size) one.0 in
          let used : used_in is_active_state s.blocks block ≡ (kept s).used = ap (used_in is_active_state s.blocks) one.0 in
          let at = parts in
          let within : page % s.blocks.size < s.blocks.size = (let some = is.some in omega (arith, some)) in
          place.behind (omega (arith, behind, here, used, at), omega (arith, here, at, within, one.1))

  pub live_filled : page % s.blocks.size < used_in is_target_state s.blocks block
  live_filled = ⊎_elim (λ less. less) (λ not_less. absurd (by not_less)) (cases_lt (page % s.blocks.size) (used_in is_target_state s.blocks block))
    where
      by : used_in is_target_state s.blocks block ≤ page % s.blocks.size → ⊥
      by behind =
          let place = is.places.each page held.0 held.1 in
          let has = segment_block (kept s) page is.some place.within in
          let less = room (used_in is_target_state s.blocks block) behind in
          let one = tied.phases.one_target block has (target_is _ (used-kind is_target_state s.blocks block less)) in
          let here : block * s.blocks.size ≡ s.target * s.blocks.size = ap (λ b. b * s.blocks.size) one.0 in
          let used : used_in is_target_state s.blocks block ≡ (kept s).filled = ap (used_in is_target_state s.blocks) one.0 in
          let at = parts in
          let within : page % s.blocks.size < s.blocks.size = (let some = is.some in omega (arith, some)) in
          tied.behind page held.0 held.1 (omega (arith, behind, here, used, at), omega (arith, here, at, within, one.1))

  -- where it is marked again as many pages are used as before
  pub live_counted : (t : Table) → CountsUsedPage is_active_state page s.blocks t → CountsUsedPage is_target_state page s.blocks t → kept s ≡ closed_by s t
  live_counted t uses fills = as_counted (kept s) (used_in is_active_state t s.active) (used_in is_target_state t s.target) (uses.again live_used s.active is.active_in) (fills.again live_filled s.target tied.phases.target_in)
