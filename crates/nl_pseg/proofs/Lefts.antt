-- How many pages of the victim are live, as pages die or are written.
use Rattle.std.proofs.Common.{◌≡◌, ℕ, ◌+◌, ◌*◌, ◌<◌, ◌≤◌, Option, Some, None, List, length, get_or, set, unwrap_or, option_map, refl, sym, ◌∙◌, ap, arith}
use Rattle.nl_blocks.specs.Table.{IsBlockTable}
use Rattle.nl_pseg.specs.Seen.{IsPhysicalFormed, IsTied, seen}
use Rattle.nl_pseg.specs.Space.{IsWhole, gain_of, left_in_victim, victims}
use Rattle.nl_pseg.specs.declared.held.Held.{Held}
use Rattle.nl_pseg.specs.Kept.{Kept}
use Rattle.nl_pseg.proofs.Runs.{dead_seen, run, run_ended, run_same}

-- the live pages of a block, where there is one
abbrev pub live_of : List (Option Held) → ℕ → Option ℕ → ℕ
live_of held size victim = unwrap_or (option_map (λ block. run held (block * size) size) victim) 0

pub left_is : (s : Kept) → IsPhysicalFormed s → IsTied s → IsBlockTable s.blocks → left_in_victim (seen s) ≡ live_of s.held.items s.blocks.size s.victim
left_is s is tied table = of s.victim refl
  where
    of : (v : Option ℕ) → s.victim ≡ v → left_in_victim (record (seen s) { victim = v }) ≡ live_of s.held.items s.blocks.size v
    of None e = refl
    of (Some b) e = let sum = dead_seen s is table b (tied.phases.victim_in b e).0 in omega (arith, sum)

pub live_same : (xs ys : List (Option Held)) (size : ℕ) (v : Option ℕ) → ((b p : ℕ) → v ≡ Some b → b * size ≤ p → p < b * size + size → get_or xs p None ≡ get_or ys p None) → live_of xs size v ≡ live_of ys size v
live_same xs ys size None same = refl
live_same xs ys size (Some b) same = run_same xs ys (b * size) size (λ p from below. same b p refl from below)

pub live_ended : (xs : List (Option Held)) (page size : ℕ) (v : Option ℕ) → page < length xs → (live_of (set xs page None) size v ≤ live_of xs size v) × (live_of xs size v ≤ live_of (set xs page None) size v + 1)
live_ended xs page size None within = (omega arith, omega arith)
live_ended xs page size (Some b) within = run_ended xs page (b * size) size within

module _ (s x : Kept) (is : IsPhysicalFormed s) (tied : IsTied s) (table : IsBlockTable s.blocks) (now : IsPhysicalFormed x) (tied_now : IsTied x) (table_now : IsBlockTable x.blocks) (size : x.blocks.size ≡ s.blocks.size) (victim : x.victim ≡ s.victim) where
  now_is : left_in_victim (seen x) ≡ live_of x.held.items s.blocks.size s.victim
  now_is = left_is x now tied_now table_now ∙ (λ i. live_of x.held.items (size i) (victim i))

  pub left_same : ((b p : ℕ) → s.victim ≡ Some b → b * s.blocks.size ≤ p → p < b * s.blocks.size + s.blocks.size → get_or x.held.items p None ≡ get_or s.held.items p None) → left_in_victim (seen x) ≡ left_in_victim (seen s)
  left_same same = now_is ∙ (live_same x.held.items s.held.items s.blocks.size s.victim same ∙ sym (left_is s is tied table))

  pub left_ended : (page : ℕ) → page < length s.held.items → x.held.items ≡ set s.held.items page None → (left_in_victim (seen x) ≤ left_in_victim (seen s)) × (left_in_victim (seen s) ≤ left_in_victim (seen x) + 1)
  left_ended page within held =
      let a = now_is in
      let b = left_is s is tied table in
      let c : live_of x.held.items s.blocks.size s.victim ≡ live_of (set s.held.items page None) s.blocks.size s.victim = ap (λ l. live_of l s.blocks.size s.victim) held in
      let d = live_ended s.held.items page s.blocks.size s.victim within in
      (omega (arith, a, b, c, d.0), omega (arith, a, b, c, d.1))

  -- what a victim would gain
  pub gain_by : IsWhole (seen s) → IsWhole (seen x) → left_in_victim (seen x) + gain_of (seen x) ≡ left_in_victim (seen s) + gain_of (seen s)
  gain_by whole whole_now = whole_now.numbers.victim ∙ ((λ i. victims (record (seen s) { victim = victim i }) * size i) ∙ sym whole.numbers.victim)
