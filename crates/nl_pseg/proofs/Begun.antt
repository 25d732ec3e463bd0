-- What is seen of a segment after a victim was taken.
use Rattle.std.proofs.Common.{◌≡◌, ℕ, ◌+◌, ◌-◌, ◌*◌, ◌<◌, ◌≤◌, ◌&&◌, not, cond, count_by, sum_by, Some, None, List, length, map, refl, ◌∙◌, ap, arith}
use Rattle.std.proofs.lemmas.List.{length-map}
use Rattle.nl_blocks.specs.declared.states.BlockState.{BlockState}
use Rattle.nl_blocks.specs.declared.states.BlockState.TheVariants.{Sealed, Victim}
use Rattle.nl_blocks.specs.Table.{Table, HasBlock, IsBlockTable, block_at, dead_count, free_count, in_state, is_sealed_state, with_block}
use Rattle.nl_blocks.proofs.TableLaws.{block_at-with_block_same, sum_by-with_block}
use Rattle.nl_remap.specs.declared.links.Link.{Link}
use Rattle.nl_remap.specs.Table.{told}
use Rattle.nl_pseg.specs.Cleaning.{BeginsBlock}
use Rattle.nl_pseg.specs.Segment.{row_in, soiled, wear_with}
use Rattle.nl_pseg.specs.Seen.{row_of, seen}
use Rattle.nl_pseg.specs.Space.{HasFewPairs, gain_of}
use Rattle.nl_pseg_blocks.specs.Uses.{Use, use_of, SameUse}
use Rattle.nl_pseg.specs.Kept.{Kept}
use Rattle.nl_pseg.proofs.Numbers.{block_from}
use Rattle.nl_pseg.proofs.Rows.{dead_few, dead_here, sum_map, to_gain, waiting_used}
use Rattle.nl_pseg_blocks.proofs.Tables.{has_same}

-- so many pairs are seen
pub told_length : (pairs : List Link) → length (told pairs) ≡ length pairs
told_length pairs = length-map pairs (λ p. (p.from, p.to))

module _ (s : Kept) (table : IsBlockTable s.blocks) (none : s.victim ≡ None) (few : length s.names.pairs ≤ 2 * s.blocks.size) (some : 0 < free_count s.blocks) (block : ℕ) (has : HasBlock s.blocks block) (sealed : (block_at s.blocks block).state ≡ Sealed)
    (t : Table) (whole : t ≡ with_block s.blocks block (in_state (block_at s.blocks block) Victim)) (same : SameUse s.blocks t) where
  abbrev after : Kept
  after = record s { blocks = t; victim = Some block }

  abbrev dead : ℕ
  dead = dead_count (block_at s.blocks block)

  now_dead : (row_in t.first (map row_of t.blocks) block).dead ≡ dead
  now_dead = dead_here t block (has_same block same.numbers has)
      ∙ ap dead_count (ap (λ (u : Table). block_at u block) whole ∙ block_at-with_block_same s.blocks block (in_state (block_at s.blocks block) Victim) has)

  was_dead : (row_in s.blocks.first (map row_of s.blocks.blocks) block).dead ≡ dead
  was_dead = dead_here s.blocks block has

  left : t.size - (row_in t.first (map row_of t.blocks) block).dead + dead ≡ s.blocks.size
  left = let d = dead_few s.blocks table block has in let n = now_dead in let e = same.numbers.same_size in omega (arith, d, n, e)

  gained : sum_by to_gain (map row_of t.blocks) + dead ≡ sum_by to_gain (map row_of s.blocks.blocks)
  gained =
      let sums = sum_by-with_block (λ r. to_gain (row_of r)) s.blocks block (in_state (block_at s.blocks block) Victim) has in
      let now : sum_by to_gain (map row_of t.blocks) ≡ sum_by (λ r. to_gain (row_of r)) (with_block s.blocks block (in_state (block_at s.blocks block) Victim)).blocks = sum_map to_gain row_of t.blocks ∙ ap (λ (u : Table). sum_by (λ r. to_gain (row_of r)) u.blocks) whole in
      let was = sum_map to_gain row_of s.blocks.blocks in
      let here : to_gain (row_of (block_at s.blocks block)) ≡ dead = ap (λ (b : BlockState). cond (is_sealed_state b) dead 0) sealed in
      omega (arith, sums, now, was, here)

  no_gain : gain_of (seen s) ≡ 0
  no_gain = ap (λ v. gain_of (record (seen s) { victim = v })) none

  blocks_same : (free_count t + count_by (λ (u : Use). u.is_kept && not u.is_free) (map use_of t.blocks)) * t.size ≡ (free_count s.blocks + count_by (λ (u : Use). u.is_kept && not u.is_free) (map use_of s.blocks.blocks)) * s.blocks.size
  blocks_same i = (same.total i + waiting_used s.blocks t same i) * same.numbers.same_size i

  pub begins : BeginsBlock block (seen s) (seen (record s { blocks = t; victim = Some block }))
  begins =
      let n = same.numbers in
      record {
        tables = record { same_first = n.same_first; same_blocks = λ i. n.same_first i + n.same_count i; same_size = n.same_size; same_held = refl; same_pairs = refl; same_room = refl };
        none = none;
        few = let e = told_length s.names.pairs in let f = few in omega (arith, e, f);
        victim = refl;
        next = (λ i. s.active * n.same_size i + s.used, λ i. n.same_size i - s.used);
        copies = (λ i. s.target * n.same_size i + s.filled, λ i. n.same_size i - s.filled);
        free = same.total;
        frees = λ b. ap (λ (u : Use). u.is_free) (same.uses b);
        keeps = λ b. ap (λ (u : Use). u.is_kept) (same.uses b);
        wears = λ b. ap (λ (u : Use). wear_with u (soiled (seen s) b)) (same.uses b);
        same_erasures = λ b. ap (λ (u : Use). u.wear) (same.uses b);
        same_soiled = λ b. refl;
        waits = λ b. ap (λ (u : Use). u.is_kept && not u.is_free) (same.uses b);
        same_waiting = waiting_used s.blocks t same;
        left = let l = left in let d = was_dead in omega (arith, l, d);
        dead = let g = gained in let d = was_dead in omega (arith, g, d);
        gains = let p = blocks_same in let z = no_gain in let a = now_dead in let b = was_dead in let e = n.same_size in omega (arith, p, z, a, b, e);
        lands = let l = left in let e = n.same_size in let f = same.total in let m = block_from 1 (free_count t) t.size (omega (arith, some, f)) in omega (arith, l, e, m);
      }

  pub few_begun : HasFewPairs (seen (record s { blocks = t; victim = Some block }))
  few_begun one = let e = told_length s.names.pairs in let f = few in let l = left in let n = same.numbers.same_size in omega (arith, e, f, l, n)
