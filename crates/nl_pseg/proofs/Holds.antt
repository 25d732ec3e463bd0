-- What holds of each segment.
use Rattle.std.proofs.Common.{◌≡◌, ⊎_elim, ℕ, zero, suc, [], ◌∷◌, ◌<◌, ◌+◌, ◌-◌, ◌*◌, ◌/◌, ◌≤◌, nat_le, Bool, true, false, cond, Option, Some, None, List, length, get_or, map, count_by, Contains, refl, sym, ◌∙◌, ap, subst, arith}
use Rattle.std.proofs.lemmas.Bool.{cases_Bool, true≢false}
use Rattle.std.proofs.lemmas.List.{get_or-map, length-map}
use Rattle.std.proofs.lemmas.List.Sums.{count_by-le-length, get_or-le-sum_by, sum_by-cons}
use Rattle.std.specs.List.{range_with_len}
use Rattle.nl_blocks.specs.declared.states.BlockState.{BlockState}
use Rattle.nl_blocks.specs.declared.states.BlockState.TheVariants as the
use Rattle.nl_blocks.specs.Table.{BlockRow, HasBlock, IsBlockTable, block_at, dead_count, is_free, is_retired_state, no_row, row_at}
use Rattle.nl_remap.specs.Links.{HasLink, link_at, no_link}
use Rattle.nl_remap.specs.Table.{pair}
use Rattle.nl_remap.specs.declared.links.Link.{Link}
use Rattle.nl_pseg.specs.Segment.{InVictim, KeepsBlock, held_at, is_kept}
use Rattle.nl_pseg.specs.Seen.{IsPhysicalFormed, IsTied, seen}
use Rattle.nl_pseg_blocks.specs.Uses.{Use, no_use, use_of}
use Rattle.nl_pseg.specs.Space.{HasFewPairs, PagesAreInSegment, IsWhole, dead_pages, gain_of, left_in_victim, live_in, victims, waiting}
use Rattle.nl_pseg.specs.declared.held.Held.{Held}
use Rattle.nl_pseg.specs.Kept.{Kept}
use Rattle.nl_pseg.proofs.Dropped.{retired_is}
use Rattle.nl_pseg.proofs.Erasing.{apart_next}
use Rattle.nl_pseg.proofs.Gone.{all_kept, kept, waits}
use Rattle.nl_pseg.proofs.Left.{left_is, some_live}
use Rattle.nl_pseg.proofs.Runs.{dead_is, dead_seen, run, run_all, run_plus}
use Rattle.nl_pseg.proofs.Segments.{kept_within}
use Rattle.nl_pseg.proofs.States.{block_segment, taken_segment}
use Rattle.nl_pseg.proofs.Sums.{active_is, all_covered, is_active, is_target, one_of, some_of, target_is, waits_few}
use Rattle.nl_pseg_blocks.proofs.Tables.{use_from}
use Rattle.nl_pseg.proofs.Tied.{copy_target, old_is}

abbrev num : Bool → ℕ
num b = cond b 1 0

abbrev turn : Link → ℕ × ℕ
turn p = (p.from, p.to)

-- a pair that is seen is a link of the table
pub link_is : (ps : List Link) (name target : ℕ) → Contains (map turn ps) (name, target) → HasLink ps (pair name target)
link_is ps name target has =
    let within : has.0 < length ps = subst (λ k. has.0 < k) (length-map ps turn) has.1 in
    let e : turn (link_at ps has.0) ≡ (name, target) = sym (get_or-map turn ps has.0 no_link (name, target) within) ∙ has.2 in
    (has.0, within, (λ i. record { from = (e i).0; to = (e i).1 }))

pub link_told : (ps : List Link) (name target : ℕ) → HasLink ps (pair name target) → Contains (map turn ps) (name, target)
link_told ps name target has =
    let within : has.0 < length (map turn ps) = subst (λ k. has.0 < k) (sym (length-map ps turn)) has.1 in
    (has.0, within, get_or-map turn ps has.0 no_link (name, target) has.1 ∙ ap turn has.2)

-- the uses that are kept, by the numbers of their blocks
by_place : (f : ℕ → Bool) (uses : List Use) (first : ℕ) → ((i : ℕ) → i < length uses → f (first + i) ≡ (get_or uses i no_use).is_kept) → count_by kept uses ≡ count_by f (range_with_len first (length uses))
by_place f [] first each = refl
by_place f (u ∷ us) first each =
    let a : count_by kept (u ∷ us) ≡ num (kept u) + count_by kept us = sum_by-cons (λ x. num (kept x)) u us in
    let b : count_by f (range_with_len first (suc (length us))) ≡ num (f first) + count_by f (range_with_len (first + 1) (length us)) = sum_by-cons (λ x. num (f x)) first (range_with_len (first + 1) (length us)) in
    let here : num (f first) ≡ num (kept u) = ap num (ap f (omega arith) ∙ each zero (omega arith)) in
    let rest = by_place f us (first + 1) (λ i within. ap f (omega arith) ∙ each (suc i) (omega (arith, within))) in
    omega (arith, a, b, here, rest)

module _ (s : Kept) (is : IsPhysicalFormed s) where
  -- some block is kept, where one is Free or waits
  pub kept_some : 1 ≤ (seen s).free + waiting (seen s) → (block : ℕ) × HasBlock s.blocks block × ((get_or (map use_of s.blocks.blocks) (block - s.blocks.first) no_use).is_kept ≡ true)
  kept_some some =
      let sum = all_kept s.blocks.blocks in
      let at = some_of kept (map use_of s.blocks.blocks) no_use (omega (arith, sum, some)) in
      let within : at.0 < length s.blocks.blocks = subst (λ k. at.0 < k) (length-map s.blocks.blocks use_of) at.1 in
      let e : s.blocks.first + at.0 - s.blocks.first ≡ at.0 = omega arith in
      (s.blocks.first + at.0, record { from = omega arith; below = omega (arith, within) }, ap (λ k. (get_or (map use_of s.blocks.blocks) k no_use).is_kept) e ∙ at.2)

module _ (s : Kept) (is : IsPhysicalFormed s) (tied : IsTied s) where
  has_pages : PagesAreInSegment (seen s)
  has_pages = record {
    live_within = λ p h held. (is.places.each p h held).within;
    erased_within = taken_segment s is;
    copies_within = λ p next.
        let at = copy_target s is tied p next in
        let fits = tied.phases.filled_fits in
        block_segment s s.target p tied.phases.target_in (omega (arith, next.0)) (omega (arith, next.0, next.1, fits));
    in_use = λ p h held. (is.places.each p h held).in_use;
    own = λ p h held old. tied.named.own p h held (old_is s p old);
    to_live = λ name target has. tied.named.to_live (pair name target) (link_is s.names.pairs name target has);
    one_target = λ i j d less within same.
        let count : length (map turn s.names.pairs) ≡ length s.names.pairs = length-map s.names.pairs turn in
        let b : j < length s.names.pairs = omega (arith, within, count) in
        let a : i < length s.names.pairs = omega (arith, less, b) in
        let x = ap (λ (p : ℕ × ℕ). p.0) (get_or-map turn s.names.pairs i no_link d a) in
        let y = ap (λ (p : ℕ × ℕ). p.0) (get_or-map turn s.names.pairs j no_link d b) in
        let up = tied.named.remap.rising i j less b in
        let e : (link_at s.names.pairs i).from ≡ (link_at s.names.pairs j).from = sym x ∙ (same ∙ y) in
        omega (arith, up, e);
    victim_idle = λ page next at. apart_next s is tied (page / s.blocks.size) at page next refl;
    no_name_free = λ name old free. true≢false (sym free ∙ (tied.named.standing name (old_is s name old)).in_use);
  }

  module _ (table : IsBlockTable s.blocks) (few : HasFewPairs (seen s)) where
    at_row : (i : ℕ) → i < length s.blocks.blocks → HasBlock s.blocks (s.blocks.first + i) × (block_at s.blocks (s.blocks.first + i) ≡ row_at s.blocks.blocks i)
    at_row i less = (record { from = omega arith; below = omega (arith, less) }, ap (row_at s.blocks.blocks) (omega arith))

    victim_is : (x : Option ℕ) → s.victim ≡ x → left_in_victim (record (seen s) { victim = x }) + gain_of (record (seen s) { victim = x }) ≡ victims (record (seen s) { victim = x }) * s.blocks.size
    victim_is None e = omega arith
    victim_is (Some b) e =
        let sum = dead_seen s is table b (tied.phases.victim_in b e).0 in
        omega (arith, sum)

    none_left : left_in_victim (seen s) ≡ 0 → (page : ℕ) (h : Held) → held_at (seen s) page ≡ Some h → InVictim (seen s) page → ⊥
    none_left none page h held at =
        let has = (tied.phases.victim_in (page / s.blocks.size) at).0 in
        let few = some_live s is table (page / s.blocks.size) has page h refl held in
        let left = left_is s (page / s.blocks.size) has at in
        omega (arith, few, left, none)

    few_wait : waiting (seen s) ≤ length (seen s).pairs
    few_wait =
        let most = waits_few s.blocks.size s.names.pairs s.blocks.blocks s.blocks.first (λ i less retired.
        let at = at_row i less in
        let b = s.blocks.first + i in
        let r : is_retired_state (block_at s.blocks b).state ≡ true = ap (λ (row : BlockRow). is_retired_state row.state) at.1 ∙ retired in
        let count = tied.named.waits b _ at.0 (retired_is (block_at s.blocks b).state r) in
        let some = (table.each (b - s.blocks.first) no_row (let w = at.0.below in omega (arith, w, less))).names r in
        omega (arith, count, some)) in
        let all = count_by-le-length (λ (p : Link). nat_le s.blocks.first (p.from / s.blocks.size)) s.names.pairs in
        let count : length (map turn s.names.pairs) ≡ length s.names.pairs = length-map s.names.pairs turn in
        omega (arith, most, all, count)

    kept_counts : KeepsBlock (seen s) → 1 ≤ (seen s).free + waiting (seen s) + victims (seen s)
    kept_counts k = ⊎_elim
        (λ is_kept.
        let range = kept_within s.blocks.first (map use_of s.blocks.blocks) k.block is_kept in
        let within : k.block - s.blocks.first < length (map use_of s.blocks.blocks) = omega (arith, range.0, range.1) in
        let here : num (kept (get_or (map use_of s.blocks.blocks) (k.block - s.blocks.first) no_use)) ≡ 1 = ap (λ (u : Use). num u.is_kept) (sym (use_from s.blocks.first (map use_of s.blocks.blocks) k.block range.0)) ∙ ap num is_kept in
        let most : num (kept (get_or (map use_of s.blocks.blocks) (k.block - s.blocks.first) no_use)) ≤ count_by kept (map use_of s.blocks.blocks) = get_or-le-sum_by (λ u. num (kept u)) (map use_of s.blocks.blocks) (k.block - s.blocks.first) no_use within in
        let sum = all_kept s.blocks.blocks in
        omega (arith, here, most, sum))
        (λ named. let one : victims (seen s) ≡ 1 = ap (λ (v : Option ℕ). victims (record (seen s) { victim = v })) named in omega (arith, one))
        k.kept

    dead : waiting (seen s) ≡ 0 → victims (seen s) ≡ 0 → ((seen s).blocks - (seen s).first) * (seen s).size ≤ live_in (seen s).held + dead_pages (seen s) + ((seen s).free + 2) * (seen s).size
    dead idle none =
        let n = length s.blocks.blocks in
        let size = s.blocks.size in
        let sum = all_covered s.held.items size s.blocks.blocks s.blocks.first (λ i less.
        let at = at_row i less in
        let b = s.blocks.first + i in
        let d : dead_count (row_at s.blocks.blocks i) ≡ dead_count (block_at s.blocks b) = ap dead_count (sym at.1) in
        let w = dead_is s is table b at.0 in
        (omega (arith, d, w), not_waiting i less, λ v. no_victim b at.0 (ap (λ (row : BlockRow). row.state) at.1 ∙ v))) in
        let actives : count_by (λ (r : BlockRow). is_active r.state) s.blocks.blocks ≤ 1 = one_of (λ (r : BlockRow). is_active r.state) s.blocks.blocks no_row s.active s.blocks.first (λ i less yes.
        let at = at_row i less in
        (tied.phases.one_active (s.blocks.first + i) at.0 (ap (λ (row : BlockRow). row.state) at.1 ∙ active_is (row_at s.blocks.blocks i).state yes)).0) in
        let targets : count_by (λ (r : BlockRow). is_target r.state) s.blocks.blocks ≤ 1 = one_of (λ (r : BlockRow). is_target r.state) s.blocks.blocks no_row s.target s.blocks.first (λ i less yes.
        let at = at_row i less in
        (tied.phases.one_target (s.blocks.first + i) at.0 (ap (λ (row : BlockRow). row.state) at.1 ∙ target_is (row_at s.blocks.blocks i).state yes)).0) in
        let all : run s.held.items 0 (s.blocks.first * size + n * size) ≡ live_in s.held.items = ap (run s.held.items 0) (pages_of) ∙ run_all s.held.items in
        let parts = run_plus s.held.items 0 (s.blocks.first * size) (n * size) in
        let from : run s.held.items (0 + s.blocks.first * size) (n * size) ≡ run s.held.items (s.blocks.first * size) (n * size) = ap (λ k. run s.held.items k (n * size)) (omega arith) in
        let less : run s.held.items (s.blocks.first * size) (n * size) ≤ live_in s.held.items = omega (arith, all, parts, from) in
        bound (count_by is_free s.blocks.blocks) (count_by (λ (r : BlockRow). is_active r.state) s.blocks.blocks) (count_by (λ (r : BlockRow). is_target r.state) s.blocks.blocks) size s.blocks.first n _ _ _ sum actives targets less
      where
        pages_of : s.blocks.first * s.blocks.size + length s.blocks.blocks * s.blocks.size ≡ length s.held.items
        pages_of = let p = is.pages in omega (arith, p)

        not_waiting : (i : ℕ) → i < length s.blocks.blocks → is_retired_state (row_at s.blocks.blocks i).state ≡ false
        not_waiting i less = ⊎_elim
            (λ yes.
            let at : get_or (map use_of s.blocks.blocks) i no_use ≡ use_of (row_at s.blocks.blocks i) = get_or-map use_of s.blocks.blocks i no_row no_use less in
            let count : length (map use_of s.blocks.blocks) ≡ length s.blocks.blocks = length-map s.blocks.blocks use_of in
            let most : num (waits (get_or (map use_of s.blocks.blocks) i no_use)) ≤ waiting (seen s) = get_or-le-sum_by (λ u. num (waits u)) (map use_of s.blocks.blocks) i no_use (omega (arith, less, count)) in
            let one : num (waits (get_or (map use_of s.blocks.blocks) i no_use)) ≡ 1 = ap (λ u. num (waits u)) at ∙ ap (λ (st : BlockState). num (waits (use_of (record (row_at s.blocks.blocks i) { state = st })))) (retired_is (row_at s.blocks.blocks i).state yes) in
            absurd (omega (arith, most, one, idle)))
            (λ no. no)
            (cases_Bool (is_retired_state (row_at s.blocks.blocks i).state))

        no_victim : (b : ℕ) → HasBlock s.blocks b → (block_at s.blocks b).state ≡ the.Victim → ⊥
        no_victim b has st =
            let one : victims (seen s) ≡ 1 = ap (λ (v : Option ℕ). victims (record (seen s) { victim = v })) (tied.phases.one_victim b has st) in
            omega (arith, one, none)

        bound : (f a t size first n live_from sealed live : ℕ) → n * size ≤ live_from + sealed + (f + a + t) * size → a ≤ 1 → t ≤ 1 → live_from ≤ live → (first + n - first) * size ≤ live + sealed + (f + 2) * size
        bound f a t size first n live_from sealed live sum one two less =
            let e : first + n - first ≡ n = omega arith in
            let same : (first + n - first) * size ≡ n * size = ap (λ k. k * size) e in
            let rest : (f + a + t) + ((1 - a) + (1 - t)) ≡ f + 2 = omega (arith, one, two) in
            let more : ((f + a + t) + ((1 - a) + (1 - t))) * size ≡ (f + 2) * size = ap (λ k. k * size) rest in
            let spread : ((f + a + t) + ((1 - a) + (1 - t))) * size ≡ (f + a + t) * size + ((1 - a) + (1 - t)) * size = omega arith in
            omega (arith, sum, less, same, more, spread)

    counted : (seen s).free + waiting (seen s) ≡ count_by (is_kept (seen s)) (range_with_len s.blocks.first (s.blocks.first + length s.blocks.blocks - s.blocks.first))
    counted =
        let uses = map use_of s.blocks.blocks in
        let size = length-map s.blocks.blocks use_of in
        let many : s.blocks.first + length s.blocks.blocks - s.blocks.first ≡ length uses = omega (arith, size) in
        all_kept s.blocks.blocks
        ∙ (by_place (is_kept (seen s)) uses s.blocks.first (λ i within. ap (λ (u : Use). u.is_kept) (use_from s.blocks.first uses (s.blocks.first + i) (omega arith)) ∙ ap (λ k. (get_or uses k no_use).is_kept) (omega arith))
        ∙ ap (λ n. count_by (is_kept (seen s)) (range_with_len s.blocks.first n)) (sym many))

    pub holds_whole : IsWhole (seen s)
    holds_whole = record {
      pages = has_pages;
      numbers = record {
        left = omega arith;
        copy_left = omega arith;
        victim = victim_is s.victim refl;
        none_left = none_left;
        pairs = let count : length (map turn s.names.pairs) ≡ length s.names.pairs = length-map s.names.pairs turn in let r = tied.named.room in omega (arith, count, r);
        busy = few;
        few_wait = few_wait;
        counted = counted;
        kept = kept_counts;
        dead = dead;
      };
    }
