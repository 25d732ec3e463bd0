-- The table of pairs of an old name and the page to which it leads.
use Rattle.std.specs.Prelude.{◌≡◌, ℕ, ◌^◌, ◌<◌, ◌==◌, if◌then◌else◌, not, List, length, map, filter, count_by, nat_lt}
use Rattle.nl_field.specs.Live.{resolve}
use Rattle.nl_remap.specs.declared.links.Link.{Link}
use Rattle.nl_remap.specs.Links.{link_at, HasLink, IsRising}

-- the pairs by rising old name, each a link from the old name to its target, and how many more pairs there is room for
pub record RemapTable : Type 0 where
  pub pairs : List Link
  pub room : ℕ

abbrev pub pair : ℕ → ℕ → Link
pair old target = record { from = old; to = target }

-- the name is the old name of a pair
abbrev pub IsOld : List Link → ℕ → Type 0
IsOld pairs name = (i : ℕ) × (i < length pairs) × ((link_at pairs i).from ≡ name)

-- the old names rise, and no target is an old name
pub record IsRemap (pairs : List Link) : Type 0 where
  pub rising : (i j : ℕ) → i < j → j < length pairs → (link_at pairs i).from < (link_at pairs j).from
  pub fits : (i : ℕ) → i < length pairs → (link_at pairs i).to < 2 ^ 32
  pub one_step : (x : Link) → HasLink pairs x → IsOld pairs x.to → ⊥

-- each old name with its target
abbrev pub told : List Link → List (ℕ × ℕ)
told pairs = map (λ p. (p.from, p.to)) pairs

-- the page to which a name leads
abbrev pub led : List Link → ℕ → ℕ
led pairs name = resolve (told pairs) name

-- the pairs that lead to another page
abbrev pub beside : List Link → ℕ → List Link
beside pairs target = filter (λ p. not (p.to == target)) pairs

-- how many old names are below this one, which is its place
abbrev pub place_of : List Link → ℕ → ℕ
place_of pairs name = count_by (λ p. nat_lt p.from name) pairs

-- the pair after the page `old` has moved to `new`
abbrev pub led_on : ℕ → ℕ → Link → Link
led_on old new p = record { from = p.from; to = if p.to == old then new else p.to }

abbrev pub turned : Link → Link
turned x = record { from = x.to; to = x.from }

-- the second list has each link of the first, turned round
abbrev pub IsInverseOf : List Link → List Link → Type 0
IsInverseOf xs ys = (x : Link) → HasLink xs x → HasLink ys (turned x)

-- the pairs by old name, and the same turned round, by target
pub record IsPaired (by_old by_target : List Link) : Type 0 where
  pub table : IsRemap by_old
  pub rising : IsRising by_target
  pub there : IsInverseOf by_old by_target
  pub back : IsInverseOf by_target by_old
  pub size : length by_target ≡ length by_old
