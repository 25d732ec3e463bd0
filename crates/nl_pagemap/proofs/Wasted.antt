-- A program failed: its page is spent, and nothing leads to it.
use Rattle.std.proofs.Common.{◌≡◌, inl, ℕ, ◌+◌, ◌-◌, ◌*◌, ◌<◌, ◌^◌, refl, sym, subst, arith}
use Rattle.nl_field.specs.Page.{Image}
use Rattle.nl_iface.specs.Left.{LeavesTried}
use Rattle.nl_iface.specs.Space.{FailsToWrite}
use Rattle.nl_iface.specs.Stored.{NamedPage, Stored}
use Rattle.nl_nand.specs.declared.geometry.Geometry.{Geometry}
use Rattle.nl_pagemap.specs.Laws.{leaves_in}
use Rattle.nl_pagemap.specs.Mapped.{Mapped, bytes_at, named_at, names_of, space_of, stored_in}
use Rattle.nl_pagemap.specs.Placing.{ChangesNext, HasNext, spent_stamp}
use Rattle.nl_pagemap.specs.Stands.{IsMapped}
use Rattle.nl_pagemap.proofs.Spent.{holds_still, spent_bytes, spent_map, spent_mapped, spent_named}
use Rattle.nl_vseg.specs.Places.{map_of}

module _ {tells : Type 0} {geometry : Geometry} (block : ℕ) (s : Mapped) (image : Image) (f : IsMapped tells geometry s) (h : HasNext s block) (next : s.next < 2 ^ 63) (k : ChangesNext tells block s image) where
  abbrev pub wasted : Mapped
  wasted = spent_stamp block image s

  pub wasted_mapped : IsMapped tells geometry wasted
  wasted_mapped = spent_mapped block s image (s.next + 1) f h (omega arith) (omega (arith, next)) k

  pub wasted_named : tells → (q : ℕ) → named_at wasted q ≡ named_at s q
  wasted_named told q = spent_named block s image (s.next + 1) f h (omega arith) (omega (arith, next)) k told q

  pub wasted_bytes : tells → (q : ℕ) → bytes_at wasted q ≡ bytes_at s q
  wasted_bytes told q = spent_bytes block s image (s.next + 1) f h (omega arith) (omega (arith, next)) k told q

  pub wasted_map : tells → (v : ℕ) → map_of s.vseg.places image v ≡ map_of s.vseg.places s.image v
  wasted_map told v = spent_map block s image (s.next + 1) f h (omega arith) (omega (arith, next)) k told v

  wasted_tried : tells → (new : NamedPage) → LeavesTried s.shape (names_of s) (λ q. bytes_at s q) new (stored_in s) (stored_in wasted)
  wasted_tried told new =
      let holds = holds_still block s image (s.next + 1) f h (omega arith) (omega (arith, next)) k told in
      record {
        same_virtual = record { values = wasted_map told; firm = refl };
        holds = holds;
        pages = leaves_in f (stored_in wasted) holds;
        others = λ q. inl (wasted_named told q);
      }

  -- what a stop leaves then
  pub left_without : tells → (new : NamedPage) (c : Stored) → c ≡ stored_in wasted → LeavesTried s.shape (names_of s) (λ q. bytes_at s q) new (stored_in s) c
  left_without told new c is =
      subst (λ (x : Stored). LeavesTried s.shape (names_of s) (λ q. bytes_at s q) new (stored_in s) x) (sym is) (wasted_tried told new)

-- the numbers after it
pub fails : (s t : Mapped) → 0 < s.room → t.shape ≡ s.shape → t.room ≡ s.room - 1 → t.table ≡ s.table → FailsToWrite (space_of s) (space_of t)
fails s t some shape room table = record {
  same = record { block = λ i. (shape i).pages; all = λ i. (shape i).pblocks * (shape i).pages; bad = omega arith; kept = refl };
  lessened = record { victim = refl; waiting = omega arith; pairs = omega arith; left = omega arith; left_most = omega arith; lands = λ none can. omega arith };
  waiting = refl;
  pairs = refl;
  live = λ i. (space_of (record t { shape = shape i; table = table i })).live;
  room = omega (arith, room);
  room_most = λ none. omega (arith, room, some);
}
