-- What it says that the numbers keep what they had.
use Rattle.std.proofs.Common.{◌≡◌, inl, inr, ⊎_elim, ℕ, ◌*◌, Some, refl, sym, ◌∙◌, ap}
use Rattle.std.proofs.lemmas.Option.{none-some, same_Some}
use Rattle.nl_iface.specs.Left.{HoldsLive, LeavesPages}
use Rattle.nl_iface.specs.Moves.{LeavesErased}
use Rattle.nl_iface.specs.Names.{LivePage, SameTables}
use Rattle.nl_iface.specs.Stored.{NamedPage}
use Rattle.nl_nand.specs.declared.geometry.Geometry.{Geometry}
use Rattle.nl_pagemap.specs.Cleaning.{ChangesRoom, KeepsNumbers}
use Rattle.nl_pagemap.specs.Laws.{holds_live, leaves_in}
use Rattle.nl_pagemap.specs.Mapped.{Mapped, bytes_at, live_among, names_of, page_live, space_of, stored_in}
use Rattle.nl_pagemap.specs.Stands.{IsMapped}

pub keeps_same : (tells : Type 0) (s : Mapped) → KeepsNumbers tells s s
keeps_same tells s = record {
  shape = refl;
  vseg = refl;
  next = refl;
  count = refl;
  live = λ n. refl;
  map = λ told v. refl;
  stored = λ told n. inl refl;
}

pub keeps_then : {tells : Type 0} {s t u : Mapped} → KeepsNumbers tells s t → KeepsNumbers tells t u → KeepsNumbers tells s u
keeps_then {tells} {s} {t} {u} k l = record {
  shape = l.shape ∙ k.shape;
  vseg = l.vseg ∙ k.vseg;
  next = l.next ∙ k.next;
  count = l.count ∙ k.count;
  live = λ n. l.live n ∙ k.live n;
  map = λ told v. l.map told v ∙ k.map told v;
  stored = λ told n. ⊎_elim
      (λ same. ⊎_elim (λ before. inl (same ∙ before)) (λ gone. inr (gone.0, same ∙ gone.1)) (k.stored told n))
      (λ gone. inr (sym (k.live n) ∙ gone.0, gone.1))
      (l.stored told n);
}

module _ {tells : Type 0} {geometry now : Geometry} {s t : Mapped} (f : IsMapped tells geometry s) (g : IsMapped tells now t) (k : KeepsNumbers tells s t) where
  pub same_tables : SameTables (names_of s) (names_of t)
  same_tables = record { live = k.live; pairs = refl; pending = refl; handled = λ n. refl; posted = refl }

  live_same : live_among t.shape t.table ≡ live_among s.shape s.table
  live_same = sym g.count ∙ (k.count ∙ f.count)

  pub changes_room : ChangesRoom (space_of s) (space_of t)
  changes_room = λ i. record (space_of t) {
    block = (k.shape i).pages;
    all = (k.shape i).pblocks * (k.shape i).pages;
    live = live_same i;
    reach = (k.shape i).pages;
  }

  pub holds_kept : tells → HoldsLive (λ n. page_live s.table n) (λ n. bytes_at s n) (stored_in t)
  holds_kept told n page live = ⊎_elim
      (λ same. same ∙ holds_live f told n page live)
      (λ gone. absurd (none-some page (sym gone.0 ∙ live)))
      (k.stored told n)

  pub leaves_erased : tells → LeavesErased (names_of s) (λ n. bytes_at s n) (stored_in s) (stored_in t)
  leaves_erased told = record {
    same_virtual = record { values = k.map told; firm = refl };
    holds = holds_kept told;
    others = k.stored told;
  }

  pub leaves_pages_kept : tells → LeavesPages s.shape (names_of s) (λ n. bytes_at s n) (stored_in t)
  leaves_pages_kept told = leaves_in f (stored_in t) (holds_kept told)

  pub bytes_kept : tells → (n : ℕ) (page : LivePage) → page_live s.table n ≡ Some page → bytes_at t n ≡ bytes_at s n
  bytes_kept told n page live =
      let before = holds_kept told n page live in
      let after = holds_live g told n page (k.live n ∙ live) in
      let same = same_Some (record { tag = page.tag; stamp = page.stamp; bytes = bytes_at t n }) (record { tag = page.tag; stamp = page.stamp; bytes = bytes_at s n }) (sym after ∙ before) in
      ap (λ (x : NamedPage). x.bytes) same
