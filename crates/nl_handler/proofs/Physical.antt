-- The place to which the old name of a pending callback leads.
use Rattle.std.proofs.Common.{◌≡◌, ℕ, ◌*◌, ◌≤◌, ◌<◌, Bool, ◌||◌, nat_le, nat_lt, sym, ap, subst, ◌∙◌}
use Rattle.std.proofs.Math.Bool.{or-true}
use Rattle.std.proofs.lemmas.Bool.{and_from, le-leb, lt-ltb}
use Rattle.std.specs.Prelude.{IsTrue}
use Rattle.nl_field.specs.Live.{resolve}
use Rattle.nl_field.specs.Medium.{first_physical}
use Rattle.nl_field.specs.Pointers.{is_none_pointer}
use Rattle.nl_field.specs.declared.shape.Shape.{Shape}
use Rattle.nl_iface.specs.Device.{IsDeviceState, state_of}
use Rattle.nl_iface.specs.Names.{Has, IsNames, IsTableOfNames, Names, led, told_page}
use Rattle.nl_iface.specs.declared.Callback.{Callback}
use Rattle.nl_iface.specs.declared.counts.Counts.{Ghosts}
use Rattle.nl_iface.proofs.Tables.{is_table}
use Rattle.nl_meta.specs.Nodes.{is_physical_name}

module _ (shape : Shape) (next : ℕ) (names : Names) (tables : IsNames shape next names) (table : IsTableOfNames names) (c : Callback) (pending : Has names.pending c) (to stamp : ℕ) (is : to ≡ resolve names.pairs c.before) where
  low : first_physical shape ≤ to
  low = subst (λ (n : ℕ). first_physical shape ≤ n) (sym is) (tables.from_first (led names c.before) (told_page c) (table.called c pending))

  high : to < shape.blocks * shape.pages
  high = subst (λ (n : ℕ). n < shape.blocks * shape.pages) (sym is) (tables.to_last (led names c.before) (told_page c) (table.called c pending))

  led-physical : IsTrue (is_physical_name shape (record { name = to; stamp = stamp }))
  led-physical =
      ap (λ (b : Bool). is_none_pointer (record { name = to; stamp = stamp }) || b)
      (and_from (nat_le (first_physical shape) to) (nat_lt to (shape.blocks * shape.pages)) (le-leb (first_physical shape) to low) (lt-ltb to (shape.blocks * shape.pages) high))
      ∙ or-true (is_none_pointer (record { name = to; stamp = stamp }))

-- the same over a device
pub called-physical : {D : Type 0} (g : Ghosts D) (s : D) → IsDeviceState (g.shape s).pages (state_of (g.names s) (g.bytes s) (g.map s) (g.next_stamp s)) → IsNames (g.shape s) (g.next_stamp s) (g.names s)
    → (c : Callback) → Has (g.names s).pending c → (to stamp : ℕ) → to ≡ resolve (g.names s).pairs c.before → IsTrue (is_physical_name (g.shape s) (record { name = to; stamp = stamp }))
called-physical g s state tables c pending to stamp is =
    led-physical (g.shape s) (g.next_stamp s) (g.names s) tables (is_table (g.shape s).pages (g.next_stamp s) (g.names s) (g.bytes s) (g.map s) state) c pending to stamp is
