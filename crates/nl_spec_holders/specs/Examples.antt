-- Small volumes, and what wrong bodies make of them.
use Rattle.std.specs.Prelude.{ℕ, ◌==◌, if◌then◌else◌, List, [], ◌∷◌, Option, Some, None}
use Rattle.nl_field.specs.declared.pointer.Tag.{Tag}
use Rattle.nl_field.specs.declared.pointer.Pointer.{Pointer}
use Rattle.nl_iface.specs.Examples.{fresh_space, some_tag, pointer}
use Rattle.nl_iface.specs.Names.{LivePage, Names}
use Rattle.nl_iface.specs.declared.Callback.{Callback}
use Rattle.nl_spec_holders.specs.Holding.{Holding}

abbrev pub page_of : ℕ → LivePage
page_of stamp = record { tag = some_tag; stamp = stamp }

abbrev pub callback : ℕ → ℕ → ℕ → ℕ → Callback
callback number before after stamp = record { number = number; before = before; after = after; tag = some_tag; stamp = stamp }

-- one page of stamp 7 is live, at this place
abbrev pub names : ℕ → List (ℕ × ℕ) → List Callback → (ℕ → Option ℕ) → Names
names place pairs pending handled = record {
  live = λ p. if p == place then Some (page_of 7) else None;
  pairs = pairs;
  pending = pending;
  handled = handled;
  posted = 1;
  space = fresh_space;
}

abbrev pub nothing : Names
nothing = record { live = λ p. None; pairs = []; pending = []; handled = λ n. None; posted = 0; space = fresh_space }

-- The pointer of the running metadata, of the committed one and of the frozen one. Transaction 1 counts, 2 may be frozen.
abbrev pub volume : Names → List (Tag × Pointer) → List (Tag × Pointer) → List Pointer → List Pointer → List Pointer → Holding
volume t running flight freeing committed frozen = record {
  names = t;
  running = running;
  flight = flight;
  freeing = freeing;
  committed = committed;
  decided = 1;
  due = 0;
  frozen = frozen;
  number = 2;
  leaving = 0;
  next = 3;
}

-- A move is acknowledged as it is handled, before its transaction counts.
abbrev pub acknowledged_early : Holding
acknowledged_early = volume (names 300 [] [] (λ n. None)) ((some_tag, pointer 300 7) ∷ []) [] [] (pointer 40 7 ∷ []) []

-- Of two moves of a page the second was handled and acknowledged; the first then renames to the place that it tells of.
abbrev pub renamed_to_after : Holding
renamed_to_after =
    volume (names 400 ((40, 400) ∷ []) (callback 1 40 300 7 ∷ []) (λ n. if n == 1 then Some 3 else None))
    ((some_tag, pointer 300 7) ∷ []) [] [] [] []

-- The handler overlooks the page in flight.
abbrev pub flight_overlooked : Holding
flight_overlooked =
    volume (names 300 ((40, 300) ∷ []) (callback 1 40 300 7 ∷ []) (λ n. if n == 1 then Some 3 else None)) []
    ((some_tag, pointer 40 7) ∷ []) [] [] []

-- The old page is freed as the new one is installed.
abbrev pub freed_early : Holding
freed_early = volume nothing [] [] [] (pointer 40 7 ∷ []) []

-- An opening trusts a name whose page has another stamp.
abbrev pub name_trusted : Holding
name_trusted = volume (names 300 [] [] (λ n. None)) ((some_tag, pointer 40 7) ∷ []) [] [] [] []

-- A callback that is handled while a transaction is frozen counts as handled by that one.
abbrev pub handled_for_frozen : Holding
handled_for_frozen =
    volume (names 300 ((40, 300) ∷ []) (callback 1 40 300 7 ∷ []) (λ n. if n == 1 then Some 2 else None))
    ((some_tag, pointer 300 7) ∷ []) [] [] [] (pointer 40 7 ∷ [])

-- A page that awaits its free since the freeze is freed with the frozen transaction: 1 is due, and the committed pointer has its stamp.
abbrev pub freed_for_frozen : Holding
freed_for_frozen = record (volume (names 40 [] [] (λ n. None)) [] [] (pointer 40 7 ∷ []) (pointer 40 7 ∷ []) []) { due = 1 }

-- a volume that meets all: handled for the next transaction, with the committed and the frozen pointer under the old name
abbrev pub in_order : Holding
in_order =
    volume (names 300 ((40, 300) ∷ []) (callback 1 40 300 7 ∷ []) (λ n. if n == 1 then Some 3 else None))
    ((some_tag, pointer 300 7) ∷ []) [] [] (pointer 40 7 ∷ []) (pointer 40 7 ∷ [])
