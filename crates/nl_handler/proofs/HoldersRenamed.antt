-- A holder of a live page that has another name.
use Rattle.std.proofs.Common.{◌≡◌, ◌≢◌, ℕ, ◌≤◌, ◌==◌, true, not, List, [], ◌∷◌, ◌++◌, refl, sym, ap, subst, ◌∙◌, Some}
use Rattle.std.proofs.lemmas.Bool.{and_parts, cond-false, cond-true, eq-eqb, eqb-true, ne_eqb, not-true}
use Rattle.std.proofs.lemmas.List.{append_assoc}
use Rattle.nl_field.specs.Pointers.{is_none_pointer}
use Rattle.nl_field.specs.declared.pointer.Pointer.{Pointer}
use Rattle.nl_field.specs.declared.pointer.Tag.{Tag}
use Rattle.nl_field.specs.declared.shape.Shape.{Shape}
use Rattle.nl_flight.specs.Flight.{carried, renamed_pointer}
use Rattle.nl_flight.proofs.Carried.{renames as carried-renames}
use Rattle.nl_spec_holders.specs.Lists.{Renames}
use Rattle.nl_spec_holders.proofs.Lists.{behind_map, renames_at, renames_map}
use Rattle.nl_iface.specs.Holders.{plain, tagged, times, wants, wants_tagged}
use Rattle.nl_indirect.proofs.Cases.{to-some}
use Rattle.nl_meta.specs.Committed.{VirtualMap}
use Rattle.nl_meta.specs.Nodes.{pointer_at}
use Rattle.nl_meta.specs.PointerLists.{OneChanges, shown, tagged_in}
use Rattle.nl_meta.proofs.PointerListProofs.{one_pointer_changes}
use Rattle.nl_handler.specs.Handling.{RenamesPointer}
use Rattle.nl_handler.specs.Laws.{FlightRenames, FreeingRenames, StoredRenames}

module _ (shape : Shape) (old new : VirtualMap) (tag : Tag) (stamp name : ℕ) (few : times tagged stamp (tagged_in shape old) ≤ 1) (r : RenamesPointer shape old new tag stamp name) where
  abbrev its : Tag
  its = record { ino = tag.ino; generation = r.was.generation; index = tag.index }

  abbrev was : Pointer
  was = pointer_at old r.was tag.index

  abbrev is : Pointer
  is = record { name = name; stamp = stamp }

  one : OneChanges its was (pointer_at new r.is tag.index) (tagged_in shape old) (tagged_in shape new)
  one = one_pointer_changes shape old new tag.ino tag.index r.was r.is r.pointer

  parts : (not (is_none_pointer was) ≡ true) × ((was.stamp == stamp) ≡ true)
  parts = and_parts (not (is_none_pointer was)) (was.stamp == stamp) r.had.pointer

  same : was.stamp ≡ stamp
  same = eqb-true was.stamp stamp parts.1

  shown-was : shown its was ≡ (its, was) ∷ []
  shown-was = cond-false (is_none_pointer was) [] ((its, was) ∷ []) (not-true (is_none_pointer was) parts.0)

  shown-is : shown its is ≡ (its, is) ∷ []
  shown-is = cond-false (is_none_pointer is) [] ((its, is) ∷ []) (to-some (Some is) r.spelled refl)

  list-was : tagged_in shape old ≡ one.front ++ (its, was) ∷ one.behind
  list-was = one.was ∙ append_assoc one.front (shown its was) one.behind ∙ ap (λ (m : List (Tag × Pointer)). one.front ++ (m ++ one.behind)) shown-was

  list-is : tagged_in shape new ≡ one.front ++ (its, is) ∷ one.behind
  list-is = one.is ∙ append_assoc one.front (shown its (pointer_at new r.is tag.index)) one.behind ∙ ap (λ (k : Pointer). one.front ++ (shown its k ++ one.behind)) r.now ∙ ap (λ (m : List (Tag × Pointer)). one.front ++ (m ++ one.behind)) shown-is

  stored : Renames tagged wants_tagged stamp name (tagged_in shape old) (tagged_in shape new)
  stored =
      subst (λ (list : List (Tag × Pointer)). Renames tagged wants_tagged stamp name list (tagged_in shape new)) (sym list-was)
      (subst (λ (list : List (Tag × Pointer)). Renames tagged wants_tagged stamp name (one.front ++ (its, was) ∷ one.behind) list) (sym list-is)
      (renames_at tagged wants_tagged stamp name one.front one.behind (its, was) (its, is) same refl refl (λ page w. (w.0, w.1 ∙ same))
      (subst (λ (list : List (Tag × Pointer)). times tagged stamp list ≤ 1) list-was few)))

pub stored_renames : StoredRenames
stored_renames shape old new tag stamp name few r = stored shape old new tag stamp name few r

named-hit : (stamp name : ℕ) (p : Pointer) → p.stamp ≡ stamp → (renamed_pointer stamp name p).name ≡ name
named-hit stamp name p e = cond-true (p.stamp == stamp) name p.name (eq-eqb p.stamp stamp e)

named-miss : (stamp name : ℕ) (p : Pointer) → p.stamp ≢ stamp → renamed_pointer stamp name p ≡ p
named-miss stamp name p far = λ i. record { name = cond-false (p.stamp == stamp) name p.name (ne_eqb p.stamp stamp far) i; stamp = p.stamp }

pub flight_renames : FlightRenames
flight_renames stamp name flight =
    subst (λ (list : List (Tag × Pointer)). Renames tagged wants_tagged stamp name (carried flight) list) (sym (carried-renames stamp name flight))
    (renames_map tagged wants_tagged stamp name (λ (h : Tag × Pointer). (h.0, renamed_pointer stamp name h.1)) (carried flight)
    (λ h e. (named-hit stamp name h.1 e, e, λ page w. w)) (λ h far. λ i. (h.0, named-miss stamp name h.1 far i)))

pub freeing_renames : FreeingRenames
freeing_renames stamp name list = (
  renames_map plain wants stamp name (renamed_pointer stamp name) list (λ p e. (named-hit stamp name p e, e, λ page w. w)) (λ p far. named-miss stamp name p far),
  behind_map plain (renamed_pointer stamp name) list (λ p. refl),
)
