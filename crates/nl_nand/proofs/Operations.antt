-- What an operation of a medium in memory makes of it.
use Rattle.std.proofs.Common.{◌≡◌, inl, inr, ℕ, ◌+◌, ◌*◌, ◌≤◌, List, [], ◌∷◌, ◌++◌, Option, Some, None, IsSome, reverse, length, refl, sym, ◌∙◌, ap, subst, arith, IsTrue, is_some, true, false}
use Rattle.std.specs.Option.{option_map}
use Rattle.std.specs.List.{Contains}
use Rattle.std.proofs.lemmas.List.{reverse-append, length-map}
use Rattle.nl_field.specs.Page.{Page, Image, is_page}
use Rattle.nl_field.specs.CrashStates.{saturated}
use Rattle.nl_nand.specs.Nand.{Cut, Filled, CrashLeaves}
use Rattle.nl_nand.specs.Plan.{Plan, cut_at, next_operation, OperationFails, begun}
use Rattle.nl_nand.specs.Record.{logged, is_history}
use Rattle.nl_nand.specs.Memory.{contents_of, clock_of, memory_crash_states, log_of, plan_of, room_of, Operated}
use Rattle.nl_nand.specs.declared.record.Entry.{Entry}
use Rattle.nl_nand.specs.declared.interrupted.Interrupted.{Interrupted}
use Rattle.nl_nand.specs.declared.stop.Cut.{Cut as How}
use Rattle.nl_nand.specs.declared.answers.WriteAnswer.TheVariants as write
use Rattle.nl_nand.specs.declared.mem_nand.MemNand.{MemNand}
use Rattle.nl_nand.specs.ImageLaws.{image_size, nothing_cut}
use Rattle.nl_nand.specs.RecordLaws.{history_is, history_from, history_now}
use Rattle.nl_nand.proofs.Left.{Noted, noted_each, noted_keeps, noted_reached, noted_history}

-- as many cells as the geometry has
pub cells_size : (m : MemNand) → length m.cells.items ≡ m.geometry.blocks * m.geometry.pages
cells_size m = sym (length-map m.cells.items _) ∙ image_size (contents_of m) (history_now (log_of m) (contents_of m) m.clock (history_is (log_of m) (contents_of m) m.clock m.history))

pub next_history : {h next : List Entry} {old new : Image} {clock k low high : ℕ} {value : Page} → Noted h next old new clock k low high value → Cut low high value old new
    → IsTrue (is_page value) → IsTrue (is_history h old clock) → IsTrue (is_history next new k)
next_history {h} {next} {old} {new} {clock} {k} noted cut page history = history_from next new k (noted_history noted cut page (history_is h old clock history))

-- the record while no stop has come
pub logged_none : (stopped : Option Interrupted) (clock : ℕ) (entries : List Entry) → stopped ≡ None → logged stopped clock entries ≡ reverse entries
logged_none stopped clock entries none = ap (λ s. logged s clock entries) none

pub logged_push : (stopped : Option Interrupted) (clock k : ℕ) (olds news : List Entry) (e : Entry) → stopped ≡ None → news ≡ olds ++ e ∷ [] → logged stopped k news ≡ e ∷ logged stopped clock olds
logged_push stopped clock k olds news e none is =
    logged_none stopped k news none ∙ ap reverse is ∙ reverse-append olds (e ∷ []) ∙ ap (λ l. e ∷ l) (sym (logged_none stopped clock olds none))

-- an option that is not there
pub none_from : {X : Type 0} (o : Option X) → is_some o ≡ false → o ≡ None
none_from None not = refl
none_from (Some x) not = absurd (let bad : true ≡ false = not in cc)

pub some_is : {X : Type 0} {o : Option X} {x : X} → o ≡ Some x → IsSome o
some_is is = ap (λ p. is_some p) is

pub plan_stops : (p : Plan) (number : ℕ) (how : How) (low high : ℕ) (value : Page) → number ≡ next_operation p → cut_at p.stop number ≡ Some how
    → record p { operations = number; stopped = Some (record { low = low; high = high; value = value; how = how }) } ≡ begun low high value p
plan_stops p number how low high value is cut =
    let at : cut_at p.stop (next_operation p) ≡ Some how = ap (cut_at p.stop) (sym is) ∙ cut in
    λ i. record p { operations = is i; stopped = option_map (λ k. record { low = low; high = high; value = value; how = k }) (sym at i) }

pub plan_goes : (p : Plan) (number low high : ℕ) (value : Page) → number ≡ next_operation p → cut_at p.stop number ≡ None → p.stopped ≡ None → record p { operations = number } ≡ begun low high value p
plan_goes p number low high value is none running =
    let at : cut_at p.stop (next_operation p) ≡ None = ap (cut_at p.stop) (sym is) ∙ none in
    (λ i. record p { operations = is i; stopped = running i })
    ∙ (λ i. record p { operations = next_operation p; stopped = option_map (λ k. record { low = low; high = high; value = value; how = k }) (sym at i) })

-- a stop comes within it, or its number is in the list
pub fails_stop : (p : Plan) (number : ℕ) (how : How) → number ≡ next_operation p → cut_at p.stop number ≡ Some how → OperationFails p
fails_stop p number how is cut = inl (some_is (ap (cut_at p.stop) (sym is) ∙ cut))

pub fails_listed : (p : Plan) (number : ℕ) → number ≡ next_operation p → Contains p.writes number → OperationFails p
fails_listed p number is listed = inr (subst (Contains p.writes) is listed)

pub finishes : (p : Plan) (number : ℕ) → number ≡ next_operation p → cut_at p.stop number ≡ None → (Contains p.writes number → ⊥) → OperationFails p → ⊥
finishes p number is none unlisted (inl some) = absurd (none_not_some (ap (cut_at p.stop) (sym is) ∙ none) some)
  where
    none_not_some : {o : Option How} → o ≡ None → IsSome o → ⊥
    none_not_some e s = let bad : false ≡ true = sym (ap (λ p. is_some p) e) ∙ s in cc
finishes p number is none unlisted (inr listed) = unlisted (subst (Contains p.writes) (sym is) listed)

module _ {m n : MemNand} {low high : ℕ} {value : Page} (noted : Noted (log_of m) (log_of n) (contents_of m) (contents_of n) m.clock n.clock low high value) where
  crash : CrashLeaves clock_of contents_of memory_crash_states low high value m n
  crash = record { later = noted.later; each = noted_each noted; keeps = noted_keeps noted }

  -- the operation failed, and changed no page
  pub operated_failed : contents_of n ≡ contents_of m → n.geometry ≡ m.geometry → n.clock ≡ m.clock → n.read_faults ≡ m.read_faults
      → m.write_faults ≤ n.write_faults → n.write_faults ≡ saturated (m.write_faults + 1)
      → (plan_of m).stopped ≡ None → plan_of n ≡ begun low high value (plan_of m) → OperationFails (plan_of m) → room_of m ≤ room_of n + 1
      → (v : Page) → value ≡ v → Operated low high v m n write.Failed
  operated_failed contents geometry clock reads rises rose running plan fails room v is = subst (λ p. Operated low high p m n write.Failed) is (record {
    effect = subst (Cut low high value (contents_of m)) (sym contents) (nothing_cut (contents_of m));
    crash = crash;
    reached = λ _ c cut. noted_reached noted c cut;
    counted = record {
      same_geometry = geometry;
      same_read_faults = reads;
      ticks = clock;
      failures = record { never_falls = rises; cause = λ _. rose; stays = λ not. absurd (not refl) };
    };
    exact = inr (record {
      runs = running;
      plan = plan;
      fails = ((λ _. fails), (λ _. refl));
      changes_none = λ _. contents;
      reached = noted_reached noted;
      room = room;
    });
  })

  -- the operation finished
  pub operated_done : Filled low high value (contents_of m) (contents_of n) → n.geometry ≡ m.geometry → n.clock ≡ saturated (m.clock + 1) → n.read_faults ≡ m.read_faults → n.write_faults ≡ m.write_faults
      → (plan_of m).stopped ≡ None → plan_of n ≡ begun low high value (plan_of m) → (OperationFails (plan_of m) → ⊥) → room_of m ≤ room_of n + 1
      → (v : Page) → value ≡ v → Operated low high v m n write.Done
  operated_done filled geometry clock reads writes running plan fails room v is = subst (λ p. Operated low high p m n write.Done) is (record {
    effect = filled;
    crash = crash;
    reached = λ _ c cut. noted_reached noted c cut;
    counted = record {
      same_geometry = geometry;
      same_read_faults = reads;
      ticks = clock;
      failures = record { never_falls = omega (arith, writes); cause = λ e. absurd cc; stays = λ _. writes };
    };
    exact = inr (record {
      runs = running;
      plan = plan;
      fails = ((λ e. absurd cc), (λ f. absurd (fails f)));
      changes_none = λ e. absurd cc;
      reached = noted_reached noted;
      room = room;
    });
  })
