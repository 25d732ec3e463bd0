use Rattle.std.proofs.Common.{◌≡◌, length, ◌+◌, ◌≤◌, ◌∷◌, [], ◌++◌, List, None, replicate, refl, ◌∙◌, ap, arith, rules}
use Rattle.std.proofs.lemmas.List.{length-replicate}
use Rattle.std.specs.Option.{option_map}
use Rattle.nl_field.specs.Page.{erased}
use Rattle.nl_nand.specs.Plan.{next_operation}
use Rattle.nl_nand.specs.Memory.{plan_of, room_of, cut_short}
use Rattle.nl_nand.specs.Room.{room_in}
use Rattle.nl_nand.specs.declared.record.Attempt.TheVariants as attempt
use Rattle.nl_nand.specs.declared.record.Entry.{Entry}
use Rattle.nl_nand.specs.declared.record.Entry.TheVariants as entry
use Rattle.nl_nand.specs.declared.cell.Cell.TheVariants as cell
use Rattle.nl_nand.specs.ImageLaws.{nothing_cut, filled_cut}
use Rattle.nl_nand.proofs.Notes.{noted_stop, noted_fail, noted_erase, erased_filled}
use Rattle.nl_nand.proofs.Operations.{cells_size, next_history, none_from, plan_stops, plan_goes, fails_stop, fails_listed, finishes, operated_failed, operated_done}
use Rattle.nl_nand.proofs.mem_nand.MemNand.run_erase.Goals as goal

pub exchange-requires : goal.exchange-requires
exchange-requires c =
    let m = c.args.self.now in
    let size : length c.in-Ok.cells.items ≡ m.log.pages = ap length c.in-Ok.ensures.row ∙ length-replicate m.log.pages cell.Erased in
    omega (arith, size, m.same_pages, cells_size m, c.requires)

pub invariant_of-self-in-Stops-clause-history : goal.invariant_of-self-in-Stops-clause-history
invariant_of-self-in-Stops-clause-history c =
    let m = c.args.self.now in
    let none : m.stopped ≡ None = none_from m.stopped (search rules) in
    next_history (noted_stop m none c.row.new.self.entries.items (attempt.Erase c.args.low c.args.self.now.geometry.pages) c.in-Ok.ensures.entries) (nothing_cut _) refl m.history

pub invariant_of-self-in-Fails-clause-history : goal.invariant_of-self-in-Fails-clause-history
invariant_of-self-in-Fails-clause-history c =
    let m = c.args.self.now in
    let none : m.stopped ≡ None = none_from m.stopped (search rules) in
    let tried = attempt.Erase c.args.low c.args.self.now.geometry.pages in
    next_history (noted_fail m none c.push.new.self.entries.items tried (c.push.ensures.entries ∙ ap (λ (l : List Entry). l ++ entry.Failed tried m.clock ∷ []) c.in-Ok.ensures.entries)) (nothing_cut _) refl m.history

pub invariant_of-self-in-Finishes-clause-history : goal.invariant_of-self-in-Finishes-clause-history
invariant_of-self-in-Finishes-clause-history c =
    let m = c.args.self.now in
    let none : m.stopped ≡ None = none_from m.stopped (search rules) in
    let within : c.args.low + m.geometry.pages ≤ length m.cells.items = omega (arith, cells_size m, c.requires) in
    let blank : c.in-Ok.cells.items ≡ replicate m.geometry.pages cell.Erased = c.in-Ok.ensures.row ∙ ap (λ n. replicate n cell.Erased) m.same_pages in
    let later : m.clock ≤ c.saturating_add-self-in-Finishes.result = omega (arith, c.saturating_add-self-in-Finishes.ensures) in
    next_history (noted_erase m none c.push-in-Finishes.new.self.entries.items c.args.low m.geometry.pages c.saturating_add-self-in-Finishes.result c.in-Ok.cells.items c.exchange.new.cells.items c.exchange.new.row
    (c.push-in-Finishes.ensures.entries ∙ ap (λ (l : List Entry). l ++ entry.Erased c.args.low c.exchange.new.row m.clock ∷ []) c.in-Ok.ensures.entries) within blank c.exchange.ensures.row later c.exchange.ensures.cells)
    (filled_cut (erased_filled m none c.args.low m.geometry.pages c.in-Ok.cells.items c.exchange.new.cells.items within blank c.exchange.ensures.cells)) refl m.history

pub returns-in-Stops : goal.returns-in-Stops
returns-in-Stops c =
    let m = c.args.self.now in
    let none : m.stopped ≡ None = none_from m.stopped (search rules) in
    let tried = attempt.Erase c.args.low c.args.self.now.geometry.pages in
    let number : c.saturating_add-self-2.result ≡ next_operation (plan_of m) = c.saturating_add-self-2.ensures in
    let room : room_of m ≤ room_in c.row.new.self + 1 = omega (arith, c.in-Ok.ensures.len, c.in-Ok.ensures.capacity, c.in-Ok.ensures.blanks, c.in-Ok.ensures.rows) in
    let rises : m.write_faults ≤ c.saturating_add-self-in-Stops.result = omega (arith, c.saturating_add-self-in-Stops.ensures) in
    operated_failed (noted_stop m none c.row.new.self.entries.items tried c.in-Ok.ensures.entries) refl refl refl refl rises c.saturating_add-self-in-Stops.ensures
    (ap (option_map cut_short) none) (plan_stops (plan_of m) _ c.in-Stops.cut _ _ _ number c.in-Stops.ensures)
    (fails_stop (plan_of m) _ c.in-Stops.cut number c.in-Stops.ensures) room erased refl

pub returns-in-Fails : goal.returns-in-Fails
returns-in-Fails c =
    let m = c.args.self.now in
    let none : m.stopped ≡ None = none_from m.stopped (search rules) in
    let tried = attempt.Erase c.args.low c.args.self.now.geometry.pages in
    let number : c.saturating_add-self-2.result ≡ next_operation (plan_of m) = c.saturating_add-self-2.ensures in
    let none_plan : (plan_of m).stopped ≡ None = ap (option_map cut_short) none in
    let room : room_of m ≤ room_in c.push.new.self + 1 = omega (arith, c.in-Ok.ensures.len, c.in-Ok.ensures.capacity, c.in-Ok.ensures.blanks, c.in-Ok.ensures.rows, c.push.ensures.len, c.push.ensures.capacity, c.push.ensures.blanks, c.push.ensures.rows) in
    let rises : m.write_faults ≤ c.saturating_add-self-in-Fails.result = omega (arith, c.saturating_add-self-in-Fails.ensures) in
    operated_failed (noted_fail m none c.push.new.self.entries.items tried (c.push.ensures.entries ∙ ap (λ (l : List Entry). l ++ entry.Failed tried m.clock ∷ []) c.in-Ok.ensures.entries)) refl refl refl refl rises c.saturating_add-self-in-Fails.ensures
    none_plan (plan_goes (plan_of m) _ _ _ _ number c.in-Fails.ensures.0 none_plan)
    (fails_listed (plan_of m) _ number c.in-Fails.ensures.1) room erased refl

pub returns-in-Finishes : goal.returns-in-Finishes
returns-in-Finishes c =
    let m = c.args.self.now in
    let none : m.stopped ≡ None = none_from m.stopped (search rules) in
    let within : c.args.low + m.geometry.pages ≤ length m.cells.items = omega (arith, cells_size m, c.requires) in
    let blank : c.in-Ok.cells.items ≡ replicate m.geometry.pages cell.Erased = c.in-Ok.ensures.row ∙ ap (λ n. replicate n cell.Erased) m.same_pages in
    let later : m.clock ≤ c.saturating_add-self-in-Finishes.result = omega (arith, c.saturating_add-self-in-Finishes.ensures) in
    let number : c.saturating_add-self-2.result ≡ next_operation (plan_of m) = c.saturating_add-self-2.ensures in
    let none_plan : (plan_of m).stopped ≡ None = ap (option_map cut_short) none in
    let room : room_of m ≤ room_in c.push-in-Finishes.new.self + 1 = omega (arith, c.in-Ok.ensures.len, c.in-Ok.ensures.capacity, c.in-Ok.ensures.blanks, c.in-Ok.ensures.rows, c.push-in-Finishes.ensures.len, c.push-in-Finishes.ensures.capacity, c.push-in-Finishes.ensures.blanks, c.push-in-Finishes.ensures.rows) in
    operated_done (noted_erase m none c.push-in-Finishes.new.self.entries.items c.args.low m.geometry.pages c.saturating_add-self-in-Finishes.result c.in-Ok.cells.items c.exchange.new.cells.items c.exchange.new.row
    (c.push-in-Finishes.ensures.entries ∙ ap (λ (l : List Entry). l ++ entry.Erased c.args.low c.exchange.new.row m.clock ∷ []) c.in-Ok.ensures.entries) within blank c.exchange.ensures.row later c.exchange.ensures.cells)
    (erased_filled m none c.args.low m.geometry.pages c.in-Ok.cells.items c.exchange.new.cells.items within blank c.exchange.ensures.cells) refl c.saturating_add-self-in-Finishes.ensures refl refl
    none_plan (plan_goes (plan_of m) _ _ _ _ number c.in-Finishes.ensures.0 none_plan)
    (finishes (plan_of m) _ number c.in-Finishes.ensures.0 c.in-Finishes.ensures.1) room erased refl
