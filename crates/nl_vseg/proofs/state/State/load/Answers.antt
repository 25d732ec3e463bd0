use Rattle.std.proofs.Common.{◌≡◌, ◌/◌, ◌<◌, false, Some, length, set, refl, sym, ◌∙◌, ap, subst, length-set}
use Rattle.std.proofs.lemmas.Bool.{true≢false}
use Rattle.std.proofs.lemmas.Nat.{div_below}
use Rattle.nl_blocks.specs.declared.states.BlockState.TheVariants.{Sealed}
use Rattle.nl_blocks.specs.Table.{BlockRow, Table, block_at, in_state}
use Rattle.nl_vseg.specs.Layout.{Layout, IsLayout, block_is_free}
use Rattle.nl_vseg.specs.Seen.{seen}
use Rattle.nl_vseg.specs.Copying.{SetsFree}
use Rattle.nl_vseg.specs.Used.{IsClosed, used_of}
use Rattle.nl_vseg.specs.declared.place.Place.{Place}
use Rattle.nl_vseg.proofs.Blocks.{restated, sealed_wear}
use Rattle.nl_vseg.proofs.Segments.{taken_still, taken_without, loaded}
use Rattle.nl_vseg.proofs.Using.{closed_beside, closed_fewer, closed_idle, closed_in, closed_is, closed_used, closed_with}
use Rattle.nl_vseg.proofs.Views.{blank_taken, taken_blank, wear_at}
use Rattle.nl_vseg.proofs.state.State.load.Goals as goal

pub returns-clause-formed : goal.returns-clause-formed
returns-clause-formed c =
    let seg = seen c.args.self.now in
    let is = c.requires.formed.segment in
    let block = c.args.page / c.pages.result in
    let same_block : block ≡ c.args.page / seg.table.size = ap (λ n. c.args.page / n) c.pages.ensures in
    let within : block < length seg.table.blocks = subst (λ b. b < length seg.table.blocks) (sym same_block) (div_below c.args.page seg.table.size (length seg.table.blocks) is.some c.requires.page) in
    let row : BlockRow = in_state (block_at seg.table block) Sealed in
    let restated_is : SetsFree block false seg.table c.seal.new.self = subst (SetsFree block false seg.table) (sym c.seal.ensures) (restated seg.table block row is.first within) in
    let step : IsClosed block seg.table c.seal.new.self = subst (IsClosed block seg.table) (sym c.seal.ensures) (closed_with seg.table block row is.first within refl) in
    let used_is = closed_used seg block c.seal.new.self step restated_is.numbers.same_size is.active_is refl in
    let place : Place = record { page = c.args.page; stamp = c.args.stamp } in
    record {
      segment = subst (λ n. IsLayout (record seg { places = set seg.places c.args.vaddr (Some place); table = c.seal.new.self; used = n })) (sym used_is)
          (loaded (closed_in seg block) c.seal.new.self block c.args.vaddr place (closed_is seg block is) restated_is (sym same_block) c.requires.page c.requires.stamp c.requires.vaddr (closed_idle seg block));
      rising = step.rising c.requires.formed.rising;
      copies = c.requires.formed.copies ∙ sym (length-set seg.places c.args.vaddr (Some place));
      targets = c.requires.formed.targets ∙ sym restated_is.numbers.same_size;
    }

pub returns-clause-erased : goal.returns-clause-erased
returns-clause-erased c p shown_is =
    let seg = seen c.args.self.now in
    let is = c.requires.formed.segment in
    let block = c.args.page / c.pages.result in
    let same_block : block ≡ c.args.page / seg.table.size = ap (λ n. c.args.page / n) c.pages.ensures in
    let within : block < length seg.table.blocks = subst (λ b. b < length seg.table.blocks) (sym same_block) (div_below c.args.page seg.table.size (length seg.table.blocks) is.some c.requires.page) in
    let row : BlockRow = in_state (block_at seg.table block) Sealed in
    let restated_is : SetsFree block false seg.table c.seal.new.self = subst (SetsFree block false seg.table) (sym c.seal.ensures) (restated seg.table block row is.first within) in
    let step : IsClosed block seg.table c.seal.new.self = subst (IsClosed block seg.table) (sym c.seal.ensures) (closed_with seg.table block row is.first within refl) in
    let used_is = closed_used seg block c.seal.new.self step restated_is.numbers.same_size is.active_is refl in
    let new : Layout = record { places = set seg.places c.args.vaddr (Some (record { page = c.args.page; stamp = c.args.stamp })); table = c.seal.new.self; soiled = seg.soiled; active = seg.active; used = used_of c.seal.new.self seg.active } in
    let out = taken_without (closed_in seg block) new block restated_is.numbers refl used_is
    (λ b free clean. let ne : b ≡ block → ⊥ = (λ at. true≢false (sym free ∙ (ap (block_is_free c.seal.new.self) at ∙ restated_is.here))) in (ne, sym (restated_is.others b ne) ∙ free, clean))
    (closed_idle seg block) p (blank_taken new p shown_is) in
    (taken_blank seg p (closed_fewer seg block p out.0), λ at. out.1 (at ∙ sym same_block))

pub returns-clause-still : goal.returns-clause-still
returns-clause-still c p shown_is ne =
    let seg = seen c.args.self.now in
    let is = c.requires.formed.segment in
    let block = c.args.page / c.pages.result in
    let same_block : block ≡ c.args.page / seg.table.size = ap (λ n. c.args.page / n) c.pages.ensures in
    let within : block < length seg.table.blocks = subst (λ b. b < length seg.table.blocks) (sym same_block) (div_below c.args.page seg.table.size (length seg.table.blocks) is.some c.requires.page) in
    let row : BlockRow = in_state (block_at seg.table block) Sealed in
    let restated_is : SetsFree block false seg.table c.seal.new.self = subst (SetsFree block false seg.table) (sym c.seal.ensures) (restated seg.table block row is.first within) in
    let step : IsClosed block seg.table c.seal.new.self = subst (IsClosed block seg.table) (sym c.seal.ensures) (closed_with seg.table block row is.first within refl) in
    let used_is = closed_used seg block c.seal.new.self step restated_is.numbers.same_size is.active_is refl in
    let new : Layout = record { places = set seg.places c.args.vaddr (Some (record { page = c.args.page; stamp = c.args.stamp })); table = c.seal.new.self; soiled = seg.soiled; active = seg.active; used = used_of c.seal.new.self seg.active } in
    let apart : p / seg.table.size ≡ block → ⊥ = λ at. ne (at ∙ same_block) in
    taken_blank new p (taken_still (closed_in seg block) new block restated_is.numbers refl (λ _. used_is) (λ b other free clean. (restated_is.others b other ∙ free, clean)) p
    (closed_beside seg block p (blank_taken seg p shown_is) apart) apart)

pub returns-clause-wear : goal.returns-clause-wear
returns-clause-wear c other =
    let seg = seen c.args.self.now in
    let is = c.requires.formed.segment in
    let block = c.args.page / c.pages.result in
    let same_block : block ≡ c.args.page / seg.table.size = ap (λ n. c.args.page / n) c.pages.ensures in
    let within : block < length seg.table.blocks = subst (λ b. b < length seg.table.blocks) (sym same_block) (div_below c.args.page seg.table.size (length seg.table.blocks) is.some c.requires.page) in
    let first = ap (λ (t : Table). t.first) c.seal.ensures ∙ is.first in
    wear_at c.seal.new.self other first ∙ (ap (λ (t : Table). (block_at t other).wear) c.seal.ensures ∙ (sealed_wear seg.table block other is.first within ∙ sym (wear_at seg.table other is.first)))
