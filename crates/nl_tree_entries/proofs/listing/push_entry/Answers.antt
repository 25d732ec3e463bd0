use Rattle.std.proofs.Common.{arith, length, ap, refl, [], ◌∷◌}
use Rattle.std.proofs.lemmas.List.{length-append}
use Rattle.nl_tree_entries.proofs.ListingProofs.{entry_text, entry_length}
use Rattle.nl_tree_entries.proofs.listing.push_entry.Goals as goal

pub push-requires : goal.push-requires
push-requires c = omega (arith, entry_length c.args.entry.now _ _ refl refl)

pub extend-requires : goal.extend-requires
extend-requires c = omega (arith, entry_length c.args.entry.now _ _ c.last_name_of.ensures refl, ap length c.push.ensures, length-append c.args.out.now (32 ∷ []))

pub extend-requires-2 : goal.extend-requires-2
extend-requires-2 c =
    omega (
      arith,
      entry_length c.args.entry.now _ _ c.last_name_of.ensures c.mark_of.ensures,
      ap length c.push.ensures,
      length-append c.args.out.now (32 ∷ []),
      ap length c.extend.ensures,
      length-append c.push.new.self c.last_name_of.result.now,
    )

pub returns : goal.returns
returns c = entry_text c.args.entry.now c.args.out.now _ _ _ _ _ c.push.ensures c.extend.ensures c.extend-2.ensures c.last_name_of.ensures c.mark_of.ensures
