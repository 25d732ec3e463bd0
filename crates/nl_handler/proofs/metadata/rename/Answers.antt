use Rattle.std.proofs.Common.{◌∙◌, refl, Some}
use Rattle.nl_handler.proofs.Stored.{begins-not, stores-done}
use Rattle.nl_handler.proofs.metadata.rename.Goals as goal

pub store-requires-clause-begins : goal.store-requires-clause-begins
store-requires-clause-begins c = ((λ none. absurd cc), λ b. absurd (begins-not c.args.meta.now c.args.tag.now c.args.rec.now (Some c.args.to) c.requires.at_hand b))

pub returns-clause-done : goal.returns-clause-done
returns-clause-done c yes_it_is = record {
  is = c.store-2.new.rec;
  stored = c.store-2.new.meta;
  stores = stores-done c.args.tag.now.index c.args.to c.args.rec.now c.store-2.new.rec c.args.meta.now c.store-2.new.meta c.store-2.result c.requires.spelled c.store-2.ensures;
  direct = λ none. absurd (c.if-address-eq0.false (c.page_address-address.ensures ∙ none));
  indirect = λ far. refl;
}
