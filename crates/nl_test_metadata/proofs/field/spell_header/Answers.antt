use Rattle.std.proofs.Common.{refl}
use Rattle.nl_field.specs.Journal.{are_home_addresses}
use Rattle.nl_test_metadata.proofs.field.spell_header.Goals as goal

pub into_page-requires-clause-spelled : goal.into_page-requires-clause-spelled
unfolding are_home_addresses
into_page-requires-clause-spelled c = rw (c.push-2.ensures, c.push.ensures, c.new-addresses.ensures) refl
