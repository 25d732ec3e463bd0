-- Where nothing fails the numbers of a comparison are printed.
use Rattle.std.proofs.Common.{inl, inr}
use Rattle.nl_cmd_words.specs.Complete.{DoneCompletes}
use Rattle.nl_cmd_compare.specs.Complete.{CompareCompletes}
use Rattle.nl_cmd_compare.specs.Ends.{compare_no_memory, compared}

pub compare_completes : (tells : Type 0) → DoneCompletes → CompareCompletes tells
compare_completes tells done lines source source' sink sink' medium medium' order syncs status (compare_no_memory six before) none = inr six
compare_completes tells done lines source source' sink sink' medium medium' order syncs status (compared numbers measures before is) none =
    inl (done source source' sink sink' medium medium' status _ is none)
