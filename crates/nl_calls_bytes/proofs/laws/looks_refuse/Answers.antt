use Rattle.nl_calls_bytes.proofs.laws.looks_refuse.Goals as goal
use Rattle.nl_calls_files.proofs.FoundFiles.{looks-refuse}

pub returns : goal.returns
returns c = λ shape pages page_of_stamp tree path runs short. looks-refuse c.looks_in_tree.ensures shape pages page_of_stamp tree runs path short
