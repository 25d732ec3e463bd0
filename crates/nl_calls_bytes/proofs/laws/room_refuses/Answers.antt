use Rattle.nl_calls_bytes.proofs.laws.room_refuses.Goals as goal
use Rattle.nl_calls_bytes.proofs.Refused.{writes-refused}

pub returns : goal.returns
returns c = λ shape pages page_of_stamp tree spaces n rec call runs room pool count is is_file good writing some reached.
    writes-refused shape pages page_of_stamp tree runs room spaces pool count n rec is is_file good call writing some reached
