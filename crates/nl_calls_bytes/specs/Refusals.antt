-- Whether a call writes too far.
use Rattle.std.specs.Prelude.{◌+◌, nat_lt, Bool, ◌&&◌}
use Rattle.nl_field.specs.Numbers.{max_file_size}
use Rattle.nl_tree.specs.declared.call.Call.{Call}
use Rattle.nl_calls_bytes.specs.Ranges.{from_of, len_of}

-- the call writes beyond the greatest size
abbrev pub is_too_far : Call → Bool
is_too_far call = nat_lt 0 (len_of call) && nat_lt max_file_size (from_of call + len_of call)
