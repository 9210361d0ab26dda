-- A file as the record of its calls. Only proofs cite these definitions.
use Rattle.std.specs.Prelude.{ℕ, ◌==◌, List, slice_index, if◌then◌else◌}
use Rattle.mq_file.specs.History.{FileCall, Wrote, Stumbled, Synced, Failed}

-- the call that two numbers and bytes describe
abbrev pub call_of : List ℕ → List ℕ → FileCall
call_of numbers bytes =
    if slice_index numbers 0 == 0 then Wrote (slice_index numbers 1) bytes
    else (if slice_index numbers 0 == 1 then Stumbled (slice_index numbers 1) bytes
    else (if slice_index numbers 0 == 2 then Synced else Failed))
