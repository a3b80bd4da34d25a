use Rattle.std.proofs.Common.{◌≡◌, ◌≤◌, ◌++◌, take, vec_capacity}
use Rattle.bean_codec.specs.Replies.{tubes_data}
use Rattle.bean_codec.proofs.tube_list.append_data.Given as goal

abbrev pub invariant-loop-name : goal.invariant-loop-name
invariant-loop-name l =
    (l.out.items ≡ l.fn.out.items ++ tubes_data (take l.name-index l.names)) × (vec_capacity l.fn.out ≤ vec_capacity l.out)
