use Rattle.std.proofs.Common.{◌≡◌, length, take}
use Rattle.bean_codec.specs.Replies.{tubes_data}
use Rattle.bean_codec.proofs.tube_list.size_of_data.Given as goal

abbrev pub invariant-loop-name : goal.invariant-loop-name
invariant-loop-name l = l.size ≡ length (tubes_data (take l.name-index l.names))
