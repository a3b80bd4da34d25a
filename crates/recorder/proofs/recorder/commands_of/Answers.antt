use Rattle.std.proofs.Common.{◌≡◌, ◌<◌, ◌+◌, ◌++◌, ◌∷◌, [], ℕ, List, length, take, get_or, add-one, arith, Option}
use Rattle.std.proofs.Math.Seq.{take-suc}
use Rattle.std.proofs.lemmas.Grind.{common_steps}
use Rattle.std.proofs.lemmas.List.Elements.{filter_map-append}
use Rattle.std.specs.List.{filter_map}
use Rattle.recorder.specs.Records.{command_under}
use Rattle.recorder.proofs.recorder.commands_of.Goals as goal
use Rattle.recorder.proofs.recorder.commands_of.Goals.{in-Some+in_ok-copy+in_ok-push, in_default}

-- one item more brings what is given of it
one_more : {X Y : Type 0} (h : X → Option Y) (xs : List X) (i : ℕ) (d : X) → i < length xs
    → filter_map h (take (i + 1) xs) ≡ filter_map h (take i xs) ++ filter_map h (get_or xs i d ∷ [])
one_more h xs i d below = rw (add-one, take-suc xs i d below, filter_map-append)

pub loop-key-preserved : goal.loop-key-preserved
loop-key-preserved g c =
    let more = one_more (command_under c.args.submitted.now) c.args.keys.now c.loop-key.key-index (record { session = 0; number = 0 }) c.loop-key-test.true in
    elim c.match-get.branch [
      | in-Some+in_ok-copy+in_ok-push w ↦ grind (arith, common_steps, more, c.get.ensures, w.in-Some.is)
      | in_default w ↦ grind (arith, common_steps, more, c.get.ensures)
    ]
