-- What waits goes into the log, one command after the other.
use Rattle.std.proofs.Common.{◌≡◌, ◌<◌, ◌+◌, ℕ, Option, List, [], ◌∷◌, ◌++◌, length, drop, sym, ap, ◌∙◌}
use Rattle.std.proofs.lemmas.List.{append_assoc, drop_more}
use lib.ListN.{get_or}
use Rattle.object.specs.declared.command.Command.{Command}
use Rattle.bean_words.specs.declared.op.Op.{Op}
use Rattle.log_file.specs.Logs.{HoldsLog}
use Rattle.log_file.specs.States.{LogState}
use Rattle.journal.specs.Waiting.{HoldsAll}

pub note_next : {W : Type 0} (contents : W → Option (List ℕ)) (log more : LogState W) (items : List (Command Op)) (n due written synced : ℕ) (x : Command Op)
    → n < length items → get_or items n x ≡ x
    → ((members : List ℕ) (commands : List (Command Op)) → HoldsLog (contents log.writer) log.batch log.chain members commands
    → HoldsLog (contents more.writer) more.batch more.chain members (commands ++ x ∷ []))
    → (members : List ℕ) (commands : List (Command Op))
    → HoldsAll contents (record { log = log; waiting = drop n items; due = due; written = written; synced = synced }) members commands
    → HoldsAll contents (record { log = more; waiting = drop (n + 1) items; due = due; written = written; synced = synced }) members commands
note_next contents log more items n due written synced x inside at notes members commands holds = record {
  noted = holds.noted ++ x ∷ [];
  log = notes members holds.noted holds.log;
  rest = append_assoc holds.noted (x ∷ []) (drop (n + 1) items)
      ∙ ap (λ y. holds.noted ++ (y ∷ drop (n + 1) items)) (sym at)
      ∙ ap (λ ys. holds.noted ++ ys) (sym (drop_more items n x inside))
      ∙ holds.rest;
  counted = holds.counted;
}
