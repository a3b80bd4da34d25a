use Rattle.std.proofs.Common.{◌≡◌, ◌++◌, [], ap, sym, subst, ◌∙◌, append-nil}
use Rattle.log_file.specs.Logs.{HoldsLog}
use Rattle.journal.specs.Waiting.{HoldsAll, JournalState}
use Rattle.journal.proofs.journal.Journal.write.Goals as goal

pub returns-clause-log : goal.returns-clause-log
returns-clause-log g c = λ members commands holds.
    let all = subst (λ (j : JournalState _). HoldsAll g.W.Write.contents j members commands) (sym c.self.view_is)
    (c.note_all.ensures.log members commands holds) in
    let none = subst (λ (j : JournalState _). j.waiting ≡ []) (sym c.self.view_is) c.in_ok-note_all.ensures.noted in
    let is = sym (append-nil all.noted) ∙ ap (λ ws. all.noted ++ ws) (sym none) ∙ all.rest in
    (subst (HoldsLog (g.W.Write.contents c.write.new.self.writer) [] c.write.new.self.chain members) is (c.in_ok-write.ensures.log members all.noted all.log), all.counted)
