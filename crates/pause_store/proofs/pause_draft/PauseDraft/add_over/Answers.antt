use Rattle.std.proofs.Common.{ℕ, List, ◌⊎◌, OnOk, subst}
use Rattle.object.specs.Lists.{In}
use Rattle.session_store.specs.Drafts.{Draft}
use Rattle.pause_store.specs.Pauses.{PauseState, tubes_over}
use Rattle.pause_store.proofs.pause_draft.PauseDraft.add_over.Goals as goal

pub returns-clause-over : goal.returns-clause-over
returns-clause-over c =
    subst (λ (d : Draft PauseState). OnOk c.add_tubes_over.result
    ((tube : List ℕ) → In tube (tubes_over c.args.second d.now.pauses) → In tube c.add_tubes_over.new.tubes.keys))
    c.self.view_is c.add_tubes_over.ensures.all

pub returns-clause-no_others : goal.returns-clause-no_others
returns-clause-no_others c =
    subst (λ (d : Draft PauseState). (tube : List ℕ) → In tube c.add_tubes_over.new.tubes.keys
    → In tube c.args.tubes.now.keys ⊎ In tube (tubes_over c.args.second d.now.pauses)) c.self.view_is
    c.add_tubes_over.ensures.only
