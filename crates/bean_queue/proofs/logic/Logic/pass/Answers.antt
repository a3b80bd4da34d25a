use Rattle.std.proofs.Common.{◌↔◌, ℕ, List, sym, subst}
use Rattle.object.specs.Lists.{In}
use Rattle.session_store.specs.Drafts.{Draft}
use Rattle.pause_store.specs.Pauses.{tubes_over}
use Rattle.bean_queue.specs.Queue.{QueueState}
use Rattle.bean_queue.specs.Woken.{Covers}
use Rattle.bean_queue.proofs.calm.Woken.{covers-second}
use Rattle.bean_queue.proofs.tubes.Settled.{only-over}
use Rattle.bean_queue.proofs.logic.Logic.pass.Goals as goal

pub serve-requires : goal.serve-requires
serve-requires g c =
    subst (λ tubes. Covers tubes c.at_second.new.self.now) (sym c.as_slice.ensures.keys)
    (covers-second c.in_ok-woken.woken.keys c.args.second c.args.self.now.now c.at_second.new.self.now c.requires.calm
    c.in_ok-woken.ensures.second.now c.in_ok-woken.ensures.second.woken c.in_ok-woken.ensures.over)

pub returns-clause-over : goal.returns-clause-over
returns-clause-over g c =
    subst (λ (d : Draft QueueState). (tube : List ℕ) → In tube c.add_over.new.tubes.keys ↔ In tube (tubes_over c.args.second d.now.pauses)) c.self.view_is
    (only-over c.new-over.result.keys c.add_over.new.tubes.keys _ c.new-over.ensures.empty c.add_over.ensures.no_others c.in_ok-add_over.ensures.over)
