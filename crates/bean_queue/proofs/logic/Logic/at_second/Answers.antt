use Rattle.std.proofs.Common.{ℕ, List, subst, rules}
use Rattle.object.specs.Lists.{In}
use Rattle.session_store.specs.Drafts.{Draft}
use Rattle.pause_store.specs.Pauses.{tubes_over}
use Rattle.bean_queue.specs.Queue.{QueueState}
use Rattle.bean_queue.specs.Woken.{AreWoken}
use Rattle.bean_queue.proofs.calm.Woken.{woken-more}
use Rattle.bean_queue.proofs.logic.Logic.at_second.Goals as goal

pub returns-clause-second : goal.returns-clause-second
returns-clause-second g c = record {
  now = search rules;
  woken =
      subst (λ (d : Draft QueueState). AreWoken c.add_over.new.tubes.keys d.now.jobs c.make_due_ready.new.jobs.now) c.self.view_is
      (woken-more c.in_ok-woken.woken.keys c.add_over.new.tubes.keys _ _ c.add_over.ensures.grown c.in_ok-woken.ensures.ready.woken);
  before = search rules;
}

pub returns-clause-over : goal.returns-clause-over
returns-clause-over g c =
    subst (λ (d : Draft QueueState). (tube : List ℕ) → In tube (tubes_over c.args.second d.now.pauses)
    → In tube c.add_over.new.tubes.keys) c.self.view_is c.in_ok-add_over.ensures.over
