use Rattle.std.proofs.Common.{◌∙◌, sym, ap, rules}
use Rattle.job_store.specs.Entries.{value_at}
use Rattle.session_store.specs.Drafts.{Draft}
use Rattle.bean_queue.specs.Queue.{QueueState, state_of}
use Rattle.bean_queue.specs.Rows.{touch_row}
use Rattle.bean_queue.proofs.due.Touched.{touched}
use Rattle.bean_queue.proofs.logic.Logic.touch.Goals as goal

pub returns-in_ok-set_state-in-Some : goal.returns-in_ok-set_state-in-Some
unfolding touch_row
returns-in_ok-set_state-in-Some g c = record {
  state =
      let s = state_of c.self.inside.counters c.self.inside.jobs.now c.self.inside.sessions.now c.self.inside.pauses.now.pauses c.self.inside.tubes.now in
      touched s c.args.session c.args.id _ c.in-Some.job.now _ c.map.ensures.rising
      (ap (value_at c.args.id) (sym c.map.ensures.jobs) ∙ sym c.in-Some.ensures)
      (search rules)
      (search rules) ∙
      ap (λ (d : Draft QueueState). (touch_row d.now c.args.session c.args.id).state) c.self.view_is;
  reply = search rules;
  before = search rules;
}
