use Rattle.std.proofs.Common.{◌≡◌, ◌-◌, length, sym, ap, ◌∙◌}
use Rattle.session_store.specs.Drafts.{Draft}
use Rattle.bean_queue.specs.declared.group.Group.{Group}
use Rattle.bean_queue.specs.Groups.{count_in}
use Rattle.bean_queue.specs.Queue.{QueueState, state_of}
use Rattle.bean_queue.specs.Tubes.{all_tubes}
use Rattle.bean_queue.specs.Reports.{queue_figures}
use Rattle.bean_queue.proofs.logic.Logic.queue_figures.Goals as goal

pub returns : goal.returns
returns g c =
    let s = state_of c.self.inside.counters c.self.inside.jobs.now c.self.inside.sessions.now c.self.inside.pauses.now.pauses c.self.inside.tubes.now in
    let tubes : c.args.tubes ≡ length (all_tubes s) = c.requires ∙ sym (ap (λ (d : Draft QueueState). length (all_tubes d.now)) c.self.view_is) in
    let sessions : c.len.result ≡ length s.sessions = c.len.ensures.len ∙ ap length c.map-sessions.ensures.sessions in
    let producers : c.count.result ≡ count_in Group.Producers s.sessions = c.count.ensures ∙ ap (count_in Group.Producers) c.map-sessions.ensures.sessions in
    let workers : c.count-2.result ≡ count_in Group.Workers s.sessions = c.count-2.ensures ∙ ap (count_in Group.Workers) c.map-sessions.ensures.sessions in
    let waiting : c.count-3.result ≡ count_in Group.Waiting s.sessions = c.count-3.ensures ∙ ap (count_in Group.Waiting) c.map-sessions.ensures.sessions in
    let puts : c.saturating_sub.result ≡ s.next_id - 1 = c.saturating_sub.ensures in
    let figures : (record {
      timeouts = s.counts.timeouts;
      puts = c.saturating_sub.result;
      tubes = c.args.tubes;
      sessions = c.len.result;
      producers = c.count.result;
      workers = c.count-2.result;
      waiting = c.count-3.result;
      second = s.now;
    }) ≡ queue_figures s = λ i. record {
      timeouts = s.counts.timeouts;
      puts = puts i;
      tubes = tubes i;
      sessions = sessions i;
      producers = producers i;
      workers = workers i;
      waiting = waiting i;
      second = s.now;
    } in
    figures ∙ ap (λ (d : Draft QueueState). queue_figures d.now) c.self.view_is
