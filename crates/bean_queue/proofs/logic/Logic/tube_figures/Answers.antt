use Rattle.std.proofs.Common.{◌≡◌, ◌-◌, if◌then◌else◌, sym, ap, ◌∙◌}
use Rattle.job_store.specs.Tallies.{tally_in}
use Rattle.session_store.specs.Drafts.{Draft}
use Rattle.pause_store.specs.Pauses.{is_paused, pause_end}
use Rattle.tube_store.specs.declared.tube_counts.TubeCounts.{TubeCounts}
use Rattle.tube_store.specs.TubeCounts.{counts_at}
use Rattle.bean_queue.specs.declared.group.Group.{Group}
use Rattle.bean_queue.specs.Groups.{count_in}
use Rattle.bean_queue.specs.Queue.{QueueState, state_of}
use Rattle.bean_queue.specs.Reports.{tube_figures}
use Rattle.bean_queue.proofs.logic.Logic.tube_figures.Goals as goal

pub returns : goal.returns
returns g c =
    let tube = c.args.tube.now in
    let s = state_of c.self.inside.counters c.self.inside.jobs.now c.self.inside.sessions.now c.self.inside.pauses.now.pauses c.self.inside.tubes.now in
    let counts : c.counts-counts.result ≡ counts_at tube s.tubes = c.counts-counts.ensures in
    let tally : c.tally_in.result ≡ tally_in tube s.jobs = c.tally_in.ensures ∙ ap (tally_in tube) c.map.ensures.jobs in
    let using_it : c.count.result ≡ count_in (Group.Using c.args.tube) s.sessions =
    c.count.ensures ∙ ap (count_in (Group.Using c.args.tube)) c.map-sessions.ensures.sessions in
    let watching : c.count-2.result ≡ count_in (Group.Watching c.args.tube) s.sessions =
    c.count-2.ensures ∙ ap (count_in (Group.Watching c.args.tube)) c.map-sessions.ensures.sessions in
    let waiting : c.count-3.result ≡ count_in (Group.WaitingFor c.args.tube) s.sessions =
    c.count-3.ensures ∙ ap (count_in (Group.WaitingFor c.args.tube)) c.map-sessions.ensures.sessions in
    let pause : c.pause_of.result ≡ (if is_paused tube s.pauses then (counts_at tube s.tubes).pause else 0) =
    c.pause_of.ensures ∙
    sym (ap (λ (d : Draft QueueState). if is_paused c.args.tube.now d.now.pauses then (counts_at c.args.tube.now d.now.tubes).pause else 0) c.self.view_is) in
    let left : c.saturating_sub.result ≡ pause_end tube s.pauses - s.now = c.saturating_sub.ensures ∙ ap (λ n. n - s.now) c.end.ensures in
    let figures : (record {
      tally = c.tally_in.result;
      puts = c.counts-counts.result.puts;
      using = c.count.result;
      watching = c.count-2.result;
      waiting = c.count-3.result;
      deletes = c.counts-counts.result.deletes;
      pauses = c.counts-counts.result.pauses;
      pause = c.pause_of.result;
      pause_left = c.saturating_sub.result;
    }) ≡ tube_figures s tube = λ i. record {
      tally = tally i;
      puts = let n : TubeCounts = counts i in n.puts;
      using = using_it i;
      watching = watching i;
      waiting = waiting i;
      deletes = let n : TubeCounts = counts i in n.deletes;
      pauses = let n : TubeCounts = counts i in n.pauses;
      pause = pause i;
      pause_left = left i;
    } in
    figures ∙ ap (λ (d : Draft QueueState). tube_figures d.now c.args.tube.now) c.self.view_is
