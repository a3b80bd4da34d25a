use Rattle.std.proofs.Common.{◌∙◌, refl, rules}
use Rattle.job_store.specs.declared.state.State.{State}
use Rattle.job_store.specs.States.{marked}
use Rattle.bean_queue.specs.Effects.{run_out}
use Rattle.bean_queue.proofs.kicks.ReadyAgain.{one_more, none_left, none_out}
use Rattle.bean_queue.proofs.kicks.Counted.{one_counted, as_many}
use Rattle.bean_queue.proofs.calm.Woken.{gathered, none-woken}
use Rattle.bean_queue.proofs.ready_again.Returning.make_ready.Goals as goal

pub again-init : goal.again-init
again-init g c = record { all = refl; woken = none-woken _ c.args.jobs.now.now; before = refl; counted = refl }

pub again-smaller : goal.again-smaller
again-smaller g c = (one_more c.args.self _ _ _ _ (c.in-Some.id, c.in-Some.job.now) c.map.ensures.rising
    (cc c.in-Some.ensures) c.mark-mark.result c.mark-mark.ensures c.in_ok-set_state.ensures.now).less

pub again-preserved : goal.again-preserved
again-preserved g c =
    let one = one_more c.args.self _ _ _ _ (c.in-Some.id, c.in-Some.job.now) c.map.ensures.rising (cc c.in-Some.ensures) c.mark-mark.result
    c.mark-mark.ensures c.in_ok-set_state.ensures.now in
    record {
      all = one.all ∙ c.again.invariant.all;
      woken = gathered _ _ _ _ (c.in-Some.id, c.in-Some.job.now) c.again.woken.keys _ _ (marked State.Ready c.mark-mark.result)
          (λ job. refl) c.map.ensures.rising one.there
          c.in_ok-set_state.ensures.now c.in_ok-copy.ensures c.in_ok-insert.ensures.keys c.again.invariant.woken;
      before = c.set_state.ensures.before ∙ c.again.invariant.before;
      counted = one_counted _ _ _ _ _ (search rules) one.out ∙ c.again.invariant.counted;
    }

pub returns-clause-counted : goal.returns-clause-counted
returns-clause-counted g c =
    as_many c.again.over (run_out c.args.self c.again.jobs.now) (run_out c.args.self c.args.jobs.now.now) c.args.timeouts.now _
    (search rules) (none_out c.args.self c.again.jobs.now (cc c.in_default.ensures)) c.again.invariant.counted

pub returns-clause-ready : goal.returns-clause-ready
returns-clause-ready g c = record {
  now = none_left c.args.self c.again.jobs.now (cc c.in_default.ensures) ∙ c.again.invariant.all;
  woken = c.again.invariant.woken;
  before = c.again.invariant.before;
}
