use Rattle.std.proofs.Common.{◌≡◌, ◌++◌, false, ap, ◌∙◌, rules}
use Rattle.std.proofs.lemmas.Result.{on_ok_weaker}
use Rattle.bean_queue.specs.Turns.{QueueOutcome, serve_turn}
use Rattle.bean_queue.specs.Reserving.{is_reserve}
use Rattle.bean_queue.proofs.calm.Called.{called-there}
use Rattle.bean_queue.proofs.calm.Calm.{called-calm}
use Rattle.bean_queue.proofs.calm.Reserving.{reserve-carried, wake-carried}
use Rattle.bean_queue.proofs.logic.Logic.carry_out.Goals as goal

pub reserve-requires : goal.reserve-requires
reserve-requires g c = record {
  there = called-there c.args.op.now c.args.self.now.now c.call.new.self.now c.args.key.session c.in_ok-call.ensures.now;
  numbered = search rules;
}

pub wake-requires : goal.wake-requires
wake-requires g c = record {
  wakes = record {
    there = called-there c.args.op.now c.args.self.now.now c.call.new.self.now c.args.key.session c.in_ok-call.ensures.now;
    loud = c.requires.kind;
    waking = search rules;
    numbered = search rules;
  };
  calm = ap serve_turn c.in_ok-call.ensures.now ∙ called-calm c.args.op.now c.args.key.session c.args.self.now.now c.requires.calm;
}

pub returns-in-Reserve : goal.returns-in-Reserve
returns-in-Reserve g c =
    let same = reserve-carried c.args.op.now c.args.key c.in-Reserve.seconds c.args.self.now.now c.call.new.self.now
    c.in-Reserve.is c.requires.calm c.in_ok-call.ensures.now c.numbers_rise.ensures in
    record {
      state = on_ok_weaker c.reserve.result (λ e. e ∙ ap (λ (o : QueueOutcome). o.state) same) c.reserve.ensures.state;
      answers = on_ok_weaker c.reserve.result
          (λ e. e ∙ ap (λ (o : QueueOutcome). c.args.answers.now.items ++ o.answers) same) c.reserve.ensures.answers;
      before = c.reserve.ensures.before ∙ c.call.ensures.before;
    }

pub returns-in_default : goal.returns-in_default
returns-in_default g c =
    let wakes : is_reserve c.args.op.now ≡ false = search rules in
    let same = wake-carried c.args.op.now c.args.key c.args.self.now.now c.call.new.self.now wakes c.in_ok-call.ensures.now in
    record {
      state = on_ok_weaker c.wake.result (λ e. e ∙ ap (λ (o : QueueOutcome). o.state) same) c.wake.ensures.state;
      answers = on_ok_weaker c.wake.result
          (λ e. e ∙ ap (λ (o : QueueOutcome). c.args.answers.now.items ++ o.answers) same) c.wake.ensures.answers;
      before = c.wake.ensures.before ∙ c.call.ensures.before;
    }
