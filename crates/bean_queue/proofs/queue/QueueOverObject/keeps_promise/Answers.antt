use Rattle.bean_queue.proofs.queue.QueueOverObject.keeps_promise.Goals as goal

pub returns : goal.returns
returns g c = λ commands. record {
  once = c.one_holder.ensures.once commands;
  ended = c.one_holder.ensures.ended commands;
  replay = c.one_holder.ensures.replay commands;
}
