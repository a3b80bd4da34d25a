use Rattle.std.proofs.Common.{sym, subst}
use Rattle.bean_queue.specs.Woken.{Covers}
use Rattle.bean_queue.proofs.calm.Woken.{covers-released}
use Rattle.bean_queue.proofs.logic.Logic.release_all.Goals as goal

pub serve-requires : goal.serve-requires
serve-requires g c =
    subst (λ tubes. Covers tubes c.give_back.new.self.now) (sym c.as_slice.ensures.keys)
    (covers-released c.in_ok-woken.woken.keys c.args.session c.args.self.now.now c.give_back.new.self.now c.requires
    c.in_ok-woken.ensures.now c.in_ok-woken.ensures.woken)
