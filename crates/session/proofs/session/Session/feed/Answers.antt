use Rattle.session.proofs.Standing.{on_ok, stands_more}
use Rattle.session.proofs.session.Session.feed.Goals as goal

pub returns-clause-stands : goal.returns-clause-stands
returns-clause-stands c = on_ok c.append.result (stands_more c.args.self.now c.append.new.self c.args.piece.now) c.append.ensures.ok
