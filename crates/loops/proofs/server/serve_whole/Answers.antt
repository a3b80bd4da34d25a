use Rattle.std.proofs.Common.{◌≡◌, Some, None, is_some, ap, sym, subst, true≢false}
use Rattle.turns.specs.Going.{HallGoesOn}
use Rattle.loops.specs.LeadingLaws.{hall_went}
use Rattle.loops.proofs.server.serve_whole.Goals as goal

-- a fault is told
told : {X P : Type 0} (fault : X) → Some fault ≡ None → P
told fault e = absurd (true≢false (ap is_some e))

pub returns-then-agree : goal.returns-then-agree
returns-then-agree g c = record {
  served = record {
    marked = c.into_hall-hall.ensures.marked;
    agreed = λ none. c.into_hall-hall.ensures.agreed c.if-agree.true;
    handed_in = λ none. c.into_hall-hall.ensures.handed_in c.if-agree.true;
  };
  goes_on = subst (HallGoesOn c.args.desk.hall) (sym c.into_hall-hall.ensures.hall) (hall_went c.args.desk.hall _ c.in_ok-desk.ensures.goes_on);
}

pub returns : goal.returns
returns g c = record {
  served = record {
    marked = c.into_hall-hall.ensures.marked;
    agreed = λ none. told _ none;
    handed_in = λ none. told _ none;
  };
  goes_on = subst (HallGoesOn c.args.desk.hall) (sym c.into_hall-hall.ensures.hall) (hall_went c.args.desk.hall _ c.in_ok-desk.ensures.goes_on);
}
