use Rattle.hall.proofs.laws.laws_below.Goals as goal

pub returns : goal.returns
returns g c = record {
  opening = c.every_world.ensures.opening;
  next = c.every_world.ensures.next;
  nodes = c.every_world.ensures.nodes;
  boots = c.every_world.ensures.boots;
  letters = c.every_world.ensures.letters;
  once = c.every_world.ensures.once;
  timeline = c.every_world.ensures.timeline;
  placed = c.every_world.ensures.placed;
  placed_once = c.every_world.ensures.placed_once;
  legal_so_far = c.every_world.ensures.legal_so_far;
  told = λ w i. (c.every_world.ensures.answered w i).told;
  answered_known = c.every_world.ensures.answered_known;
  able = c.deeds_are_shown.ensures.able;
  turn = c.deeds_are_shown.ensures.turn;
  outcome = c.deeds_are_shown.ensures.outcome;
  fit = c.deeds_are_shown.ensures.fit;
  cut = c.firsts_of_firsts.ensures.cut;
}
