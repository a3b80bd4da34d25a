use Rattle.forgetting_hall.proofs.halls.facts_of_worlds.Goals as goal

pub returns : goal.returns
returns g c = record {
  placed = c.every_world.ensures.placed;
  counted = c.every_world.ensures.counted;
  once = c.every_world.ensures.once;
  answered_known = c.every_world.ensures.answered_known;
  tells = λ w n k is performs. c.clusters_rest.ensures.firsts w n k is performs;
  counts = λ w n k is performs. c.clusters_rest.ensures.counts w n k is performs;
}
