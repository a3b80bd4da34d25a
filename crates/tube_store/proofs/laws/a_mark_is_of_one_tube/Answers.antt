use Rattle.std.proofs.Common.{ap, unwrap_or}
use Rattle.tube_store.specs.TubeCounts.{no_counts}
use Rattle.tube_store.proofs.NameMaps.{inserted-there, inserted-elsewhere, filtered-there, filtered-elsewhere}
use Rattle.tube_store.proofs.laws.a_mark_is_of_one_tube.Goals as goal

pub returns-clause-marked : goal.returns-clause-marked
returns-clause-marked c = λ mark tube es. ap (λ o. unwrap_or o no_counts) (inserted-there tube _ es)

pub returns-clause-others_marked : goal.returns-clause-others_marked
returns-clause-others_marked c = λ mark tube other es apart. ap (λ o. unwrap_or o no_counts) (inserted-elsewhere tube other _ es apart)

pub returns-clause-forgotten : goal.returns-clause-forgotten
returns-clause-forgotten c = λ tube es. ap (λ o. unwrap_or o no_counts) (filtered-there tube es)

pub returns-clause-others_stay : goal.returns-clause-others_stay
returns-clause-others_stay c = λ tube other es apart. ap (λ o. unwrap_or o no_counts) (filtered-elsewhere tube other es apart)
