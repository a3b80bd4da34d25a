use Rattle.std.proofs.Common.{subst}
use Rattle.beanpax.specs.Openings.{HasLed}
use Rattle.beanpax.proofs.server.serve_from_log.Goals as goal

pub serve_started-requires-clause-started : goal.serve_started-requires-clause-started
serve_started-requires-clause-started g c κs within = subst (HasLed _ _ _) c.in-Forgetting.is c.requires.led

pub serve_restored-requires-clause-restored : goal.serve_restored-requires-clause-restored
serve_restored-requires-clause-restored g c κs within = subst (HasLed _ _ _) c.in-Keeping.is c.requires.led
