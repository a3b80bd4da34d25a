use Rattle.std.proofs.Common.{◌≡◌, true, [], ◌∷◌, rules, ap}
use Rattle.std.specs.Map.{keys_of}
use Rattle.session_store.specs.Rolls.{is_named}
use Rattle.bean_words.proofs.naming.NameSets.{none-added, one-added, all-added, adds-twice}
use Rattle.job_store.proofs.shelving.Shelving.{not_ok}
use Rattle.session_store.proofs.Enrolled.{has-roll}
use Rattle.session_store.proofs.rolls.Rolls.add_tubes.Goals as goal

pub loop-tube-init : goal.loop-tube-init
loop-tube-init c = none-added _ _ _ _ _ (ap keys_of (search rules))

pub loop-tube-preserved : goal.loop-tube-preserved
loop-tube-preserved c =
    let cut : keys_of c.loop-tube.tube-iterator ≡ c.in-Some.tube.now ∷ keys_of c.next.new.self = search rules in
    one-added (λ t. is_named t c.args.sessions.now.entries ≡ true)
    (λ t. is_named t c.args.sessions.now.entries ≡ true) _ _ _ _ _ _ c.in-Some.tube.now cut c.add_named.ensures.added
    c.in_ok-add_named.ensures.there c.loop-tube.invariant

pub returns-in_err-add_named : goal.returns-in_err-add_named
returns-in_err-add_named c =
    let added = adds-twice c.loop-tube.invariant.added c.add_named.ensures.added in
    record { kept = added.kept; only = added.only; all = not_ok _ c.from_residual.result c.from_residual.ensures.0 }

pub returns : goal.returns
returns c =
    let none : c.loop-tube.tube-iterator ≡ [] = search rules in
    record {
      kept = c.loop-tube.invariant.added.kept;
      only = c.loop-tube.invariant.added.only;
      all = λ t has. all-added (λ t. is_named t c.args.sessions.now.entries ≡ true)
          (λ t. is_named t c.args.sessions.now.entries ≡ true) _ _ _ _ (ap keys_of none) c.loop-tube.invariant t has
          (has-roll t c.args.sessions.now.entries c.args.self.now c.requires has);
    }
