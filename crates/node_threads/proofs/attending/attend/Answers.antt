use Rattle.std.proofs.Common.{⊎_elim}
use Rattle.bean_codec.specs.declared.profile.Profile.TheVariants.{Plain}
use Rattle.node_threads.specs.Attending.{Adds, TakesLeave, attendance_of}
use Rattle.node_threads.proofs.Balances.{served_balance}
use Rattle.node_threads.proofs.Seen.{over, served}
use Rattle.node_threads.proofs.attending.attend.Goals as goal

pub returns-clause-told : goal.returns-clause-told
returns-clause-told g c =
    served Plain (λ s. attendance_of s.ticket s.commands.amount) Adds TakesLeave _ c.serve-ended.new.service _ _ c.serve-ended.result c.serve-ended.ensures.told

-- its end is never refused
pub returns-clause-out_of_memory : goal.returns-clause-out_of_memory
returns-clause-out_of_memory g c = λ e.
    over _ _ _ _ _ _ (λ input output. ⊎_elim (λ w. w) (λ w. absurd w.1.2)) ((returns-clause-told g c).out_of_memory e)

pub returns-clause-ran_short : goal.returns-clause-ran_short
returns-clause-ran_short g c = λ e.
    over _ _ _ _ _ _ (λ input output. ⊎_elim (λ w. w) (λ w. absurd w.1.2)) ((returns-clause-told g c).ran_short e)

pub returns-clause-counted : goal.returns-clause-counted
returns-clause-counted g c =
    served_balance Plain (attendance_of c.args.ticket c.args.commands.amount)
    (attendance_of c.serve-ended.new.service.ticket c.serve-ended.new.service.commands.amount) _ _
    c.serve-ended.result
    (returns-clause-told g c)
