use Rattle.host_clients.proofs.Owning.{beginning, opening, handing, ending, hearing, freeing, going_on}
use Rattle.host_clients.proofs.laws.clients_of_a_host.Goals as goal

pub returns-clause-begins : goal.returns-clause-begins
returns-clause-begins g c = λ owner n first k owns unused ends. beginning owner n k first owns unused ends

pub returns-clause-opens : goal.returns-clause-opens
returns-clause-opens g c = λ owner s z n session k are opens. opening owner n k s z session are opens

pub returns-clause-hands_in : goal.returns-clause-hands_in
returns-clause-hands_in g c = λ owner s z n session act d k are hands. handing owner n k s z session act d are hands

pub returns-clause-ends_earlier : goal.returns-clause-ends_earlier
returns-clause-ends_earlier g c = λ owner s n session d k are mine ends. ending owner n k s session d are mine ends

pub returns-clause-hears : goal.returns-clause-hears
returns-clause-hears g c = λ owner s z n answer k are given hears. hearing owner n k s z answer are given hears

pub returns-clause-frees : goal.returns-clause-frees
returns-clause-frees g c = λ owner s z n key k are frees. freeing owner n k s z key are frees

pub returns-clause-goes_on : goal.returns-clause-goes_on
returns-clause-goes_on g c = λ owner s n k j are same more. going_on owner n k s j are same more
