use Rattle.std.proofs.Common.{refl}
use Rattle.lean_network.proofs.States.{state_at, states_opened, states_turned, states_forgotten, delivered_states}
use Rattle.lean_network.proofs.States.{own_object, other_object, stranger_object, delivered_object, kept_object}
use Rattle.lean_network.proofs.laws.lean_networks.Goals as goal

pub returns-clause-nodes : goal.returns-clause-nodes
returns-clause-nodes g c = λ k n. state_at g.O.Object.rules k n

pub returns-clause-opened : goal.returns-clause-opened
returns-clause-opened g c = λ members. states_opened g.O.Object.rules members

pub returns-clause-turned : goal.returns-clause-turned
returns-clause-turned g c = λ k n h out. states_turned k n h out

pub returns-clause-lost : goal.returns-clause-lost
returns-clause-lost g c = λ k n. refl

pub returns-clause-repeated : goal.returns-clause-repeated
returns-clause-repeated g c = λ k n l. refl

pub returns-clause-forgotten : goal.returns-clause-forgotten
returns-clause-forgotten g c = λ base k. states_forgotten base k

pub returns-clause-own : goal.returns-clause-own
returns-clause-own g c = λ k n h out all member. own_object g.O.Object.rules k n h out all member

pub returns-clause-others : goal.returns-clause-others
returns-clause-others g c = λ k n m h out apart. other_object g.O.Object.rules k n m h out apart

pub returns-clause-kept : goal.returns-clause-kept
returns-clause-kept g c = λ base k n. kept_object g.O.Object.rules base k n

pub returns-clause-delivered : goal.returns-clause-delivered
returns-clause-delivered g c = λ k z n l left r. delivered_states g.O.Object.rules k z n l left r

pub returns-clause-strangers : goal.returns-clause-strangers
returns-clause-strangers g c = λ k n h out all member. stranger_object g.O.Object.rules k n h out all member

pub returns-clause-as_before : goal.returns-clause-as_before
returns-clause-as_before g c = λ k z n m l left r. delivered_object g.O.Object.rules k z n m l left r

pub returns-clause-mailed : goal.returns-clause-mailed
returns-clause-mailed g c = λ k n mails. refl
