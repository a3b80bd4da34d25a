-- A register: what an act makes of it, and what it answers.
use Rattle.std.specs.Prelude.{◌≡◌, List, [], ◌∷◌}
use Rattle.std.proofs.Common.{ap, inl, inr}
use Rattle.object.specs.Lists.{In}
use Rattle.object.specs.Answers.{AnswersOnce}
use Rattle.object.specs.declared.command.Act.{Act}
use Rattle.object.specs.declared.command.Answer.{Answer}
use Rattle.object.specs.declared.command.Key.{Key}
use Rattle.object.specs.declared.register.Register.{Register}
use Rattle.object.specs.declared.register.RegisterOp.{RegisterOp}
use Rattle.object.specs.declared.register.RegisterOp.TheVariants.{Write, Read}
use Rattle.object.specs.declared.register.RegisterReply.{RegisterReply}
use Rattle.object.specs.declared.register.RegisterReply.TheVariants.{Done, Value}

-- the number that was written last
abbrev pub written : Register → Act RegisterOp → Register
written r (Act.Do (Write value)) = record { value = value }
written r (Act.Do Read) = r
written r Act.Close = r
written r Act.Tick = r

-- each operation is answered at once, and nothing else is
abbrev pub register_answers : Register → Key → Act RegisterOp → List (Answer RegisterReply)
register_answers r key (Act.Do (Write value)) = record { to = key; reply = Done } ∷ []
register_answers r key (Act.Do Read) = record { to = key; reply = Value r.value } ∷ []
register_answers r key Act.Close = []
register_answers r key Act.Tick = []

only_to : (key : Key) (reply : RegisterReply) (a : Answer RegisterReply) → In a (record { to = key; reply = reply } ∷ []) → a.to ≡ key
only_to key reply a (inl same) = ap (λ (b : Answer RegisterReply). b.to) same
only_to key reply a (inr never) = absurd never

pub told-to : (r : Register) (key : Key) (act : Act RegisterOp) (a : Answer RegisterReply) → In a (register_answers r key act) → a.to ≡ key
told-to r key (Act.Do (Write value)) a i = only_to key Done a i
told-to r key (Act.Do Read) a i = only_to key (Value r.value) a i
told-to r key Act.Close a i = absurd i
told-to r key Act.Tick a i = absurd i

pub told-once : (r : Register) (key : Key) (act : Act RegisterOp) → AnswersOnce (register_answers r key act)
told-once r key (Act.Do (Write value)) = (λ b i. absurd i, tt)
told-once r key (Act.Do Read) = (λ b i. absurd i, tt)
told-once r key Act.Close = tt
told-once r key Act.Tick = tt
