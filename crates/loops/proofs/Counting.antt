-- How many commands were taken of a hall for its log.
use Rattle.std.proofs.Common.{◌≡◌, ◌≤◌, ◌+◌, ◌++◌, ℕ, Bool, true, false, if◌then◌else◌, List, [], length, refl, sym, ap, subst, ◌∙◌, length-append, append-nil, arith}
use Rattle.object.specs.Objects.{Rules}
use Rattle.object.specs.declared.command.Command.{Command}
use Rattle.forgetting_hall.specs.Gathered.{Gathering}
use Rattle.forgetting_hall.specs.Halls.{ForgettingState}
use Rattle.forgetting_hall.specs.Leading.{TurnsOn}
use Rattle.forgetting_hall.specs.Telling.{HasTold}
use Rattle.loops.specs.Taking.{HasTakenCount, HasTakenFor, for_log}

module _ {O Op Reply : Type 0} (rules : Rules O Op Reply) (h : ForgettingState Op O Reply)
    (counted : (members : List ℕ) (told : List (Command Op)) → HasTold rules members h told → h.summary.placed ≡ length (told ++ h.gathering.commands))
  where
    -- what was gathered comes on top of what was taken
    all_count : (t n : ℕ) → HasTakenCount rules h t → n ≡ h.summary.placed → n ≡ t + length h.gathering.commands
    all_count t n (told, long, has) all =
        all ∙ counted h.network.members told has ∙ length-append told h.gathering.commands ∙ ap (λ k. k + length h.gathering.commands) long

    pub count_all : (logs : Bool) (t n : ℕ) → logs ≡ true → HasTakenFor rules h logs t → n ≡ h.summary.placed
        → n ≡ (if logs then t else 0) + length (for_log logs h.gathering.commands)
    count_all true t n is taken all = all_count t n (taken refl) all
    count_all false t n is taken all = absurd (cc)

    -- once that is taken, too, all was, also where sessions are let go of then
    module _ (takes : (members : List ℕ) (told : List (Command Op)) → HasTold rules members h told
        → HasTold rules members (record h { gathering = record h.gathering { commands = [] } }) (told ++ h.gathering.commands))
        (z y : ForgettingState Op O Reply) (same : z ≡ record h { gathering = record h.gathering { commands = [] } })
        (on : TurnsOn rules z y) (kept : y.gathering ≡ z.gathering)
        (counted_then : (members : List ℕ) (told : List (Command Op)) → HasTold rules members y told
        → y.summary.placed ≡ length (told ++ y.gathering.commands))
        (t n : ℕ) (taken : HasTakenCount rules h t) (all : n ≡ y.summary.placed)
      where
        told_then : HasTold rules y.network.members y (taken.0 ++ h.gathering.commands)
        told_then =
            let told = taken.0 ++ h.gathering.commands in
            subst (λ members. HasTold rules members y told) (sym on.leads.members) (on.tells z.network.members told
            (subst (λ (q : ForgettingState Op O Reply). HasTold rules q.network.members q told) (sym same) (takes h.network.members taken.0 taken.2)))

        all_told : n ≡ length (taken.0 ++ h.gathering.commands)
        all_told =
            let told = taken.0 ++ h.gathering.commands in
            all ∙ counted_then y.network.members told told_then
            ∙ ap (λ cs. length (told ++ cs)) (ap (λ (q : Gathering Op). q.commands) kept ∙ ap (λ (q : ForgettingState Op O Reply). q.gathering.commands) same)
            ∙ ap length (append-nil told)

        pub taken_then : HasTakenCount rules y n
        taken_then = (taken.0 ++ h.gathering.commands, sym all_told, told_then)

        pub count_then : n ≡ t + length h.gathering.commands
        count_then = all_told ∙ length-append taken.0 h.gathering.commands ∙ ap (λ k. k + length h.gathering.commands) taken.1

-- what was taken still was, where nothing is told
pub still_taken : {O Op Reply : Type 0} (rules : Rules O Op Reply) (h z : ForgettingState Op O Reply) (logs : Bool) (t : ℕ)
    → TurnsOn rules h z → HasTakenFor rules h logs t → HasTakenFor rules z logs t
still_taken rules h z logs t on taken is =
    let was = taken is in (
      was.0,
      was.1,
      subst (λ members. HasTold rules members z was.0) (sym on.leads.members) (on.tells h.network.members was.0 was.2),
    )

pub le_same : (a b : ℕ) → a ≡ b → b ≤ a
le_same a b e = omega (arith, e)
