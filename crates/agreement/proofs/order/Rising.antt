-- The numbers of each session rise along the kept commands.
use Rattle.std.proofs.Common.{◌≡◌, inl, inr, ℕ, ◌<◌, ◌==◌, Bool, true, false, not, ◌||◌, nat_lt, cond, List, [], ◌∷◌, refl, sym, ap, subst, arith}
use Rattle.std.proofs.lemmas.Bool.{and_parts}
use Rattle.std.proofs.lemmas.Bool.Decides.{nat_tests}
use Rattle.object.specs.Lists.{In}
use Rattle.object.specs.Replays.{is_new, kept_after, kept}
use Rattle.object.specs.declared.command.Command.{Command}
use Rattle.object.specs.Legal.{IsRising}
use Rattle.object.specs.ReplayLaws.{is_before}

-- a kept command came, and is new after what was seen
pub kept_new : {Op : Type 0} (seen cs : List (Command Op)) (d : Command Op) → In d (kept_after seen cs) → In d cs × (is_new d seen ≡ true)
kept_new seen [] d i = absurd i
kept_new {Op} seen (c ∷ cs) d i = at (is_new c seen) refl i (kept_new (c ∷ seen) cs d)
  where
    at : (test : Bool) → is_new c seen ≡ test
        → In d (cond test (c ∷ kept_after (c ∷ seen) cs) (kept_after (c ∷ seen) cs))
        → (In d (kept_after (c ∷ seen) cs) → In d cs × (is_new d (c ∷ seen) ≡ true)) → In d (c ∷ cs)
        × (is_new d seen ≡ true)
    at true e (inl same) rest = (inl same, subst (λ (x : Command Op). is_new x seen ≡ true) (sym same) e)
    at true e (inr j) rest = let r = rest j in (inr r.0, (and_parts (is_before d c) (is_new d seen) r.1).1)
    at false e j rest = let r = rest j in (inr r.0, (and_parts (is_before d c) (is_new d seen) r.1).1)

pub In-kept : {Op : Type 0} (cs : List (Command Op)) (d : Command Op) → In d (kept cs) → In d cs
In-kept cs d i = (kept_new [] cs d i).0

before_rises : (s t n m : ℕ) → (not (s == t) || nat_lt n m) ≡ true → t ≡ s → n < m
before_rises s t n m e same = grind (arith, nat_tests)

rises_after : {Op : Type 0} (seen cs : List (Command Op)) → IsRising (kept_after seen cs)
rises_after seen [] = tt
rises_after {Op} seen (c ∷ cs) = at (is_new c seen) (rises_after (c ∷ seen) cs)
  where
    above : (d : Command Op) → In d (kept_after (c ∷ seen) cs) → d.key.session ≡ c.key.session → c.key.number < d.key.number
    above d i same = before_rises c.key.session d.key.session c.key.number d.key.number
        (and_parts (is_before d c) (is_new d seen) (kept_new (c ∷ seen) cs d i).1).0 same

    at : (test : Bool) → IsRising (kept_after (c ∷ seen) cs) → IsRising (cond test (c ∷ kept_after (c ∷ seen) cs) (kept_after (c ∷ seen) cs))
    at true rest = (above, rest)
    at false rest = rest

pub kept_rises : {Op : Type 0} (cs : List (Command Op)) → IsRising (kept cs)
kept_rises cs = rises_after [] cs

-- no later key is this one
pub other_keys : {Op : Type 0} (c : Command Op) (cs : List (Command Op)) → IsRising (c ∷ cs) → (d : Command Op) → In d cs → d.key ≡ c.key → ⊥
other_keys c cs rises d i same = let l = rises.0 d i (ap (λ k. k.session) same) in let e = ap (λ k. k.number) same in absurd (omega arith)
