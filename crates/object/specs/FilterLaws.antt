-- A replica's object behind its filter, and the replay of what it performed.
use Rattle.std.proofs.Common.{◌≡◌, Bool, true, false, true≢false, cond, List, [], ◌∷◌, ◌++◌, length, fold, refl, sym, ap, ◌∙◌}
use Rattle.std.specs.FinMap.{empty}
use Rattle.object.specs.declared.command.Command.{Command}
use Rattle.object.specs.Replays.{replay, is_new, kept_after, kept}
use Rattle.object.specs.OnceOnly.{LatestNumbers, Filtered, Remembers, is_later, noted, filtered, filtered_answers}
use Rattle.object.specs.Objects.{Rules}
use Rattle.object.specs.Obeying.{at_place, answers_after, obeyed}
use Rattle.object.specs.ReplayLaws.{seen_by, is_new-all, kept-push_new, last_place}

-- what a filter remembers, as the crate of objects states it
pub record FilterLaws (Op : Type 0) : Type 0 where
  pub none : Remembers {Op = Op} empty []
  pub done : (latest : LatestNumbers) (earlier : List (Command Op)) (c : Command Op) → Remembers latest earlier
      → is_later c.key latest ≡ true → Remembers (noted c.key latest) (c ∷ earlier)
  pub stale : (latest : LatestNumbers) (earlier : List (Command Op)) (c : Command Op) → Remembers latest earlier
      → is_later c.key latest ≡ false → Remembers latest (c ∷ earlier)

module _ {O Op Reply : Type 0} (laws : FilterLaws Op) (rules : Rules O Op Reply) where
  -- the filter knows what was seen, and the object obeyed what was kept of it
  pub record HasObeyed (f : Filtered O) (start : O) (seen now : List (Command Op)) : Type 0 where
    pub object : f.object ≡ fold rules.after start now
    pub latest : Remembers f.latest seen

  -- one command, by whether it is later
  one : (f : Filtered O) (seen : List (Command Op)) (c : Command Op) (test : Bool) → is_later c.key f.latest ≡ test
      → Remembers f.latest seen → Remembers
      (cond test (record { object = rules.after f.object c; latest = noted c.key f.latest }) f).latest (c ∷ seen)
  one f seen c true e h = laws.done f.latest seen c h e
  one f seen c false e h = laws.stale f.latest seen c h e

  object_if : (f : Filtered O) (c : Command Op) (ks : List (Command Op)) (test again : Bool) → test ≡ again
      → fold rules.after (cond test (record { object = rules.after f.object c; latest = noted c.key f.latest })
      f).object ks ≡ fold rules.after f.object (cond again (c ∷ ks) ks)
  object_if f c ks true true e = refl
  object_if f c ks false false e = refl
  object_if f c ks true false e = absurd (true≢false e)
  object_if f c ks false true e = absurd (true≢false (sym e))

  pub has_obeyed : (f : Filtered O) (seen cs : List (Command Op)) → Remembers f.latest seen
      → HasObeyed (fold (filtered rules.after) f cs) f.object (seen_by seen cs) (kept_after seen cs)
  has_obeyed f seen [] h = record { object = refl; latest = h }
  has_obeyed f seen (c ∷ cs) h =
      let r = has_obeyed (filtered rules.after f c) (c ∷ seen) cs (one f seen c (is_later c.key f.latest) refl h) in
      record {
        object = r.object ∙ object_if f c (kept_after (c ∷ seen) cs) (is_later c.key f.latest) (is_new c seen) (h c);
        latest = r.latest;
      }

  now : (earlier : List (Command Op)) → HasObeyed (obeyed rules earlier) rules.fresh (seen_by [] earlier) (kept earlier)
  now earlier = has_obeyed (record { object = rules.fresh; latest = empty }) [] earlier laws.none

  -- the object is a new one after the kept commands
  pub object_obeyed : (earlier : List (Command Op)) → (obeyed rules earlier).object ≡ fold rules.after rules.fresh (kept earlier)
  object_obeyed earlier = (now earlier).object

  -- the filter lets through what is new
  pub later_obeyed : (earlier : List (Command Op)) (c : Command Op) → is_later c.key (obeyed rules earlier).latest ≡ is_new c earlier
  later_obeyed earlier c = (now earlier).latest c ∙ is_new-all c earlier

-- what is answered to a command that is new
pub answers_new : {O Op Reply : Type 0} (rules : Rules O Op Reply) (earlier : List (Command Op)) (c : Command Op)
    → is_new c earlier ≡ true → answers_after rules earlier c
    ≡ rules.answers (fold rules.after rules.fresh (kept earlier)) c
answers_new rules earlier c e =
    ap (λ b. cond b (at_place (length (kept earlier)) (replay rules.fresh rules.after rules.answers (kept (earlier ++ (c ∷ []))))) []) e
    ∙ ap (λ cs. at_place (length (kept earlier)) (replay rules.fresh rules.after rules.answers cs)) (kept-push_new earlier c e)
    ∙ last_place rules.after rules.answers rules.fresh (kept earlier) c

-- and to one that isn't
pub answers_old : {O Op Reply : Type 0} (rules : Rules O Op Reply) (earlier : List (Command Op)) (c : Command Op)
    → is_new c earlier ≡ false → answers_after rules earlier c ≡ []
answers_old rules earlier c e =
    ap (λ b. cond b (at_place (length (kept earlier))
    (replay rules.fresh rules.after rules.answers (kept (earlier ++ (c ∷ []))))) []) e

module _ {O Op Reply : Type 0} (laws : FilterLaws Op) (rules : Rules O Op Reply) where
  obeyed_if : (earlier : List (Command Op)) (c : Command Op) (test : Bool) → is_new c earlier ≡ test
      → cond test (rules.answers (obeyed rules earlier).object c) [] ≡ answers_after rules earlier c
  obeyed_if earlier c true e = ap (λ o. rules.answers o c) (object_obeyed laws rules earlier) ∙ sym (answers_new rules earlier c e)
  obeyed_if earlier c false e = sym (answers_old rules earlier c e)

  -- what the object behind the filter answers is what the replay notes
  pub answers_obeyed : (earlier : List (Command Op)) (c : Command Op) → filtered_answers rules.answers (obeyed rules earlier) c ≡ answers_after rules earlier c
  answers_obeyed earlier c = ap (λ b. cond b (rules.answers (obeyed rules earlier).object c) [])
      (later_obeyed laws rules earlier c) ∙ obeyed_if earlier c (is_new c earlier) refl
