-- What a call does keeps where a conversation stands.
use Rattle.std.proofs.Common.{◌≡◌, ℕ, Bool, true, false, ◌&&◌, List, [], ◌++◌, Option, None, Some, take, drop, refl, sym, ap, subst, ◌∙◌}
use Rattle.std.proofs.lemmas.List.{append_assoc, take-append-drop}
use Rattle.bean_words.specs.declared.op.Op.{Op}
use Rattle.bean_words.specs.declared.reply.Reply.{Reply}
use Rattle.bean_codec.specs.declared.profile.Profile.{Profile}
use Rattle.bean_codec.specs.declared.request.Request.{Request}
use Rattle.bean_codec.specs.declared.request.Request.TheVariants.{Do, Quit}
use Rattle.session.specs.Held.{Held, StandsBefore, ComesTo, Finds, nothing_held}
use Rattle.hall.specs.declared.ticket.NotedAct.{NotedAct}
use Rattle.conversation.specs.declared.stage.Stage.{Stage}
use Rattle.conversation.specs.declared.stage.Stage.TheVariants.{Looking, Reading, Found, Asked, Leaving, Left}
use Rattle.conversation.specs.Talks.{ConversationState, is_looking, is_reading, may_look, wants_piece, stage_after, stage_at_end, stage_once_gone}
use Rattle.conversation.specs.Keeping.{Keeping}
use Rattle.conversation.specs.Conversing.{Along, Stands, Converses, ConversesFor}
use Rattle.conversation.proofs.Going.{along_at_first, along_feeding, along_finding, along_gone, whole_eof, whole_quit, pending_gone}

-- what a test tells of a stage
looking_if : (stage : Stage) (b : Bool) → (is_looking stage && b) ≡ true → stage ≡ Looking
looking_if Looking b e = refl
looking_if Reading b e = absurd (cc)
looking_if (Found op) b e = absurd (cc)
looking_if Asked b e = absurd (cc)
looking_if (Leaving how) b e = absurd (cc)
looking_if (Left how) b e = absurd (cc)

pub reading_if : (stage : Stage) (b : Bool) → (is_reading stage && b) ≡ true → stage ≡ Reading
reading_if Looking b e = absurd (cc)
reading_if Reading b e = refl
reading_if (Found op) b e = absurd (cc)
reading_if Asked b e = absurd (cc)
reading_if (Leaving how) b e = absurd (cc)
reading_if (Left how) b e = absurd (cc)

-- at first
pub begins : {T : Type 0} (profile : Profile) (keeping : Keeping T) (talk : ConversationState T)
    → talk.session ≡ nothing_held profile → talk.stage ≡ Looking → keeping.IsOf talk.ticket [] → Converses keeping [] [] talk
unfolding Converses
begins profile keeping talk nothing there is = (
  [],
  is,
  subst (λ (stage : Stage). Stands stage talk.session [] [] talk.session.unsent) (sym there)
      (subst (λ (s : Held). Along s.profile [] [] s.unsent (StandsBefore s)) (sym nothing) (along_at_first profile)),
)

-- what was found
found_so : (s : Held) (found : Option Request) (has_ended : Bool) (fed told : List ℕ) (acts : List (NotedAct Op Reply))
    → Along s.profile fed acts told (ComesTo s.profile found s) → Stands (stage_after found has_ended) s fed acts told
found_so s (Some (Do op)) has_ended fed told acts a = a
found_so s (Some Quit) has_ended fed told acts a = whole_quit s.profile s a
found_so s None true fed told acts a = whole_eof s.profile s a
found_so s None false fed told acts a = a

-- was is what old is seen as
module _ {T : Type 0} (keeping : Keeping T) {was old : ConversationState T} (is : was ≡ old) (fed given : List ℕ) where
  -- its ticket is of the same acts
  still_of : (acts : List (NotedAct Op Reply)) → keeping.IsOf old.ticket acts → keeping.IsOf was.ticket acts
  still_of acts k = subst (λ (t : ConversationState T). keeping.IsOf t.ticket acts) (sym is) k

  -- it stands so, where its stage is this
  stands_at : (acts : List (NotedAct Op Reply)) (stage : Stage) → old.stage ≡ stage → ConversesFor acts fed given old
      → Stands stage was.session fed acts (given ++ was.session.unsent)
  stands_at acts stage here c =
      subst (λ (t : ConversationState T). Stands stage t.session fed acts (given ++ t.session.unsent)) (sym is)
      (subst (λ stage. Stands stage old.session fed acts (given ++ old.session.unsent)) here c)

  -- and where it has come to another one
  stands_by : (acts : List (NotedAct Op Reply)) (s : Held) (now : Stage) (fed : List ℕ) (stage : Stage) → now ≡ stage
      → Stands stage s fed acts (given ++ s.unsent) → Stands now s fed acts (given ++ s.unsent)
  stands_by acts s now fed stage there c = subst (λ stage. Stands stage s fed acts (given ++ s.unsent)) (sym there) c

  -- a piece is fed, with which the session stands there
  pub goes_feeding : (s : Held) (stage : Stage) (piece : List ℕ) → wants_piece old ≡ true → s.profile ≡ was.session.profile
      → s.unsent ≡ was.session.unsent
      → ((text : List ℕ) → StandsBefore was.session text → StandsBefore s (text ++ piece)) → stage ≡ Looking
      → Converses keeping fed given old → Converses keeping (fed ++ piece) given (record was { session = s; stage = stage })
  unfolding Converses
  goes_feeding s stage piece wanted speaks same f there c =
      let a = stands_at c.0 Reading (reading_if old.stage _ wanted) c.2 in (
        c.0,
        still_of c.0 c.1,
        stands_by c.0 s stage (fed ++ piece) Looking there
            (subst (λ p. Along p (fed ++ piece) c.0 (given ++ s.unsent) (StandsBefore s)) (sym speaks)
            (subst (λ u. Along was.session.profile (fed ++ piece) c.0 (given ++ u) (StandsBefore s)) (sym same)
            (along_feeding was.session.profile piece (StandsBefore s) (λ text l. f text l.0) a))),
      )

  -- or is lost, and the client given up
  pub goes_losing : (s : Held) (stage : Stage) (piece : List ℕ) → wants_piece old ≡ true → s.profile ≡ was.session.profile
      → s.unsent ≡ was.session.unsent
      → stage ≡ Leaving None
      → Converses keeping fed given old → Converses keeping (fed ++ piece) given (record was { session = s; stage = stage })
  unfolding Converses
  goes_losing s stage piece wanted speaks same there c =
      let a = stands_at c.0 Reading (reading_if old.stage _ wanted) c.2 in (
        c.0,
        still_of c.0 c.1,
        stands_by c.0 s stage (fed ++ piece) (Leaving None) there
            (along_gone s.profile (subst (λ p. Along p (fed ++ piece) c.0 (given ++ s.unsent) (λ rest. Unit {0})) (sym speaks)
            (subst (λ u. Along was.session.profile (fed ++ piece) c.0 (given ++ u) (λ rest. Unit {0})) (sym same)
            (along_feeding was.session.profile piece (λ rest. Unit {0}) (λ text l. tt) a)))),
      )

  -- the next request is looked for
  pub goes_looking : (s : Held) (found : Option Request) (stage : Stage) → may_look old ≡ true
      → s.profile ≡ was.session.profile → ((text : List ℕ) → StandsBefore was.session text → Finds was.session.profile was.session s text found)
      → stage ≡ stage_after found was.has_ended
      → Converses keeping fed given old → Converses keeping fed given (record was { session = s; stage = stage })
  unfolding Converses
  goes_looking s found stage looked speaks finds there c =
      let a = subst (λ p. Along p fed c.0 (given ++ was.session.unsent) (StandsBefore was.session)) (sym speaks)
      (stands_at c.0 Looking (looking_if old.stage _ looked) c.2) in (
        c.0,
        still_of c.0 c.1,
        stands_by c.0 s stage fed (stage_after found was.has_ended) there
            (found_so s found was.has_ended fed (given ++ s.unsent) c.0 (along_finding s.profile given was.session s found (sym speaks) finds a)),
      )

-- bytes are sent
sent_so : (stage : Stage) (s : Held) (unsent : List ℕ) (sent_len : ℕ) (fed told : List ℕ) (acts : List (NotedAct Op Reply))
    → Stands stage s fed acts told → Stands stage (record s { unsent = unsent; sent_len = sent_len }) fed acts told
sent_so Looking s unsent sent_len fed told acts a = a
sent_so Reading s unsent sent_len fed told acts a = a
sent_so (Found op) s unsent sent_len fed told acts a = a
sent_so Asked s unsent sent_len fed told acts a = a
sent_so (Leaving how) s unsent sent_len fed told acts a = a
sent_so (Left how) s unsent sent_len fed told acts a = a

pub goes_sending : {T : Type 0} (keeping : Keeping T) {was old : ConversationState T} (is : was ≡ old) (fed given : List ℕ) (s : Held) (n : ℕ)
    → s ≡ record was.session { unsent = drop n was.session.unsent; sent_len = s.sent_len } → Converses keeping fed given old
    → Converses keeping fed (given ++ take n old.session.unsent) (record was { session = s })
unfolding Converses
goes_sending {T = T} keeping {was = was} {old = old} is fed given s n sent c =
    let u = was.session.unsent in
    let text : (given ++ take n u) ++ drop n u ≡ given ++ u = append_assoc given (take n u) (drop n u) ∙ ap (λ v. given ++ v) (take-append-drop n u) in (
      c.0,
      still_of keeping is fed given c.0 c.1,
      subst (λ (t : ConversationState T). ConversesFor c.0 fed (given ++ take n t.session.unsent) (record was { session = s })) is
          (subst (λ (s : Held). ConversesFor c.0 fed (given ++ take n u) (record was { session = s })) (sym sent)
          (sent_so was.stage was.session (drop n u) s.sent_len fed ((given ++ take n u) ++ drop n u) c.0
          (subst (Stands was.stage was.session fed c.0) (sym text)
          (subst (λ (t : ConversationState T). ConversesFor c.0 fed given t) (sym is) c.2)))),
    )

-- the input ends
ended_so : (stage : Stage) (s : Held) (fed told : List ℕ) (acts : List (NotedAct Op Reply))
    → Stands stage s fed acts told → Stands (stage_at_end stage) s fed acts told
ended_so Looking s fed told acts a = a
ended_so Reading s fed told acts a = whole_eof s.profile s a
ended_so (Found op) s fed told acts a = a
ended_so Asked s fed told acts a = a
ended_so (Leaving how) s fed told acts a = a
ended_so (Left how) s fed told acts a = a

pub goes_ending : {T : Type 0} (keeping : Keeping T) {was old : ConversationState T} (is : was ≡ old) (fed given : List ℕ) (stage : Stage)
    → stage ≡ stage_at_end was.stage
    → Converses keeping fed given old → Converses keeping fed given (record was { has_ended = true; stage = stage })
unfolding Converses
goes_ending {T = T} keeping {was = was} is fed given stage there c = (
  c.0,
  still_of keeping is fed given c.0 c.1,
  subst (λ stage. Stands stage was.session fed c.0 (given ++ was.session.unsent)) (sym there)
      (ended_so was.stage was.session fed (given ++ was.session.unsent) c.0
      (subst (λ (t : ConversationState T). ConversesFor c.0 fed given t) (sym is) c.2)),
)

-- the client goes
gone_so : (stage : Stage) (s : Held) (fed told : List ℕ) (acts : List (NotedAct Op Reply))
    → Stands stage s fed acts told → Stands (stage_once_gone stage) s fed acts told
gone_so Looking s fed told acts a = along_gone s.profile a
gone_so Reading s fed told acts a = along_gone s.profile a
gone_so (Found op) s fed told acts a = along_gone s.profile a
gone_so Asked s fed told acts p = pending_gone s.profile s p
gone_so (Leaving how) s fed told acts a = a
gone_so (Left how) s fed told acts a = a

pub goes_leaving : {T : Type 0} (keeping : Keeping T) {was old : ConversationState T} (is : was ≡ old) (fed given : List ℕ) (stage : Stage)
    → stage ≡ stage_once_gone was.stage
    → Converses keeping fed given old → Converses keeping fed given (record was { stage = stage })
unfolding Converses
goes_leaving {T = T} keeping {was = was} is fed given stage there c = (
  c.0,
  still_of keeping is fed given c.0 c.1,
  subst (λ stage. Stands stage was.session fed c.0 (given ++ was.session.unsent)) (sym there)
      (gone_so was.stage was.session fed (given ++ was.session.unsent) c.0
      (subst (λ (t : ConversationState T). ConversesFor c.0 fed given t) (sym is) c.2)),
)
