use Rattle.std.proofs.Common.{◌≡◌, ◌≢◌, ◌↔◌, ◌+◌, ◌<◌, ◌≤◌, ℕ, List, [], ◌∷◌, ◌++◌, length, refl, sym, ap, subst, ◌∙◌}
use lib.ListN.{get_or}
use Rattle.std.specs.List.{All, Contains}
use Rattle.std.proofs.lemmas.List.{take_all}
use Rattle.std.proofs.lemmas.List.Elements.{All-more, All-push, Contains-append_left, Contains-push}
use Rattle.std.proofs.lemmas.List.Filters.{dedup_is}
use Rattle.std.proofs.lemmas.List.Kept.{Contains-dedup_nat, Contains-from_dedup}
use Rattle.std.proofs.lemmas.List.Sorted.{Contains-permutation, IsPermutation-sym}
use Rattle.std.proofs.lemmas.Map.Keys.{IsStrictlyIncreasing-dedup}
use Rattle.object.specs.declared.command.Command.{Command}
use Rattle.object.specs.declared.command.Key.{Key}
use Rattle.recovery.specs.Sessions.{HasCommandOf}
use Rattle.recovery.proofs.sessions.sessions_of.Invariants.{HasNoted}
use Rattle.recovery.proofs.sessions.sessions_of.Goals.{then-session-ne0+then-session-last+in_ok-push, else-session-ne0, else-session-ne0-via-then-session-ne0+else-session-last, else-session-ne0-via-else-session-ne0}
use Rattle.recovery.proofs.sessions.sessions_of.Goals as goal

module _ {Op : Type 0} (cs : List (Command Op)) (i : ℕ) (ss : List ℕ) (last : ℕ) (noted : HasNoted cs i ss last) (c : Command Op)
    (inside : i < length cs) (at : c ≡ get_or cs i c) where
  -- a command of a session that was noted, or of none
  noted_still : (c.key.session ≢ 0 → Contains ss c.key.session) → HasNoted cs (i + 1) ss last
  noted_still is = record {
    few = noted.few;
    all = All-more (λ d. d.key.session ≢ 0 → Contains ss d.key.session) cs i c inside noted.all
        (subst (λ (d : Command Op). d.key.session ≢ 0 → Contains ss d.key.session) at is);
    newest = noted.newest;
  }

  -- one of another
  noted_more : c.key.session ≢ 0 → HasNoted cs (i + 1) (ss ++ c.key.session ∷ []) c.key.session
  noted_more some = record {
    few = All-push (λ session. HasCommandOf session cs) ss c.key.session noted.few (some, (i, c, inside, sym at, refl));
    all = All-more (λ d. d.key.session ≢ 0 → Contains (ss ++ c.key.session ∷ []) d.key.session) cs i c inside
        (λ k d within some'. Contains-append_left ss (c.key.session ∷ []) _ (noted.all k d within some'))
        (subst (λ (d : Command Op). d.key.session ≢ 0 → Contains (ss ++ c.key.session ∷ []) d.key.session) at (λ _. Contains-push ss c.key.session));
    newest = λ _. Contains-push ss c.key.session;
  }

-- at the end the sessions of all commands were noted
noted_all : {Op : Type 0} (cs : List (Command Op)) (i : ℕ) (ss : List ℕ) (last : ℕ) → HasNoted cs i ss last → length cs ≤ i
    → (session : ℕ) → Contains ss session ↔ HasCommandOf session cs
noted_all cs i ss last noted past session = (
  λ is_one. subst (λ q. HasCommandOf q cs) is_one.2 (noted.few is_one.0 session is_one.1),
  λ has. subst (Contains ss) has.1.4
      (subst (λ (d : Command _). d.key.session ≢ 0 → Contains ss d.key.session) has.1.3 (all has.1.0 has.1.1 has.1.2) (λ zero. has.0 (sym has.1.4 ∙ zero))),
)
  where
    all : All (λ d. d.key.session ≢ 0 → Contains ss d.key.session) cs
    all = subst (All (λ d. d.key.session ≢ 0 → Contains ss d.key.session)) (take_all i cs past) noted.all

pub loop-command-preserved : goal.loop-command-preserved
loop-command-preserved g c =
    let cs = c.args.commands.now in
    let i = c.loop-command.command-index in
    let ss = c.loop-command.sessions.items in
    let last = c.loop-command.last in
    let noted = c.loop-command.invariant in
    let item = c.command-item.result in
    let inside = c.loop-command-test.true in
    let at = c.command-item.is in
    let same = ap (λ (k : Key). k.session) c.key-session.ensures.key in
    elim c.if-session-ne0.branch [
      | then-session-ne0+then-session-last+in_ok-push w ↦
          rw (w.sessions-is, w.last-is, w.in_ok-push.ensures.items, same)
          (noted_more cs i ss last noted item inside at (λ zero. w.if-session-ne0.true (same ∙ zero)))
      | else-session-ne0 w ↦
          rw (w.sessions-is, w.last-is) (noted_still cs i ss last noted item inside at (elim w.else-session-ne0.branch [
            | else-session-ne0-via-then-session-ne0+else-session-last w' ↦
                λ some. subst (Contains ss) (sym w'.if-session-last.false ∙ same) (noted.newest (λ zero. some (sym same ∙ w'.if-session-last.false ∙ zero)))
            | else-session-ne0-via-else-session-ne0 w' ↦ λ some. absurd (some (sym same ∙ w'.if-session-ne0.false))
          ]))
    ]

pub returns : goal.returns
returns g c =
    let is = dedup_is _ _ _ c.dedup.ensures.filtered in
    let moved = c.sort_unstable.ensures.permutation in
    let noted = noted_all c.args.commands.now c.loop-command.command-index c.loop-command.sessions.items c.loop-command.last
    c.loop-command.invariant c.loop-command-test.false in
    record {
      rising = rw is (IsStrictlyIncreasing-dedup _ c.sort_unstable.ensures.sorted);
      all = λ session. (
        λ is_one. (noted session).0 (Contains-permutation _ _ session (IsPermutation-sym _ _ moved) (Contains-from_dedup _ _ session (rw is at is_one))),
        λ has. rw is (Contains-dedup_nat _ session (Contains-permutation _ _ session moved ((noted session).1 has))),
      );
    }
