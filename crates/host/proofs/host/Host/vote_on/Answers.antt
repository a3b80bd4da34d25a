use Rattle.std.proofs.Common.{◌≡◌, ◌⊎◌, ◌≤◌, inr, [], refl, sym, ap, ◌∙◌, subst, arith}
use Rattle.host.specs.Hearing.{VotesOn, at_once, further}
use Rattle.host.specs.Views.{HostView}
use Rattle.host.proofs.host.Host.vote_on.Goals as goal

pub loop-init : goal.loop-init
loop-init g c = record {
  voted = at_once;
  often = let e = ap (λ (h : HostView _ _). h.voted) c.self.view_is in omega (arith, e);
  base = refl;
}

pub loop-preserved : goal.loop-preserved
loop-preserved g c =
    let v = c.in_ok-vote_next.ensures.yes c.if-not-branch.false in
    record {
      voted = further c.vote_next.new.self c.vote_next.new.sent.items c.loop.invariant.voted v;
      often = let more = v.voted in let often = c.loop.invariant.often in omega (arith, more, often);
      base = c.vote_next.ensures.keeps ∙ c.loop.invariant.base;
    }

pub returns-in_err-vote_next-clause-votes : goal.returns-in_err-vote_next-clause-votes
returns-in_err-vote_next-clause-votes g c =
    let e = c.in_err-vote_next.ensures.err in
    subst (λ (h : HostView _ _). VotesOn c.args.upto c.args.self.now c.args.sent.now.items h c.vote_next.new.sent.items)
    (sym e.0)
    (subst (λ ls. VotesOn c.args.upto c.args.self.now c.args.sent.now.items c.loop.self ls) (sym e.1)
    c.loop.invariant.voted)

pub returns-in_err-vote_next-clause-keeps : goal.returns-in_err-vote_next-clause-keeps
returns-in_err-vote_next-clause-keeps g c = c.vote_next.ensures.keeps ∙ c.loop.invariant.base

pub returns-then-not-branch-clause-votes : goal.returns-then-not-branch-clause-votes
returns-then-not-branch-clause-votes g c =
    let no = c.in_ok-vote_next.ensures.no c.if-not-branch.true in
    subst (λ (h : HostView _ _). VotesOn c.args.upto c.args.self.now c.args.sent.now.items h c.vote_next.new.sent.items)
    (sym no.1)
    (subst (λ ls. VotesOn c.args.upto c.args.self.now c.args.sent.now.items c.loop.self ls) (sym no.2)
    c.loop.invariant.voted)

pub returns-then-not-branch-clause-all : goal.returns-then-not-branch-clause-all
returns-then-not-branch-clause-all g c =
    let no = c.in_ok-vote_next.ensures.no c.if-not-branch.true in
    subst (λ (h : HostView _ _). (h.aside ≡ []) ⊎ (c.args.upto ≤ h.voted)) (sym no.1) no.0

pub returns-then-not-branch-clause-keeps : goal.returns-then-not-branch-clause-keeps
returns-then-not-branch-clause-keeps g c = c.vote_next.ensures.keeps ∙ c.loop.invariant.base

pub returns-clause-votes : goal.returns-clause-votes
returns-clause-votes g c = c.loop.invariant.voted

pub returns-clause-all : goal.returns-clause-all
returns-clause-all g c =
    let end = c.loop-test.false in let often = c.loop.invariant.often in inr (omega (arith, end, often))

pub returns-clause-keeps : goal.returns-clause-keeps
returns-clause-keeps g c = c.loop.invariant.base
