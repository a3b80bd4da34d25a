use Rattle.std.proofs.Common.{drop, ap, refl, ◌∙◌, arith, ◌≡◌, suc, ◌+◌}
use Rattle.std.proofs.lemmas.List.{drop_all}
use Rattle.network.proofs.Posts.{drop_one_more}
use Rattle.network.proofs.sorting.sort_each.Goals as goal

pub loop-init : goal.loop-init
loop-init g c = record { same = refl; size = refl; post = c.requires; left = refl }

pub sort_first-requires : goal.sort_first-requires
sort_first-requires g c = c.loop.invariant.post

pub returns-in_err-sort_first-clause-same : goal.returns-in_err-sort_first-clause-same
returns-in_err-sort_first-clause-same g c = c.sort_first.ensures.same ∙ c.loop.invariant.same

pub loop-preserved : goal.loop-preserved
loop-preserved g c = record {
  same = c.sort_first.ensures.same ∙ c.loop.invariant.same;
  size = c.sort_first.ensures.size ∙ c.loop.invariant.size;
  post = c.sort_first.ensures.post;
  left =
      let more : suc c.loop.counter ≡ c.loop.counter + 1 = omega arith in
      c.in_ok-sort_first.ensures.ok ∙ ap
      (drop 1) c.loop.invariant.left ∙ drop_one_more c.loop.counter c.args.letters.now.items ∙ ap
      (λ n. drop n c.args.letters.now.items) more;
}

pub returns-clause-same : goal.returns-clause-same
returns-clause-same g c = c.loop.invariant.same

pub returns-clause-post : goal.returns-clause-post
returns-clause-post g c = c.loop.invariant.post

pub returns-clause-ok : goal.returns-clause-ok
returns-clause-ok g c = c.loop.invariant.left ∙ drop_all c.loop.counter c.args.letters.now.items
    (omega (arith, c.loop-test.false, c.len-end.ensures, c.args.letters.now.ok.0))
