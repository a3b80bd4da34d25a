use Rattle.std.proofs.Common.{◌++◌, ◌∷◌, [], None, sym, ap, ◌∙◌, subst}
use Rattle.std.specs.Prelude.{is_some}
use Rattle.std.proofs.lemmas.Option.{none-some}
use Rattle.network.specs.Posting.{IsAmong}
use Rattle.network.proofs.OnWay.{read_same, front_was, repeated_was, more_post}
use Rattle.network.proofs.post.repeat.Goals as goal

pub returns-in_default-clause-came : goal.returns-in_default-clause-came
returns-in_default-clause-came g c =
    let among = subst (λ z. IsAmong z c.args.id) (sym c.sort.ensures.size) c.requires.among in
    ap is_some (sym (front_was _ c.from-place.ensures among c.index.result.now c.index.ensures
    c.sort.new.fresh.items c.in_ok-sort.ensures.ok _ c.sort.ensures.same None (sym c.in_ok-letter.ensures ∙ c.in_default.is)))

pub returns-in_default-clause-ok : goal.returns-in_default-clause-ok
returns-in_default-clause-ok g c =
    let among = subst (λ z. IsAmong z c.args.id) (sym c.sort.ensures.size) c.requires.among in
    λ l e. absurd (none-some l (sym (front_was _ c.from-place.ensures among c.index.result.now c.index.ensures
    c.sort.new.fresh.items c.in_ok-sort.ensures.ok _ c.sort.ensures.same None (sym c.in_ok-letter.ensures ∙ c.in_default.is)) ∙ e))

pub returns-clause-ok : goal.returns-clause-ok
returns-clause-ok g c =
    let among = subst (λ z. IsAmong z c.args.id) (sym c.sort.ensures.size) c.requires.among in
    repeated_was _ c.from-place.ensures among c.index.result.now c.index.ensures
    c.sort.new.fresh.items c.in_ok-sort.ensures.ok _ c.sort.ensures.same c.in-Some.letter (sym c.in_ok-letter.ensures ∙ c.in-Some.is)
    c.push.new.self (c.in_ok-push.ensures.ok.0 ∙ ap (λ z. z ++ (c.in-Some.letter ∷ []))
    (read_same _ c.from-place.ensures among c.index.result.now c.index.ensures c.index_mut.result.now c.index_mut.ensures.value))

pub returns-clause-post : goal.returns-clause-post
returns-clause-post g c =
    let among = subst (λ z. IsAmong z c.args.id) (sym c.sort.ensures.size) c.requires.among in
    more_post _ c.from-place.ensures among c.index.result.now c.index.ensures
    c.sort.new.fresh.items c.sort.ensures.post c.in-Some.letter (sym c.in_ok-letter.ensures ∙ c.in-Some.is)
    c.push.new.self (c.in_ok-push.ensures.ok.0 ∙ ap (λ z. z ++ (c.in-Some.letter ∷ []))
    (read_same _ c.from-place.ensures among c.index.result.now c.index.ensures c.index_mut.result.now c.index_mut.ensures.value))
