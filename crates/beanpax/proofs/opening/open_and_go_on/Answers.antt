use Rattle.std.proofs.lemmas.Result.{IfOk-weaker}
use Rattle.beanpax.proofs.Starts.{cut_more, more_told}
use Rattle.beanpax.proofs.opening.open_and_go_on.Goals as goal

pub returns-clause-more : goal.returns-clause-more
returns-clause-more g c = more_told g.E.ByteOut c.args.errors.now c.open_file.new.errors c.go_on.new.errors
    (cut_more g.E.ByteOut c.args.errors.now c.open_file.new.errors c.in_ok-opened.opened.cut c.in_ok-opened.ensures.cut)
    c.go_on.ensures.more

pub returns-clause-led : goal.returns-clause-led
returns-clause-led g c = IfOk-weaker c.go_on.result _ _ (λ from led. (c.in_ok-opened.opened, led)) c.go_on.ensures.led
