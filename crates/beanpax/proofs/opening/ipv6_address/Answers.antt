use Rattle.std.proofs.Common.{◌∙◌, codes}
use Rattle.std.proofs.lemmas.Result.{IfOk-weaker}
use Rattle.std.specs.Fmt.{decimal}
use Rattle.std.specs.Net.Addr.{ipv6_segments}
use Rattle.std.specs.Net.Text.{ipv6_text}
use Rattle.beanpax.specs.Servers.{address_text}
use Rattle.beanpax.proofs.Lines.{regrouped}
use Rattle.beanpax.proofs.opening.ipv6_address.Goals as goal

pub returns : goal.returns
unfolding address_text
returns c =
    IfOk-weaker c.format.result _ _
    (λ address is. is ∙ regrouped (codes "[") (ipv6_text (ipv6_segments c.args.ip)) (codes "]:") (decimal c.args.port)) c.format.ensures.ok
