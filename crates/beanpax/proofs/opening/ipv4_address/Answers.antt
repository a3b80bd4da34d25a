use Rattle.std.proofs.Common.{◌∙◌, sym, codes}
use Rattle.std.proofs.lemmas.List.{append_assoc}
use Rattle.std.proofs.lemmas.Result.{IfOk-weaker}
use Rattle.std.specs.Fmt.{decimal}
use Rattle.std.specs.Net.Addr.{ipv4_octets}
use Rattle.std.specs.Net.Text.{ipv4_text}
use Rattle.beanpax.specs.Servers.{address_text}
use Rattle.beanpax.proofs.opening.ipv4_address.Goals as goal

pub returns : goal.returns
unfolding address_text
returns c =
    IfOk-weaker c.format.result _ _ (λ address is. is ∙ sym (append_assoc (ipv4_text (ipv4_octets c.args.ip)) (codes ":") (decimal c.args.port)))
    c.format.ensures.ok
