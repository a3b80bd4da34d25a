use Rattle.std.proofs.Common.{List, ℕ, Option, None, Some, IfSome, IsNone, refl, subst}
use Rattle.std.specs.declared.net.ip_addr.IpAddr.{IpAddr}
use Rattle.options.specs.Hosts.{IsHostOf, Names}
use Rattle.options.proofs.words.host_of.Goals as goal

-- what is found in a given text is the host
found : (text : List ℕ) (host : Option IpAddr) → IfSome host (Names text) → (IsNone host → (other : IpAddr) → ¬ (Names text other))
    → IsHostOf (Some text) host
found text None some none = none refl
found text (Some host) some none = some

pub returns-in-Some : goal.returns-in-Some
returns-in-Some c =
    subst (λ w. IsHostOf w c.host_in.result) c.in-Some.ensures
    (found c.in-Some.text.now c.host_in.result c.host_in.ensures.some c.host_in.ensures.none)
