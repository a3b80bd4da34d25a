-- The addresses at which a server listens.
use Rattle.std.specs.Prelude.{◌≡◌, ◌⊎◌, ◌++◌, ℕ, List, [], ◌∷◌, Option, None, Some, codes}
use Rattle.std.specs.declared.net.ipv4_addr.Ipv4Addr.{Ipv4Addr}
use Rattle.std.specs.declared.net.ipv6_addr.Ipv6Addr.{Ipv6Addr}
use Rattle.std.specs.declared.net.ip_addr.IpAddr.{IpAddr}
use Rattle.std.specs.declared.net.ip_addr.IpAddr.TheVariants.{V4, V6}
use Rattle.std.specs.Net.Addr.{IsLoopbackV4, IsLoopbackV6, MatchIp, ipv4_octets}
use Rattle.std.specs.Net.Grammar.{IsIpText, IsIpv6Text}

-- 127.0.0.1
abbrev pub IsLocalhost : IpAddr → Type 0
IsLocalhost host = (ip : Ipv4Addr) × (ipv4_octets ip ≡ 127 ∷ 0 ∷ 0 ∷ 1 ∷ []) × (host ≡ V4 ip)

-- the text is an IPv6 address in brackets (RFC 3986, 3.2.2)
abbrev pub IsInBrackets : List ℕ → IpAddr → Type 0
IsInBrackets text host =
    (inner : List ℕ) × (ip : Ipv6Addr) × (text ≡ codes "[" ++ inner ++ codes "]")
    × IsIpv6Text inner ip × (host ≡ V6 ip)

-- the text names the address: it writes it, is `localhost`, or is an IPv6 address in brackets
abbrev pub Names : List ℕ → IpAddr → Type 0
Names text host =
    IsIpText text host ⊎ ((text ≡ codes "localhost") × IsLocalhost host) ⊎ IsInBrackets text host

-- the address that the text of the option names, or none where it names none; without the option 127.0.0.1
abbrev pub IsHostOf : Option (List ℕ) → Option IpAddr → Type 0
IsHostOf None None = ⊥
IsHostOf None (Some host) = IsLocalhost host
IsHostOf (Some text) (Some host) = Names text host
IsHostOf (Some text) None = (host : IpAddr) → ¬ (Names text host)

-- clients of the same machine alone come in there (RFC 1122, 3.2.1.3; RFC 4291, 2.5.3)
abbrev pub IsLoopback : IpAddr → Type 0
IsLoopback host = MatchIp host IsLoopbackV4 IsLoopbackV6
