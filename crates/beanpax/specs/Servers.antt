-- What a server writes.
use Rattle.std.specs.Prelude.{ℕ, List, ◌++◌, Result, OnOk, codes}
use Rattle.std.specs.Fmt.{decimal}
use Rattle.std.specs.Io.KnownBytes.{Appends}
use Rattle.session.specs.declared.streams.ByteOut.{Ghosts as ByteOut}
use Rattle.std.specs.declared.net.ip_addr.IpAddr.{IpAddr}
use Rattle.std.specs.declared.net.ip_addr.IpAddr.TheVariants.{V4, V6}
use Rattle.std.specs.Net.Addr.{ipv4_octets, ipv6_segments}
use Rattle.std.specs.Net.Text.{ipv4_text, ipv6_text}
use Rattle.session.specs.Streams.{AppendsBeginning}
use Rattle.beanpax.specs.declared.faults.ProgramFault.{ProgramFault}

-- an address with a port: one of IPv6 stands in brackets before the port (RFC 3986, 3.2.2)
unfoldable pub address_text : IpAddr → ℕ → List ℕ
address_text (V4 ip) port = ipv4_text (ipv4_octets ip) ++ codes ":" ++ decimal port
address_text (V6 ip) port = codes "[" ++ ipv6_text (ipv6_segments ip) ++ codes "]:" ++ decimal port

-- the line by which it tells that it listens
unfoldable pub listening_line : IpAddr → ℕ → List ℕ
listening_line host port = codes "listening on " ++ address_text host port ++ codes "\n"

-- the line by which it tells how many bytes were cut off behind its log
unfoldable pub cut_line : ℕ → List ℕ
cut_line bytes = codes "beanpax: " ++ (decimal bytes ++ codes " bytes behind the log were cut off\n")

-- Of all that is written, the line of the port is told at most: where it succeeded all of it, and else a beginning, or nothing.
pub record TellsPort {W X : Type 0} (writes : ByteOut W) (old new : W) (host : IpAddr) (port : ℕ) (result : Result X ProgramFault) : Type 0 where
  pub told : OnOk result (Appends (writes.contents old) (writes.contents new) (listening_line host port))
  pub begins : AppendsBeginning (writes.contents old) (writes.contents new) (listening_line host port)
