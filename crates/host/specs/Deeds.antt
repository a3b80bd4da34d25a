-- What a host does by itself.
use Rattle.std.specs.Prelude.{Bool, true}
use Rattle.object.specs.OnceOnly.{Filtered, is_later}
use Rattle.node.specs.declared.deed.Deed.{Deed}
use Rattle.node.specs.declared.deed.Deed.TheVariants as deeds
use Rattle.host.specs.declared.host_deed.HostDeed.{HostDeed}
use Rattle.host.specs.declared.host_deed.HostDeed.TheVariants.{Request, Wake, Nudge, Propose, Perform}

-- the deed of its node
abbrev pub deed_of : {Op : Type 0} → HostDeed Op → Deed Op
deed_of (Request c) = deeds.Request c
deed_of Wake = deeds.Wake
deed_of Nudge = deeds.Nudge
deed_of Propose = deeds.Propose
deed_of Perform = deeds.Perform

-- the filter lets the command through that is asked for
abbrev pub is_let_through : {Op O : Type 0} → Filtered O → Deed Op → Bool
is_let_through f (deeds.Request c) = is_later c.key f.latest
is_let_through f deeds.Wake = true
is_let_through f deeds.Nudge = true
is_let_through f deeds.Propose = true
is_let_through f deeds.Perform = true
is_let_through f deeds.Restart = true
