-- A host does what its filter lets through as its node does it.
use Rattle.std.proofs.Common.{◌≡◌, ◌+◌, ℕ, true, cond, refl, sym, ap, ◌∙◌, subst}
use Rattle.object.specs.Objects.{Rules}
use Rattle.object.specs.OnceOnly.{Filtered}
use Rattle.node.specs.Holding.{Holding, HeldTurn, own_turn_held}
use Rattle.node.specs.declared.deed.Deed.{Deed}
use Rattle.cluster.specs.Hosts.{HostState, host_turn}
use Rattle.host.specs.Counting.{deed_events}
use Rattle.host.specs.Deeds.{deed_of, is_let_through}
use Rattle.host.specs.Views.{HostView, acted_view}
use Rattle.host.specs.declared.host_deed.HostDeed.{HostDeed}
use Rattle.host.specs.declared.host_deed.HostDeed.TheVariants.{Request, Wake, Nudge, Propose, Perform}

-- it is the turn of its node, and an event
pub turn_of : {O Op Reply : Type 0} (rules : Rules O Op Reply) (s : HostState Op O) (d : HostDeed Op)
    → is_let_through s.holding.object (deed_of d) ≡ true
    → host_turn rules s (deed_of d) ≡ own_turn_held rules s.holding (deed_of d)
turn_of rules s (Request c) e = ap (λ b. cond b (own_turn_held rules s.holding (deed_of (Request c)))
    (record { state = s.holding; sent = Rattle.std.proofs.Common.[]; answers = Rattle.std.proofs.Common.[] })) e
turn_of rules s Wake e = refl
turn_of rules s Nudge e = refl
turn_of rules s Propose e = refl
turn_of rules s Perform e = refl

pub events_of : {Op O : Type 0} (f : Filtered O) (d : Deed Op) → is_let_through f d ≡ true → deed_events f d ≡ 1
events_of f d e = ap (λ b. cond b 1 0) e

-- what it becomes
pub view_of : {O Op Reply : Type 0} (rules : Rules O Op Reply) (h : HostView Op O) (d : HostDeed Op) (done : Deed Op)
    (new : Holding Op O) (events : ℕ)
    → is_let_through h.shown.holding.object (deed_of d) ≡ true → done ≡ deed_of d
    → new ≡ (own_turn_held rules h.shown.holding done).state → events ≡ h.taken + 1
    → record h { shown = record { base = h.shown.base; holding = new }; taken = events } ≡ acted_view rules h (deed_of d)
view_of {O} {Op} {Reply} rules h d done new events e same is count =
    ap (λ x. record h { shown = record { base = h.shown.base; holding = x }; taken = events })
    (is ∙ ap (λ x. (own_turn_held rules h.shown.holding x).state) same
    ∙ ap (λ (t : HeldTurn Op O Reply). t.state) (sym (turn_of rules h.shown d e)))
    ∙ ap (λ n. record (acted_view rules h (deed_of d)) { taken = n })
    (count ∙ ap (λ n. h.taken + n) (sym (events_of h.shown.holding.object (deed_of d) e)))
