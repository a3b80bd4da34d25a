use Rattle.std.proofs.Common.{◌≡◌, ◌+◌, ◌<◌, ◌≤◌, ap, sym, subst, ◌∙◌, arith, rules, length}
use Rattle.forgetting_hall.specs.Halls.{ForgettingState, IsLeastOut}
use Rattle.forgetting_hall.proofs.Least.{IsLeastTo, is_member_at, least_first, least_more, least_all}
use Rattle.forgetting_hall.proofs.forgetting_hall.ForgettingHall.least_out.Goals as goal

pub node-requires : goal.node-requires
node-requires g c =
    let size : c.count-count.result ≡ length c.self.inside.network.members = c.count-count.ensures.count ∙ ap length c.members.ensures in
    let some = c.count-count.ensures.some in
    is_member_at c.self.inside.network.members 1 (omega arith) (omega (arith, size, some))

pub loop-before-init : goal.loop-before-init
loop-before-init g c =
    let h : ForgettingState _ _ _ =
    record {
      network = c.self.inside.network;
      base = c.self.inside.base;
      summary = c.self.inside.clients;
      opened = c.self.inside.opened;
      reach = c.self.inside.reach;
      taken = c.self.inside.taken;
      gathering = record { is_on = c.self.inside.gathers; commands = c.self.inside.gathered.items };
    } in
    let size : c.count-count.result ≡ length c.self.inside.network.members = c.count-count.ensures.count ∙ ap length c.members.ensures in
    let some = c.count-count.ensures.some in
    subst (λ q. IsLeastTo g.O.Object.rules q 1 c.slot_out-least.result) c.self.view_is
    (least_first g.O.Object.rules h c.slot_out-least.result (is_member_at h.network.members 1 (omega arith) (omega (arith, size, some)))
    (c.slot_out-least.ensures.slot ∙ ap (λ b. b.slot_out) c.slots.ensures ∙ ap (λ x. x.state.replica.slot_out) c.node.ensures))

pub loop-before-preserved : goal.loop-before-preserved
loop-before-preserved g c =
    let h : ForgettingState _ _ _ =
    record {
      network = c.self.inside.network;
      base = c.self.inside.base;
      summary = c.self.inside.clients;
      opened = c.self.inside.opened;
      reach = c.self.inside.reach;
      taken = c.self.inside.taken;
      gathering = record { is_on = c.self.inside.gathers; commands = c.self.inside.gathered.items };
    } in
    let size : c.count-count.result ≡ length c.self.inside.network.members = c.count-count.ensures.count ∙ ap length c.members.ensures in
    let below : c.loop-before.before < c.count-count.result = search rules in
    subst (λ q. IsLeastTo g.O.Object.rules q (c.loop-before.before + 1) c.min-least.result) c.self.view_is
    (subst (IsLeastTo g.O.Object.rules h (c.loop-before.before + 1)) (sym c.min-least.ensures)
    (least_more g.O.Object.rules h c.loop-before.before c.loop-before.least c.slot_out.result
    (subst (λ q. IsLeastTo g.O.Object.rules q c.loop-before.before c.loop-before.least) (sym c.self.view_is) c.loop-before.invariant)
    (is_member_at h.network.members (c.loop-before.before + 1) (omega arith) (omega (arith, size, below)))
    (c.slot_out.ensures.slot ∙ ap (λ b. b.slot_out) c.slots-in-loop-before.ensures ∙ ap (λ x. x.state.replica.slot_out) c.node-in-loop-before.ensures)))

pub returns : goal.returns
returns g c =
    let h : ForgettingState _ _ _ =
    record {
      network = c.self.inside.network;
      base = c.self.inside.base;
      summary = c.self.inside.clients;
      opened = c.self.inside.opened;
      reach = c.self.inside.reach;
      taken = c.self.inside.taken;
      gathering = record { is_on = c.self.inside.gathers; commands = c.self.inside.gathered.items };
    } in
    let size : c.count-count.result ≡ length c.self.inside.network.members = c.count-count.ensures.count ∙ ap length c.members.ensures in
    let all : c.count-count.result ≤ c.loop-before.before = search rules in
    subst (λ q. IsLeastOut g.O.Object.rules q c.loop-before.least) c.self.view_is
    (least_all g.O.Object.rules h c.loop-before.before c.loop-before.least (omega (arith, size, all))
    (subst (λ q. IsLeastTo g.O.Object.rules q c.loop-before.before c.loop-before.least) (sym c.self.view_is) c.loop-before.invariant))
