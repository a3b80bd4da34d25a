-- A hall leads on where nothing is done, and from one call to the next.
use Rattle.std.proofs.Common.{◌≡◌, ℕ, List, [], ◌∷◌, ◌++◌, length, refl, sym, ap, ◌∙◌, subst, arith, append-nil}
use Rattle.std.specs.FinMap.{get}
use Rattle.std.proofs.lemmas.List.{append_assoc}
use Rattle.object.specs.Objects.{Rules}
use Rattle.ballot.specs.Slots.{Slots}
use Rattle.agreement.specs.Runs.{Leads, at_once, after}
use Rattle.agreement.specs.Worlds.{World}
use Rattle.agreement.specs.declared.event.Event.{Event}
use Rattle.client_table.specs.Clients.{number_of_last}
use Rattle.client_table.specs.declared.client.Client.{Client}
use Rattle.forgetting_hall.specs.Halls.{ForgettingState, rest_of_hall}
use Rattle.forgetting_hall.specs.Handing.{last_of_client, second_of}
use Rattle.forgetting_hall.specs.Leading.{LeadsOn, TurnsOn}
use Rattle.forgetting_hall.specs.Rests.{HallRest, ShowsWorld}

-- events that follow others
pub follow_on : {O Op Reply : Type 0} (rules : Rules O Op Reply) (w v u : World Op Reply) (es fs : List (Event Op))
    → Leads rules w es v → Leads rules v fs u → Leads rules w (es ++ fs) u
follow_on {Op = Op} rules w v u es fs first at_once = subst (λ (ds : List (Event Op)). Leads rules w ds u) (sym (append-nil es)) first
follow_on {Op = Op} rules w v u es fs first (after {es = ds} {v = t} e x more step) =
    subst (λ (ds : List (Event Op)). Leads rules w ds u) (append_assoc es ds (e ∷ []))
    (after e u (follow_on rules w v t es ds first more) step)

-- the greatest second, by what is kept of the clients
abbrev pub second_in : {Op Reply : Type 0} → Slots (Client Op Reply) → ℕ
second_in clients = number_of_last (last_of_client (get clients 0))

module _ {O Op Reply : Type 0} (rules : Rules O Op Reply) where
  -- a state that keeps the same
  pub leads_same : (h z : ForgettingState Op O Reply) → rest_of_hall rules z ≡ rest_of_hall rules h → LeadsOn rules h z
  leads_same h z same = record {
    worlds = λ w i s. ([], w, at_once, i, subst (λ q. ShowsWorld rules q w) (sym same) s);
    members = ap (λ (q : HallRest Op O Reply). q.network.members) same;
    opened = let e : z.opened ≡ h.opened = ap (λ (q : HallRest Op O Reply). q.opened) same in omega (arith, e);
    second = let e : second_of z ≡ second_of h = ap (λ (q : HallRest Op O Reply). second_in q.summary.clients) same in omega (arith, e);
  }

  pub leads_stay : (h z : ForgettingState Op O Reply) → z ≡ h → LeadsOn rules h z
  leads_stay h z same = leads_same h z (ap (rest_of_hall rules) same)

  pub leads_trans : (a b c : ForgettingState Op O Reply) → LeadsOn rules a b → LeadsOn rules b c → LeadsOn rules a c
  leads_trans a b c first then = record {
    worlds = λ w i s.
        let f = first.worlds w i s in
        let t = then.worlds f.1 f.3 f.4 in
        (f.0 ++ t.0, t.1, follow_on rules w f.1 t.1 f.0 t.0 f.2 t.2, t.3, t.4);
    members = then.members ∙ first.members;
    opened = let low = first.opened in let high = then.opened in omega (arith, low, high);
    second = let low = first.second in let high = then.second in omega (arith, low, high);
  }

  pub turns_stay : (h : ForgettingState Op O Reply) → TurnsOn rules h h
  turns_stay h = record { tells = λ members told has. has; leads = leads_stay h h refl }

  pub turns_further : (a b c : ForgettingState Op O Reply) → TurnsOn rules a b → TurnsOn rules b c → TurnsOn rules a c
  turns_further a b c first then = record {
    tells = λ members told has. then.tells members told (first.tells members told has);
    leads = leads_trans a b c first.leads then.leads;
  }

  pub turns_as_many : (a b : ForgettingState Op O Reply) → TurnsOn rules a b → length b.network.members ≡ length a.network.members
  turns_as_many a b on = ap length on.leads.members
