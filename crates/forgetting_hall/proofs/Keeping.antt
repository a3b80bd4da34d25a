-- The hall shows a world after each of its calls: one that it showed before, or what the event makes of it.
use Rattle.std.proofs.Common.{◌≡◌, ◌<◌, ℕ, false, zero, suc, List, [], ◌∷◌, map, length, Option, Some, None, refl, sym, subst, ◌∙◌}
use Rattle.std.specs.Prelude.{slice_index_or}
use Rattle.std.specs.FinMap.{insert, remove}
use Rattle.std.proofs.lemmas.List.{length-map}
use Rattle.object.specs.Objects.{Rules}
use Rattle.object.specs.declared.command.Command.{Command}
use Rattle.ballot.specs.Members.{numbers}
use Rattle.ballot.specs.declared.letter.Letter.{Letter}
use Rattle.node.specs.Holding.{Holding, new_object}
use Rattle.agreement.specs.Runs.{most_events, IsWorld}
use Rattle.agreement.specs.Steps.{Step}
use Rattle.agreement.specs.Worlds.{World, opening}
use Rattle.agreement.specs.declared.event.Event.{Event}
use Rattle.lean_network.specs.LeanNetworks.{LeanState, new_holding, new_lean, object_of, lean_mail_of, lean_without_front, lean_with_last}
use Rattle.lean_network.proofs.States.{states_opened}
use Rattle.network.specs.Networks.{front, mail_of}
use Rattle.client_table.specs.Clients.{Summary, blank_summary, new_client}
use Rattle.forgetting_hall.specs.Halls.{ForgettingState, IsForgettingHall, IsCounted, FollowsIn, ShowsStill, new_forgetting, rest_of_hall}
use Rattle.forgetting_hall.specs.Rests.{HallRest, ShowsWorld, new_rest, lost_rest, repeated_rest, opened_as, let_go_rest}
use Rattle.forgetting_hall.proofs.Counting.{counted_blank}

module _ {O Op Reply : Type 0} (rules : Rules O Op Reply) where
  -- each member has a node
  pub all_nodes : (h : ForgettingState Op O Reply) (w : World Op Reply) → ShowsWorld rules (rest_of_hall rules h) w
      → length h.network.nodes ≡ length h.network.members
  all_nodes h w s = sym (length-map h.network.nodes (λ x. x.state)) ∙ s.cluster.has_nodes

  -- where there was no event
  pub stays : (h z : ForgettingState Op O Reply) → IsForgettingHall rules h → ShowsStill rules h z → IsCounted z.summary z.opened z.taken →
      IsForgettingHall rules z
  stays h z is still counted = record { shown = (is.shown.0, is.shown.1, still is.shown.0 is.shown.1 is.shown.2); counted = counted }

  -- where there was one
  pub goes_on : ((w v : World Op Reply) (e : Event Op) → IsWorld rules w → Step rules w e v → w.taken < most_events → IsWorld rules v)
      → (h z : ForgettingState Op O Reply) (e : Event Op) → IsForgettingHall rules h → h.taken < most_events → FollowsIn rules h e z
      → IsCounted z.summary z.opened z.taken → IsForgettingHall rules z
  goes_on next h z e is room follows counted =
      let f = follows is.shown.0 is.shown.1 is.shown.2 in record {
        shown = (f.0, next is.shown.0 f.0 e is.shown.1 f.1 (subst (λ n. n < most_events) is.shown.2.taken room), f.2);
        counted = counted;
      }

  -- the objects of new nodes
  new_in : (members ns : List ℕ) (i : ℕ) (d : Holding Op O) → d.object ≡ new_object rules
      → (slice_index_or (map (new_holding rules members) ns) i d).object ≡ new_object rules
  new_in members [] i d e = e
  new_in members (n ∷ ns) zero d e = refl
  new_in members (n ∷ ns) (suc i) d e = new_in members ns i d e

  new_at : (members : List ℕ) (n : ℕ) → object_of rules (new_lean rules members) n ≡ new_object rules
  new_at members zero = refl
  new_at members (suc i) = new_in members (numbers members) i (new_holding rules members (suc i)) refl

  -- at first it shows the opening world
  pub opened_is : (members : List ℕ) → rest_of_hall rules (new_forgetting rules members) ≡ new_rest rules members
  opened_is members = λ i. record {
    network = states_opened rules members i;
    objects = λ n. new_at members n i;
    base = 0;
    summary = blank_summary;
    opened = 0;
    reach = 0;
    taken = 0;
  }

  pub begun : (members : List ℕ) (k : LeanState Op O) (t : Summary Op Reply) (cs : List (Command Op)) → k ≡ new_lean rules members → t ≡ blank_summary → cs ≡ []
      → new_forgetting rules members ≡ record {
        network = k;
        base = 0;
        summary = t;
        opened = 0;
        reach = 0;
        taken = 0;
        gathering = record { is_on = false; commands = cs };
      }
  begun members k t cs nodes clients none = λ i. record {
    network = sym nodes i;
    base = 0;
    summary = sym clients i;
    opened = 0;
    reach = 0;
    taken = 0;
    gathering = record { is_on = false; commands = sym none i };
  }

  pub opens : (members : List ℕ) → IsWorld rules (opening members) → ShowsWorld rules (new_rest rules members) (opening members)
      → IsForgettingHall rules (new_forgetting rules members)
  opens members world shows = record {
    shown = (opening members, world, subst (λ q. ShowsWorld rules q (opening members)) (sym (opened_is members)) shows);
    counted = counted_blank;
  }

module _ {O Op Reply : Type 0} (rules : Rules O Op Reply) (h : ForgettingState Op O Reply) where
  -- a letter is lost
  pub lost_still : ((q : HallRest Op O Reply) (w : World Op Reply) (n : ℕ) → IsWorld rules w → ShowsWorld rules q w → ShowsWorld rules (lost_rest q n) w)
      → (n : ℕ) (k : LeanState Op O) → k ≡ lean_without_front h.network n → ShowsStill rules h (record h { network = k })
  lost_still loses n k left w i s =
      subst (λ q. ShowsWorld rules (rest_of_hall rules (record h { network = q })) w) (sym left) (loses (rest_of_hall rules h) w n i s)

  -- or comes once more
  pub repeated_still : ((q : HallRest Op O Reply) (w : World Op Reply) (n : ℕ) (l : Letter (Command Op)) → IsWorld rules w → ShowsWorld rules q w
      → front (mail_of q.network n) ≡ Some l → ShowsWorld rules (repeated_rest q n l) w)
      → (n : ℕ) (k : LeanState Op O) → ((l : Letter (Command Op)) → front (lean_mail_of h.network n) ≡ Some l → k ≡ lean_with_last h.network n l)
      → (front (lean_mail_of h.network n) ≡ None → k ≡ h.network) → ShowsStill rules h (record h { network = k })
  repeated_still repeats n k again none w i s = at (front (lean_mail_of h.network n)) refl
    where
      at : (o : Option (Letter (Command Op))) → front (lean_mail_of h.network n) ≡ o → ShowsWorld rules (rest_of_hall rules (record h { network = k })) w
      at None e = subst (λ q. ShowsWorld rules (rest_of_hall rules (record h { network = q })) w) (sym (none e)) s
      at (Some l) e = subst (λ q. ShowsWorld rules (rest_of_hall rules (record h { network = q })) w) (sym (again l e))
          (repeats (rest_of_hall rules h) w n l i s e)

  -- a session is opened
  pub opened_still : ((q : HallRest Op O Reply) (w : World Op Reply) (session : ℕ) → IsWorld rules w → ShowsWorld rules q w → q.opened < session
      → ShowsWorld rules (opened_as q session) w)
      → (session : ℕ) → h.opened < session → (t : Summary Op Reply) → t ≡ record h.summary { clients = insert h.summary.clients session new_client }
      → ShowsStill rules h (record h { summary = t; opened = session })
  opened_still opens session above t is w i s =
      subst (λ q. ShowsWorld rules (rest_of_hall rules (record h { summary = q; opened = session })) w) (sym is)
      (opens (rest_of_hall rules h) w session i s above)

  -- and kept no more
  pub let_go_still : ((q : HallRest Op O Reply) (w : World Op Reply) (session : ℕ) → IsWorld rules w → ShowsWorld rules q w
      → ShowsWorld rules (let_go_rest q session) w)
      → (session : ℕ) (t : Summary Op Reply) → t ≡ record h.summary { clients = remove h.summary.clients session } →
      ShowsStill rules h (record h { summary = t })
  let_go_still lets_go session t is w i s =
      subst (λ q. ShowsWorld rules (rest_of_hall rules (record h { summary = q })) w) (sym is) (lets_go (rest_of_hall rules h) w session i s)
