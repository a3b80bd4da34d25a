-- A node is told decisions and performs them, until it has come to a slot.
use Rattle.agreement.proofs.books.SlotBooksEvery.{books}
use Rattle.std.specs.Option.{option_to_list}
use Rattle.std.specs.List.{range_with_len}
use Rattle.std.proofs.Common.{inl, inr, append_assoc, ◌-◌, ◌≡◌, ◌≢◌, ℕ, ◌+◌, ◌*◌, ◌<◌, ◌≤◌, Bool, true}
use Rattle.std.proofs.Common.{false, cond, List, [], ◌∷◌, ◌++◌, length}
use Rattle.std.proofs.Common.{Some, None, Option, refl, sym, ap, ◌∙◌, subst, append-nil, arith}
use Rattle.std.specs.Prelude.{slice_get, nat_le, flat_map}
use Rattle.std.specs.FinMap.{get, insert, get-insert}
use Rattle.std.specs.Ordering.{nat_cmp, eq_by_cmp}
use Rattle.std.specs.Cmp.{nat_cmp_total}
use Rattle.std.proofs.lemmas.Bool.Decides.{nat_tests}
use Rattle.object.specs.Lists.{In}
use Rattle.object.specs.ListLaws.{Each, Each-append}
use Rattle.object.specs.Objects.{Rules, is_one}
use Rattle.object.specs.declared.command.Command.{Command}
use Rattle.ballot.specs.Members.{is_member}
use Rattle.ballot.specs.OrderLaws.{BallotLaws}
use Rattle.ballot.specs.Rests.{kept_from}
use Rattle.ballot.specs.Slots.{Slots}
use Rattle.ballot.specs.declared.letter.Letter.{Letter}
use Rattle.ballot.specs.declared.letter.LetterBody.TheVariants.{Decision}
use Rattle.ballot.proofs.Rests.{get_above, get_high}
use Rattle.ballot.proofs.SlotMaps.{same_slots, same_key}
use Rattle.slot_log.specs.Advances.{advanced, lost}
use Rattle.slot_log.specs.CatchingUp.{proposed_upto}
use Rattle.slot_log.specs.Decisions.{learnt, next_decided}
use Rattle.slot_log.proofs.CatchingUp.{remove_kept, proposed_more}
use Rattle.node.specs.Nodes.{NodeState}
use Rattle.node.specs.Receiving.{Receives, learns}
use Rattle.node.specs.SlotLaws.{get_insert_same}
use Rattle.agreement.specs.Nodes.{node, turned}
use Rattle.agreement.specs.Runs.{most_events, Leads, at_once, after, IsWorld}
use Rattle.agreement.specs.Steps.{Step, deliver, perform, counted, with_cluster, after_performing}
use Rattle.agreement.specs.Worlds.{World}
use Rattle.agreement.specs.declared.event.Event.{Event}
use Rattle.agreement.specs.declared.event.Event.TheVariants.{Deliver, Perform}
use Rattle.agreement.proofs.chosen.Invariants.{IsSound}
use Rattle.agreement.proofs.chosen.Reach.{reachable_sound}
use Rattle.agreement.proofs.chosen.Turns as turns
use Rattle.agreement.proofs.every.Every.{goes_on}
use Rattle.forgetting.proofs.Bases.{above_twice}
use Rattle.cluster.specs.CatchingUp.{IsCatchingUp}
use Rattle.cluster.specs.Snapshots.{IsDecidedToAll, AreToldFrom}
use Rattle.cluster.proofs.alone.Acting.{number_in}

-- a map by slot, where what changed is below the base
module _ {X : Type 0} where
  insert_below : (base : ℕ) (m : Slots X) (s : ℕ) (v : X) → s < base → kept_from base (insert m s v) ≡ kept_from base m
  insert_below base m s v low = same_slots _ _ (λ q.
      get_above base (insert m s v) q
      ∙ ap (λ o. cond (nat_le base q) o None) (get-insert nat_cmp_total m s v q)
      ∙ by_tests q (eq_by_cmp nat_cmp q s) (nat_le base q) refl refl
      ∙ sym (get_above base m q))
    where
      apart : (q : ℕ) → q ≡ s → nat_le base q ≡ false
      apart q e = grind (arith, nat_tests)

      by_tests : (q : ℕ) (same high : Bool) → eq_by_cmp nat_cmp q s ≡ same → nat_le base q ≡ high
          → cond (nat_le base q) (cond (eq_by_cmp nat_cmp q s) (Some v) (get m q)) None ≡ cond (nat_le base q)
          (get m q) None
      by_tests q true high e f =
          let low_q = apart q (same_key s q e) in
          ap (λ b. cond b (cond (eq_by_cmp nat_cmp q s) (Some v) (get m q)) None) low_q
          ∙ sym (ap (λ b. cond b (get m q) None) low_q)
      by_tests q false high e f = ap (λ b. cond (nat_le base q) (cond b (Some v) (get m q)) None) e

  all_kept : (base : ℕ) (m : Slots X) → ((s : ℕ) (v : X) → get m s ≡ Some v → base ≤ s) → kept_from base m ≡ m
  all_kept base m high = same_slots _ _ (λ q. get_above base m q ∙ by_value q (get m q) refl)
    where
      none_kept : (b : Bool) → cond {A = Option X} b None None ≡ None
      none_kept true = refl
      none_kept false = refl

      le_true : (a b : ℕ) → a ≤ b → nat_le a b ≡ true
      le_true a b h = grind (arith, nat_tests)

      by_value : (q : ℕ) (o : Option X) → get m q ≡ o → cond (nat_le base q) o None ≡ o
      by_value q None e = none_kept (nat_le base q)
      by_value q (Some v) e = let h = high q v e in ap (λ b. cond b (Some v) None) (le_true base q h)

module _ (laws : BallotLaws) {O Op Reply : Type 0} (rules : Rules O Op Reply) (n : ℕ) (w : World Op Reply) where
  abbrev x₀ : NodeState (Command Op)
  x₀ = node w.cluster n

  -- the node as it was, but at this slot, and with these decisions
  abbrev pub at_slot : ℕ → Slots (Command Op) → NodeState (Command Op)
  at_slot slot decisions = record x₀ {
    replica = record x₀.replica {
      slot_out = slot;
      requests = x₀.replica.requests ++ proposed_upto slot x₀.replica;
      proposals = kept_from slot x₀.replica.proposals;
      decisions = decisions;
    };
  }

  -- it has come to this slot
  pub record HasCome (slot : ℕ) (v : World Op Reply) : Type 0 where
    pub events : List (Event Op)
    pub leads : Leads rules w events v
    pub each : Each (IsCatchingUp n w.cluster) events
    pub is : IsWorld rules v
    pub members : v.cluster.members ≡ w.cluster.members
    pub letters : v.cluster.letters ≡ w.cluster.letters
    pub others : (m : ℕ) → m ≢ n → node v.cluster m ≡ node w.cluster m
    pub decisions : Slots (Command Op)
    pub here : node v.cluster n ≡ at_slot slot decisions
    pub above : kept_from slot decisions ≡ kept_from slot x₀.replica.decisions
    pub reach : v.reach ≡ w.reach
    pub submitted : v.happenings.submitted ≡ w.happenings.submitted
    pub from_out : x₀.replica.slot_out ≤ slot
    pub taken : v.taken + 2 * x₀.replica.slot_out ≡ w.taken + 2 * slot

  at_first : IsWorld rules w → x₀ ≡ at_slot x₀.replica.slot_out x₀.replica.decisions
  at_first i =
      let nothing : x₀.replica.slot_out - x₀.replica.slot_out ≡ 0 = omega arith in
      let requests = sym (ap (λ l. x₀.replica.requests ++ flat_map (λ s. option_to_list (get x₀.replica.proposals s))
      (range_with_len x₀.replica.slot_out l)) nothing
      ∙ append-nil x₀.replica.requests) in
      let proposals = all_kept x₀.replica.slot_out x₀.replica.proposals
      (λ s c e. ((books laws rules w i n).near s c e).low) in
      λ j. record x₀ { replica = record x₀.replica { requests = requests j; proposals = sym proposals j } }

  pub has_come : IsWorld rules w → HasCome x₀.replica.slot_out w
  has_come i = record {
    events = [];
    leads = at_once;
    each = tt;
    is = i;
    members = refl;
    letters = refl;
    others = λ m apart. refl;
    decisions = x₀.replica.decisions;
    here = at_first i;
    above = refl;
    reach = refl;
    submitted = refl;
    from_out = omega arith;
    taken = refl;
  }

  module _ (member : is_member w.cluster.members n ≡ true) (slot : ℕ) (v : World Op Reply) (come : HasCome slot v)
      (c : Command Op)
      (told : IsDecidedToAll w.cluster slot c) (other : (p : Command Op) → get x₀.replica.proposals slot ≡ Some p
      → is_one rules p c ≡ false) (low : slot ≤ w.reach)
      (room : v.taken + 2 ≤ most_events) where
    abbrev d : Slots (Command Op)
    d = insert come.decisions slot c

    -- the node once it is told
    abbrev x₁ : NodeState (Command Op)
    x₁ = at_slot slot d

    abbrev y₁ : NodeState (Command Op)
    y₁ = record (node v.cluster n) { replica = learnt (node v.cluster n).replica slot c }

    there : is_member v.cluster.members n ≡ true
    there = ap (λ ms. is_member ms n) come.members ∙ member

    sound : IsSound v.cluster
    sound = reachable_sound laws rules v come.is.reachable

    letter_is : (l : Letter (Command Op)) × In l w.cluster.letters × (l.to ≡ n) × (l.body ≡ Decision slot c)
    letter_is = told n member

    place : (i : ℕ) × (slice_get v.cluster.letters i ≡ Some letter_is.0)
    place = number_in letter_is.0 v.cluster.letters (subst (In letter_is.0) (sym come.letters) letter_is.1)

    abbrev u : World Op Reply
    u = counted (with_cluster v (turned v.cluster n y₁ []))

    tells : Step rules v (Deliver place.0) u
    tells =
        let l = letter_is.0 in
        subst (λ j. Step rules v (Deliver place.0) (counted (with_cluster v (turned v.cluster j y₁ [])))) letter_is.2
        (deliver place.0 l y₁ [] place.1
        (subst (λ b. Receives v.cluster.members l.«from» l.to (node v.cluster l.to) b y₁ []) (sym letter_is.3)
        (subst (λ j. Receives v.cluster.members l.«from» j (node v.cluster j) (Decision slot c) y₁ []) (sym letter_is.2)
        (learns slot c))))

    u_world : IsWorld rules u
    u_world = goes_on laws rules v u (Deliver place.0) come.is tells (omega (arith, room))

    u_sound : IsSound u.cluster
    u_sound = reachable_sound laws rules u u_world.reachable

    y₁_is : y₁ ≡ x₁
    y₁_is = ap (λ (y : NodeState (Command Op)). record y { replica = learnt y.replica slot c }) come.here

    u_here : node u.cluster n ≡ x₁
    u_here = turns.here laws v.cluster sound n there y₁ [] ∙ y₁_is

    decided : next_decided x₁.replica ≡ Some c
    decided = get_insert_same come.decisions slot c

    abbrev z : World Op Reply
    z = counted (after_performing rules u n x₁.replica (Some c))

    performs : Step rules u (Perform n) z
    performs =
        subst (λ o. Step rules u (Perform n) (counted (after_performing rules u n x₁.replica o))) decided
        (subst (λ (y : NodeState (Command Op)). Step rules u (Perform n)
        (counted (after_performing rules u n y.replica (next_decided y.replica)))) u_here
        (perform n there))

    z_world : IsWorld rules z
    z_world = goes_on laws rules u z (Perform n) u_world performs (omega (arith, room))

    lost_is : (o : Option (Command Op)) → ((p : Command Op) → o ≡ Some p → is_one rules p c ≡ false)
        → lost (is_one rules) o (Some c) ≡ option_to_list o
    lost_is None h = refl
    lost_is (Some p) h = ap (λ b. cond b [] (p ∷ [])) (h p refl)

    abbrev proposed_at : ℕ → List (Command Op)
    proposed_at s = option_to_list (get x₀.replica.proposals s)

    requests_then : (x₀.replica.requests ++ proposed_upto slot x₀.replica)
        ++ lost (is_one rules) (get (kept_from slot x₀.replica.proposals) slot) (next_decided x₁.replica)
        ≡ x₀.replica.requests ++ proposed_upto (slot + 1) x₀.replica
    requests_then =
        ap (λ o. (x₀.replica.requests ++ proposed_upto slot x₀.replica) ++ lost (is_one rules)
        (get (kept_from slot x₀.replica.proposals) slot) o) decided
        ∙ ap (λ o. (x₀.replica.requests ++ proposed_upto slot x₀.replica) ++ lost (is_one rules) o (Some c))
        (get_high slot x₀.replica.proposals slot (omega arith))
        ∙ ap (λ xs. (x₀.replica.requests ++ proposed_upto slot x₀.replica) ++ xs)
        (lost_is (get x₀.replica.proposals slot) other)
        ∙ append_assoc x₀.replica.requests (proposed_upto slot x₀.replica) (proposed_at slot)
        ∙ ap (λ xs. x₀.replica.requests ++ xs) (proposed_more x₀.replica slot come.from_out)

    then_is : record x₁ { replica = advanced (is_one rules) x₁.replica } ≡ at_slot (slot + 1) d
    then_is =
        let requests = requests_then in
        let proposals = remove_kept x₀.replica.proposals slot in
        λ i. record x₀ {
          replica = record x₀.replica {
            slot_out = slot + 1;
            requests = requests i;
            proposals = proposals i;
            decisions = d;
          };
        }

    z_here : node z.cluster n ≡ at_slot (slot + 1) d
    z_here =
        turns.here laws u.cluster u_sound n there (record
        (node u.cluster n) { replica = advanced (is_one rules) x₁.replica }) []
        ∙ ap (λ (y : NodeState (Command Op)). record y { replica = advanced (is_one rules) x₁.replica }) u_here
        ∙ then_is

    z_above : kept_from (slot + 1) d ≡ kept_from (slot + 1) x₀.replica.decisions
    z_above =
        insert_below (slot + 1) come.decisions slot c (omega arith)
        ∙ sym (above_twice slot (slot + 1) (omega arith) come.decisions)
        ∙ ap (kept_from (slot + 1)) come.above
        ∙ above_twice slot (slot + 1) (omega arith) x₀.replica.decisions

    z_others : (m : ℕ) → m ≢ n → node z.cluster m ≡ node w.cluster m
    z_others m apart =
        turns.there laws u.cluster u_sound n there
        (record (node u.cluster n) { replica = advanced (is_one rules) x₁.replica }) [] m apart
        ∙ turns.there laws v.cluster sound n there y₁ [] m apart
        ∙ come.others m apart

    pub comes_further : HasCome (slot + 1) z
    comes_further =
        let reach = come.reach in
        let taken = come.taken in
        record {
          events = (come.events ++ (Deliver place.0 ∷ [])) ++ (Perform n ∷ []);
          leads = after (Perform n) z (after (Deliver place.0) u come.leads tells) performs;
          each = Each-append (IsCatchingUp n w.cluster) (come.events ++ (Deliver place.0 ∷ [])) (Perform n ∷ [])
              (Each-append (IsCatchingUp n w.cluster) come.events (Deliver place.0 ∷ []) come.each (
                (
                  letter_is.0,
                  slot,
                  c,
                  subst (λ ls.
                      slice_get ls place.0 ≡ Some letter_is.0) come.letters place.1,
                  letter_is.2,
                  letter_is.3,
                ),
                tt,
              ))
              (refl, tt);
          is = z_world;
          members = come.members;
          letters = append-nil (v.cluster.letters ++ []) ∙ append-nil v.cluster.letters ∙ come.letters;
          others = z_others;
          decisions = d;
          here = z_here;
          above = z_above;
          reach = omega (arith, reach, low);
          submitted = come.submitted;
          from_out = let out = come.from_out in omega (arith, out);
          taken = omega (arith, taken);
        }

  -- as far as these were told
  pub comes_to : is_member w.cluster.members n ≡ true → (cs : List (Command Op)) (slot : ℕ) (v : World Op Reply)
      → HasCome slot v → AreToldFrom w.cluster slot cs
      → ((s : ℕ) (p c : Command Op) → get x₀.replica.proposals s ≡ Some p → s < slot + length cs → In c cs
      → is_one rules p c ≡ false)
      → slot + length cs ≤ w.reach + 1 → v.taken + 2 * length cs ≤ most_events → (z : World Op Reply) × HasCome
      (slot + length cs) z
  comes_to member [] slot v come told apart low room = (v, subst (λ s. HasCome s v) (omega arith) come)
  comes_to member (c ∷ cs) slot v come told apart low room =
      let next : slot + 1 + length cs ≡ slot + length (c ∷ cs) = omega arith in
      let u = z member slot v come c told.0 (λ p e. apart slot p c e (omega arith) (inl refl)) (omega (arith, low))
      (omega (arith, room)) in
      let more = comes_further member slot v come c told.0 (λ p e. apart slot p c e (omega arith) (inl refl))
      (omega (arith, low)) (omega (arith, room)) in
      let r = comes_to member cs (slot + 1) u more told.1
      (λ s p b e h i. apart s p b e (omega (arith, h, next)) (inr i)) (omega (arith, low, next))
      (omega (arith, room)) in
      (r.0, subst (λ s. HasCome s r.0) next r.1)
