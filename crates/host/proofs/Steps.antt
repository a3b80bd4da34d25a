-- A host among the hosts of a cluster.
use Rattle.std.proofs.Common.{◌≡◌, ◌≢◌, ◌≤◌, ◌+◌, ℕ, Bool, true, false, cond, List, [], ◌++◌}
use Rattle.std.proofs.Common.{refl, sym, ap, ◌∙◌, subst, arith}
use Rattle.object.specs.ListLaws.{Each, Each-weaker, In-left}
use Rattle.object.specs.Lists.{In}
use Rattle.object.specs.Objects.{Rules}
use Rattle.object.specs.OnceOnly.{Filtered, is_later}
use Rattle.object.specs.declared.command.Command.{Command}
use Rattle.ballot.specs.Members.{is_member}
use Rattle.node.specs.Holding.{HeldTurn}
use Rattle.node.specs.declared.deed.Deed.{Deed}
use Rattle.node.specs.declared.deed.Deed.TheVariants as deeds
use Rattle.cluster.specs.Clusters.{Hosts, with_at, with_handed, labelled, host_acted}
use Rattle.cluster.specs.Envelopes.{Envelope}
use Rattle.cluster.specs.Hosts.{HostState, host_turn, with_holding, forgotten_host}
use Rattle.cluster.specs.Steps.{ClusterStep, IsInternal, hands_in, forgets}
use Rattle.cluster.proofs.alone.Acting.{same_number}
use Rattle.cluster.proofs.together.Counting.{other_number}
use Rattle.cluster.proofs.together.HandingIn.{handed_still}
use Rattle.host.specs.Counting.{deed_events}
use Rattle.host.specs.Steps.{IsHostAt, ChangesOnly, StepsTo}
use Rattle.host.specs.Views.{HostView, acted_view, forgotten_view}

pub own_at : {X : Type 0} (each : ℕ → X) (n : ℕ) (x : X) → with_at each n x n ≡ x
own_at each n x = ap (λ b. cond b x (each n)) (same_number n n refl)

pub other_at : {X : Type 0} (each : ℕ → X) (n m : ℕ) (x : X) → m ≢ n → with_at each n x m ≡ each m
other_at each n m x apart = ap (λ b. cond b x (each m)) (other_number m n apart)

pub still_under_way : {C : Type 0} (some more : List (Envelope C)) (ps : List (Envelope C))
    → ((p : Envelope C) → In p some → In p more) → Each (λ p. In p some) ps → Each (λ p. In p more) ps
still_under_way some more ps into all = Each-weaker (λ p. In p some) (λ p. In p more) into ps all

-- a request that the filter knows changes nothing
known_if : {X : Type 0} (b : Bool) (x y : X) → b ≡ false → cond b x y ≡ y
known_if true x y e = absurd (cc)
known_if false x y e = refl

known_turn : {O Op Reply : Type 0} (rules : Rules O Op Reply) (h : HostView Op O) (c : Command Op)
    → is_later c.key h.shown.holding.object.latest ≡ false
    → host_turn rules h.shown (deeds.Request c) ≡ record { state = h.shown.holding; sent = []; answers = [] }
known_turn rules h c e = known_if (is_later c.key h.shown.holding.object.latest) _ _ e

pub known_stays : {O Op Reply : Type 0} (rules : Rules O Op Reply) (h : HostView Op O) (c : Command Op)
    → is_later c.key h.shown.holding.object.latest ≡ false
    → (acted_view rules h (deeds.Request c) ≡ h)
    × (host_turn rules h.shown (deeds.Request c) ≡ record { state = h.shown.holding; sent = []; answers = [] })
known_stays {O} {Op} {Reply} rules h c e =
    let nothing : h.taken + 0 ≡ h.taken = omega arith in
    let same : h.taken + deed_events h.shown.holding.object (deeds.Request c) ≡ h.taken =
    ap (λ b. h.taken + cond b 1 0) e ∙ nothing in (
      ap (λ (t : HeldTurn Op O Reply). record h {
        shown = with_holding h.shown t.state;
        taken = h.taken + deed_events h.shown.holding.object (deeds.Request c);
      }) (known_turn rules h c e)
          ∙ ap (λ n. record h { taken = n }) same,
      known_turn rules h c e,
    )

-- what a host does by itself is an event
pub internal_counts : {Op O : Type 0} (f : Filtered O) (d : Deed Op) → IsInternal d → deed_events f d ≡ 1
internal_counts f (deeds.Request c) internal = absurd internal
internal_counts f deeds.Wake internal = refl
internal_counts f deeds.Nudge internal = refl
internal_counts f deeds.Propose internal = refl
internal_counts f deeds.Perform internal = refl
internal_counts f deeds.Restart internal = absurd internal

pub other_stays : {Op O Reply : Type 0} (h : HostView Op O) (n m : ℕ) (k j : Hosts Op O Reply) → IsHostAt h m k → m ≢ n
    → ChangesOnly n k j → IsHostAt h m j
other_stays h n m k j is apart changes = record {
  member = ap (λ ms. is_member ms m) changes.members ∙ is.member;
  number = is.number;
  shown = changes.others m apart ∙ is.shown;
  aside = still_under_way k.envelopes j.envelopes h.aside changes.envelopes is.aside;
  taken = subst (λ x. x ≤ h.taken) (sym (changes.taken m apart)) is.taken;
}

module _ {O Op Reply : Type 0} (rules : Rules O Op Reply) (n : ℕ) (k : Hosts Op O Reply) (owner : ℕ → ℕ) where
  pub handing_in : (h : HostView Op O) (c : Command Op) → IsHostAt h n k → owner c.key.session ≡ n
      → ((d : Command Op) → In d (k.handed n) → d.key ≡ c.key → d ≡ c)
      → StepsTo rules owner n h k (record k { handed = with_handed k.handed n c })
  handing_in h c is mine own = record {
    step = hands_in n c mine own;
    changes = record {
      members = refl;
      others = λ m apart. refl;
      stored = λ m apart. refl;
      taken = λ m apart. refl;
      handed = handed_still k.handed n c;
      envelopes = λ p i. i;
      snapshots = λ slot object i. i;
    };
    is = record {
      member = is.member;
      number = is.number;
      shown = is.shown;
      aside = is.aside;
      taken = is.taken;
    };
  }

  -- the step by which it does this by itself, whatever allows it
  pub acting : (h : HostView Op O) (d : Deed Op) → IsHostAt h n k → ClusterStep rules owner k (host_acted rules k n d)
      → deed_events h.shown.holding.object d ≡ 1
      → StepsTo rules owner n (acted_view rules h d) k (host_acted rules k n d)
  acting h d is step one = record {
    step = step;
    changes = record {
      members = refl;
      others = λ m apart. other_at k.host n m (with_holding (k.host n) (host_turn rules (k.host n) d).state) apart;
      stored = λ m apart. refl;
      taken = λ m apart. other_at k.taken n m (k.taken n + 1) apart;
      handed = λ m c i. i;
      envelopes = λ p i. In-left p k.envelopes (labelled (k.host n).base (host_turn rules (k.host n) d).sent) i;
      snapshots = λ slot object i. i;
    };
    is = record {
      member = is.member;
      number = is.number;
      shown = own_at k.host n (with_holding (k.host n) (host_turn rules (k.host n) d).state)
          ∙ ap (λ (s : HostState Op O). with_holding s (host_turn rules s d).state) is.shown;
      aside = still_under_way k.envelopes
          (k.envelopes ++ labelled (k.host n).base (host_turn rules (k.host n) d).sent) h.aside
          (λ p i. In-left p k.envelopes (labelled (k.host n).base (host_turn rules (k.host n) d).sent) i) is.aside;
      taken = let own = own_at k.taken n (k.taken n + 1) in let before = is.taken in omega (arith, own, before, one);
    };
  }

  pub forgetting : (h : HostView Op O) (base : ℕ) → IsHostAt h n k
      → h.shown.base ≤ base → base ≤ h.shown.holding.state.replica.slot_out
      → StepsTo rules owner n (forgotten_view base h) k
      (record k { host = with_at k.host n (forgotten_host base (k.host n)) })
  forgetting h base is rises out = record {
    step = forgets n base is.member
        (subst (λ (x : HostState Op O). x.base ≤ base) (sym is.shown) rises)
        (subst (λ (x : HostState Op O). base ≤ x.holding.state.replica.slot_out) (sym is.shown) out);
    changes = record {
      members = refl;
      others = λ m apart. other_at k.host n m (forgotten_host base (k.host n)) apart;
      stored = λ m apart. refl;
      taken = λ m apart. refl;
      handed = λ m c i. i;
      envelopes = λ p i. i;
      snapshots = λ slot object i. i;
    };
    is = record {
      member = is.member;
      number = is.number;
      shown = own_at k.host n (forgotten_host base (k.host n)) ∙ ap (forgotten_host base) is.shown;
      aside = is.aside;
      taken = is.taken;
    };
  }
