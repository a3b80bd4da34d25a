-- What a replica has performed is what all were told.
use Rattle.std.proofs.Common.{◌≡◌, ℕ, zero, suc, ◌+◌, ◌-◌, ◌<◌, ◌≤◌, true, List, [], ◌∷◌, ◌++◌, length, Some, None}
use Rattle.std.proofs.Common.{Option, refl, sym, ap, ap₂, ◌∙◌, arith}
use Rattle.std.specs.Prelude.{IsSome, flat_map}
use Rattle.std.specs.List.{range_with_len}
use Rattle.std.specs.Option.{option_to_list}
use Rattle.std.specs.FinMap.{get}
use Rattle.object.specs.Lists.{In}
use Rattle.object.specs.OnceOnly.{Filtered}
use Rattle.ballot.specs.declared.letter.Letter.{Letter}
use Rattle.object.specs.Objects.{Rules}
use Rattle.object.specs.declared.command.Command.{Command}
use Rattle.ballot.specs.Members.{is_member}
use Rattle.ballot.specs.OrderLaws.{BallotLaws}
use Rattle.ballot.specs.Slots.{Slots}
use Rattle.slot_log.specs.Histories.{history}
use Rattle.agreement.specs.Nodes.{Cluster, node}
use Rattle.agreement.specs.Runs.{IsWorld}
use Rattle.agreement.specs.Steps.{Step}
use Rattle.agreement.specs.Worlds.{World}
use Rattle.agreement.specs.declared.event.Event.{Event}
use Rattle.agreement.proofs.books.MentionsEvery.{reach_grows}
use Rattle.agreement.proofs.books.SlotBooksEvery.{books}
use Rattle.agreement.proofs.every.Every.{agrees, is_decided, decides_what_is_chosen, within_reach}
use Rattle.cluster.specs.Hosts.{HostState, ShowsHost}
use Rattle.cluster.specs.Snapshots.{IsDecidedToAll, AreToldFrom, IsSnapshot}
use Rattle.cluster.proofs.alone.Elsewhere.{step_adds}
use Rattle.cluster.proofs.catching_up.Told.{every_tells}

module _ {C : Type 0} (k : Cluster C) (decisions : Slots C) where
  abbrev listed : ℕ → ℕ → List C
  listed base len = flat_map (λ s. option_to_list (get decisions s)) (range_with_len base len)

  -- what is known of these slots was told
  module _ (told : (s : ℕ) (c : C) → get decisions s ≡ Some c → IsDecidedToAll k s c) where
    told_step : (base : ℕ) (rest : List C) (len : ℕ) (o : Option C) → get decisions base ≡ o → IsSome o
        → AreToldFrom k (base + 1) rest × (length rest ≡ len)
        → AreToldFrom k base (option_to_list o ++ rest) × (length (option_to_list o ++ rest) ≡ suc len)
    told_step base rest len None e some more = absurd (cc)
    told_step base rest len (Some c) e some more = ((told base c e, more.0), ap suc more.1)

    pub told_listed : (len base : ℕ) → ((s : ℕ) → base ≤ s → s < base + len → IsSome (get decisions s))
        → AreToldFrom k base (listed base len) × (length (listed base len) ≡ len)
    told_listed zero base known = (tt, refl)
    told_listed (suc len) base known = told_step base (listed (base + 1) len) len (get decisions base) refl
        (known base (omega arith) (omega arith))
        (told_listed len (base + 1) (λ s low high. known s (omega arith) (omega arith)))

  -- and what was told is what is known
  module _ (one : (s : ℕ) (c d : C) → IsDecidedToAll k s c → get decisions s ≡ Some d → d ≡ c) where
    same_step : (base : ℕ) (c : C) (xs cs : List C) (o : Option C) → get decisions base ≡ o → IsSome o
        → IsDecidedToAll k base c
        → xs ≡ cs → option_to_list o ++ xs ≡ c ∷ cs
    same_step base c xs cs None e some told same = absurd (cc)
    same_step base c xs cs (Some d) e some told same = ap₂ (λ y ys. y ∷ ys) (one base c d told e) same

    pub same_listed : (cs : List C) (base : ℕ) → AreToldFrom k base cs
        → ((s : ℕ) → base ≤ s → s < base + length cs → IsSome (get decisions s))
        → listed base (length cs) ≡ cs
    same_listed [] base told known = refl
    same_listed (c ∷ cs) base told known = same_step base c (listed (base + 1) (length cs)) cs (get decisions base) refl
        (known base (omega arith) (omega arith)) told.0
        (same_listed cs (base + 1) told.1 (λ s low high. known s (omega arith) (omega arith)))

-- what was told is told in each later world
pub told_adds : {Op : Type 0} (k z : Cluster (Command Op)) → z.members ≡ k.members
    → ((l : Letter (Command Op)) → In l k.letters → In l z.letters)
    → (s : ℕ) (c : Command Op) → IsDecidedToAll k s c → IsDecidedToAll z s c
told_adds k z same sent s c told m member = let r = told m (ap (λ ms. is_member ms m) (sym same) ∙ member) in
    (r.0, sent r.0 r.1, r.2, r.3)

pub told_from_adds : {Op : Type 0} (k z : Cluster (Command Op)) → z.members ≡ k.members
    → ((l : Letter (Command Op)) → In l k.letters → In l z.letters)
    → (cs : List (Command Op)) (s : ℕ) → AreToldFrom k s cs → AreToldFrom z s cs
told_from_adds k z same sent [] s told = tt
told_from_adds k z same sent (c ∷ cs) s told = (
  told_adds k z same sent s c told.0,
  told_from_adds k z same sent cs
      (s + 1) told.1,
)

module _ (laws : BallotLaws) {O Op Reply : Type 0} (rules : Rules O Op Reply) where
  -- a host may hand on what it has come to
  pub snapshot_of : (s : HostState Op O) (n : ℕ) (w : World Op Reply) → IsWorld rules w → ShowsHost rules s n w.cluster
      → IsSnapshot rules s.holding.state.replica.slot_out s.holding.object w
  snapshot_of s n w i shows =
      let book = (node w.cluster n).replica in
      let performed = (books laws rules w i n).performed in
      let first = performed.first in
      let out = ap (λ b. b.slot_out) shows.held.state.replica in
      let t = told_listed w.cluster book.decisions (λ q c e. (every_tells laws rules w i).known n q c e)
      (book.slot_out - 1) 1
      (λ q low high. performed.known q (omega arith) (omega (arith, low, high, first))) in
      let count = t.1 in
      let near = within_reach laws rules w i n in
      record {
        commands = history book;
        told = t.0;
        count = omega (arith, out, count, first);
        obeys = shows.held.object;
        reach = omega (arith, count, near, first);
      }

  pub snapshot_stays : (slot : ℕ) (object : Filtered O) (w v : World Op Reply) (e : Event Op) → Step rules w e v
      → IsSnapshot rules slot object w → IsSnapshot rules slot object v
  snapshot_stays slot object w v e step is =
      let adds = step_adds rules w v e step in
      let low = reach_grows rules w v e step in
      let count = is.reach in
      record {
        commands = is.commands;
        told = told_from_adds w.cluster v.cluster adds.same adds.sent is.commands 1 is.told;
        count = is.count;
        obeys = is.obeys;
        reach = omega (arith, low, count);
      }

  -- a replica that has come as far has performed what was told
  pub history_told : (w : World Op Reply) → IsWorld rules w → (n : ℕ) → is_member w.cluster.members n ≡ true
      → (cs : List (Command Op))
      → AreToldFrom w.cluster 1 cs → (node w.cluster n).replica.slot_out ≡ length cs + 1 → history
      (node w.cluster n).replica ≡ cs
  history_told w i n member cs told out =
      let book = (node w.cluster n).replica in
      let performed = (books laws rules w i n).performed in
      let len : book.slot_out - 1 ≡ length cs = omega (arith, out) in
      ap (λ l. listed w.cluster book.decisions 1 l) len
      ∙ same_listed w.cluster book.decisions
      (λ s c d t e. let r = t n member in
      agrees laws rules w i s d c (is_decided laws rules w i n s d e)
      (decides_what_is_chosen laws rules w i r.0 s c r.1 r.3))
      cs 1 told (λ s low high. performed.known s (omega arith) (omega (arith, out, low, high)))
