-- A letter of which something is left, or nothing, once all letters are sorted into the mails.
use Rattle.std.proofs.Common.{◌≡◌, ⊎_elim, ℕ, zero, suc, ◌<◌, List, [], ◌∷◌, ◌++◌, map, drop, length, Option, None}
use Rattle.std.proofs.Common.{Some, refl, sym, ap, ◌∙◌, subst, true, length-set}
use Rattle.std.specs.Prelude.{slice_index_or, slice_set, is_some}
use Rattle.std.proofs.lemmas.List.{map-set, get_or-set_same, get_or_default}
use Rattle.object.specs.Lists.{In}
use Rattle.object.specs.ListLaws.{In-get}
use Rattle.object.specs.declared.command.Command.{Command}
use Rattle.object.specs.Objects.{Rules}
use Rattle.ballot.specs.declared.letter.Letter.{Letter}
use Rattle.ballot.specs.declared.letter.LetterBody.{LetterBody}
use Rattle.ballot.specs.Rests.{rest_of_body}
use Rattle.node.specs.Nodes.{NodeState}
use Rattle.node.specs.Holding.{Holding}
use Rattle.node.specs.Receiving.{IsFit, ShowsReceived}
use Rattle.network.specs.Networks.{NetworkState, mail_in, front, put_mail, posted}
use Rattle.network.specs.Posting.{IsBetween, AreBetween, IsNetwork}
use Rattle.network.specs.MailLaws.{in_behind}
use Rattle.network.proofs.Posts.{none_posted, set_again, in_at}
use Rattle.network.proofs.Turned.{IsPlace, at_place, own_member, among_mails, low, within_mails, stays_quiet}
use Rattle.network.proofs.OnWay.{lost_first, lost_post}
use Rattle.network.proofs.Delivering.{sorted_whole, front_read, first_of, read_again, put_whole, delivered_whole}
use Rattle.lean_network.specs.LeanNetworks.{LeanState, lean_node_of, lean_mail_of, put_lean, lean_without_front, IsLeanDelivered}
use Rattle.lean_network.proofs.States.{state_of, put_lean_at}
use Rattle.lean_network.proofs.Placed.{lean_seen, IsLeanPlace, place_of, state_read, lean_read}

set_twice : {A : Type 0} (xs : List A) (i : ℕ) (x y : A) → slice_set (slice_set xs i x) i y ≡ slice_set xs i y
set_twice [] i x y = refl
set_twice (z ∷ zs) zero x y = refl
set_twice (z ∷ zs) (suc i) x y = ap (λ ws. z ∷ ws) (set_twice zs i x y)

has_front : {C : Type 0} (m : List (Letter C)) (l : Letter C) → front m ≡ Some l → is_some (front m) ≡ true
has_front m l e = ap is_some e

-- the letter, as if it said this
abbrev said : {C : Type 0} → Letter C → LetterBody C → Letter C
said l body = record l { body = body }

-- a node receives another body in the place of that of the letter in front
module _ {C : Type 0} {members : List ℕ} {nodes : List (NodeState C)} {mails : List (List (Letter C))} {fresh : List (Letter C)}
    {k : NetworkState C} {n p : ℕ} (h : IsPlace members nodes mails fresh k n p) (none : fresh ≡ [])
    (m : List (Letter C)) (at : m ≡ slice_index_or mails p m) (l : Letter C) (first : front m ≡ Some l) (body : LetterBody C) where
  there : p < length mails
  there = within_mails h

  its_letters : AreBetween (length mails) m
  its_letters = subst (AreBetween (length mails)) (sym (at ∙ get_or_default mails p m [] there))
      (h.whole.post.mailed (slice_index_or mails p []) (in_at mails p [] there))

  between : AreBetween (length mails) (said l body ∷ drop 1 m)
  between z i = ⊎_elim
      (λ (e : z ≡ said l body). subst (IsBetween (length mails)) (sym e)
      (let b = its_letters l (In-get m 0 l first) in record { sender = b.sender; receiver = b.receiver }))
      (λ (j : In z (drop 1 m)). its_letters z (in_behind m z j))
      i

  said_whole : IsNetwork members nodes (slice_set mails p (said l body ∷ drop 1 m)) fresh
  said_whole = put_whole h none m at (said l body ∷ drop 1 m) between

  pub body_whole : (y : NodeState C) → y ≡ slice_index_or nodes p y → (x : NodeState C) (now : List (Letter C))
      → ShowsReceived l.«from» y body x fresh now → (left : List (Letter C)) → left ≡ drop 1 m
      → IsNetwork members (slice_set nodes p x) (slice_set mails p left) now
  body_whole y read x now shows left taken =
      subst (λ ms. IsNetwork members (slice_set nodes p x) ms now) (set_twice mails p (said l body ∷ drop 1 m) left)
      (delivered_whole (at_place said_whole refl h.place (own_member h)) none (said l body ∷ drop 1 m)
      (sym (get_or-set_same mails p (said l body ∷ drop 1 m) (said l body ∷ drop 1 m) there))
      (said l body) refl y read x now shows left taken)

-- what a node does with a letter of which o is left
pub record Receives {Op O : Type 0} (l : Letter (Command Op)) (o : Option (LetterBody (Command Op))) (y x : Holding Op O)
    (fresh now : List (Letter (Command Op))) : Type 0 where
  pub some : (left : LetterBody (Command Op)) → o ≡ Some left → ShowsReceived l.«from» y.state left x.state fresh now
  pub object : x.object ≡ y.object
  pub none : o ≡ None → (x ≡ y) × (now ≡ fresh)

pub receives : {Op O : Type 0} {l : Letter (Command Op)} {o : Option (LetterBody (Command Op))} {y x : Holding Op O}
    {fresh now : List (Letter (Command Op))}
    → ((left : LetterBody (Command Op)) → o ≡ Some left → ShowsReceived l.«from» y.state left x.state fresh now)
    → x.object ≡ y.object → (o ≡ None → (x ≡ y) × (now ≡ fresh)) → Receives l o y x fresh now
receives some object none = record { some = some; object = object; none = none }

module _ {Op O : Type 0} {members : List ℕ} {nodes : List (Holding Op O)} {mails : List (List (Letter (Command Op)))}
    {fresh : List (Letter (Command Op))} {k : LeanState Op O} {n p : ℕ} (h : IsLeanPlace members nodes mails fresh k n p)
    (none : fresh ≡ []) (m : List (Letter (Command Op))) (at : m ≡ slice_index_or mails p m) where
  module _ (l : Letter (Command Op)) (first : front m ≡ Some l) where
    -- the letter in front is gone
    module _ (m2 : List (Letter (Command Op))) (at2 : m2 ≡ slice_index_or mails p m2) (left : List (Letter (Command Op)))
        (behind : left ≡ drop 1 m2) where
      taken : left ≡ drop 1 m
      taken = behind ∙ ap (drop 1) (read_again (place_of h) none m at m2 at2)

      gone : slice_set mails p left ≡ put_mail k.mails n (drop 1 (lean_mail_of k n))
      gone =
          sym (none_posted 1 (slice_set mails p left))
          ∙ ap (λ z. posted z (slice_set mails p left)) (sym none)
          ∙ lost_first mails h.place (among_mails (place_of h)) m at fresh left taken (has_front m l first)
          ∙ ap (λ z. put_mail z n (drop 1 (mail_in z n))) (ap (λ z. z.mails) h.is)

      module _ (y : Holding Op O) (read : y ≡ slice_index_or nodes p y) (x : Holding Op O) (now : List (Letter (Command Op))) where
        whole_if : (o : Option (LetterBody (Command Op))) → Receives l o y x fresh now
            → IsNetwork members (slice_set (map state_of nodes) p x.state) (slice_set mails p left) now
        whole_if None r = stays_quiet
            (at_place (sorted_whole h.whole (slice_set mails p left) fresh (length-set mails p left)
            (lost_post mails h.place (among_mails (place_of h)) m at fresh h.whole.post left taken)) refl h.place (own_member (place_of h)))
            y.state x.state now (state_read h y read) (ap state_of (r.none refl).0) (r.none refl).1
        whole_if (Some body) r = body_whole (place_of h) none m at l first body y.state (state_read h y read) x.state now
            (r.some body refl) left taken

        pub received_whole : (o : Option (LetterBody (Command Op))) → Receives l o y x fresh now
            → IsNetwork members (map state_of (slice_set nodes p x)) (slice_set mails p left) now
        received_whole o r = subst (λ ns. IsNetwork members ns (slice_set mails p left) now) (sym (map-set (state_of {Op = Op} {O = O}) nodes p x))
            (whole_if o r)

        -- nothing was left of it
        dropped_any : (o : Option (LetterBody (Command Op))) → Receives l o y x fresh now → (z : LeanState Op O)
            → z ≡ lean_seen members (slice_set nodes p x) (slice_set mails p left) now → o ≡ None → z ≡ lean_without_front k n
        dropped_any o r z same e = same ∙ (λ i. record {
          members = ap (λ w. w.members) h.is i;
          nodes = (ap (slice_set nodes p) (r.none e).0 ∙ set_again nodes p y read ∙ ap (λ w. w.nodes) h.is) i;
          mails = (ap (λ w. posted w (slice_set mails p left)) ((r.none e).1 ∙ none) ∙ none_posted 1 (slice_set mails p left) ∙ gone) i;
        })

        module _ {Reply : Type 0} (rules : Rules O Op Reply) where
          becomes : x.object ≡ y.object → x ≡ record (lean_node_of rules k n) { state = x.state }
          becomes same = λ i. record { state = x.state; object = (same ∙ ap (λ w. w.object) (lean_read h y read rules)) i }

          -- this much was
          received_ok : (body : LetterBody (Command Op)) → ShowsReceived l.«from» y.state body x.state fresh now → x.object ≡ y.object
              → IsLeanDelivered rules k n l body (lean_seen members (slice_set nodes p x) (slice_set mails p left) now)
          received_ok body shows same = (
            x.state,
            now,
            (λ i. record {
              members = ap (λ w. w.members) h.is i;
              nodes = (
                  ap (λ j. slice_set nodes j x) h.place
                  ∙ put_lean_at nodes n x (low (place_of h))
                  ∙ ap (λ w. put_lean w.nodes n x) h.is
                  ∙ ap (put_lean k.nodes n) (becomes same)) i;
              mails = ap (posted now) gone i;
            }),
            subst (λ (w : Holding Op O). ShowsReceived l.«from» w.state body x.state [] now) (lean_read h y read rules)
                (subst (λ w. ShowsReceived l.«from» y.state body x.state w now) none shows),
          )

          -- whichever letter stands in front
          pub received_any : (base : ℕ) → Receives l (rest_of_body base l.body) y x fresh now → (z : LeanState Op O)
              → z ≡ lean_seen members (slice_set nodes p x) (slice_set mails p left) now
              → (l2 : Letter (Command Op)) (body : LetterBody (Command Op)) → front (lean_mail_of k n) ≡ Some l2
              → rest_of_body base l2.body ≡ Some body → IsLeanDelivered rules k n l2 body z
          received_any base r z same l2 body e rest =
              let is : l ≡ l2 = first_of (place_of h) none m at l first l2 e in
              subst (λ w. IsLeanDelivered rules k n l2 body w) (sym same)
              (subst (λ w. IsLeanDelivered rules k n w body (lean_seen members (slice_set nodes p x) (slice_set mails p left) now)) is
              (received_ok body (r.some body (ap (λ (w : Letter (Command Op)). rest_of_body base w.body) is ∙ rest)) r.object))

        -- nothing was left of it
        pub forgotten_any : (base : ℕ) → Receives l (rest_of_body base l.body) y x fresh now → (z : LeanState Op O)
            → z ≡ lean_seen members (slice_set nodes p x) (slice_set mails p left) now
            → (l2 : Letter (Command Op)) → front (lean_mail_of k n) ≡ Some l2 → rest_of_body base l2.body ≡ None
            → z ≡ lean_without_front k n
        forgotten_any base r z same l2 e rest =
            dropped_any (rest_of_body base l.body) r z same
            (ap (λ (w : Letter (Command Op)). rest_of_body base w.body) (first_of (place_of h) none m at l first l2 e) ∙ rest)

    -- what is fit for the network's node is fit for that which is read
    pub lean_fit : {Reply : Type 0} (rules : Rules O Op Reply) (base : ℕ)
        → ((l2 : Letter (Command Op)) (left : LetterBody (Command Op)) → front (lean_mail_of k n) ≡ Some l2
        → rest_of_body base l2.body ≡ Some left → IsFit (lean_node_of rules k n).state left)
        → (y : Holding Op O) → y ≡ slice_index_or nodes p y
        → (left : LetterBody (Command Op)) → rest_of_body base l.body ≡ Some left → IsFit y.state left
    lean_fit rules base fit y read left rest = subst (λ (w : Holding Op O). IsFit w.state left) (sym (lean_read h y read rules))
        (fit l left (front_read (place_of h) none m at (Some l) first) rest)
