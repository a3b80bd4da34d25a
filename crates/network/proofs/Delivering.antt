-- A letter that reaches its receiver, once all letters are sorted into the mails.
use Rattle.std.proofs.Common.{◌≡◌, ⊎_elim, inl, inr, Bool, false, ◌&&◌, ◌||◌, ◌==◌, ℕ, ◌<◌, true}
use Rattle.std.proofs.Common.{List, [], ◌∷◌, drop, length, Option, Some, refl, sym, ap, ◌∙◌, subst, arith}
use Rattle.std.proofs.Common.{length-set}
use Rattle.std.specs.Prelude.{slice_index_or, slice_set, nat_lt}
use Rattle.std.proofs.lemmas.Bool.Decides.{nat_tests}
use Rattle.ballot.specs.Ballots.{Numbers, is_below}
use Rattle.std.proofs.lemmas.Option.{same_Some}
use Rattle.std.proofs.lemmas.List.{get_or_default}
use Rattle.object.specs.Lists.{In}
use Rattle.ballot.specs.declared.letter.Letter.{Letter}
use Rattle.ballot.specs.declared.letter.LetterBody.{LetterBody}
use Rattle.ballot.specs.Letters.{letter}
use Rattle.ballot.specs.Members.{is_member}
use Rattle.node.specs.Nodes.{NodeState, members_of, put}
use Rattle.node.specs.PlaceLaws.{put_at}
use Rattle.node.specs.Receiving.{IsFit, Receives, promises_ballot, accepts_pvalue, hears_promise, hears_vote}
use Rattle.node.specs.Receiving.{hears_proposal, learns, tells_decisions, ShowsNode, ShowsReceived}
use Rattle.network.proofs.Sent.{of_map, member_bounds}
use Rattle.network.specs.Networks.{NetworkState, node_of, mail_in, mail_of, front, put_mail, posted, IsDelivered}
use Rattle.network.specs.Posting.{IsAmong, IsBetween, AreBetween, IsPost, IsNetwork}
use Rattle.network.proofs.Posts.{none_posted, in_at, post_put}
use Rattle.network.proofs.OnWay.{mail_at, put_mail_at}
use Rattle.network.proofs.Seats.{HasSeat, received_seat, seated_by}
use Rattle.network.proofs.Turned.{seen, IsPlace, all_between, none_between, own_member, low, within_mails, node_read, node_seated, stays_whole}

lt_itself : (n : ℕ) → nat_lt n n ≡ false
lt_itself n = grind (arith, nat_tests)

below_cases : (p q : Bool) → (false || (p && (false || (q && false)))) ≡ false
below_cases true true = refl
below_cases true false = refl
below_cases false q = refl

not_below_itself : (b : Numbers) → is_below b b ≡ false
not_below_itself b =
    (λ i. lt_itself b.round i || ((b.round == b.round) && (lt_itself b.node i || ((b.node == b.node) && lt_itself b.boot i))))
    ∙ below_cases (b.round == b.round) (b.node == b.node)

-- what a node sends when it receives a letter of a member is between members
received_between : {C : Type 0} (members : List ℕ) (m n : ℕ) (x : NodeState C) (body : LetterBody C) (y : NodeState C)
    (sent : List (Letter C)) → IsAmong (length members) m → is_member members n ≡ true
    → Receives members m n x body y sent → AreBetween (length members) sent
received_between members m n x body y sent from_m member (promises_ballot b report r) =
    λ l at. ⊎_elim (λ e. subst (IsBetween (length members)) (sym e)
    (record { sender = member_bounds members n member; receiver = from_m })) (λ h. absurd h) at
received_between members m n x body y sent from_m member (accepts_pvalue p) =
    λ l at. ⊎_elim (λ e. subst (IsBetween (length members)) (sym e)
    (record { sender = member_bounds members n member; receiver = from_m })) (λ h. absurd h) at
received_between members m n x body y sent from_m member (hears_promise b report fresh taken may) = all_between members n _ (length members) refl member
received_between members m n x body y sent from_m member (hears_vote b s by) = all_between members n _ (length members) refl member
received_between members m n x body y sent from_m member (hears_proposal s c) = all_between members n _ (length members) refl member
received_between members m n x body y sent from_m member (learns s c) = none_between (length members)
received_between {C} members m n x body y sent from_m member (tells_decisions s) = λ l at.
    let told = of_map (λ (b : LetterBody C). letter n b m) l _ at in
    subst (IsBetween (length members)) (sym told.2) (record { sender = member_bounds members n member; receiver = from_m })

module _ {C : Type 0} {members : List ℕ} {nodes : List (NodeState C)} {mails : List (List (Letter C))} {fresh : List (Letter C)} where
  -- the same network, sorted
  pub sorted_whole : IsNetwork members nodes mails fresh → (mails' : List (List (Letter C))) (fresh' : List (Letter C))
      → length mails' ≡ length mails → IsPost mails' fresh' → IsNetwork members nodes mails' fresh'
  sorted_whole whole mails' fresh' size post = record { has_nodes = whole.has_nodes; has_mails = size ∙ whole.has_mails; seated = whole.seated; post = post }

  pub sorted_place : {k : NetworkState C} {n p : ℕ} → IsPlace members nodes mails fresh k n p
      → (mails' : List (List (Letter C))) (fresh' : List (Letter C)) → posted fresh' mails' ≡ posted fresh mails
      → length mails' ≡ length mails → IsPost mails' fresh' → IsPlace members nodes mails' fresh' k n p
  sorted_place h mails' fresh' same size post = record {
    whole = sorted_whole h.whole mails' fresh' size post;
    is = (λ i. record { members = members; nodes = nodes; mails = same i }) ∙ h.is;
    place = h.place;
    member = h.member;
  }

  module _ {k : NetworkState C} {n p : ℕ} (h : IsPlace members nodes mails fresh k n p) (none : fresh ≡ []) where
    there : p < length mails
    there = within_mails h

    mails_are : mails ≡ k.mails
    mails_are = sym (ap (λ z. posted z mails) none ∙ none_posted 1 mails) ∙ ap (λ z. z.mails) h.is

    module _ (m : List (Letter C)) (at : m ≡ slice_index_or mails p m) where
      mail_read : m ≡ mail_of k n
      mail_read = mail_at mails n p m h.place (low h) there at ∙ ap (λ z. mail_in z n) mails_are

      pub front_read : (o : Option (Letter C)) → front m ≡ o → front (mail_of k n) ≡ o
      front_read o e = ap front (sym mail_read) ∙ e

      -- whenever it is read
      pub read_again : (m2 : List (Letter C)) → m2 ≡ slice_index_or mails p m2 → m2 ≡ m
      read_again m2 at2 = at2 ∙ get_or_default mails p m2 m there ∙ sym at

      its_letters : AreBetween (length mails) m
      its_letters = subst (AreBetween (length mails)) (sym (at ∙ get_or_default mails p m [] there))
          (h.whole.post.mailed (slice_index_or mails p []) (in_at mails p [] there))

      -- another mail in its place
      pub put_whole : (mail : List (Letter C)) → AreBetween (length mails) mail → IsNetwork members nodes (slice_set mails p mail) fresh
      put_whole mail between = record {
        has_nodes = h.whole.has_nodes;
        has_mails =
            length-set mails p mail ∙ h.whole.has_mails;
        seated = h.whole.seated;
        post =
            post_put mails fresh p mail h.whole.post between;
      }

      -- the letter in front of it
      module _ (l : Letter C) (first : front m ≡ Some l) where
        in_front : (xs : List (Letter C)) → front xs ≡ Some l → In l xs
        in_front [] e = absurd (cc)
        in_front (z ∷ zs) e = inl (cc)

        its_first : IsBetween (length mails) l
        its_first = its_letters l (in_front m first)

        pub first_of : (l2 : Letter C) → front (mail_of k n) ≡ Some l2 → l ≡ l2
        first_of l2 e = same_Some l l2 (sym (front_read (Some l) first) ∙ e)

        -- the node receives it
        module _ (y : NodeState C) (read : y ≡ slice_index_or nodes p y) where
          pub fit_read : ((l2 : Letter C) → front (mail_of k n) ≡ Some l2 → IsFit (node_of k n) l2.body) → IsFit y l.body
          fit_read fit = subst (λ (z : NodeState C). IsFit z l.body) (sym (node_read h y read)) (fit l (front_read (Some l) first))

          module _ (x : NodeState C) (now : List (Letter C)) (shows : ShowsReceived l.«from» y l.body x fresh now)
              (left : List (Letter C)) (taken : left ≡ drop 1 m) where
            delivered_ok : IsDelivered k n l (seen members (slice_set nodes p x) (slice_set mails p left) now)
            delivered_ok = (
              x,
              now,
              (λ i. record {
                members = ap (λ z. z.members) h.is i;
                nodes = (ap (λ j. slice_set nodes j x) h.place ∙ put_at nodes n x (low h) ∙ ap (λ z. put z.nodes n x) h.is) i;
                mails = ap (posted now) (put_mail_at mails n p left h.place (low h) ∙ ap (put_mail mails n)
                    (taken ∙ ap (drop 1) mail_read) ∙ ap (λ z. put_mail z n (drop 1 (mail_of k n))) mails_are) i;
              }),
              subst (λ z. ShowsReceived l.«from» z l.body x [] now) (node_read h y read)
                  (subst (λ z. ShowsReceived l.«from» y l.body x z now) none shows),
            )

            -- whichever letter stands in front
            pub delivered_any : (z : NetworkState C)
                → z ≡ seen members (slice_set nodes p x) (slice_set mails p left) now → (l2 : Letter C)
                → front (mail_of k n) ≡ Some l2 → IsDelivered k n l2 z
            delivered_any z same l2 e = subst (λ w. IsDelivered k n l2 w) (sym same)
                (subst (λ w. IsDelivered k n w (seen members (slice_set nodes p x) (slice_set mails p left) now))
                (first_of l2 e) delivered_ok)

            in_rest : (xs : List (Letter C)) (z : Letter C) → In z (drop 1 xs) → In z xs
            in_rest [] z i = i
            in_rest (w ∷ ws) z i = inr i

            sender_among : IsAmong (length members) l.«from»
            sender_among = subst (λ c. IsAmong c l.«from») h.whole.has_mails its_first.sender

            itself : ShowsNode y y
            itself = record {
              acceptor = record {
                promised = refl;
                accepted =
                    record { part = λ q i. i; greatest = λ q i. (q, i, refl, not_below_itself q.ballot) };
              };
              boot =
                  refl;
              leader = refl;
              replica = refl;
            }

            pub delivered_whole : IsNetwork members (slice_set nodes p x) (slice_set mails p left) now
            delivered_whole =
                let seat = node_seated h y read in
                let s = shows y itself in
                let received = s.2 in
                let own : Receives members l.«from» n y l.body s.0 received.0 =
                subst (λ ms. Receives ms l.«from» n y l.body s.0 received.0) seat.speaks
                (subst (λ j. Receives (members_of y) l.«from» j y l.body s.0 received.0) seat.node received.1) in
                let moved : HasSeat y.leader x.leader =
                subst (HasSeat y.leader) (sym s.1.leader)
                (received_seat members l.«from» n y l.body s.0 received.0 own) in
                let sent : AreBetween (length members) received.0 =
                received_between members l.«from» n y l.body s.0 received.0 sender_among (own_member h) own in
                let before : IsNetwork members (slice_set nodes p x) mails now =
                stays_whole h x now received.0 (seated_by members n y x seat moved) received.2 sent in
                record {
                  has_nodes = before.has_nodes;
                  has_mails = length-set mails p left ∙ h.whole.has_mails;
                  seated = before.seated;
                  post = post_put mails now p left before.post (λ z i. its_letters z (in_rest m z (subst (In z) taken i)));
                }
