-- A node keeps what its world knows of it.
use Rattle.std.proofs.Common.{◌≡◌, ◌≢◌, ⊎_elim, ℕ, suc, zero, ◌+◌, ◌-◌, ◌<◌, ◌≤◌, Bool, true, false, cond, List, []}
use Rattle.std.proofs.Common.{◌∷◌, ◌++◌, Some, None, Option, refl, sym, ap, ap₂, ◌∙◌, subst, arith}
use Rattle.std.specs.Prelude.{IsSome}
use Rattle.std.specs.List.{range_with_len, flat_map}
use Rattle.std.specs.Option.{option_to_list}
use Rattle.std.specs.FinMap.{get, insert, empty}
use Rattle.std.proofs.lemmas.Bool.{cases_eq}
use Rattle.std.proofs.lemmas.List.Sums.{fold-append}
use Rattle.object.specs.Lists.{In}
use Rattle.object.specs.declared.command.Command.{Command}
use Rattle.object.specs.OnceOnly.{Filtered, filtered, filtered_answers}
use Rattle.ballot.specs.Ballots.{Numbers, is_promise, higher}
use Rattle.ballot.specs.declared.pvalue.Pvalue.{Pvalue}
use Rattle.acceptor.specs.Acceptors.{Acceptances, Keeps, after_p1a, after_p2a}
use Rattle.acceptor.specs.Reports.{IsReport}
use Rattle.ballot.specs.Slots.{Slots}
use Rattle.slot_log.specs.Books.{SlotBook, new_book}
use Rattle.slot_log.specs.Decisions.{next_decided, learnt}
use Rattle.slot_log.specs.Proposals.{proposed}
use Rattle.slot_log.specs.Requests.{is_known, requested}
use Rattle.slot_log.specs.Advances.{advanced}
use Rattle.object.specs.Objects.{Rules}
use Rattle.replica.specs.Replicas.{Replicating, performed, performed_as, performed_answers, answers_as}
use Rattle.slot_log.specs.Histories.{history, commands_upto}
use Rattle.slot_log.proofs.Histories.{commands_more}
use Rattle.object.specs.Obeying.{obeyed, answers_after}
use Rattle.node.specs.Kept.{ObeysBook, IsPerformed}
use Rattle.object.specs.ListLaws.{In-left, In-right, In-cases}
use Rattle.node.specs.SlotLaws.{get_insert_cases}
use Rattle.ballot.specs.OrderLaws.{BallotLaws, upto_trans}
use Rattle.object.specs.FilterLaws.{FilterLaws, answers_obeyed}

-- a report of a report
report_trans : (laws : BallotLaws) {C : Type 0} (all kept report : List (Pvalue C)) → IsReport all kept → IsReport kept report → IsReport all report
report_trans laws all kept report g h = record {
  part = λ p i. g.part p (h.part p i);
  greatest = λ p i.
      let q = g.greatest p i in
      let z = h.greatest q.0 q.1 in
      (z.0, z.1, z.2 ∙ q.2, upto_trans laws p.ballot q.0.ballot z.0.ballot q.3 z.3);
}

report_more : (laws : BallotLaws) {C : Type 0} (all kept : List (Pvalue C)) (p : Pvalue C) → IsReport all kept → IsReport (all ++ (p ∷ [])) (kept ++ (p ∷ []))
report_more laws {C} all kept p g = record {
  part = λ q i. ⊎_elim (λ (old : In q kept). In-left q all (p ∷ []) (g.part q old))
      (λ (last : In q (p ∷ [])). In-right q all (p ∷ []) last) (In-cases q kept (p ∷ []) i);
  greatest = λ q i. ⊎_elim
      (λ (old : In q all). let z = g.greatest q old in (z.0, In-left z.0 kept (p ∷ []) z.1, z.2, z.3))
      (λ (last : In q (p ∷ [])). (q, In-right q kept (p ∷ []) last, refl, laws.itself q.ballot))
      (In-cases q all (p ∷ []) i);
}

report_if : (laws : BallotLaws) {C : Type 0} (all kept : List (Pvalue C)) (p : Pvalue C) (test : Bool)
    → IsReport all kept → IsReport (cond test (all ++ (p ∷ [])) all) (cond test (kept ++ (p ∷ [])) kept)
report_if laws all kept p true g = report_more laws all kept p g
report_if laws all kept p false g = g

-- an acceptor keeps what it accepted
pub keeps_all : (laws : BallotLaws) {C : Type 0} (a : Acceptances C) → Keeps a a
keeps_all laws a = record { promised = refl; accepted = record { part = λ p i. i; greatest = λ p i. (p, i, refl, laws.itself p.ballot) } }

pub keeps_p1a : {C : Type 0} (all kept : Acceptances C) (b : Numbers) → Keeps all kept → Keeps (after_p1a all b) (after_p1a kept b)
keeps_p1a all kept b g = record { promised = ap (λ o. Some (higher o b)) g.promised; accepted = g.accepted }

pub reports : (laws : BallotLaws) {C : Type 0} (all kept : Acceptances C) (report : List (Pvalue C)) → Keeps all kept
    → IsReport kept.accepted report → IsReport all.accepted report
reports laws all kept report g h = report_trans laws all.accepted kept.accepted report g.accepted h

pub keeps_p2a : (laws : BallotLaws) {C : Type 0} (all kept new : Acceptances C) (p : Pvalue C) → Keeps all kept
    → Keeps (after_p2a kept p) new → Keeps (after_p2a all p) new
keeps_p2a laws all kept new p g h = record {
  promised = h.promised ∙ g.promised;
  accepted = report_trans laws (after_p2a all p).accepted (after_p2a kept p).accepted new.accepted
      (subst (λ o. IsReport (after_p2a all p).accepted
      (cond (is_promise o p.ballot) (kept.accepted ++ (p ∷ [])) kept.accepted)) (sym g.promised)
      (report_if laws all.accepted kept.accepted p (is_promise all.promised p.ballot) g.accepted))
      h.accepted;
}

-- a pvalue of another ballot changes nothing
pub keeps_refused : (laws : BallotLaws) {C : Type 0} (a : Acceptances C) (p : Pvalue C) → is_promise a.promised p.ballot ≡ false → Keeps (after_p2a a p) a
keeps_refused laws a p refused =
    subst (λ x. Keeps x a)
    (sym (ap (λ b. record { promised = a.promised; accepted = cond b (a.accepted ++ (p ∷ [])) a.accepted }) refused))
    (keeps_all laws a)

-- the slot that is performed next comes last
pub history_more : {C : Type 0} (n : ℕ) (decisions : Slots C) (c : C) → get decisions (n + 1) ≡ Some c
    → commands_upto (n + 1) decisions ≡ commands_upto n decisions ++ (c ∷ [])
history_more n decisions c e = commands_more n decisions ∙ ap (λ o. commands_upto n decisions ++ option_to_list o) e

-- what is decided elsewhere changes nothing
flat_same : {A : Type 0} (f g : ℕ → List A) (base n : ℕ) → ((s : ℕ) → base ≤ s → s < base + n → f s ≡ g s)
    → flat_map f (range_with_len base n) ≡ flat_map g (range_with_len base n)
flat_same f g base zero h = refl
flat_same f g base (suc n) h =
    ap₂ (λ l r. l ++ r) (h base (omega arith) (omega arith))
    (flat_same f g (base + 1) n (λ s low high. h s (omega arith) (omega arith)))

known_or_same : {C : Type 0} (decisions : Slots C) (s : ℕ) (c : C) (t : ℕ) → IsSome (get decisions t)
    → ((d : C) → get decisions s ≡ Some d → d ≡ c) → get (insert decisions s c) t ≡ get decisions t
known_or_same {C} decisions s c t known agrees = ⊎_elim
    (λ (e : (t ≡ s) × (get (insert decisions s c) t ≡ Some c)). e.1 ∙ sym (at (get decisions t) known (λ d f. agrees d (ap (get decisions) (sym e.0) ∙ f))))
    (λ (e : (t ≢ s) × (get (insert decisions s c) t ≡ get decisions t)). e.1)
    (get_insert_cases decisions s c t)
  where
    at : (o : Option C) → IsSome o → ((d : C) → o ≡ Some d → d ≡ c) → o ≡ Some c
    at None h a = absurd (cc)
    at (Some d) h a = ap (λ x. Some x) (a d refl)

pub history_learnt : {C : Type 0} (book : SlotBook C) (s : ℕ) (c : C) → IsPerformed book
    → ((d : C) → get book.decisions s ≡ Some d → d ≡ c) → history (learnt book s c) ≡ history book
history_learnt book s c p agrees =
    flat_same _ _ 1 (book.slot_out - 1)
    (λ t low high. ap option_to_list
    (known_or_same book.decisions s c t (p.known t (omega arith) (omega (arith, p.first))) agrees))

learnt_known : {C : Type 0} (decisions : Slots C) (s : ℕ) (c : C) (t : ℕ) → IsSome (get decisions t) → IsSome (get (insert decisions s c) t)
learnt_known decisions s c t known = ⊎_elim
    (λ (e : (t ≡ s) × (get (insert decisions s c) t ≡ Some c)). subst IsSome (sym e.1) refl)
    (λ (e : (t ≢ s) × (get (insert decisions s c) t ≡ get decisions t)). subst IsSome (sym e.1) known)
    (get_insert_cases decisions s c t)

module _ {O Op Reply : Type 0} (rules : Rules O Op Reply) where
  -- a new replica
  pub kept_new : (object : Filtered O) (book : SlotBook (Command Op)) → object.object ≡ rules.fresh
      → object.latest ≡ empty → book ≡ new_book → ObeysBook rules object book
  kept_new object book fresh none new = record {
    obeys = (λ i. record { object = fresh i; latest = none i }) ∙ sym (ap (λ b. obeyed rules (history b)) new);
    performed = subst IsPerformed (sym new) (record { first = omega arith; known = λ s low high. absurd (omega arith) });
  }

  -- a replica that performed and learnt nothing
  pub kept_same : (object : Filtered O) (x y : SlotBook (Command Op)) → ObeysBook rules object x
      → y.slot_out ≡ x.slot_out → y.decisions ≡ x.decisions → ObeysBook rules object y
  kept_same object x y k slot decisions = record {
    obeys = k.obeys ∙ (λ i. obeyed rules (commands_upto (slot_same i - 1) (decisions_same i)));
    performed = record {
      first = subst (λ n. 0 < n) (sym slot) k.performed.first;
      known =
          λ s low high. subst (λ m. IsSome (get m s)) (sym decisions)
          (k.performed.known s low (subst (λ n. s < n) slot high));
    };
  }
    where
      slot_same : x.slot_out ≡ y.slot_out
      slot_same = sym slot

      decisions_same : x.decisions ≡ y.decisions
      decisions_same = sym decisions

  pub kept_learnt : (object : Filtered O) (x : SlotBook (Command Op)) (s : ℕ) (c : Command Op)
      → ObeysBook rules object x → ((d : Command Op) → get x.decisions s ≡ Some d → d ≡ c)
      → ObeysBook rules object (learnt x s c)
  kept_learnt object x s c k agrees = record {
    obeys = k.obeys ∙ ap (obeyed rules) (sym (history_learnt x s c k.performed agrees));
    performed = record { first = k.performed.first; known = λ t low high. learnt_known x.decisions s c t (k.performed.known t low high) };
  }

  pub kept_performed : (same : Command Op → Command Op → Bool) (object : Filtered O) (x : SlotBook (Command Op))
      (c : Command Op) → ObeysBook rules object x → next_decided x ≡ Some c
      → ObeysBook rules (filtered rules.after object c) (advanced same x)
  kept_performed same object x c k e =
      let out : x.slot_out - 1 + 1 ≡ x.slot_out = omega (arith, k.performed.first) in
      let out' : x.slot_out - 1 + 1 ≡ x.slot_out + 1 - 1 = omega (arith, k.performed.first) in
      record {
        obeys = ap (λ o. filtered rules.after o c) k.obeys ∙
            sym (fold-append (filtered rules.after) (record { object = rules.fresh; latest = empty }) (history x) (c ∷ [])) ∙
            ap (obeyed rules) (sym (history_more (x.slot_out - 1) x.decisions c (ap (get x.decisions) out ∙ e))) ∙
            ap (λ n. obeyed rules (commands_upto n x.decisions)) out';
        performed = record {
          first = omega arith;
          known = λ s low high. ⊎_elim
              (λ (same : s ≡ x.slot_out). subst IsSome (sym (ap (get x.decisions) same ∙ e)) refl)
              (λ (apart : s ≢ x.slot_out). k.performed.known s low (omega arith))
              (cases_eq s x.slot_out);
        };
      }

  requested_if : (book : SlotBook (Command Op)) (c : Command Op) (test : Bool)
      → ((cond test book (record book { requests = book.requests ++ (c ∷ []) })).slot_out ≡ book.slot_out)
      × ((cond test book (record book { requests = book.requests ++ (c ∷ []) })).decisions ≡ book.decisions)
  requested_if book c true = (refl, refl)
  requested_if book c false = (refl, refl)

  pub kept_requested : (same : Command Op → Command Op → Bool) (object : Filtered O) (x : SlotBook (Command Op))
      (c : Command Op) → ObeysBook rules object x → ObeysBook rules object (requested same x c)
  kept_requested same object x c k = let r = requested_if x c (is_known same x c) in kept_same object x _ k r.0 r.1

  proposed_if : (book : SlotBook (Command Op)) (o : Option (ℕ × Command Op))
      → ((proposed book o).slot_out ≡ book.slot_out) × ((proposed book o).decisions ≡ book.decisions)
  proposed_if book None = (refl, refl)
  proposed_if book (Some p) = (refl, refl)

  pub kept_proposed : (object : Filtered O) (x : SlotBook (Command Op)) (o : Option (ℕ × Command Op))
      → ObeysBook rules object x → ObeysBook rules object (proposed x o)
  kept_proposed object x o k = let r = proposed_if x o in kept_same object x _ k r.0 r.1
