-- The last command of its session that a replica performed stands in the order, and what stands there was submitted.
use Rattle.std.proofs.Common.{◌≡◌, inl, inr, ⊎_elim, ℕ, ◌≤◌, ◌==◌, true, false, ◌&&◌, cond, List, [], ◌∷◌, map, refl, sym, ap, ◌∙◌, subst, arith}
use Rattle.std.specs.Prelude.{nat_le}
use Rattle.std.proofs.lemmas.Bool.{cases_Bool, false≢true}
use Rattle.std.proofs.lemmas.Bool.Decides.{nat_tests}
use Rattle.ballot.specs.OrderLaws.{BallotLaws}
use Rattle.slot_log.specs.Histories.{history}
use Rattle.object.specs.Happenings.{is_submitted}
use Rattle.object.specs.Keys.{same_key}
use Rattle.object.specs.Legal.{WasSubmitted}
use Rattle.object.specs.ListLaws.{In-left}
use Rattle.object.specs.Lists.{In}
use Rattle.object.specs.Objects.{Rules}
use Rattle.object.specs.Replays.{kept}
use Rattle.object.specs.declared.command.Command.{Command}
use Rattle.object.specs.declared.command.Key.{Key}
use Rattle.object.specs.declared.command.Submission.{Submission}
use Rattle.agreement.specs.Chosen.{IsChosenFrom}
use Rattle.agreement.specs.Nodes.{node}
use Rattle.agreement.specs.Reached.{HasKey}
use Rattle.world.specs.Rescues.{IsInOrder, IsLast}
use Rattle.agreement.specs.Runs.{InEvery}
use Rattle.agreement.proofs.answered.Answered.{history_beginning}
use Rattle.agreement.proofs.order.Deciding.{chosen_from}
use Rattle.agreement.proofs.every.Every.{knows_chosen}
use Rattle.agreement.proofs.answered.Performed.{run_from, run_chosen}
use Rattle.world.proofs.standing.Placed.{is_as_late, finds, found_kept, has_late}
use Rattle.agreement.proofs.chosen.Reach.{reachable_sound}
use Rattle.agreement.proofs.order.Rising.{In-kept}
use Rattle.agreement.proofs.order.Submitted.{key_submitted}

-- a key of the same session that is as late, and no greater, is the same
late_is_same : (s n t m : ℕ) → (s == t && nat_le m n) ≡ true → (s ≡ t → n ≤ m) → (s == t && n == m) ≡ true
late_is_same s n t m late top =
    let same : s ≡ t = grind (arith, nat_tests) in
    let high = top same in
    grind (arith, nat_tests)

module _ {Op : Type 0} (key : Key) where
  -- no command of the key's session has a greater number
  abbrev IsTop : List (Command Op) → Type 0
  IsTop cs = (d : Command Op) → In d cs → d.key.session ≡ key.session → d.key.number ≤ key.number

  -- the first that is as late as the key is the key, where none is later
  finds_top : (cs : List (Command Op)) → IsTop cs → HasKey key cs → finds key (map (λ c. c.key) cs) ≡ true
  finds_top [] top h = absurd h.1
  finds_top (c ∷ cs) top h = ⊎_elim
      (λ (late : is_as_late c.key key ≡ true).
      ap (λ b. cond b (same_key c.key key) (finds key (map (λ d. d.key) cs))) late
      ∙ late_is_same c.key.session c.key.number key.session key.number late (top c (inl refl)))
      (λ (early : is_as_late c.key key ≡ false).
      ap (λ b. cond b (same_key c.key key) (finds key (map (λ d. d.key) cs))) early
      ∙ finds_top cs (λ d i. top d (inr i)) (behind early h))
      (cases_Bool (is_as_late c.key key))
    where
      behind : is_as_late c.key key ≡ false → HasKey key (c ∷ cs) → HasKey key cs
      behind early (d, inl same, own) = absurd (false≢true (sym early ∙ has_late key c (ap (λ (x : Command Op). x.key) (sym same) ∙ own)))
      behind early (d, inr i, own) = (d, i, own)

  -- so it is kept
  pub top_kept : (cs : List (Command Op)) → IsTop cs → HasKey key cs → HasKey key (kept cs)
  top_kept cs top h = found_kept key [] cs (λ d i. absurd i) (finds_top cs top h)

-- no command that was submitted is of a greater number
last_top : {Op : Type 0} (key : Key) (submitted : List (Submission Op)) → IsLast key submitted → (d : Command Op)
    → WasSubmitted d submitted → d.key.session ≡ key.session → d.key.number ≤ key.number
last_top {Op} key submitted is d was same =
    let of : was.0.command.key ≡ d.key = ap (λ (c : Command Op). c.key) was.2 in
    let low = is.last was.0 was.1 (ap (λ (k : Key). k.session) of ∙ same) in
    let number = ap (λ (k : Key). k.number) of in
    omega arith

module _ (laws : BallotLaws) {O Op Reply : Type 0} (rules : Rules O Op Reply) where
  -- the last key of its session stands in the order, where it is the key of a chosen command
  pub chosen_in_order : InEvery rules
      (λ w. (all : List (Command Op)) → IsChosenFrom w.cluster 1 all → (key : Key) → HasKey key all
      → IsLast key w.happenings.submitted → IsInOrder w.cluster key)
  chosen_in_order w i all chosen key has is = (kept all, (all, chosen, refl), top_kept key all top has)
    where
      top : (d : Command Op) → In d all → d.key.session ≡ key.session → d.key.number ≤ key.number
      top d at same =
          let slot = run_chosen w.cluster 1 all (run_from w.cluster 1 all chosen) d at in
          last_top key w.happenings.submitted is d (knows_chosen laws rules w i slot.0 d slot.1) same

  -- a key that stands in the order was submitted
  pub in_order_submitted : InEvery rules (λ w. (key : Key) → IsInOrder w.cluster key → is_submitted key w.happenings.submitted ≡ true)
  in_order_submitted w i key (order, (all, chosen, is), (c, stands, own)) =
      let at = In-kept all c (subst (In c) is stands) in
      let slot = run_chosen w.cluster 1 all (run_from w.cluster 1 all chosen) c at in
      subst (λ k. is_submitted k w.happenings.submitted ≡ true) own
      (key_submitted c w.happenings.submitted (knows_chosen laws rules w i slot.0 c slot.1))

  -- and where it is the key of a command that a replica performed
  pub in_order : InEvery rules (λ w. (n : ℕ) (c : Command Op) → In c (history (node w.cluster n).replica)
      → IsLast c.key w.happenings.submitted → IsInOrder w.cluster c.key)
  in_order w i n c at is =
      let all = chosen_from laws w.cluster (reachable_sound laws rules w i.reachable) 1 in
      let first = history_beginning laws rules w i.reachable n all.0 all.1 in
      chosen_in_order w i all.0 all.1 c.key (c, subst (In c) (sym first.1) (In-left c (history (node w.cluster n).replica) first.0 at), refl) is
