-- What the plain queue is after some places of the order.
use Rattle.std.proofs.Common.{◌≡◌, ℕ, ◌+◌, ◌<◌, ◌==◌, Bool, true, false, not, ◌&&◌, ◌||◌, nat_lt, inl, inr, List, []}
use Rattle.std.proofs.Common.{◌∷◌, ◌++◌, map, length, take, drop, get_or, fold, Some, refl, sym, ap, ap₂, subst, ◌∙◌}
use Rattle.std.proofs.Common.{append-nil, arith}
use Rattle.std.proofs.lemmas.Bool.{and_parts, eq-eqb}
use Rattle.std.proofs.lemmas.Bool.Decides.{nat_tests}
use Rattle.std.proofs.lemmas.List.{length-map, length-take-le, map-append, take-append-drop, take_more}
use Rattle.std.proofs.lemmas.List.Elements.{filter_map-append}
use Rattle.std.proofs.lemmas.List.Folds.{list_all-append}
use Rattle.std.proofs.lemmas.List.Sums.{fold-append}
use Rattle.object.specs.Happenings.{submitted_key}
use Rattle.object.specs.Keys.{stands, found}
use Rattle.object.specs.FilterLaws.{FilterLaws}
use Rattle.object.specs.OnceOnly.{Filtered, LatestNumbers, Remembers, is_later, noted, filtered, filtered_answers}
use Rattle.object.specs.ReplayLaws.{replay-append}
use Rattle.object.specs.Replays.{is_new}
use Rattle.object.specs.declared.command.Command.{Command}
use Rattle.object.specs.declared.command.Key.{Key}
use Rattle.object.specs.declared.command.Submission.{Submission}
use Rattle.bean_queue.specs.Places.{queue_replay}
use Rattle.bean_queue.specs.Queue.{QueueState, fresh}
use Rattle.bean_words.specs.declared.op.Op.{Op}
use Rattle.bean_words.specs.declared.reply.Reply.{Reply}
use Rattle.chronicle.specs.Checking.{IsAbove, AreRightPlaces}
use Rattle.chronicle.specs.CheckFaults.{IsWrongPlace, IsWrongOrder}
use Rattle.recorder.specs.Chronicles.{Chronicle}
use Rattle.chronicle_text.specs.Dump.{first_line}
use Rattle.chronicle_text.specs.Happenings.{happenings}
use Rattle.chronicle.specs.Replaying.{placed, queue_after, queue_answers}
use Rattle.chronicle.specs.declared.replay.Given.{Given}
use Rattle.chronicle.specs.declared.check_fault.What.{What}
use Rattle.recorder.proofs.Between.{drop_item}
use Rattle.chronicle.proofs.verdicts.EndCuts.{no_places, more_places}
use Rattle.chronicle.proofs.verdicts.Legal.{command_at, commands_of}

-- a number is new where it is above
above_each : (c : Command Op) (cs : List (Command Op)) → is_new c cs ≡ true → IsAbove c.key (map (λ (d : Command Op). d.key) cs)
above_each c [] h key i same = absurd i
above_each c (d ∷ cs) h key (inl is) same =
    let both = and_parts (not (d.key.session == c.key.session) || nat_lt d.key.number c.key.number) (is_new c cs) h in
    let equal : (d.key.session == c.key.session) ≡ true = eq-eqb d.key.session c.key.session (ap (λ (k : Key). k.session) (sym is) ∙ same) in
    let less : nat_lt d.key.number c.key.number ≡ true = sym (ap (λ b. not b || nat_lt d.key.number c.key.number) equal) ∙ both.0 in
    subst (λ (k : Key). k.number < c.key.number) (sym is) (grind (arith, nat_tests))
above_each c (d ∷ cs) h key (inr more) same =
    let both = and_parts (not (d.key.session == c.key.session) || nat_lt d.key.number c.key.number) (is_new c cs) h in above_each c cs both.1 key more same

new_above : (c : Command Op) (cs : List (Command Op)) → IsAbove c.key (map (λ (d : Command Op). d.key) cs) → is_new c cs ≡ true
new_above c [] h = refl
new_above c (d ∷ cs) h =
    let first = h d.key (inl refl) in
    let rest = new_above c cs (λ key i same. h key (inr i) same) in
    elim (d.key.session == c.key.session) as (λ b. (d.key.session == c.key.session) ≡ b → ((not b || nat_lt d.key.number c.key.number) && is_new c cs) ≡ true) [
      | true ↦ λ equal. let less = first (grind (arith, nat_tests)) in let lower : nat_lt d.key.number c.key.number
          ≡ true = grind (arith, nat_tests) in ap₂ (λ a b. a && b) lower rest
      | false ↦ λ other. rest
    ] refl

and_turned : (a b : Bool) → (a && b) ≡ (b && (a && true))
and_turned true true = refl
and_turned true false = refl
and_turned false true = refl
and_turned false false = refl

-- the last seen may stand last
seen_last : (latest : LatestNumbers) (cs : List (Command Op)) (c : Command Op) → Remembers latest (c ∷ cs) → Remembers latest (cs ++ (c ∷ []))
seen_last latest cs c h d =
    h d
    ∙ and_turned (not (c.key.session == d.key.session) || nat_lt c.key.number d.key.number) (is_new d cs)
    ∙ sym (list_all-append (λ (e : Command Op). not (e.key.session == d.key.session) || nat_lt e.key.number d.key.number) cs (c ∷ []))

-- the queue obeyed these places of the order, which are right, and these are its answers
pub record HasObeyed (c : Chronicle Op Reply) (done : List Key) (queue : Filtered QueueState) (given : List Given) : Type 0 where
  pub right : AreRightPlaces c done
  pub keys : map (λ (d : Command Op). d.key) (commands_of c done) ≡ done
  pub object : queue.object ≡ fold queue_after fresh (commands_of c done)
  pub latest : Remembers queue.latest (commands_of c done)
  pub says : map placed given ≡ queue_replay (commands_of c done)

pub nothing_obeyed : (c : Chronicle Op Reply) (queue : Filtered QueueState) → queue.object ≡ fresh
    → Remembers {Op = Op} queue.latest [] → HasObeyed c [] queue []
nothing_obeyed c queue object latest = record { right = no_places c; keys = refl; object = object; latest = latest; says = refl }

-- the command of one key more
commands_more : (c : Chronicle Op Reply) (done : List Key) (key : Key) (s : Submission Op)
    → found submitted_key key c.submitted ≡ Some s
    → commands_of c (done ++ (key ∷ [])) ≡ commands_of c done ++ (s.command ∷ [])
commands_more c done key s h = filter_map-append (command_at c) done (key ∷ []) ∙ ap (λ t. commands_of c done ++ t) (rw h refl)

module _ (laws : FilterLaws Op) (c : Chronicle Op Reply) (done : List Key) (queue : Filtered QueueState)
    (given : List Given) (obeyed : HasObeyed c done queue given) (key : Key) (s : Submission Op)
    (found_it : found submitted_key key c.submitted ≡ Some s) (has : s.command.key ≡ key)
    (known : stands submitted_key key c.submitted ≡ true) where
  -- the filter lets through what is above
  pub later_above : is_later s.command.key queue.latest ≡ true → IsAbove key done
  later_above h = subst (λ k. IsAbove k done) has
      (subst (IsAbove s.command.key) obeyed.keys
      (above_each s.command (commands_of c done) (sym (obeyed.latest s.command) ∙ h)))

  pub above_later : IsAbove key done → is_later s.command.key queue.latest ≡ true
  above_later h = obeyed.latest s.command ∙ new_above s.command (commands_of c done)
      (subst (IsAbove s.command.key) (sym obeyed.keys) (subst (λ k. IsAbove k done) (sym has) h))

  -- one place more
  pub one_obeyed : (place : ℕ) (next : Filtered QueueState) (more : List Given) → length done ≡ place
      → is_later s.command.key queue.latest ≡ true → next ≡ filtered queue_after queue s.command →
      map placed more ≡ map placed given ++ map (λ a. record { place = place; answer = a })
      (filtered_answers queue_answers queue s.command) → HasObeyed c (done ++ (key ∷ [])) next more
  one_obeyed place next more many h is says =
      let cs = commands_of c done in
      let all = commands_more c done key s found_it in
      let then : next ≡ record { object = queue_after queue.object s.command; latest = noted s.command.key queue.latest } = is ∙ rw h refl in
      let count : length cs ≡ place = sym (length-map cs (λ (d : Command Op). d.key)) ∙ ap length obeyed.keys ∙ many in
      let told : filtered_answers queue_answers queue s.command ≡ queue_answers (fold queue_after fresh cs) s.command =
      rw h (ap (λ o. queue_answers o s.command) obeyed.object) in
      record {
        right = more_places c done key obeyed.right (record { submitted = known; kept = later_above h });
        keys = ap (map (λ (d : Command Op). d.key)) all ∙ map-append (λ (d : Command Op). d.key) cs
            (s.command ∷ []) ∙ ap₂ (λ a k. a ++ (k ∷ [])) obeyed.keys has;
        object = ap (λ (f : Filtered QueueState). f.object) then ∙ ap (λ o. queue_after o s.command) obeyed.object ∙ sym
            (fold-append queue_after fresh cs (s.command ∷ [])) ∙ ap (fold queue_after fresh) (sym all);
        latest = subst (Remembers next.latest) (sym all)
            (seen_last next.latest cs s.command
            (subst (λ l. Remembers l (s.command ∷ cs)) (ap (λ (f : Filtered QueueState). f.latest) (sym then))
            (laws.done queue.latest cs s.command obeyed.latest h)));
        says = says
            ∙ ap₂ (λ a b. a ++ b) obeyed.says (ap₂ (λ n xs. map (λ a. record { place = n; answer = a }) xs) (sym count) told)
            ∙ ap (λ t. queue_replay cs ++ t) (sym (append-nil _))
            ∙ sym (replay-append queue_after queue_answers fresh cs (s.command ∷ []))
            ∙ ap queue_replay (sym all);
      }

-- an O line after those that were obeyed
module _ (c : Chronicle Op Reply) (place : ℕ) (key : Key) (inside : place < length c.order) (at : key ≡ get_or c.order place key) where
  pub one_more : take (place + 1) c.order ≡ take place c.order ++ (key ∷ [])
  one_more = take_more c.order place key inside ∙ ap (λ k. take place c.order ++ (k ∷ [])) (sym at)

  cut_here : c.order ≡ take place c.order ++ (key ∷ drop (place + 1) c.order)
  cut_here = sym (take-append-drop place c.order) ∙ ap (λ t. take place c.order ++ t) (drop_item c.order place key inside at)

  pub so_many : length (take place c.order) ≡ place
  so_many = length-take-le place c.order (omega arith)

  pub wrong_place : (n : ℕ) (what : What) → AreRightPlaces c (take place c.order)
      → n ≡ first_line c + length (happenings c.submitted c.answers) → IsWrongPlace c (take place c.order) key what
      → IsWrongOrder c (n + place) what
  wrong_place n what right line wrong = record {
    earlier = take place c.order;
    key = key;
    later = drop (place + 1) c.order;
    cut = cut_here;
    line = ap₂ (λ a b. a + b) line (sym so_many);
    before = right;
    wrong = wrong;
  }
