-- What a hall keeps by each of its calls.
use Rattle.std.proofs.Common.{◌≡◌, ◌≤◌, zero, suc, ℕ, List, [], ◌∷◌, ◌++◌, length, Option, Some, None, refl, sym, ap, ◌∙◌, subst}
use Rattle.std.proofs.Common.{arith, length-set, length-append}
use Rattle.std.specs.Prelude.{max, slice_index_or, slice_set, Result, Ok, Err, OnOk, OnErr}
use Rattle.object.specs.Objects.{Rules}
use Rattle.object.specs.declared.command.Act.{Act}
use Rattle.node.specs.declared.deed.Deed.{Deed}
use Rattle.hall.specs.declared.error.HallError.{HallError}
use Rattle.hall.specs.declared.ticket.NotedAct.{NotedAct}
use Rattle.hall.specs.Acting.{Acts}
use Rattle.hall.specs.Books.{last_number, with_number, IsNextKey}
use Rattle.hall.specs.Explained.{IsBegun}
use Rattle.hall.specs.Halls.{HallState, after_submit, after_tick, with_nodes}
use Rattle.hall.specs.Recorded.{asked}
use Rattle.hall.specs.Refusals.{Refuses, RefusesOrIdles}
use Rattle.hall.specs.Tickets.{TicketState, last_command, last_noted, next_command, next_key}
use Rattle.turns.specs.Going.{HallGoesOn}
use Rattle.turns.specs.GoingLaws.{begun_itself, goes_by, same_second, stays}

-- a number that isn't lower than the one that it takes the place of
set_grows : (xs : List ℕ) (i j n : ℕ) → slice_index_or xs i 0 ≤ n → slice_index_or xs j 0 ≤ slice_index_or (slice_set xs i n) j 0
set_grows [] i j n h = omega arith
set_grows (x ∷ xs) zero zero n h = h
set_grows (x ∷ xs) zero (suc j) n h = omega arith
set_grows (x ∷ xs) (suc i) zero n h = omega arith
set_grows (x ∷ xs) (suc i) (suc j) n h = set_grows xs i j n h

number_grows : (book : List ℕ) (session number other : ℕ) → last_number book session ≤ number
    → last_number book other ≤ last_number (with_number book session number) other
number_grows book zero number other h = omega arith
number_grows book (suc i) number zero h = omega arith
number_grows book (suc i) number (suc j) h = set_grows book i j number h

with_number_length : (book : List ℕ) (session number : ℕ) → length (with_number book session number) ≡ length book
with_number_length book zero number = refl
with_number_length book (suc i) number = length-set book i number

-- one session more
more_at : (xs : List ℕ) (j : ℕ) → slice_index_or xs j 0 ≤ slice_index_or (xs ++ 0 ∷ []) j 0
more_at [] j = omega arith
more_at (x ∷ xs) zero = omega arith
more_at (x ∷ xs) (suc j) = more_at xs j

more_sessions : (book : List ℕ) (session : ℕ) → last_number book session ≤ last_number (book ++ 0 ∷ []) session
more_sessions book zero = omega arith
more_sessions book (suc j) = more_at book j

module _ {O Op Reply : Type 0} (rules : Rules O Op Reply) (h z : HallState Op Reply) where
  pub submitted : (t : TicketState Op Reply) (act : Act Op) (n : ℕ) (reason : Option HallError) (result : Result Unit HallError)
      → OnOk result (z ≡ after_submit rules h n (next_command t act)) → OnOk result (IsNextKey h.book (next_key t))
      → IsBegun h.nodes.past z.nodes.past → Refuses reason result h z → HallGoesOn h z
  submitted t act n reason (Ok done) ok next begun refuses = record {
    past = begun;
    members = ap (λ (q : HallState Op Reply). q.nodes.network.members) ok;
    second = same_second h z (ap (λ (q : HallState Op Reply). q.second) ok);
    sessions =
        let same : length z.book ≡ length h.book =
        ap (λ (q : HallState Op Reply). length q.book) ok ∙ with_number_length h.book (next_key t).session (next_key t).number in
        omega (arith, same);
    numbers = λ session.
        let above = next.number in
        subst (λ book. last_number h.book session ≤ last_number book session) (sym (ap (λ (q : HallState Op Reply). q.book) ok))
        (number_grows h.book (next_key t).session (next_key t).number session (omega (arith, above)));
  }
  submitted t act n reason (Err e) ok next begun refuses = stays h z refuses.err

  pub resubmitted : (t : TicketState Op Reply) (n : ℕ) (reason : Option HallError) (result : Result Unit HallError)
      → OnOk result ((noted : NotedAct Op Reply) → last_noted t ≡ Some noted
      → z ≡ with_nodes h (asked rules h.nodes n (last_command t noted.act)))
      → z.nodes.past ≡ h.nodes.past → RefusesOrIdles reason (last_noted t ≡ None) result h z → HallGoesOn h z
  resubmitted t n reason (Err e) ok past refuses = stays h z refuses.refused.err
  resubmitted t n reason (Ok done) ok past refuses = at (last_noted t) refl
    where
      at : (o : Option (NotedAct Op Reply)) → last_noted t ≡ o → HallGoesOn h z
      at None e = stays h z (refuses.none e)
      at (Some noted) e =
          let is = ok noted e in
          goes_by h z (begun_itself h.nodes.past z.nodes.past past)
          (ap (λ (q : HallState Op Reply). q.nodes.network.members) is)
          (same_second h z (ap (λ (q : HallState Op Reply). q.second) is))
          (ap (λ (q : HallState Op Reply). q.book) is)

  later : (second : ℕ) → z.second ≡ max h.second second → h.second ≤ z.second
  later second e = omega (arith, e)

  pub ticked : (second n : ℕ) (reason : Option HallError) (result : Result Unit HallError)
      → OnOk result (z ≡ after_tick rules h n second) → IsBegun h.nodes.past z.nodes.past → Refuses reason result h z → HallGoesOn h z
  ticked second n reason (Err e) ok begun refuses = stays h z refuses.err
  ticked second n reason (Ok done) ok begun refuses =
      goes_by h z begun (ap (λ (q : HallState Op Reply). q.nodes.network.members) ok)
      (later second (ap (λ (q : HallState Op Reply). q.second) ok))
      (ap (λ (q : HallState Op Reply). q.book) ok)

  pub did : (n : ℕ) (d : Deed Op) (result : Result Unit HallError) → Acts rules n d h z result → HallGoesOn h z
  did n d (Err e) acts = stays h z acts.refused.err
  did n d (Ok done) acts =
      goes_by h z acts.begun (ap (λ (q : HallState Op Reply). q.nodes.network.members) acts.ok)
      (same_second h z (ap (λ (q : HallState Op Reply). q.second) acts.ok)) acts.book

  pub opened : {T : Type 0} (result : Result T HallError) → OnOk result (z ≡ record h { book = h.book ++ (0 ∷ []) }) → OnErr result (z ≡ h)
      → HallGoesOn h z
  opened (Err e) ok err = stays h z err
  opened (Ok t) ok err = record {
    past = begun_itself h.nodes.past z.nodes.past (ap (λ (q : HallState Op Reply). q.nodes.past) ok);
    members = ap (λ (q : HallState Op Reply). q.nodes.network.members) ok;
    second = same_second h z (ap (λ (q : HallState Op Reply). q.second) ok);
    sessions =
        let same : length z.book ≡ length (h.book ++ 0 ∷ []) = ap (λ (q : HallState Op Reply). length q.book) ok in
        omega (arith, same, length-append h.book (0 ∷ []));
    numbers = λ session.
        subst (λ book. last_number h.book session ≤ last_number book session) (sym (ap (λ (q : HallState Op Reply). q.book) ok))
        (more_sessions h.book session);
  }
