-- What a hall keeps it keeps where nothing is done, and from one call to the next.
use Rattle.std.proofs.Common.{◌≡◌, ◌≤◌, ℕ, List, [], ◌++◌, length, refl, sym, ap, ◌∙◌, append-nil, arith}
use Rattle.std.proofs.lemmas.List.{append_assoc}
use Rattle.object.specs.Lists.{IsBeginning}
use Rattle.recorder.specs.Records.{Record}
use Rattle.hall.specs.Books.{last_number}
use Rattle.hall.specs.Explained.{IsBegun}
use Rattle.hall.specs.Halls.{HallState}
use Rattle.turns.specs.Going.{HallGoesOn, HallTurnsOn}

-- a list begins with itself, and with what a beginning of it begins with
begins_itself : {A : Type 0} (xs ys : List A) → xs ≡ ys → IsBeginning xs ys
begins_itself xs ys e = ([], sym (append-nil xs ∙ e))

begins_further : {A : Type 0} (xs ys zs : List A) → IsBeginning xs ys → IsBeginning ys zs → IsBeginning xs zs
begins_further xs ys zs a b = (a.0 ++ b.0, b.1 ∙ ap (λ l. l ++ b.0) a.1 ∙ append_assoc xs a.0 b.0)

same_number : (book now : List ℕ) (session : ℕ) → now ≡ book → last_number book session ≤ last_number now session
same_number book now session e = let same : last_number now session ≡ last_number book session = ap (λ b. last_number b session) e in omega (arith, same)

same_count : (book now : List ℕ) → now ≡ book → length book ≤ length now
same_count book now e = let same : length now ≡ length book = ap length e in omega (arith, same)

module _ {Op Reply : Type 0} where
  pub begun_itself : (r s : Record Op Reply) → s ≡ r → IsBegun r s
  begun_itself r s e = record {
    submitted = begins_itself r.happenings.submitted s.happenings.submitted (sym (ap (λ (q : Record Op Reply). q.happenings.submitted) e));
    answers = begins_itself r.happenings.answers s.happenings.answers (sym (ap (λ (q : Record Op Reply). q.happenings.answers) e));
    order = begins_itself r.order s.order (sym (ap (λ (q : Record Op Reply). q.order) e));
  }

  begun_further : (r s t : Record Op Reply) → IsBegun r s → IsBegun s t → IsBegun r t
  begun_further r s t a b = record {
    submitted = begins_further r.happenings.submitted s.happenings.submitted t.happenings.submitted a.submitted b.submitted;
    answers = begins_further r.happenings.answers s.happenings.answers t.happenings.answers a.answers b.answers;
    order = begins_further r.order s.order t.order a.order b.order;
  }

  -- by the parts that a call without a session's command or opening may change
  pub goes_by : (h z : HallState Op Reply) → IsBegun h.nodes.past z.nodes.past → z.nodes.network.members ≡ h.nodes.network.members
      → h.second ≤ z.second → z.book ≡ h.book → HallGoesOn h z
  goes_by h z begun members second book = record {
    past = begun;
    members = members;
    second = second;
    sessions = same_count h.book z.book book;
    numbers = λ session. same_number h.book z.book session book;
  }

  pub same_second : (h z : HallState Op Reply) → z.second ≡ h.second → h.second ≤ z.second
  same_second h z e = omega (arith, e)

  pub stays : (h z : HallState Op Reply) → z ≡ h → HallGoesOn h z
  stays h z e = goes_by h z
      (begun_itself h.nodes.past z.nodes.past (ap (λ (q : HallState Op Reply). q.nodes.past) e))
      (ap (λ (q : HallState Op Reply). q.nodes.network.members) e)
      (same_second h z (ap (λ (q : HallState Op Reply). q.second) e))
      (ap (λ (q : HallState Op Reply). q.book) e)

  pub further : (a b c : HallState Op Reply) → HallGoesOn a b → HallGoesOn b c → HallGoesOn a c
  further a b c first then = record {
    past = begun_further a.nodes.past b.nodes.past c.nodes.past first.past then.past;
    members = then.members ∙ first.members;
    second = let low = first.second in let high = then.second in omega (arith, low, high);
    sessions = let low = first.sessions in let high = then.sessions in omega (arith, low, high);
    numbers = λ session. let low = first.numbers session in let high = then.numbers session in omega (arith, low, high);
  }

  pub turns_stay : (h : HallState Op Reply) → HallTurnsOn h h
  turns_stay h = record { goes_on = stays h h refl; book = refl }

  pub turns_further : (a b c : HallState Op Reply) → HallTurnsOn a b → HallTurnsOn b c → HallTurnsOn a c
  turns_further a b c first then = record { goes_on = further a b c first.goes_on then.goes_on; book = then.book ∙ first.book }

  pub turns_as_many : (a b : HallState Op Reply) → HallTurnsOn a b → length b.nodes.network.members ≡ length a.nodes.network.members
  turns_as_many a b on = ap length on.goes_on.members
