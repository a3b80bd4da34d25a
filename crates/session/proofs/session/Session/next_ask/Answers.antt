use Rattle.std.proofs.Common.{◌≤◌, List, ℕ, length, drop, vec_capacity, subst, rules}
use Rattle.session.specs.Held.{Held, StandsBefore, FrontTakesRoom, Finds, holding}
use Rattle.session.proofs.Standing.{finds_unsent}
use Rattle.session.proofs.session.Session.next_ask.Goals as goal

pub returns-after-matches-clause-found : goal.returns-after-matches-clause-found
returns-after-matches-clause-found c =
    let s = c.self.inside in
    let f = c.in-Ok.found in
    let new = c.look_on.new.text.items in
    let within : s.sent ≤ length s.text.items = search rules in
    let after : Held = record {
      profile = s.profile;
      want = f.want;
      kept = drop f.start s.bytes.items;
      unsent = drop s.sent new;
      is_open =
          c.match-matches.self;
      read_len = f.start;
      sent_len = s.sent;
      capacity = vec_capacity s.bytes;
    } in
    subst (λ (h : Held). (t : List ℕ) → StandsBefore h t → Finds h.profile h after t f.request) c.self.view_is
    (finds_unsent s.profile s.want f.want (drop s.start s.bytes.items)
    (drop f.start s.bytes.items) s.text.items new s.sent s.start f.start
    (vec_capacity s.bytes) s.is_open c.match-matches.self f.request within
    (subst (λ bytes. (t : List ℕ) → StandsBefore (holding s.profile s.want (drop s.start bytes) s.text.items) t
    → Finds s.profile (holding s.profile s.want (drop s.start bytes) s.text.items)
    (holding s.profile f.want (drop f.start bytes) new) t f.request) c.as_slice.ensures.value c.in-Ok.ensures.found))

pub returns-in-Err-clause-memory : goal.returns-in-Err-clause-memory
returns-in-Err-clause-memory c =
    let s = c.self.inside in
    subst (λ (h : Held). (t : List ℕ) → StandsBefore h t → FrontTakesRoom h.profile t) c.self.view_is
    (subst (λ bytes. (t : List ℕ) → StandsBefore (holding s.profile s.want (drop s.start bytes) s.text.items) t → FrontTakesRoom s.profile t)
    c.as_slice.ensures.value c.in-Err.ensures.memory)
