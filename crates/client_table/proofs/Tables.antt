-- The clients by their sessions: what changes of the table leave, and that each client's last command stays its session's.
use Rattle.std.proofs.Common.{◌≡◌, ◌≢◌, ⊎_elim, ℕ, length, append-nil, true, false, cond, List, [], ◌∷◌, ◌++◌, arith}
use Rattle.std.proofs.Common.{Option, Some, None, refl, sym, ap, subst, ◌∙◌, nat_cmp, true≢false}
use Rattle.std.specs.Prelude.{option_map, Result, Ok, Err, IsSome, IsOk, OnOk, OnErr}
use Rattle.std.specs.BTreeMap.{is_at}
use Rattle.std.specs.Cmp.{nat_cmp_total}
use Rattle.std.specs.FinMap.{get, insert, remove, from_entries, get-insert}
use Rattle.std.specs.Map.{lookup}
use Rattle.std.specs.Ordering.{eq_by_cmp}
use Rattle.std.proofs.lemmas.Bool.{cases_eq}
use Rattle.std.proofs.lemmas.Bool.Decides.{nat_tests}
use Rattle.object.proofs.LatestMaps.{get_at, put_at}
use Rattle.object.specs.declared.command.Answer.{Answer}
use Rattle.object.specs.declared.command.Command.{Command}
use Rattle.ballot.specs.Slots.{Slots, each_value}
use Rattle.ballot.proofs.SlotMaps.{same_slots, insert_cases, kept_by_remove, get_each}
use Rattle.client_table.specs.Clients.{Summary, HasOwnCommands, new_client, client_of, replied, told}
use Rattle.client_table.specs.declared.client.Client.{Client}
use Rattle.client_table.proofs.Replies.{replied_both, replied_none, replied_other}

some_one : {X : Type 0} (x y : X) → Some x ≡ Some y → x ≡ y
some_one x y e = cc

mapped : {X Y : Type 0} (f : X → Y) (o : Option X) (y : Y) → option_map f o ≡ Some y → (x : X) × (o ≡ Some x) × (f x ≡ y)
mapped f None y e = absurd (cc)
mapped f (Some x) y e = (x, refl, some_one (f x) y e)

mapped_both : {X Y Z : Type 0} (f : X → Y) (g : Y → Z) (h : X → Z) → ((x : X) → g (f x) ≡ h x) → (o : Option X)
    → option_map g (option_map f o) ≡ option_map h o
mapped_both f g h both None = refl
mapped_both f g h both (Some x) = ap Some (both x)

unmoved : {X : Type 0} (f : X → X) (o : Option X) → ((x : X) → o ≡ Some x → f x ≡ x) → option_map f o ≡ o
unmoved f None same = refl
unmoved f (Some x) same = ap Some (same x refl)

-- where something is there it is not refused for want of a place
pub is_known : {T E X : Type 0} (r : Result T E) (o : Option X) → IsSome o → OnErr r (o ≡ None) → IsOk r
is_known (Ok t) o there absent = refl
is_known (Err e) o there absent = absurd (true≢false (sym (subst IsSome absent there)))

-- what is left of answers once there are none
pub none_left : {X : Type 0} (told left all : List X) → told ++ left ≡ all → length left ≡ 0 → told ≡ all
none_left told [] all e none = sym (append-nil told) ∙ e
none_left told (x ∷ left) all e none = absurd (omega (arith, none))

-- what is so of an Ok
pub when_ok : {T E P : Type 0} (r : Result T E) (x : T) → r ≡ Ok x → OnOk r P → P
when_ok {P = P} r x e h = subst (λ q. OnOk q P) e h

not_there : {X P : Type 0} {o : Option X} {x : X} → o ≡ None → o ≡ Some x → P
not_there e f = absurd (cc)

here_eq : (q s : ℕ) → q ≡ s → eq_by_cmp nat_cmp q s ≡ true
here_eq q s e = grind (arith, nat_tests, e)

there_eq : (q s : ℕ) → q ≢ s → eq_by_cmp nat_cmp q s ≡ false
there_eq q s n = grind (arith, nat_tests, n)

module _ {Op Reply : Type 0} where
  -- a client is put there whose last command is its session's
  pub own_inserted : (clients : Slots (Client Op Reply)) (s : ℕ) (client : Client Op Reply) → HasOwnCommands clients
      → ((c : Command Op) → client.last ≡ Some c → c.key.session ≡ s) → HasOwnCommands (insert clients s client)
  own_inserted clients s client own is q x c at last = ⊎_elim
      (λ (h : (q ≡ s) × (get (insert clients s client) q ≡ Some client)).
      is c (ap (λ (y : Client Op Reply). y.last) (some_one client x (sym h.1 ∙ at)) ∙ last) ∙ sym h.0)
      (λ (h : get (insert clients s client) q ≡ get clients q). own q x c (sym h ∙ at) last)
      (insert_cases clients s client q)

  -- one that has none
  pub own_new : (clients : Slots (Client Op Reply)) (s : ℕ) → HasOwnCommands clients → HasOwnCommands (insert clients s new_client)
  own_new clients s own = own_inserted clients s new_client own (λ c last. absurd (cc))

  -- one with this command
  pub own_command : (clients : Slots (Client Op Reply)) (c : Command Op) → HasOwnCommands clients → HasOwnCommands (insert clients c.key.session (client_of c))
  own_command clients c own = own_inserted clients c.key.session (client_of c) own
      (λ d last. ap (λ (x : Command Op). x.key.session) (sym (some_one c d last)))

  -- and one is taken away
  pub own_removed : (clients : Slots (Client Op Reply)) (s : ℕ) → HasOwnCommands clients → HasOwnCommands (remove clients s)
  own_removed clients s own q x c at last = own q x c (kept_by_remove clients s q x at) last

  -- and nobody is there at first
  pub own_none : (es : List (ℕ × Client Op Reply)) → es ≡ [] → HasOwnCommands (from_entries es)
  own_none es none q x c at last = not_there (get_at es q ∙ ap (lookup (is_at (nat_cmp q))) none) at

  -- what is told leaves the last commands as they were
  pub own_told : (clients : Slots (Client Op Reply)) (given : List (Answer Reply)) → HasOwnCommands clients
      → HasOwnCommands (each_value (λ session client. replied given client) clients)
  own_told clients given own q x c at last =
      let was = mapped (replied given) (get clients q) x (sym (get_each (λ _ y. replied given y) clients q) ∙ at) in
      own q was.0 c was.1 (ap (λ (y : Client Op Reply). y.last) was.2 ∙ last)

  module _ (clients : Slots (Client Op Reply)) (a : Answer Reply) (own : HasOwnCommands clients) where
    -- an answer changes nothing of a client of another session
    beside : (q : ℕ) → q ≢ a.to.session → option_map (replied (a ∷ [])) (get clients q) ≡ get clients q
    beside q other = unmoved (replied (a ∷ [])) (get clients q)
        (λ x at. replied_other a x (λ c last same. other (sym (own q x c at last) ∙ same)))

    -- so it is told to the client of its session, if it is there
    pub told_there : (client : Client Op Reply) → get clients a.to.session ≡ Some client
        → insert clients a.to.session (replied (a ∷ []) client) ≡ each_value (λ session y. replied (a ∷ []) y) clients
    told_there client there = same_slots (insert clients a.to.session (replied (a ∷ []) client)) (each_value (λ session y. replied (a ∷ []) y) clients)
        (λ q. get-insert nat_cmp_total clients a.to.session (replied (a ∷ []) client) q ∙ ⊎_elim
        (λ (e : q ≡ a.to.session). ap (λ b. cond b (Some (replied (a ∷ []) client)) (get clients q)) (here_eq q a.to.session e)
        ∙ sym (get_each (λ _ y. replied (a ∷ []) y) clients q ∙ ap (option_map (replied (a ∷ []))) (ap (get clients) e ∙ there)))
        (λ (n : q ≢ a.to.session). ap (λ b. cond b (Some (replied (a ∷ []) client)) (get clients q)) (there_eq q a.to.session n)
        ∙ sym (get_each (λ _ y. replied (a ∷ []) y) clients q ∙ beside q n))
        (cases_eq q a.to.session))

    -- and else to nobody
    pub told_nobody : get clients a.to.session ≡ None → clients ≡ each_value (λ session y. replied (a ∷ []) y) clients
    told_nobody none = same_slots clients (each_value (λ session y. replied (a ∷ []) y) clients)
        (λ q. sym (get_each (λ _ y. replied (a ∷ []) y) clients q ∙ ⊎_elim
        (λ (e : q ≡ a.to.session). ap (option_map (replied (a ∷ []))) (ap (get clients) e ∙ none) ∙ sym (ap (get clients) e ∙ none))
        (λ (n : q ≢ a.to.session). beside q n)
        (cases_eq q a.to.session)))

  -- the same, of the tree that has the clients
  pub told_in : (es fs : List (ℕ × Client Op Reply)) (a : Answer Reply) (client after : Client Op Reply) → HasOwnCommands (from_entries es)
      → Some client ≡ lookup (is_at (nat_cmp a.to.session)) es → after ≡ replied (a ∷ []) client
      → ((q : ℕ) → lookup (is_at (nat_cmp q)) fs ≡ cond (is_at (nat_cmp a.to.session) q) (Some after) (lookup (is_at (nat_cmp q)) es))
      → from_entries fs ≡ each_value (λ session y. replied (a ∷ []) y) (from_entries es)
  told_in es fs a client after own there is wrote = put_at es fs a.to.session after wrote
      ∙ ap (insert (from_entries es) a.to.session) is ∙ told_there (from_entries es) a own client (get_at es a.to.session ∙ sym there)

  pub told_in_none : (es : List (ℕ × Client Op Reply)) (a : Answer Reply) → HasOwnCommands (from_entries es)
      → lookup (is_at (nat_cmp a.to.session)) es ≡ None → from_entries es ≡ each_value (λ session y. replied (a ∷ []) y) (from_entries es)
  told_in_none es a own none = told_nobody (from_entries es) a own (get_at es a.to.session ∙ none)

  abbrev pub summary : Slots (Client Op Reply) → ℕ → ℕ → ℕ → Summary Op Reply
  summary m a b c = record { clients = m; submitted = a; answered = b; placed = c }

  -- the same table, with clients that are the same
  pub with_same : (m n : Slots (Client Op Reply)) (a b c : ℕ) → m ≡ n
      → summary m a b c ≡ summary n a b c
  with_same m n a b c e = λ i. summary (e i) a b c

  -- no answers are told
  pub told_none : (s : Summary Op Reply) → s ≡ told [] s
  told_none s = λ i. record s {
    clients = same_slots s.clients (each_value (λ session y. replied [] y) s.clients)
        (λ q. sym (get_each (λ _ y. replied [] y) s.clients q ∙ unmoved (replied []) (get s.clients q) (λ x at. replied_none x))) i;
  }

  -- answers that come after others
  pub told_both : (xs ys : List (Answer Reply)) (s : Summary Op Reply) → told ys (told xs s) ≡ told (xs ++ ys) s
  told_both xs ys s = λ i. record s {
    clients = same_slots
        (each_value (λ session y. replied ys y) (each_value (λ session y. replied xs y) s.clients))
        (each_value (λ session y. replied (xs ++ ys) y) s.clients)
        (λ q. get_each (λ _ y. replied ys y) (each_value (λ session y. replied xs y) s.clients) q
        ∙ ap (option_map (replied ys)) (get_each (λ _ y. replied xs y) s.clients q)
        ∙ mapped_both (replied xs) (replied ys) (replied (xs ++ ys)) (replied_both xs ys) (get s.clients q)
        ∙ sym (get_each (λ _ y. replied (xs ++ ys) y) s.clients q)) i;
  }
