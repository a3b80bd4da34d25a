-- What a client is told by answers that come one after the other, and by those of other sessions.
use Rattle.std.proofs.Common.{◌≡◌, ◌≢◌, false, cond, List, [], ◌∷◌, ◌++◌, Option, Some, None, refl, sym, ap, ◌∙◌}
use Rattle.std.specs.Prelude.{option_map}
use Rattle.std.specs.Option.{option_or}
use Rattle.std.proofs.lemmas.Bool.{false_from_ne_true}
use Rattle.std.proofs.lemmas.List.Folds.{find-append}
use Rattle.object.specs.Answers.{answered_key}
use Rattle.object.specs.KeyLaws.{same_is}
use Rattle.object.specs.Keys.{same_key, found}
use Rattle.object.specs.declared.command.Answer.{Answer}
use Rattle.object.specs.declared.command.Command.{Command}
use Rattle.object.specs.declared.command.Key.{Key}
use Rattle.client_table.specs.Clients.{first_reply, replied}
use Rattle.client_table.specs.declared.client.Client.{Client}

map_or : {A B : Type 0} (f : A → B) (o p : Option A) → option_map f (option_or o p) ≡ option_or (option_map f o) (option_map f p)
map_or f None p = refl
map_or f (Some x) p = refl

or_or : {A : Type 0} (o p q : Option A) → option_or (option_or o p) q ≡ option_or o (option_or p q)
or_or None p q = refl
or_or (Some x) p q = refl

or_none : {A : Type 0} (o : Option A) → option_or o None ≡ o
or_none None = refl
or_none (Some x) = refl

module _ {Op Reply : Type 0} where
  -- the first reply of two lists in a row
  pub reply_of_both : (xs ys : List (Answer Reply)) (last : Option (Command Op))
      → first_reply (xs ++ ys) last ≡ option_or (first_reply xs last) (first_reply ys last)
  reply_of_both xs ys None = refl
  reply_of_both xs ys (Some c) =
      ap (option_map (λ (a : Answer Reply). a.reply)) (find-append (λ (a : Answer Reply). same_key (answered_key a) c.key) xs ys)
      ∙ map_or (λ (a : Answer Reply). a.reply) (found answered_key c.key xs) (found answered_key c.key ys)

  -- answers that come after others
  pub replied_both : (xs ys : List (Answer Reply)) (client : Client Op Reply) → replied ys (replied xs client) ≡ replied (xs ++ ys) client
  replied_both xs ys client = λ i. record client {
    reply = (or_or client.reply (first_reply xs client.last) (first_reply ys client.last)
        ∙ ap (option_or client.reply) (sym (reply_of_both xs ys client.last))) i;
  }

  no_reply : (last : Option (Command Op)) → first_reply {Reply = Reply} [] last ≡ None
  no_reply None = refl
  no_reply (Some c) = refl

  untold : (answers : List (Answer Reply)) (client : Client Op Reply) → first_reply answers client.last ≡ None → replied answers client ≡ client
  untold answers client none = λ i. record client { reply = (ap (option_or client.reply) none ∙ or_none client.reply) i }

  -- no answers
  pub replied_none : (client : Client Op Reply) → replied [] client ≡ client
  replied_none client = untold [] client (no_reply client.last)

  other_key : (a : Answer Reply) (c : Command Op) → c.key.session ≢ a.to.session → same_key a.to c.key ≡ false
  other_key a c other = false_from_ne_true (same_key a.to c.key) (λ same. other (ap (λ (k : Key). k.session) (sym (same_is a.to c.key same))))

  no_reply_to_other : (a : Answer Reply) (last : Option (Command Op)) → ((c : Command Op) → last ≡ Some c → c.key.session ≢ a.to.session)
      → first_reply (a ∷ []) last ≡ None
  no_reply_to_other a None other = refl
  no_reply_to_other a (Some c) other = ap (λ b. option_map (λ (x : Answer Reply). x.reply) (cond b (Some a) None)) (other_key a c (other c refl))

  -- an answer to another session
  pub replied_other : (a : Answer Reply) (client : Client Op Reply) → ((c : Command Op) → client.last ≡ Some c → c.key.session ≢ a.to.session)
      → replied (a ∷ []) client ≡ client
  replied_other a client other = untold (a ∷ []) client (no_reply_to_other a client.last other)
