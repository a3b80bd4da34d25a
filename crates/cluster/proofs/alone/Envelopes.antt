-- Envelopes are what is left of letters.
use Rattle.std.proofs.Common.{◌≡◌, ◌≤◌, inl, inr, ℕ, List, [], ◌∷◌, Some, None, Option, refl, sym, ap, ◌∙◌, subst}
use Rattle.std.specs.Prelude.{option_map}
use Rattle.std.specs.List.{cons_option}
use Rattle.object.specs.Lists.{In}
use Rattle.ballot.specs.declared.letter.Letter.{Letter}
use Rattle.ballot.specs.declared.letter.LetterBody.{LetterBody}
use Rattle.ballot.specs.declared.letter.LetterBody.TheVariants.{P1a, P1b, P2a, P2b, Propose, Decision, Ask}
use Rattle.ballot.specs.Rests.{rest_of_body, rest_of_letter, rests}
use Rattle.agreement.specs.Nodes.{Cluster}
use Rattle.forgetting.proofs.Bases.{pvalues_twice}
use Rattle.forgetting.proofs.Nodes.{left}
use Rattle.cluster.specs.Envelopes.{AreEnvelopesOf, IsLegible}

module _ {C : Type 0} (base : ℕ) where
  -- a rest is of a letter
  pub record IsRestOf (l m : Letter C) : Type 0 where
    pub sender : l.«from» ≡ m.«from»
    pub receiver : l.to ≡ m.to
    pub body : rest_of_body base m.body ≡ Some l.body

  of_letter : (m l : Letter C) (o : Option (LetterBody C)) → rest_of_body base m.body ≡ o
      → option_map (λ b. record m { body = b }) o ≡ Some l → IsRestOf l m
  of_letter m l None e f = absurd (cc)
  of_letter m l (Some b) e f =
      let same : record m { body = b } ≡ l = cc in
      subst (λ q. IsRestOf q m) same (record { sender = refl; receiver = refl; body = e })

  rests_step : (l m : Letter C) (ms : List (Letter C)) (o : Option (Letter C)) → rest_of_letter base m ≡ o
      → In l (cons_option o (rests base ms)) → (In l (rests base ms) → (q : Letter C) × In q ms × IsRestOf l q)
      → (q : Letter C) × In q (m ∷ ms) × IsRestOf l q
  rests_step l m ms None e i more = let r = more i in (r.0, inr r.1, r.2)
  rests_step l m ms (Some k) e (inl same) more = (
    m,
    inl refl,
    of_letter m l (rest_of_body base m.body) refl
        (e ∙ ap (λ q. Some q) (sym same)),
  )
  rests_step l m ms (Some k) e (inr i) more = let r = more i in (r.0, inr r.1, r.2)

  pub rests_In : (l : Letter C) (ms : List (Letter C)) → In l (rests base ms) → (m : Letter C) × In m ms × IsRestOf l m
  rests_In l [] i = absurd i
  rests_In l (m ∷ ms) i = rests_step l m ms (rest_of_letter base m) refl i (rests_In l ms)

  -- what is left of letters that were sent is envelopes
  pub envelopes_of : (sent out : List (Letter C)) (k : Cluster C) → sent ≡ rests base out
      → ((l : Letter C) → In l out → In l k.letters) → AreEnvelopesOf base sent k
  envelopes_of sent out k told all l i =
      let r = rests_In l out (subst (In l) told i) in
      record { whole = r.0; sent = all r.0 r.1; sender = r.2.sender; receiver = r.2.receiver; left = r.2.body }

-- of an envelope that may be read as much is left as of the letter
module _ {C : Type 0} (base label : ℕ) where
  some_is : (b k : LetterBody C) → Some b ≡ Some k → k ≡ b
  some_is b k e = cc

  same_left : (whole body : LetterBody C) → body ≡ whole → rest_of_body base whole ≡ rest_of_body base body
  same_left whole body e = ap (rest_of_body base) (sym e)

  pub read_left : (whole body : LetterBody C) → rest_of_body label whole ≡ Some body → IsLegible base label body
      → rest_of_body base whole ≡ rest_of_body base body
  read_left (P1a b) body e h = same_left (P1a b) body (some_is _ _ e)
  read_left (P1b b report) body e h =
      let is = some_is _ _ e in
      let low : label ≤ base = subst (IsLegible base label) is h in
      ap (λ ps. Some (P1b b ps)) (sym (pvalues_twice label base low report)) ∙ ap (rest_of_body base) (sym is)
  read_left (P2a p) body e h = same_left (P2a p) body (left label p.slot (P2a p) body e).0
  read_left (P2b o s by) body e h = same_left (P2b o s by) body (left label s (P2b o s by) body e).0
  read_left (Propose s c) body e h = same_left (Propose s c) body (left label s (Propose s c) body e).0
  read_left (Decision s c) body e h = same_left (Decision s c) body (left label s (Decision s c) body e).0
  read_left (Ask s) body e h = same_left (Ask s) body (some_is _ _ e)
