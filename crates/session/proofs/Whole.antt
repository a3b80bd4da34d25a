-- Every text reads as items, in one way, and so has one transcript.
use Rattle.std.proofs.Common.{◌≡◌, ◌⊎◌, inl, inr, ℕ, zero, suc, ◌≤◌, Bool, true, false, List, [], ◌∷◌, ◌++◌, MatchBool}
use Rattle.std.proofs.Common.{length, take, drop, refl, sym, ap, ap₂, subst, ◌∙◌, length-append, length-take}
use Rattle.std.proofs.Common.{length-drop, arith}
use Rattle.std.proofs.lemmas.List.{take-append-drop}
use Rattle.std.proofs.Math.Seq.{take-append_seam, drop-append_seam}
use Rattle.bean_codec.specs.declared.profile.Profile.{Profile}
use Rattle.bean_codec.specs.Lines.{crlf}
use Rattle.bean_codec.specs.Grammar.{Item, Spells}
use Rattle.bean_codec.specs.Reads.{BeginsWith, BeginsWithNone}
use Rattle.session.specs.declared.faults.End.{End}
use Rattle.session.specs.Items.{Response, Reads, IsTranscript, is_quit, told_text}

same_rest : (f g x y : List ℕ) → f ≡ g → f ++ x ≡ g ++ y → x ≡ y
same_rest f g x y same e =
    sym (drop-append_seam f x) ∙ ap₂ drop (ap (λ bytes. length bytes) same) e ∙ drop-append_seam g y

module _ (profile : Profile) where
  -- the law of the front: a text begins with an item or with none
  abbrev pub HasFront : List ℕ → Type 0
  HasFront text = ((found : Item × ℕ) × BeginsWith profile text found) ⊎ BeginsWithNone profile text

  -- the law of the texts: no text spells two items, and none that spells an item begins another
  abbrev pub IsOneItem : Type 0
  IsOneItem = (a b x y : List ℕ) (i j : Item) → Spells profile a i → Spells profile b j → a ++ x ≡ b ++ y → (a ≡ b) × (i ≡ j)

  spelled_length : (text : List ℕ) (item : Item) → Spells profile text item → 2 ≤ length text
  spelled_length text item spelled = let e =
      ap (λ bytes. length bytes) spelled.cut in omega
      (arith, length-append spelled.line (crlf ++ spelled.rest), length-append crlf spelled.rest)

  shrinks : (n bound : ℕ) (text : List ℕ) (item : Item) → Spells profile (take n text) item → length text ≤ suc bound → length (drop n text) ≤ bound
  shrinks n bound text item spelled within =
      let two = spelled_length (take n text) item spelled in
      let front = length-take n text in
      let back = length-drop n text in
      omega arith

  ends : (n : ℕ) (text : List ℕ) (b : Bool) → b ≡ true
      → MatchBool b (◌≡◌ {A = List Item} [] [] × (End.Quit ≡ End.Quit)) (Reads profile (drop n text) [] End.Quit)
  ends n text b quits = subst (λ (b : Bool). MatchBool b (◌≡◌ {A = List Item} [] [] × (End.Quit ≡ End.Quit))
      (Reads profile (drop n text) [] End.Quit)) (sym quits) (refl, refl)

  -- the front item, and what the rest reads as, where the session goes on
  with_front : (n : ℕ) (text : List ℕ) (item : Item) → Spells profile (take n text) item
      → ((items : List Item) × (end : End) × Reads profile (drop n text) items end) → (items : List Item) × (end : End)
      × Reads profile text items end
  with_front n text item spelled more =
      elim (is_quit item) as (λ b. is_quit item ≡ b → (items : List Item) × (end : End) × Reads profile text items end) [
        | true ↦ λ quits. (
          item ∷ [],
          End.Quit,
          (
            take n text,
            drop n text,
            sym (take-append-drop n text),
            spelled,
            ends n text (is_quit item) quits,
          ),
        )
        | false ↦ λ stays. (
          item ∷ more.0,
          more.1,
          (
            take n text,
            drop n text,
            sym (take-append-drop n text),
            spelled,
            subst (λ (b : Bool). MatchBool b ((more.0 ≡ []) × (more.1 ≡ End.Quit)) (Reads profile (drop n text) more.0 more.1)) (sym stays) more.2,
          ),
        )
      ] refl

  reads_within : ((text : List ℕ) → HasFront text) → (bound : ℕ) (text : List ℕ) → length text ≤ bound
      → (items : List Item) × (end : End) × Reads profile text items end
  reads_within front zero text within =
      elim (front text) as (λ v. (items : List Item) × (end : End) × Reads profile text items end) [
        | inl found ↦ let two = spelled_length (take found.0.1 text) found.0.0 found.1.1 in let short = length-take found.0.1 text in absurd (omega arith)
        | inr none ↦ ([], End.Eof, (none, refl))
      ]
  reads_within front (suc bound) text within =
      elim (front text) as (λ v. (items : List Item) × (end : End) × Reads profile text items end) [
        | inl found ↦ with_front found.0.1 text found.0.0 found.1.1
            (reads_within front bound (drop found.0.1 text) (shrinks found.0.1 bound text found.0.0 found.1.1 within))
        | inr none ↦ ([], End.Eof, (none, refl))
      ]

  -- every input reads as some items
  pub reads_as_items : ((text : List ℕ) → HasFront text) → (input : List ℕ) → (items : List Item) × (end : End) × Reads profile input items end
  reads_as_items front input = reads_within front (length input) input (omega arith)

  -- and so has a transcript, whatever the answers
  pub has_transcript : ((text : List ℕ) → HasFront text) → (input : List ℕ) (answers : List Response) → (output : List ℕ)
      × (end : End) × IsTranscript profile input answers output end
  has_transcript front input answers =
      let r = reads_as_items front input in
      (told_text r.0 answers, r.1, (r.0, r.2, refl))

  -- an item that is read stands at the front
  stands : (text front rest : List ℕ) (item : Item) → text ≡ front ++ rest → Spells profile front item → BeginsWithNone profile text → ⊥
  stands text front rest item cut spelled none =
      let long = ap (λ bytes. length bytes) cut in
      let fits : length front ≤ length text = omega (arith, length-append front rest) in
      none (item, length front) (fits, subst (λ bytes. Spells profile bytes item) (sym (ap (take (length front)) cut ∙ take-append_seam front rest)) spelled)

  -- two readings of one text are one
  pub one_reading : IsOneItem → (text : List ℕ) (is js : List Item) (d e : End) → Reads profile text is d → Reads profile text js e → (is ≡ js) × (d ≡ e)
  one_reading one text [] [] d e r q = (refl, r.1 ∙ sym q.1)
  one_reading one text [] (j ∷ js) d e r q = absurd (stands text q.0 q.1 j q.2 q.3 r.0)
  one_reading one text (i ∷ is) [] d e r q = absurd (stands text r.0 r.1 i r.2 r.3 q.0)
  one_reading one text (i ∷ is) (j ∷ js) d e r q =
      let fronts = one r.0 q.0 r.1 q.1 i j r.3 q.3 (sym r.2 ∙ q.2) in
      let rests : r.1 ≡ q.1 = same_rest r.0 q.0 r.1 q.1 fronts.0 (sym r.2 ∙ q.2) in
      let more : MatchBool (is_quit i) ((js ≡ []) × (e ≡ End.Quit)) (Reads profile r.1 js e) =
      subst (λ k. MatchBool (is_quit k) ((js ≡ []) × (e ≡ End.Quit)) (Reads profile r.1 js e)) (sym fronts.1)
      (subst (λ bytes. MatchBool (is_quit j) ((js ≡ []) × (e ≡ End.Quit)) (Reads profile bytes js e)) (sym rests) q.4) in
      let tails : (is ≡ js) × (d ≡ e) =
      elim (is_quit i) as (λ b. MatchBool b ((is ≡ []) × (d ≡ End.Quit)) (Reads profile r.1 is d)
      → MatchBool b ((js ≡ []) × (e ≡ End.Quit)) (Reads profile r.1 js e) → (is ≡ js) × (d ≡ e)) [
        | true ↦ λ m n. (m.0 ∙ sym n.0, m.1 ∙ sym n.1)
        | false ↦ λ m n. one_reading one r.1 is js d e m n
      ] r.4 more in
      (ap₂ (λ k ks. k ∷ ks) fronts.1 tails.0, tails.1)

  -- two transcripts of one input are one
  pub one_transcript : IsOneItem → (input : List ℕ) (answers : List Response) (a b : List ℕ) (d e : End)
      → IsTranscript profile input answers a d → IsTranscript profile input answers b e → (a ≡ b) × (d ≡ e)
  one_transcript one input answers a b d e r q =
      let same = one_reading one input r.0 q.0 d e r.1 q.1 in
      (r.2 ∙ ap (λ items. told_text items answers) same.0 ∙ sym q.2, same.1)

  pub any_cut : IsOneItem → (input other : List ℕ) (answers : List Response) (a b : List ℕ) (d e : End) → input ≡ other
      → IsTranscript profile input answers a d → IsTranscript profile other answers b e → (a ≡ b) × (d ≡ e)
  any_cut one input other answers a b d e same r q = one_transcript one input answers a b d e r (subst (λ i. IsTranscript profile i answers b e) (sym same) q)
