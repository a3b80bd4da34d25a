-- A text spells one item, and none that begins with it spells another.
use Rattle.std.proofs.Common.{◌≡◌, ℕ, List, [], ◌∷◌, ◌++◌, length, Result, Ok, Err, refl, ap, sym, ◌∙◌, arith}
use Rattle.std.proofs.lemmas.List.{append_assoc}
use Rattle.bean_codec.specs.declared.profile.Profile.{Profile}
use Rattle.bean_codec.specs.declared.request.Fault.{Fault}
use Rattle.bean_codec.specs.declared.line.Meaning.{Meaning}
use Rattle.bean_codec.specs.declared.line.Meaning.TheVariants.{Whole, WithBody}
use Rattle.bean_codec.specs.Lines.{crlf}
use Rattle.bean_codec.specs.Grammar.{Item, meaning, put_item, Completes, Spells}
use Rattle.bean_codec.proofs.LineCuts.{one_line}

-- two lists of one length in front of one list are equal
pub same_front : (a b x y : List ℕ) → length a ≡ length b → a ++ x ≡ b ++ y → a ≡ b
same_front [] [] x y n e = refl
same_front [] (c ∷ b) x y n e = absurd (omega arith)
same_front (c ∷ a) [] x y n e = absurd (omega arith)
same_front (c ∷ a) (d ∷ b) x y n e =
    let tails : a ++ x ≡ b ++ y = cc in
    let heads : c ≡ d = cc in
    let h = same_front a b x y (omega arith) tails in
    cc

-- what a line says is completed in one way
pub one_completion : (m : Result Meaning Fault) (r s x y : List ℕ) (i j : Item) → Completes m r i → Completes m s j → r ++ x ≡ s ++ y → (r ≡ s) × (i ≡ j)
one_completion (Ok (Whole request)) r s x y i j h k e = (h.0 ∙ sym k.0, h.1 ∙ sym k.1)
one_completion (Ok (WithBody pri delay ttr size)) r s x y i j h k e =
    let same = same_front r s x y (h.0 ∙ sym k.0) e in
    (same, h.1 ∙ (ap (put_item pri delay ttr size) same ∙ sym k.1))
one_completion (Err fault) r s x y i j h k e = (h.0 ∙ sym k.0, h.1 ∙ sym k.1)

-- the text of a line, with what follows, as three parts
three_parts : (line rest x : List ℕ) → (line ++ (crlf ++ rest)) ++ x ≡ line ++ (crlf ++ (rest ++ x))
three_parts line rest x = append_assoc line (crlf ++ rest) x ∙ ap (λ t. line ++ t) (append_assoc crlf rest x)

pub one_item : (profile : Profile) (a b x y : List ℕ) (i j : Item) → Spells profile a i → Spells profile b j → a ++ x ≡ b ++ y → (a ≡ b) × (i ≡ j)
one_item profile a b x y i j s t e =
    let whole : s.line ++ (crlf ++ (s.rest ++ x)) ≡ t.line ++ (crlf ++ (t.rest ++ y)) =
    sym (three_parts s.line s.rest x) ∙ (ap (λ u. u ++ x) (sym s.cut) ∙ (e ∙ (ap (λ u. u ++ y) t.cut ∙ three_parts t.line t.rest y))) in
    let lines = one_line s.line t.line (s.rest ++ x) (t.rest ++ y) s.is_line t.is_line whole in
    let completes = rw (sym lines.0) at t.completes in
    let rests = one_completion (meaning profile s.line) s.rest t.rest x y i j s.completes completes lines.1 in
    (s.cut ∙ (ap (λ l. l ++ (crlf ++ s.rest)) lines.0 ∙ (ap (λ r. t.line ++ (crlf ++ r)) rests.0 ∙ sym t.cut)), rests.1)
