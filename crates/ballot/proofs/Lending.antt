-- A value that may be lent to be changed.
use Rattle.std.proofs.Common.{◌≡◌, true, Option, None, Some, refl, ap, sym, inl, inr, MutBor}
use Rattle.std.specs.Option.{is_some, option_copied_mut, ghost_name_of}
use borrow.Follows.Closed.{read_of}

-- two readings of what the lender ends as are one, if they agree on what is lent and at None
pub same_loan : {D E : Type 0} (lent : Option (MutBor E)) (F G : E → D) (v w : D)
    → (is_some lent ≡ true → (x : E) → F x ≡ G x) → (lent ≡ None → v ≡ w)
    → read_of (ghost_name_of lent) F v ≡ read_of (ghost_name_of lent) G w
same_loan None F G v w some none = ap inr (none refl)
same_loan (Some r) F G v w some none = λ i. inl (r.ghost_name, λ x. some refl x i)

-- what is lent is there
pub there_where_lent : {E : Type 0} (lent : Option (MutBor E)) (o : Option E) → option_copied_mut lent ≡ o → is_some lent ≡ true → is_some o ≡ true
there_where_lent None o is h = absurd (cc)
there_where_lent (Some r) o is h = ap is_some (sym is)
