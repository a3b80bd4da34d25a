-- What fits goes on to fit where more bytes come.
use Rattle.std.proofs.Common.{ℕ, List, [], ◌∷◌, ◌++◌, take, refl, ap, subst}
use Rattle.std.proofs.lemmas.List.{append-nil}
use Rattle.bean_codec.specs.declared.profile.Profile.{Profile}
use Rattle.bean_codec.specs.declared.reader.Want.{Want}
use Rattle.bean_codec.specs.declared.reader.Want.TheVariants.{Line, Rest, Big}
use Rattle.bean_codec.specs.Lines.{IsLine}
use Rattle.bean_codec.specs.Wants.{EndsWithCr, FitsRest, Fits}

-- a byte more makes no CR LF of what doesn't end with CR
a_byte_more : (text : List ℕ) (b : ℕ) → IsLine text → (EndsWithCr text → ⊥) → IsLine (text ++ b ∷ [])
a_byte_more [] b line last = tt
a_byte_more (c ∷ []) b line last = ((λ e. last ([], ap (λ bytes. take 1 bytes) e)), tt)
a_byte_more (c ∷ d ∷ rest) b line last = (line.0, a_byte_more (d ∷ rest) b line.1 (λ cr. last (c ∷ cr.0, ap (λ bytes. c ∷ bytes) cr.1)))

rest_more : (d bytes more : List ℕ) → FitsRest d bytes → FitsRest d (bytes ++ more)
rest_more d [] [] f = f
rest_more d [] (b ∷ more) f = record {
  long = f.long;
  is_line = a_byte_more d b (subst IsLine (append-nil d) f.is_line) (f.last refl);
  last = λ e. absurd (cc);
}
rest_more d (b ∷ bytes) more f = record {
  long = f.long;
  is_line = f.is_line;
  last = λ e. absurd (cc);
}

pub fits_more : (profile : Profile) (want : Want) (d bytes more : List ℕ) → Fits profile want d bytes → Fits profile want d (bytes ++ more)
fits_more profile Line d bytes more f = f
fits_more profile Rest d bytes more f = rest_more d bytes more f
fits_more profile (Big n) d bytes more f = f
