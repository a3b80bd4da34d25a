-- What calls of `write_all` did to a writer.
use Rattle.std.proofs.Common.{◌≡◌, ◌∙◌, ℕ, ◌+◌, Bool, true, List, ◌++◌, Option, Result, Ok, Err, IsErr, OnOk, OnErr, length, take, drop, take_all, le_refl}
use Rattle.std.proofs.Common.{subst, sym, ap, append_assoc, take-append-drop}
use Rattle.std.proofs.Math.Seq.{take-append-add, take-append_seam}
use Rattle.std.proofs.KnownBytes.{Appends-trans}
use Rattle.std.specs.Io.KnownBytes.{Appends}
use Rattle.session.specs.Streams.{AppendsBeginning}
use Rattle.session.specs.StreamStates.{WritesAll}
use Rattle.session.specs.declared.streams.ByteOut.{Ghosts as ByteOut}
use Rattle.beanpax.specs.Program.{WritesText}

pub writes_text : {T E : Type 0} (r : Result T E) (old new : Option (List ℕ)) (has_failed : Bool) (text : List ℕ)
    → OnOk r (Appends old new text) → OnErr r (AppendsBeginning old new text) → OnErr r (has_failed ≡ true)
    → WritesText old new has_failed text
writes_text (Ok x) old new has_failed text whole some failed = record {
  some = (length text, subst (Appends old new) (sym (take_all (length text) text (le_refl _))) whole);
  whole = λ _. whole;
}
writes_text (Err e) old new has_failed text whole some failed = record { some = some; whole = λ not_failed. absurd (cc) }

begins_both : (old new : Option (List ℕ)) (text more : List ℕ) → AppendsBeginning old new text → AppendsBeginning old new (text ++ more)
begins_both old new text more (n, some) =
    let first : List ℕ = take n text in
    let same : take (length first) (text ++ more) ≡ first =
    ap (λ t. take (length first) (t ++ more)) (sym (take-append-drop n text)) ∙ ap (take (length first)) (append_assoc first (drop n text) more)
    ∙ take-append_seam first (drop n text ++ more) in
    (length first, subst (Appends old new) (sym same) some)

begins_on : (old middle new : Option (List ℕ)) (text more : List ℕ) → Appends old middle text → AppendsBeginning middle new more
    → AppendsBeginning old new (text ++ more)
begins_on old middle new text more whole (n, some) =
    (length text + n, subst (Appends old new) (sym (take-append-add text more n)) (Appends-trans old middle new text (take n more) whole some))

-- where a text wasn't written to its end, nothing behind it was
pub breaks : {W E : Type 0} (writes : ByteOut W) (old new : W) (text more : List ℕ) (e : E) (r : Result Unit E)
    → WritesAll {E = E} writes old new text (Err e) → IsErr r → WritesAll writes old new (text ++ more) r
breaks writes old new text more e (Ok x) h is = absurd (cc)
breaks writes old new text more e (Err f) h is = record {
  ok = tt;
  err = begins_both (writes.contents old) (writes.contents new) text more h.err;
  stays = tt;
  failed = h.failed;
}

-- where it was, what was written of the next one comes behind it
pub goes_on : {W E : Type 0} (writes : ByteOut W) (old middle new : W) (text more : List ℕ) (r : Result Unit E)
    → Appends (writes.contents old) (writes.contents middle) text → writes.has_failed middle ≡ writes.has_failed old
    → WritesAll writes middle new more r → WritesAll writes old new (text ++ more) r
goes_on writes old middle new text more (Ok x) whole stays h = record {
  ok = Appends-trans (writes.contents old) (writes.contents middle) (writes.contents new) text more whole h.ok;
  err = tt;
  stays = h.stays ∙ stays;
  failed = tt;
}
goes_on writes old middle new text more (Err e) whole stays h = record {
  ok = tt;
  err = begins_on (writes.contents old) (writes.contents middle) (writes.contents new) text more whole h.err;
  stays = tt;
  failed = h.failed;
}
