-- What a writer has taken of some bytes.
use Rattle.std.proofs.Common.{ℕ, List, Option, Result, Ok, Err, length, sym, subst, take_all, le_refl}
use Rattle.std.proofs.KnownBytes.{Appends-kept}
use Rattle.std.specs.Io.KnownBytes.{Appends, Keeps}
use Rattle.log_file.specs.Bytes.{WritesBatch}

-- all of them were written, whatever came then
pub writes_kept : {E : Type 0} (a b c : Option (List ℕ)) (bytes : List ℕ) (result : Result Unit E) → Appends a b bytes → Keeps b c
    → WritesBatch a c bytes result
writes_kept a b c bytes (Ok u) all same = Appends-kept a b c bytes all same
writes_kept a b c bytes (Err e) all same =
    let whole = take_all (length bytes) bytes (le_refl (length bytes)) in
    (length bytes, subst (Appends a c) (sym whole) (Appends-kept a b c bytes all same))
