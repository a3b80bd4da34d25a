-- What a write took is the next part of the text.
use Rattle.std.proofs.Common.{ℕ, ◌+◌, ◌-◌, ◌≤◌, List, Option, length, take, drop, take-add, length-drop, arith}
use Rattle.std.proofs.lemmas.List.{take_rest}
use Rattle.std.proofs.KnownBytes.{Appends-trans}
use Rattle.std.specs.Io.KnownBytes.{Appends}
use Rattle.log_file.proofs.bytes.write_all.Goals as goal

appends_next : (a b c : Option (List ℕ)) (text : List ℕ) (written n : ℕ) → Appends a b (take written text)
    → Appends b c (take n (take (length text - written) (drop written text))) → Appends a c (take (written + n) text)
appends_next a b c text written n before next =
    rw take-add (Appends-trans a b c _ _ before (rw (take_rest text written) at next))

within_next : (text : List ℕ) (written n : ℕ) → written ≤ length text
    → n ≤ length (take (length text - written) (drop written text)) → written + n ≤ length text
within_next text written n before next =
    let room : n ≤ length text - written = simp (take_rest, length-drop) at next in omega arith

pub loop-written-preserved : goal.loop-written-preserved
loop-written-preserved g c = record {
  within = within_next _ _ _ c.loop-written.invariant.within c.in_ok-written.ensures.bound;
  appended = appends_next _ _ _ _ _ _ c.loop-written.invariant.appended c.in_ok-written.ensures.bytes;
}
