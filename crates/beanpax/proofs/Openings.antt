-- What is told where a server opens its port and its log.
use Rattle.std.proofs.Common.{◌≡◌, ◌≢◌, ◌∙◌, inl, inr, ℕ, List, Option, Some, None, ◌++◌, is_some, codes, refl, sym, ap, subst, true≢false, Result, Ok, Err, OnOk}
use Rattle.std.specs.Io.KnownBytes.{Appends}
use Rattle.std.specs.Result.{IsErr, IsErrAnd}
use Rattle.std.specs.declared.net.ip_addr.IpAddr.{IpAddr}
use Rattle.session.specs.Streams.{AppendsBeginning}
use Rattle.session.specs.declared.streams.ByteOut.{Ghosts as ByteOut}
use Rattle.beanpax.specs.declared.faults.ProgramFault.{ProgramFault}
use Rattle.beanpax.specs.declared.faults.ProgramFault.TheVariants.{ListenFailed, OutOfMemory}
use Rattle.beanpax.specs.Faults.{IsOfOutput}
use Rattle.beanpax.specs.Program.{TellsCause, TellsCauseIn, TellsCauseOf, TellsOfLog, TellsOfServing, WritesMore}
use Rattle.beanpax.specs.Servers.{TellsPort, address_text, listening_line}

-- the line of an address
line_of : (text : List ℕ) (host : IpAddr) (port : ℕ) → text ≡ address_text host port
    → codes "listening on " ++ text ++ codes "\n" ≡ listening_line host port
unfolding listening_line
line_of text host port is = ap (λ t. codes "listening on " ++ t ++ codes "\n") is

module _ {W X : Type 0} (writes : ByteOut W) (old new : W) (text : List ℕ) (host : IpAddr) (port : ℕ) (is : text ≡ address_text host port) where
  pub port_told : (x : X) → Appends (writes.contents old) (writes.contents new) (codes "listening on " ++ text ++ codes "\n")
      → AppendsBeginning (writes.contents old) (writes.contents new) (codes "listening on " ++ text ++ codes "\n")
      → TellsPort writes old new host port (Ok x)
  port_told x told begins = record {
    told = subst (Appends _ _) (line_of text host port is) told;
    begins = subst (AppendsBeginning _ _) (line_of text host port is) begins;
  }

  pub port_untold : (r : Result X ProgramFault) → IsErr r
      → AppendsBeginning (writes.contents old) (writes.contents new) (codes "listening on " ++ text ++ codes "\n")
      → TellsPort writes old new host port r
  port_untold (Ok x) failed begins = absurd (true≢false (sym failed))
  port_untold (Err fault) failed begins =
      record { told = tt; begins = subst (AppendsBeginning _ _) (line_of text host port is) begins }

-- nothing is told of a log
nothing_yet : {E : Type 0} (writes : ByteOut E) (has_log : Type 0) (old : E) → TellsOfLog has_log writes old old
nothing_yet writes has_log old = record { more = inl refl; silent = λ none. refl }

-- an output that failed has no cause of its own
output_told : {E : Type 0} (writes : ByteOut E) (middle : E) (f : ProgramFault) → IsOfOutput f → TellsCauseOf writes f middle middle
output_told writes middle f (inl memory) = subst (λ f. TellsCauseOf writes f middle middle) (sym memory) refl
output_told writes middle f (inr failed) = subst (λ f. TellsCauseOf writes f middle middle) (sym failed) (inl refl)

module _ {E X : Type 0} (writes : ByteOut E) (has_log : Type 0) where
  pub memory_told : (old : E) (r : Result X ProgramFault) → IsErrAnd r (λ fault. fault ≡ OutOfMemory) → TellsOfServing has_log writes r old old
  memory_told old (Ok x) failed = absurd failed
  memory_told old (Err fault) is =
      (old, nothing_yet writes has_log old, record { silent = tt; cause = subst (λ f. TellsCauseOf writes f old old) (sym is) refl })

  pub listening_told : (old new : E) (name : List ℕ) (fault : ProgramFault) (r : Result X ProgramFault) → IsErrAnd r (λ f. f ≡ fault)
      → fault ≡ ListenFailed → TellsCause writes old new name → TellsOfServing has_log writes r old new
  listening_told old new name fault (Ok x) failed is cause = absurd failed
  listening_told old new name fault (Err f) same is cause =
      (old, nothing_yet writes has_log old, record { silent = tt; cause = subst (λ f. TellsCauseOf writes f old new) (sym (same ∙ is)) (name, cause) })

  pub unwritten_told : (old middle : E) (fault : ProgramFault) (r : Result X ProgramFault) → IsErrAnd r (λ f. f ≡ fault) → IsOfOutput fault
      → TellsOfLog has_log writes old middle → TellsOfServing has_log writes r old middle
  unwritten_told old middle fault (Ok x) failed is log = absurd failed
  unwritten_told old middle fault (Err f) same is log =
      (middle, log, record { silent = tt; cause = output_told writes middle f (subst IsOfOutput (sym same) is) })

-- what is told of a log that there is
pub log_told : {E Z : Type 0} (writes : ByteOut E) (old middle new : E) (o : Option Z) (z : Z) → o ≡ Some z → WritesMore writes old middle → new ≡ middle
    → TellsOfLog (o ≢ None) writes old new
log_told writes old middle new o z is more same = record {
  more = subst (WritesMore writes old) (sym same) more;
  silent = λ none. absurd (none (λ e. true≢false (ap is_some (sym is ∙ e))));
}
