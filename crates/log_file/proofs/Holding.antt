-- What a log's writer holds once a command is noted, and once the batch is written.
use Rattle.std.proofs.Common.{◌≡◌, ℕ, List, [], ◌∷◌, ◌++◌, Option, None, Some, Result, Ok, Err, OnOk, OnErr, refl, sym, ap, subst, ◌∙◌}
use Rattle.std.proofs.Common.{append_assoc, append-nil, take, drop, take-append-drop}
use Rattle.std.specs.Io.KnownBytes.{Appends}
use Rattle.object.specs.declared.command.Command.{Command}
use Rattle.ballot.specs.Members.{IsMembers}
use Rattle.bean_words.specs.declared.op.Op.{Op}
use Rattle.command_log.specs.Lines.{IsLogged}
use Rattle.command_log.specs.declared.chain.Chain.{Chain}
use Rattle.command_log.specs.declared.version.LogVersion.TheVariants.{Two}
use Rattle.command_log.specs.Text.{chain_behind, first_chain, head_line, line_of_command, log_text, log_chain}
use Rattle.command_log.proofs.Logs.{all_last, chain_first, chain_last, log_first, log_last}
use Rattle.log_file.specs.Bytes.{WritesBatch}
use Rattle.log_file.specs.Logs.{BeginsLog, HoldsLog}

begins : (contents : Option (List ℕ)) (members : List ℕ) → IsMembers members → contents ≡ Some []
    → HoldsLog contents (head_line Two members) (first_chain Two members) members []
begins contents members ok empty = record {
  version = Two;
  held = [];
  members_ok = ok;
  logged = tt;
  known = empty;
  text = sym (log_first Two members);
  chained = sym (chain_first Two members);
}

pub begun : (contents : Option (List ℕ)) (old new : List ℕ) (chain : Chain) (members : List ℕ) → IsMembers members → old ≡ []
    → new ≡ old ++ head_line Two members → chain ≡ first_chain Two members → contents ≡ Some [] → HoldsLog contents new chain members []
begun contents old new chain members ok none head first empty =
    subst (λ k. HoldsLog contents new k members []) (sym first)
    (subst (λ batch. HoldsLog contents batch (first_chain Two members) members []) (sym (head ∙ ap (λ t. t ++ head_line Two members) none))
    (begins contents members ok empty))

notes : (contents : Option (List ℕ)) (batch : List ℕ) (chain : Chain) (members : List ℕ) (commands : List (Command Op)) (c : Command Op)
    → IsLogged c → HoldsLog contents batch chain members commands
    → HoldsLog contents (batch ++ line_of_command chain c) (chain_behind chain c) members (commands ++ (c ∷ []))
notes contents batch chain members commands c logged h =
    let here = log_chain h.version members commands in
    record {
      version = h.version;
      held = h.held;
      members_ok = h.members_ok;
      logged = all_last IsLogged commands c h.logged logged;
      known = h.known;
      text = sym (append_assoc h.held batch (line_of_command chain c)) ∙ ap (λ t. t ++ line_of_command chain c) h.text
          ∙ ap (λ k. log_text h.version members commands ++ line_of_command k c) h.chained
          ∙ sym (log_last h.version members commands c);
      chained = ap (λ k. chain_behind k c) h.chained ∙ sym (chain_last h.version members commands c);
    }

-- a part of the batch was written
writes : (after : Option (List ℕ)) (held part rest : List ℕ) (chain : Chain) (members : List ℕ) (commands : List (Command Op))
    (contents : Option (List ℕ)) (batch : List ℕ) (h : HoldsLog contents batch chain members commands) → h.held ≡ held → batch ≡ part ++ rest
    → Appends (Some held) after part → HoldsLog after rest chain members commands
writes None held part rest chain members commands contents batch h same cut taken = absurd taken
writes (Some now) held part rest chain members commands contents batch h same cut taken = record {
  version = h.version;
  held = now;
  members_ok = h.members_ok;
  logged = h.logged;
  known = refl;
  text = ap (λ t. t ++ rest) taken ∙ append_assoc held part rest ∙ ap (λ t. held ++ t) (sym cut) ∙ ap (λ t. t ++ batch) (sym same) ∙ h.text;
  chained = h.chained;
}

-- and then this waits
pub rest_waits : (before after : Option (List ℕ)) (batch part rest : List ℕ) (chain : Chain) (members : List ℕ) (commands : List (Command Op))
    → batch ≡ part ++ rest → Appends before after part → HoldsLog before batch chain members commands → HoldsLog after rest chain members commands
rest_waits before after batch part rest chain members commands cut taken h =
    writes after h.held part rest chain members commands before batch h refl cut (subst (λ b. Appends b after part) h.known taken)

pub all_written : {E : Type 0} (before after : Option (List ℕ)) (batch : List ℕ) (chain : Chain) (result : Result Unit E)
    → WritesBatch before after batch result
    → OnOk result ((members : List ℕ) (commands : List (Command Op)) → HoldsLog before batch chain members commands
    → HoldsLog after [] chain members commands)
all_written before after batch chain (Ok u) taken =
    λ members commands h. rest_waits before after batch batch [] chain members commands (sym (append-nil batch)) taken h
all_written before after batch chain (Err e) taken = tt

-- whatever came of it, a beginning of the log is written
pub torn_off : {E : Type 0} (before after : Option (List ℕ)) (batch : List ℕ) (chain : Chain) (result : Result Unit E)
    → WritesBatch before after batch result → (members : List ℕ) (commands : List (Command Op)) → HoldsLog before batch chain members commands
    → BeginsLog after members commands
torn_off before after batch chain (Ok u) taken members commands h =
    ([], (chain, rest_waits before after batch batch [] chain members commands (sym (append-nil batch)) taken h))
torn_off before after batch chain (Err e) taken members commands h = (
  drop taken.0 batch,
  (
    chain,
    rest_waits before after batch (take taken.0 batch) (drop taken.0 batch) chain members commands (sym (take-append-drop taken.0 batch))
        taken.1 h,
  ),
)

pub on_err : {E : Type 0} (P : Type 0) (result : Result Unit E) → P → OnErr result P
on_err P (Ok u) h = tt
on_err P (Err e) h = h

pub noted : (contents : Option (List ℕ)) (old new : List ℕ) (chain next : Chain) (members : List ℕ) (commands : List (Command Op)) (c : Command Op)
    → IsLogged c → new ≡ old ++ line_of_command chain c → next ≡ chain_behind chain c → HoldsLog contents old chain members commands
    → HoldsLog contents new next members (commands ++ (c ∷ []))
noted contents old new chain next members commands c logged same is h =
    subst (λ k. HoldsLog contents new k members (commands ++ (c ∷ []))) (sym is)
    (subst (λ b. HoldsLog contents b (chain_behind chain c) members (commands ++ (c ∷ []))) (sym same)
    (notes contents old chain members commands c logged h))
