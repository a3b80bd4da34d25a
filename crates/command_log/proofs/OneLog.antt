-- The text of a log is of one log alone.
use Rattle.std.proofs.Common.{◌≡◌, ℕ, List, [], ◌∷◌, refl, sym, ap, ◌∙◌}
use Rattle.std.specs.List.{AllByRecursion}
use Rattle.object.specs.declared.command.Command.{Command}
use Rattle.ballot.specs.Members.{IsMembers}
use Rattle.bean_words.specs.declared.op.Op.{Op}
use Rattle.command_log.specs.declared.chain.Chain.{Chain}
use Rattle.command_log.specs.declared.version.LogVersion.{LogVersion}
use Rattle.command_log.specs.Lines.{IsChain, IsLogged}
use Rattle.command_log.specs.Text.{chain_behind, chained_words, first_chain, head_line, lines_from, line_of_command, log_text}
use Rattle.command_log.proofs.Chains.{first_is, next_is}
use Rattle.command_log.proofs.Cuts.{no_line_inside, one_front_line}
use Rattle.command_log.proofs.Spelled.{command_is_line, head_is_line, one_head, one_line}

none_left : (version : LogVersion) (chain : Chain) (c : Command Op) (commands : List (Command Op)) → IsChain version chain → IsLogged c
    → lines_from chain (c ∷ commands) ≡ [] → ⊥
none_left version chain c commands h k same =
    no_line_inside [] [] (line_of_command chain c) (lines_from (chain_behind chain c) commands) tt (command_is_line version chain c h k.value) (sym same)

one_list : (version : LogVersion) (chain : Chain) (cs ds : List (Command Op)) → IsChain version chain → AllByRecursion IsLogged cs
    → AllByRecursion IsLogged ds → lines_from chain cs ≡ lines_from chain ds → cs ≡ ds
one_list version chain [] [] is h k same = refl
one_list version chain [] (d ∷ ds) is h k same = absurd (none_left version chain d ds is k.0 (sym same))
one_list version chain (c ∷ cs) [] is h k same = absurd (none_left version chain c cs is h.0 same)
one_list version chain (c ∷ cs) (d ∷ ds) is h k same =
    let cut = one_front_line (line_of_command chain c) (line_of_command chain d) (lines_from (chain_behind chain c) cs)
    (lines_from (chain_behind chain d) ds) (command_is_line version chain c is h.0.value) (command_is_line version chain d is k.0.value) same in
    let first : c ≡ d = (one_line version chain chain c d is is h.0 k.0 cut.0).1 in
    let rest : lines_from (chain_behind chain c) cs ≡ lines_from (chain_behind chain c) ds =
    cut.1 ∙ ap (λ x. lines_from (chain_behind chain x) ds) (sym first) in
    let more : cs ≡ ds = one_list version (chain_behind chain c) cs ds (next_is version chain (chained_words chain c) is) h.1 k.1 rest in
    cc

one_rest : (a b : LogVersion) (v w : List ℕ) (cs ds : List (Command Op)) → a ≡ b → v ≡ w → AllByRecursion IsLogged cs
    → AllByRecursion IsLogged ds → lines_from (first_chain a v) cs ≡ lines_from (first_chain b w) ds → cs ≡ ds
one_rest a b v w cs ds version weights h k same =
    let chain : first_chain b w ≡ first_chain a v = ap (λ n. first_chain n w) (sym version) ∙ ap (first_chain a) (sym weights) in
    one_list a (first_chain a v) cs ds (first_is a v) h k (same ∙ ap (λ c. lines_from c ds) chain)

pub one_text : (a b : LogVersion) (v w : List ℕ) (cs ds : List (Command Op)) → IsMembers v → IsMembers w → AllByRecursion IsLogged cs
    → AllByRecursion IsLogged ds → log_text a v cs ≡ log_text b w ds → (a ≡ b) × (v ≡ w) × (cs ≡ ds)
unfolding log_text
one_text a b v w cs ds m n h k same =
    let cut = one_front_line (head_line a v) (head_line b w) (lines_from (first_chain a v) cs) (lines_from (first_chain b w) ds)
    (head_is_line a v m) (head_is_line b w n) same in
    let head = one_head a b v w m n cut.0 in
    (head.0, head.1, one_rest a b v w cs ds head.0 head.1 h k cut.1)
