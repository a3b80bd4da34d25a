use Rattle.std.proofs.Common.{◌∙◌, inl, inr, codes, sym}
use Rattle.std.proofs.lemmas.Bool.{false≢true}
use Rattle.std.proofs.lemmas.Slice.Eq.{bytes_eq-Decides}
use Rattle.options.proofs.hosts.host_in.Goals as goal

pub returns-in-Err-clause-none : goal.returns-in-Err-clause-none
returns-in-Err-clause-none c = λ none host named. elim named as (λ named. ⊥) [
  | inl written ↦ c.in-Err.ensures.value host written
  | inr (inl here) ↦ false≢true (sym c.if-eq.false ∙ c.eq.ensures ∙ (bytes_eq-Decides _ (codes "localhost")).1 here.0)
  | inr (inr bracketed) ↦ c.host_in_brackets.ensures.none none host bracketed
]
