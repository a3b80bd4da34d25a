use Rattle.std.proofs.Common.{ap, ◌∙◌, ℕ, List, unwrap_or, rules}
use Rattle.std.proofs.lemmas.Result.{on_ok_weaker}
use Rattle.std.specs.BTreeMap.{insert_entry}
use Rattle.bean_words.specs.Names.{name_cmp}
use Rattle.session_store.specs.Drafts.{Draft}
use Rattle.tube_store.specs.declared.tube_counts.TubeCounts.{TubeCounts}
use Rattle.tube_store.specs.TubeCounts.{no_counts, after_tube_mark, marked_tube}
use Rattle.tube_store.proofs.NameMaps.{lookup-name}
use Rattle.tube_store.proofs.tube_draft.TubeDraft.mark.Goals as goal

pub returns : goal.returns
returns c = record {
  now = on_ok_weaker c.change.result
      (λ e. e ∙
      ap (λ o. insert_entry name_cmp c.self.inside.counts.now c.args.tube.now (after_tube_mark c.args.mark (unwrap_or o no_counts)))
      (lookup-name c.args.tube.now c.self.inside.counts.now) ∙
      ap (λ (d : Draft (List (List ℕ × TubeCounts))). marked_tube c.args.mark c.args.tube.now d.now) c.self.view_is)
      c.change.ensures.drafts.now;
  err = search rules;
  before = search rules;
}
