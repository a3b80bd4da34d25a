use Rattle.std.proofs.Common.{ap, ◌∙◌, ℕ, List}
use Rattle.session_store.specs.Drafts.{Draft}
use Rattle.tube_store.specs.declared.tube_counts.TubeCounts.{TubeCounts}
use Rattle.tube_store.specs.TubeCounts.{without_tube}
use Rattle.tube_store.proofs.NameMaps.{remove-filter}
use Rattle.tube_store.proofs.tube_draft.TubeDraft.forget_for_good.Goals as goal

pub returns : goal.returns
returns c =
    let gone = remove-filter c.args.tube.now c.self.inside.counts.now c.forget_for_good.ensures.ordered ∙
    ap (λ (d : Draft (List (List ℕ × TubeCounts))). without_tube c.args.tube.now d.now) c.self.view_is in
    record {
      now = c.forget_for_good.ensures.kept.now ∙ gone;
      before = c.forget_for_good.ensures.kept.before ∙ gone;
    }
