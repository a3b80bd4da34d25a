use Rattle.std.proofs.Common.{ℕ, List, ap, ◌∙◌, unwrap_or}
use Rattle.session_store.specs.Drafts.{Draft}
use Rattle.tube_store.specs.declared.tube_counts.TubeCounts.{TubeCounts}
use Rattle.tube_store.specs.TubeCounts.{no_counts, counts_at}
use Rattle.tube_store.proofs.NameMaps.{lookup-name}
use Rattle.tube_store.proofs.tube_draft.TubeDraft.counts.Goals as goal

pub returns-in-Some : goal.returns-in-Some
returns-in-Some c =
    ap (λ o. unwrap_or o no_counts) (c.in-Some.ensures.value ∙ lookup-name c.args.tube.now c.self.inside.counts.now) ∙
    ap (λ (d : Draft (List (List ℕ × TubeCounts))). counts_at c.args.tube.now d.now) c.self.view_is

pub returns-in-None : goal.returns-in-None
returns-in-None c =
    c.none.ensures ∙
    ap (λ o. unwrap_or o no_counts) (c.in-None.ensures.value ∙ lookup-name c.args.tube.now c.self.inside.counts.now) ∙
    ap (λ (d : Draft (List (List ℕ × TubeCounts))). counts_at c.args.tube.now d.now) c.self.view_is
