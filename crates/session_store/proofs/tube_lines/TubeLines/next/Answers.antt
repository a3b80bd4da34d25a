use Rattle.std.proofs.Common.{◌≡◌, ◌∙◌, ℕ, Some, sym, ap, subst}
use Rattle.job_store.specs.LookUps.{is_among}
use Rattle.session_store.specs.declared.session.SessionState.{SessionState}
use Rattle.session_store.specs.declared.place.LinePlace.{LinePlace}
use Rattle.session_store.specs.Sessions.{first_waiting}
use Rattle.session_store.specs.Lines.{place}
use Rattle.session_store.specs.Fronts.{AreFronts}
use Rattle.session_store.proofs.Served.{first-in-line, none-in-line, front-first, fronts-noted}
use Rattle.session_store.proofs.tube_lines.TubeLines.next.Goals.{then-ne, else-ne}
use Rattle.session_store.proofs.tube_lines.TubeLines.next.Goals as goal

pub returns-in_default-clause-first : goal.returns-in_default-clause-first
returns-in_default-clause-first c =
    none-in-line c.args.tube.now c.args.sessions.now.entries c.args.self.now c.in_default.ensures.value c.requires.stand

pub returns-in_default-first_standing-clause-first : goal.returns-in_default-first_standing-clause-first
returns-in_default-first_standing-clause-first c =
    c.in_default-first_standing.ensures.first ∙
    first-in-line c.args.tube.now c.args.sessions.now.entries c.args.self.now c.in-Some.line.now c.args.fronts.now c.front.result
    c.in-Some.ensures.value c.requires.stand c.requires.fronts c.front.ensures c.first_standing.ensures.ordered

pub returns-clause-first : goal.returns-clause-first
returns-clause-first c =
    c.in-Some-first_standing.ensures.first ∙
    first-in-line c.args.tube.now c.args.sessions.now.entries c.args.self.now c.in-Some.line.now c.args.fronts.now c.front.result
    c.in-Some.ensures.value c.requires.stand c.requires.fronts c.front.ensures c.first_standing.ensures.ordered

pub returns-clause-fronts : goal.returns-clause-fronts
returns-clause-fronts c =
    let sessions = c.args.sessions.now.entries in
    let e : ℕ × SessionState = (c.in-Some-first_standing.number, c.in-Some-first_standing.session.now) in
    let p : LinePlace = place c.rank.result c.in-Some-first_standing.number in
    let first : Some e ≡ first_waiting (λ e. is_among c.args.tube.now e.1.watched) sessions =
    c.in-Some-first_standing.ensures.first ∙
    first-in-line c.args.tube.now sessions c.args.self.now c.in-Some.line.now c.args.fronts.now c.front.result
    c.in-Some.ensures.value c.requires.stand c.requires.fronts c.front.ensures c.first_standing.ensures.ordered in
    elim c.if-ne.branch [
      | then-ne w ↦
          subst (λ fronts. AreFronts fronts sessions) (sym w.fronts-is)
          (fronts-noted c.args.tube.now sessions c.args.fronts.now w.note.new.self p c.requires.fronts
          (front-first c.args.tube.now sessions e p first (ap (λ rank. place rank c.in-Some-first_standing.number) c.rank.ensures))
          w.note.ensures)
      | else-ne w ↦ subst (λ fronts. AreFronts fronts sessions) (sym w.fronts-is) c.requires.fronts
    ]
