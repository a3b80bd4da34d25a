use Rattle.std.proofs.Common.{◌∙◌}
use Rattle.job_store.proofs.maps.Entries.{remove_entry-without}
use Rattle.session_store.specs.Lines.{StandsIn}
use Rattle.session_store.proofs.Standing.{all-without}
use Rattle.session_store.proofs.session_draft.forget.Goals as goal

pub returns-clause-sessions : goal.returns-clause-sessions
returns-clause-sessions c = c.remove.ensures.entries ∙ remove_entry-without _ _ _ _ c.requires

pub returns-clause-complete : goal.returns-clause-complete
returns-clause-complete c =
    λ all.
    c.strike_all.ensures
    (c.strike.ensures
    (c.leave.ensures (all-without
    (StandsIn c.args.lines.now) c.args.session c.args.sessions.now.entries c.remove.new.self.entries
    (c.remove.ensures.entries ∙ remove_entry-without _ _ _ _ c.requires) all)))

pub returns-in_err-gone-clause-sessions : goal.returns-in_err-gone-clause-sessions
returns-in_err-gone-clause-sessions c = c.remove.ensures.entries ∙ remove_entry-without _ _ _ _ c.requires

pub returns-in_err-gone-clause-complete : goal.returns-in_err-gone-clause-complete
returns-in_err-gone-clause-complete c =
    all-without (StandsIn c.args.lines.now) c.args.session c.args.sessions.now.entries c.remove.new.self.entries
    (c.remove.ensures.entries ∙ remove_entry-without _ _ _ _ c.requires)
