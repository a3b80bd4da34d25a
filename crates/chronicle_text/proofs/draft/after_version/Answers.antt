use Rattle.std.proofs.Common.{◌≡◌, ℕ, None, refl}
use Rattle.chronicle_text.specs.declared.draft.ChronicleDraft.TheVariants.{Head}
use Rattle.chronicle_text.specs.declared.entry.Entry.{Entry}
use Rattle.chronicle_text.specs.declared.entry.Entry.TheVariants as entry
use Rattle.chronicle_text.specs.declared.version.Version.{Version}
use Rattle.chronicle_text.specs.declared.version.Version.TheVariants.{One, Two}
use Rattle.chronicle_text.specs.Drafts.{next}
use Rattle.chronicle_text.proofs.draft.after_version.Goals as goal

-- only the count of members comes next
none_next : (v : Version) (e : Entry) → ((count : ℕ) → e ≡ entry.Members count → ⊥) → None ≡ next (Head v) e
none_next v (entry.Members count) other = absurd (other count refl)
none_next One (entry.Version w) other = refl
none_next One (entry.Weights ws) other = refl
none_next One (entry.Submitted c) other = refl
none_next One (entry.Answered a) other = refl
none_next One (entry.Placed key) other = refl
none_next One entry.End other = refl
none_next Two (entry.Version w) other = refl
none_next Two (entry.Weights ws) other = refl
none_next Two (entry.Submitted c) other = refl
none_next Two (entry.Answered a) other = refl
none_next Two (entry.Placed key) other = refl
none_next Two entry.End other = refl

pub returns-in_default : goal.returns-in_default
returns-in_default c = none_next c.args.version c.args.entry c.in_default.not-Members
